-- The pairs of a list, and the list of pairs.
use Rattle.std.proofs.Common.{◌≡◌, ℕ, ◌+◌, Bool, true, false, not, ◌&&◌, cond, nat_eq, List, [], ◌∷◌, Option, None, Some, is_some, refl, ap, sym, subst, ◌∙◌, arith}
use Rattle.std.proofs.lemmas.Bool.Decides.{nat_tests}
use Rattle.std.specs.List.{cons_option}
use Rattle.std.specs.Option.{option_map, option_and_then}
use Rattle.ctrl_types.specs.Flags.{contains}
use Rattle.ctrl_types.specs.declared.flags.TheConstants.Flags.{DISABLED}
use Rattle.ctrl_types.specs.declared.check.Check.{Check}
use Rattle.ctrl_types.specs.declared.ids.CtrlId.{CtrlId}
use Rattle.ctrl_types.specs.declared.ids.ExtControl.{ExtControl}
use Rattle.ctrl_types.specs.declared.ids.FhId.{FhId}
use Rattle.ctrl_types.specs.declared.ids.Pair.{Pair}
use Rattle.ctrl_types.specs.declared.which.Which.{Which}
use Rattle.ctrl_types.specs.declared.which.Which.TheVariants.{Current}
use Rattle.ctrl_settle.specs.Control.{Control}
use Rattle.req_book.specs.Requests.{is_number}
use Rattle.ctrl_handlers.specs.Plan.{PlanData, control, control_in}
use Rattle.ctrl_handlers.specs.Visible.{find, first_with_id}
use Rattle.ctrl_lists.specs.View.{ViewData, is_meant, meant_one, named, pairs_of}
use Rattle.ctrl_lists.specs.Checks.{first_from, naming_check}
use Rattle.ctrl_lists.proofs.NamingLemmas.{unnamed_entry}
use Rattle.device_history.specs.Steps.{Past}
use Rattle.device_history.specs.Handles.{handler_of, shown}
use Rattle.device_history.specs.Asking.{entries_of, shows_pair, shows_pairs}
use Rattle.device_history.proofs.ListLemmas.{none_found}

equal : (m n : ℕ) → nat_eq m n ≡ true → m ≡ n
equal m n h = grind (arith, nat_tests, h)

both : (a b : Bool) → (a && b) ≡ true → (a ≡ true) × (b ≡ true)
both true b h = (refl, h)
both false b h = cc

-- a control that is found under an id has this id
found_id : (controls : List Control) (numbers : List ℕ) (id : CtrlId) (c : ℕ) → first_with_id controls numbers id ≡ Some c → (control_in controls c).id.0 ≡ id.0
found_id controls [] id c found = cc
found_id controls (x ∷ xs) id c found = by (nat_eq (control_in controls x).id.0 id.0) refl found (λ h. found_id controls xs id c h)
  where
    by : (b : Bool) → nat_eq (control_in controls x).id.0 id.0 ≡ b → cond b (Some x) (first_with_id controls xs id) ≡ Some c
        → (first_with_id controls xs id ≡ Some c → (control_in controls c).id.0 ≡ id.0) → (control_in controls c).id.0 ≡ id.0
    by true e h rest =
        let same : c ≡ x = cc in
        ap (λ (n : ℕ). (control_in controls n).id.0) same ∙ equal (control_in controls x).id.0 id.0 e
    by false e h rest = rest h

-- a control that is named is found, and isn't DISABLED
named_found : (plan : PlanData) (which : Which) (id : CtrlId) (found : Option ℕ) (c : ℕ) → meant_one plan which id found ≡ Some c → (found ≡ Some c) × (contains (control plan c).flags DISABLED ≡ false)
named_found plan which id None c is = cc
named_found plan which id (Some d) c is = by (is_meant which id) (contains (control plan d).flags DISABLED) refl is
  where
    by : (m b : Bool) → contains (control plan d).flags DISABLED ≡ b → cond (m && not b) (Some d) None ≡ Some c → (Some d ≡ Some c) × (contains (control plan c).flags DISABLED ≡ false)
    by true false e h =
        let same : d ≡ c = cc in
        (h, subst (λ (n : ℕ). contains (control plan n).flags DISABLED ≡ false) same e)
    by true true e h = cc
    by false b e h = cc

-- a list that speaks of all controls names one that is found and isn't DISABLED
names_found : (plan : PlanData) (which : Which) (id : CtrlId) (found : Option ℕ) (c : ℕ) → is_meant which id ≡ true → found ≡ Some c → contains (control plan c).flags DISABLED ≡ false → meant_one plan which id found ≡ Some c
names_found plan which id found c all is enabled = rw (is, all, enabled) refl

-- a control that is named has the id that names it
named_id : (plan : PlanData) (handler : ℕ) (which : Which) (id : CtrlId) (c : ℕ) → named plan handler which id ≡ Some c → (control plan c).id ≡ id
named_id plan handler which id c is =
    let found = named_found plan which id (find plan handler id) c is in
    ap {B = CtrlId} (λ (n : ℕ). record { 0 = n }) (found_id plan.controls _ id c found.0)

-- a control that is shown to a file handle under an id has this id
pub shown_id : (plan : PlanData) (past : Past) (fh : FhId) (id : CtrlId) (c : ℕ) → shown plan past fh id ≡ Some c → (control plan c).id ≡ id
shown_id plan past fh id c is = by (handler_of past fh) is
  where
    by : (handler : Option ℕ) → option_and_then (λ h. find plan h id) handler ≡ Some c → (control plan c).id ≡ id
    by None h = cc
    by (Some handler) h = ap {B = CtrlId} (λ (n : ℕ). record { 0 = n }) (found_id plan.controls _ id c h)

-- and a list that speaks of all controls names it too
named_by_all : (plan : PlanData) (handler : ℕ) (which all : Which) (id : CtrlId) (c : ℕ) → is_meant all id ≡ true → named plan handler which id ≡ Some c → named plan handler all id ≡ Some c
named_by_all plan handler which all id c speaks is =
    let found = named_found plan which id (find plan handler id) c is in
    names_found plan all id (find plan handler id) c speaks found.0 found.1

-- the test for a number, where it is this one
is_own : (o : Option ℕ) (n : ℕ) → o ≡ Some n → is_number o n ≡ true
is_own o n is = rw is (same n)
  where
    same : (n : ℕ) → nat_eq n n ≡ true
    same n = grind (arith, nat_tests)

own_is : (o : Option ℕ) (n : ℕ) → is_number o n ≡ true → o ≡ Some n
own_is None n is = cc
own_is (Some m) n is = ap (λ (k : ℕ). Some k) (equal m n is)

-- Where each entry of a list names a control, its handler shows the list's pairs, and their list is that list.
pub entries_back : (plan : PlanData) (view : ViewData) (n : ℕ) (list : List ExtControl) → first_from (naming_check plan view) n list ≡ None
    → (entries_of plan (pairs_of plan view.handler view.which list) ≡ list) × (shows_pairs plan view.handler (pairs_of plan view.handler view.which list) ≡ true)
entries_back plan view n [] names = (refl, refl)
entries_back plan view n (entry ∷ list) names =
    let parts : (naming_check plan view entry ≡ None) × (first_from (naming_check plan view) (n + 1) list ≡ None) =
    none_found n (naming_check plan view entry) (first_from (naming_check plan view) (n + 1) list) names in
    by (named plan view.handler view.which entry.id) refl (sym (unnamed_entry plan view entry) ∙ ap is_some parts.0) (entries_back plan view (n + 1) list parts.1)
  where
    rest : List Pair
    rest = pairs_of plan view.handler view.which list

    one : (o : Option ℕ) → List Pair
    one o = cons_option (option_map (λ c. record { control = c; value = entry.value }) o) rest

    by : (o : Option ℕ) → named plan view.handler view.which entry.id ≡ o → not (is_some o) ≡ false → (entries_of plan rest ≡ list) × (shows_pairs plan view.handler rest ≡ true)
        → (entries_of plan (one o) ≡ entry ∷ list) × (shows_pairs plan view.handler (one o) ≡ true)
    by None is h ih = cc
    by (Some c) is h ih =
        let id : (control plan c).id ≡ entry.id = named_id plan view.handler view.which entry.id c is in
        let own : named plan view.handler Current (control plan c).id ≡ Some c =
        subst (λ (i : CtrlId). named plan view.handler Current i ≡ Some c) (sym id) (named_by_all plan view.handler view.which Current entry.id c refl is) in
        (rw (id, ih.0) refl, rw (is_own (named plan view.handler Current (control plan c).id) c own, ih.1) refl)

-- an entry that names a control passes
named_passes : (plan : PlanData) (view : ViewData) (entry : ExtControl) (c : ℕ) → named plan view.handler view.which entry.id ≡ Some c → naming_check plan view entry ≡ None
named_passes plan view entry c is = none (naming_check plan view entry) (unnamed_entry plan view entry ∙ ap (λ (o : Option ℕ). not (is_some o)) is)
  where
    none : (o : Option Check) → is_some o ≡ false → o ≡ None
    none None h = refl
    none (Some check) h = cc

-- A handler that shows some pairs has each entry of their list name its control, where the list speaks of all controls.
pub pairs_back : (plan : PlanData) (view : ViewData) (n : ℕ) (pairs : List Pair) → ((id : CtrlId) → is_meant view.which id ≡ true) → shows_pairs plan view.handler pairs ≡ true
    → (pairs_of plan view.handler view.which (entries_of plan pairs) ≡ pairs) × (first_from (naming_check plan view) n (entries_of plan pairs) ≡ None)
pairs_back plan view n [] all shows = (refl, refl)
pairs_back plan view n (p ∷ pairs) all shows =
    let parts = both (shows_pair plan view.handler p) (shows_pairs plan view.handler pairs) shows in
    let ih = pairs_back plan view (n + 1) pairs all parts.1 in
    let own : named plan view.handler view.which (control plan p.control).id ≡ Some p.control =
    named_by_all plan view.handler Current view.which (control plan p.control).id p.control (all (control plan p.control).id)
    (own_is (named plan view.handler Current (control plan p.control).id) p.control parts.0) in
    let passes = named_passes plan view (record { id = (control plan p.control).id; value = p.value }) p.control own in
    (rw (own, ih.0) refl, rw (passes, ih.1) refl)
