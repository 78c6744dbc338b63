-- What handlers show, and what a list can name.
use Rattle.std.proofs.Common.{◌≡◌, ℕ, ◌<◌, ◌≤◌, Bool, true, false, not, ◌&&◌, cond, nat_eq, map, List, [], ◌∷◌, length, Option, None, Some, refl, subst, arith}
use Rattle.std.specs.List.{All, cons_option, find as first_that}
use Rattle.std.specs.Option.{option_map}
use Rattle.std.proofs.lemmas.Bool.Decides.{nat_tests}
use Rattle.std.proofs.lemmas.List.Elements.{All-nil, All-cons, All-head, All-tail}
use Rattle.ctrl_types.specs.Flags.{contains}
use Rattle.ctrl_types.specs.declared.flags.TheConstants.Flags.{DISABLED}
use Rattle.ctrl_types.specs.declared.ids.CtrlId.{CtrlId}
use Rattle.ctrl_types.specs.declared.ids.ExtControl.{ExtControl}
use Rattle.ctrl_types.specs.declared.ids.Pair.{Pair}
use Rattle.ctrl_types.specs.declared.which.Which.{Which}
use Rattle.ctrl_types.specs.declared.which.Which.TheVariants.{Current}
use Rattle.ctrl_settle.specs.Control.{Control}
use Rattle.req_book.specs.Requests.{is_number}
use Rattle.ctrl_handlers.specs.Plan.{PlanData, IsPlan, control, control_in}
use Rattle.ctrl_handlers.specs.Visible.{find, first_with_id, visible}
use Rattle.ctrl_handlers.proofs.ShownLemmas.{Known, visible_known}
use Rattle.ctrl_lists.specs.View.{is_meant, meant_one, named, pairs_of}
use Rattle.ctrl_types.specs.declared.ids.FhId.{FhId}
use Rattle.device_history.specs.Handles.{shown}
use Rattle.device_history.specs.Steps.{Past}
use Rattle.device_history.proofs.EventLemmas.{shown_known}
use Rattle.history_audit.specs.Changing.{shows_it}
use Rattle.device_history.specs.Asking.{first_storer, shows_pair, shows_pairs}

-- a control that is found among known ones is known
found_known : (controls : List Control) (numbers : List ℕ) (id : CtrlId) (c : ℕ) → All (Known controls) numbers → first_with_id controls numbers id ≡ Some c → c < length controls
found_known controls [] id c known found = cc
found_known controls (n ∷ ns) id c known found = by (nat_eq (control_in controls n).id.0 id.0) found (found_known controls ns id c (All-tail (Known controls) n ns known))
  where
    by : (b : Bool) → cond b (Some n) (first_with_id controls ns id) ≡ Some c → (first_with_id controls ns id ≡ Some c → c < length controls) → c < length controls
    by true h rest =
        let same : n ≡ c = cc in
        subst (λ (k : ℕ). k < length controls) same (All-head (Known controls) n ns known)
    by false h rest = rest h

-- a control that an id names is there
named_known : (plan : PlanData) (handler : ℕ) (which : Which) (id : CtrlId) (c : ℕ) → IsPlan plan → named plan handler which id ≡ Some c → c < length plan.controls
named_known plan handler which id c is names = by (find plan handler id) refl names
  where
    meant : (b : Bool) (d : ℕ) → d < length plan.controls → cond b (Some d) None ≡ Some c → c < length plan.controls
    meant true d lt h =
        let same : d ≡ c = cc in
        subst (λ (k : ℕ). k < length plan.controls) same lt
    meant false d lt h = cc

    by : (o : Option ℕ) → find plan handler id ≡ o → meant_one plan which id o ≡ Some c → c < length plan.controls
    by None e h = cc
    by (Some d) e h = meant (is_meant which id && not (contains (control plan d).flags DISABLED)) d (found_known plan.controls (visible plan handler) id d (visible_known plan handler is) e) h

-- the pairs of a list are of controls that are there
pub pairs_known : (plan : PlanData) (handler : ℕ) (which : Which) (list : List ExtControl) → IsPlan plan → All (λ p. p.control < length plan.controls) (pairs_of plan handler which list)
pairs_known plan handler which [] is = All-nil (λ (p : Pair). p.control < length plan.controls)
pairs_known plan handler which (entry ∷ list) is = by (named plan handler which entry.id) refl (pairs_known plan handler which list is)
  where
    rest : List Pair
    rest = pairs_of plan handler which list

    by : (o : Option ℕ) → named plan handler which entry.id ≡ o → All (λ p. p.control < length plan.controls) rest
        → All (λ p. p.control < length plan.controls) (cons_option (option_map (λ c. record { control = c; value = entry.value }) o) rest)
    by None e all = all
    by (Some c) e all = All-cons (λ (p : Pair). p.control < length plan.controls) (record { control = c; value = entry.value }) rest (named_known plan handler which entry.id c is e) all

-- a handler shows no control that isn't there
pub unshown : (plan : PlanData) (handler : ℕ) (p : Pair) → IsPlan plan → length plan.controls ≤ p.control → shows_pair plan handler p ≡ false
unshown plan handler p is past = by (named plan handler Current (control plan p.control).id) refl
  where
    apart : (c d n : ℕ) → c < n → n ≤ d → nat_eq c d ≡ false
    apart c d n lt le = grind (arith, nat_tests)

    by : (o : Option ℕ) → named plan handler Current (control plan p.control).id ≡ o → is_number o p.control ≡ false
    by None e = refl
    by (Some c) e = apart c p.control (length plan.controls) (named_known plan handler Current (control plan p.control).id c is e) past

-- the first of some open file handles whose handler shows pairs, by the handlers alone
pub by_handlers : (plan : PlanData) (pairs : List Pair) (os : List (ℕ × ℕ)) → first_that (λ h. shows_pairs plan h pairs) (map (λ o. o.1) os) ≡ option_map (λ h. h.1) (first_storer plan pairs os)
by_handlers plan pairs [] = refl
by_handlers plan pairs (o ∷ os) = by (shows_pairs plan o.1 pairs) (by_handlers plan pairs os)
  where
    by : (b : Bool) → first_that (λ h. shows_pairs plan h pairs) (map (λ k. k.1) os) ≡ option_map (λ h. h.1) (first_storer plan pairs os)
        → cond b (Some o.1) (first_that (λ h. shows_pairs plan h pairs) (map (λ k. k.1) os)) ≡ option_map (λ h. h.1) (cond b (Some o) (first_storer plan pairs os))
    by true h = refl
    by false h = h

-- nor to a file handle
pub unshown_control : (plan : PlanData) (past : Past) (fh : FhId) (c : ℕ) → IsPlan plan → length plan.controls ≤ c → shows_it plan past fh c ≡ false
unshown_control plan past fh c is beyond = by (shown plan past fh (control plan c).id) refl
  where
    apart : (d e n : ℕ) → d < n → n ≤ e → nat_eq d e ≡ false
    apart d e n lt le = grind (arith, nat_tests)

    by : (o : Option ℕ) → shown plan past fh (control plan c).id ≡ o → is_number o c ≡ false
    by None e = refl
    by (Some d) e = apart d c (length plan.controls) (shown_known plan past fh (control plan c).id d is e) beyond
