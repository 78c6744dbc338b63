-- What may follow a history is told by the ask that is made of it.
use Rattle.std.proofs.Common.{◌≡◌, ℕ, ◌<◌, Bool, true, false, cond, nat_eq, List, [], ◌∷◌, ◌++◌, length, Option, None, Some, refl, ap, sym, subst, ◌∙◌, arith}
use Rattle.std.proofs.lemmas.Bool.Decides.{nat_tests}
use Rattle.std.specs.Map.{lookup}
use Rattle.std.specs.Option.{option_and_then, option_map, is_none}
use Rattle.ctrl_types.specs.Classes.{which_of}
use Rattle.ctrl_types.specs.declared.check.Check.{Check}
use Rattle.ctrl_types.specs.declared.check.Check.TheVariants.{ListHandleNotOpen, TooManyEntries, ClassNotShown, ListHistoryFull}
use Rattle.ctrl_types.specs.declared.errno.Fault.{Fault}
use Rattle.ctrl_types.specs.declared.ids.CtrlId.{CtrlId}
use Rattle.ctrl_types.specs.declared.ids.ExtControl.{ExtControl}
use Rattle.ctrl_types.specs.declared.ids.FhId.{FhId}
use Rattle.ctrl_types.specs.declared.ids.Pair.{Pair}
use Rattle.ctrl_types.specs.declared.ids.RequestId.{RequestId}
use Rattle.ctrl_types.specs.declared.sub_flags.SubFlags.{SubFlags}
use Rattle.ctrl_types.specs.declared.which.Which.{Which}
use Rattle.ctrl_types.specs.declared.which.Which.TheVariants.{Current, Defaults, Class, Request}
use Rattle.ctrl_calls.specs.Meanings.{Verdicts}
use Rattle.ctrl_handlers.specs.Plan.{PlanData}
use Rattle.ctrl_handlers.specs.Visible.{find}
use Rattle.ctrl_types.specs.declared.refusal.Refusal.{Refusal}
use Rattle.ctrl_lists.specs.Answers.{answered, entries_judged}
use Rattle.ctrl_types.specs.Refusals.{fault_at_count}
use Rattle.ctrl_lists.specs.View.{ViewData, is_meant, pairs_of}
use Rattle.ctrl_lists.specs.Checks.{at_first, first_refusal, is_long, is_of_no_class, judging_check, naming_check, refused_if, shows_none_of, write_checks, writing_check}
use Rattle.device_history.specs.declared.ask.Ask.{Ask}
use Rattle.device_history.specs.declared.ask.Ask.TheVariants as asks
use Rattle.device_history.specs.declared.ask.Step.{Step}
use Rattle.device_history.specs.declared.ask.Step.TheVariants as steps
use Rattle.device_history.specs.Steps.{Past}
use Rattle.device_history.specs.Refusals.{is_full, fault_of}
use Rattle.device_history.specs.Handles.{handler_of, opened, shown}
use Rattle.device_history.specs.Events.{pending}
use Rattle.device_history.specs.EventAnswers.{first_control}
use Rattle.device_history.specs.Frames.{queue, running, first_of}
use Rattle.device_history.specs.Snapshots.{request}
use Rattle.device_history.specs.Lists.{controls_of, earlier_pairs, handler_or, list_pairs, list_step, meant, opening_checks, meant_check, pairs_step, refused_by, request_check, set_checks, which_or, write_view}
use Rattle.device_history.specs.Answers.{refusal, step_of}
use Rattle.device_history.specs.Legal.{MayFollow}
use Rattle.device_history.specs.Asking.{ask_by, entries_of, fh_or_none, first_storer, free_id, shows_pairs, storer}
use Rattle.device_history.proofs.FitLemmas.{meant_passes, same_step}
use Rattle.device_history.proofs.ListLemmas.{first_behind, none_of_both, passes}
use Rattle.device_history.proofs.PastLemmas.{AreAbove, AreRising, opened_rising}
use Rattle.device_history.proofs.NamingLemmas.{entries_back, pairs_back, shown_id}
use Rattle.device_history.proofs.FreeIdLemmas.{free_unshown}

-- nothing refuses the ask that is made of a step, and it adds the step
abbrev Decided : Verdicts → PlanData → Past → Step → Type 0
Decided verdicts plan past step = (refusal verdicts plan past (ask_by plan past step) ≡ None) × (step_of verdicts plan past (ask_by plan past step) ≡ Some step)

-- where checks pass, and those behind them, all do
none_both : (before behind : List (Option Refusal)) → first_refusal before ≡ None → first_refusal behind ≡ None → first_refusal (before ++ behind) ≡ None
none_both before behind h k = first_behind before behind h ∙ k

-- a list that is set passes its checks
unrefused_set : (fault : Refusal → Fault) (first : Option Refusal) (entries : List ExtControl) → fault_of (controls_of (answered fault first entries)) ≡ None → first ≡ None
unrefused_set fault None entries h = refl
unrefused_set fault (Some r) entries h = cc

-- one that passes them is set
set_unrefused : (fault : Refusal → Fault) (first : Option Refusal) (entries : List ExtControl) → first ≡ None → fault_of (controls_of (answered fault first entries)) ≡ None
set_unrefused fault None entries h = refl
set_unrefused fault (Some r) entries h = cc

-- what doesn't refuse a list doesn't hold
not_refused_if : (b : Bool) (check : Check) → refused_if b check ≡ None → b ≡ false
not_refused_if true check h = cc
not_refused_if false check h = refl

-- a list of all controls isn't one about a class of which none is shown
about_all : (plan : PlanData) (view : ViewData) (list : List ExtControl) → shows_none_of plan view view.which ≡ false → is_of_no_class plan view list ≡ false
about_all plan view [] h = h
about_all plan view (entry ∷ rest) h = refl

-- five checks that pass
all_pass : (a b c d e : Option Refusal) → first_refusal (a ∷ b ∷ c ∷ d ∷ e ∷ []) ≡ None → (a ≡ None) × (b ≡ None) × (c ≡ None) × (d ≡ None) × (e ≡ None)
all_pass None None None None None h = (refl, refl, refl, refl, refl)
all_pass (Some r) b c d e h = cc
all_pass None (Some r) c d e h = cc
all_pass None None (Some r) d e h = cc
all_pass None None None (Some r) e h = cc
all_pass None None None None (Some r) h = cc

-- and together they pass
passed : (a b c d e : Option Refusal) → a ≡ None → b ≡ None → c ≡ None → d ≡ None → e ≡ None → first_refusal (a ∷ b ∷ c ∷ d ∷ e ∷ []) ≡ None
passed a b c d e ha hb hc hd he = rw (ha, hb, hc, hd, he) refl

-- A list that passes its checks, and whose pairs a handler shows, passes them as the list of these pairs, through that handler, where it speaks
-- of all controls.
writes_back : (verdicts : Verdicts) (plan : PlanData) (view : ViewData) (handler : ℕ) (which : Which) (list : List ExtControl) → ((id : CtrlId) → is_meant which id ≡ true)
    → shows_none_of plan (record view { handler = handler; which = which }) which ≡ false → shows_pairs plan handler (pairs_of plan view.handler view.which list) ≡ true
    → first_refusal (write_checks verdicts plan view true list) ≡ None
    → first_refusal (write_checks verdicts plan (record view { handler = handler; which = which }) true (entries_of plan (pairs_of plan view.handler view.which list))) ≡ None
writes_back verdicts plan view handler which list all known shows h =
    let before = all_pass (refused_if (is_long list) TooManyEntries) (refused_if (is_of_no_class plan view list) ClassNotShown) (at_first (naming_check plan view) list)
    (at_first (writing_check plan view true) pairs) (at_first (judging_check verdicts plan view (view.asked ++ pairs)) pairs) h in
    let same : entries ≡ list = (entries_back plan view 0 list before.2).0 in
    let back = pairs_back plan other 0 pairs all shows in
    passed (refused_if (is_long entries) TooManyEntries) (refused_if (is_of_no_class plan other entries) ClassNotShown) (at_first (naming_check plan other) entries)
    (at_first (writing_check plan other true) (pairs_of plan handler which entries))
    (at_first (judging_check verdicts plan other (view.asked ++ pairs_of plan handler which entries)) (pairs_of plan handler which entries))
    (ap (λ (l : List ExtControl). refused_if (is_long l) TooManyEntries) same ∙ before.0)
    (ap (λ (b : Bool). refused_if b ClassNotShown) (about_all plan other entries known))
    back.1
    (ap (λ (ps : List Pair). at_first (writing_check plan view true) ps) back.0 ∙ before.3)
    (ap (λ (ps : List Pair). at_first (judging_check verdicts plan view (view.asked ++ ps)) ps) back.0 ∙ before.4)
  where
    other : ViewData
    other = record view { handler = handler; which = which }

    pairs : List Pair
    pairs = pairs_of plan view.handler view.which list

    entries : List ExtControl
    entries = entries_of plan pairs

-- where each key lies above n, a key that is found isn't n
above_found : (n k handler : ℕ) (os : List (ℕ × ℕ)) → AreAbove n os → lookup (nat_eq k) os ≡ Some handler → nat_eq k n ≡ false
unfolding AreAbove
above_found n k handler [] above h = cc
above_found n k handler (o ∷ os) above h = by (nat_eq k o.0) refl h (λ rest. above_found n k handler os above.1 rest)
  where
    by : (b : Bool) → nat_eq k o.0 ≡ b → cond b (Some o.1) (lookup (nat_eq k) os) ≡ Some handler → (lookup (nat_eq k) os ≡ Some handler → nat_eq k n ≡ false) → nat_eq k n ≡ false
    by true e found rest = apart k o.0 n e above.0
      where
        apart : (k o n : ℕ) → nat_eq k o ≡ true → n < o → nat_eq k n ≡ false
        apart k o n e lt = grind (arith, nat_tests, e)
    by false e found rest = rest found

-- Where the handler of some open file handle shows pairs, the first such file handle is found, and its handler shows them.
storer_shows : (plan : PlanData) (pairs : List Pair) (k handler : ℕ) (os : List (ℕ × ℕ)) → AreRising os → lookup (nat_eq k) os ≡ Some handler → shows_pairs plan handler pairs ≡ true
    → (found : ℕ) × (lookup (nat_eq (fh_or_none (first_storer plan pairs os)).0) os ≡ Some found) × (shows_pairs plan found pairs ≡ true)
unfolding AreRising
storer_shows plan pairs k handler [] rising h shows = cc
storer_shows plan pairs k handler (o ∷ os) rising h shows = by (shows_pairs plan o.1 pairs) (nat_eq k o.0) refl h (λ rest. storer_shows plan pairs k handler os rising.1 rest shows)
  where
    own : (n : ℕ) → nat_eq n n ≡ true
    own n = grind (arith, nat_tests)

    by : (s b : Bool) → shows_pairs plan o.1 pairs ≡ s → cond b (Some o.1) (lookup (nat_eq k) os) ≡ Some handler
        → (lookup (nat_eq k) os ≡ Some handler → (found : ℕ) × (lookup (nat_eq (fh_or_none (first_storer plan pairs os)).0) os ≡ Some found) × (shows_pairs plan found pairs ≡ true))
        → (found : ℕ) × (lookup (nat_eq (fh_or_none (cond s (Some o) (first_storer plan pairs os))).0) (o ∷ os) ≡ Some found) × (shows_pairs plan found pairs ≡ true)
    by true b e is rest = (o.1, rw (own o.0) refl, e)
    by false true e is rest =
        let same : o.1 ≡ handler = cc in
        let bad : shows_pairs plan o.1 pairs ≡ true = ap (λ (n : ℕ). shows_pairs plan n pairs) same ∙ shows in cc
    by false false e is rest =
        let later = rest is in
        (later.0, rw (above_found o.0 (fh_or_none (first_storer plan pairs os)).0 later.0 os rising.0 later.1) later.1, later.2)

-- Where the handler of an open file handle shows pairs, so does that of the one through which they are stored.
storer_fits : (plan : PlanData) (past : Past) (fh : FhId) (pairs : List Pair) → is_none (handler_of past fh) ≡ false → shows_pairs plan (handler_or (handler_of past fh)) pairs ≡ true
    → (is_none (handler_of past (storer plan past pairs)) ≡ false) × (shows_pairs plan (handler_or (handler_of past (storer plan past pairs))) pairs ≡ true)
storer_fits plan past fh pairs is_open shows = by (handler_of past fh) refl is_open shows
  where
    by : (o : Option ℕ) → handler_of past fh ≡ o → is_none o ≡ false → shows_pairs plan (handler_or o) pairs ≡ true
        → (is_none (handler_of past (storer plan past pairs)) ≡ false) × (shows_pairs plan (handler_or (handler_of past (storer plan past pairs))) pairs ≡ true)
    by None is open_here h = cc
    by (Some handler) is open_here h =
        let found = storer_shows plan pairs fh.0 handler (opened past) (opened_rising past) is h in
        (ap is_none found.1, ap (λ (o : Option ℕ). shows_pairs plan (handler_or o) pairs) found.1 ∙ found.2)

-- A list that is set passes its first checks where its file handle is open, it doesn't speak of the defaults, and the request that it speaks of
-- doesn't refuse it.
opens : (is_closed : Bool) (check : Option Check) → is_closed ≡ false → check ≡ None → first_refusal (refused_if is_closed ListHandleNotOpen ∷ None ∷ None ∷ refused_by check ∷ []) ≡ None
opens is_closed check is none = rw (is, none) refl

-- the request that a list speaks of, where it does, doesn't refuse a list that is set
Stores : Verdicts → PlanData → Past → Option RequestId → Type 0
Stores verdicts plan past None = Unit {0}
Stores verdicts plan past (Some r) = request_check true (request verdicts plan past r.0) ≡ None

stores : (verdicts : Verdicts) (plan : PlanData) (past : Past) (which : Which) (id : Option RequestId) → meant_check verdicts plan past true which id ≡ None → Stores verdicts plan past (meant which id)
unfolding Stores
stores verdicts plan past Request (Some r) h = h
stores verdicts plan past Request None h = tt
stores verdicts plan past Current id h = tt
stores verdicts plan past Defaults id h = tt
stores verdicts plan past (Class n) id h = tt

-- what the first checks of a list that is set say
opened_by : (verdicts : Verdicts) (plan : PlanData) (past : Past) (fh : FhId) (which : ℕ) (id : Option RequestId) → first_refusal (opening_checks verdicts plan past fh which id true) ≡ None
    → (is_none (handler_of past fh) ≡ false) × Stores verdicts plan past (meant (which_or (which_of which)) id)
opened_by verdicts plan past fh which id h =
    let first = passes (refused_if (is_none (handler_of past fh)) ListHandleNotOpen) _ h in
    (not_refused_if (is_none (handler_of past fh)) ListHandleNotOpen first.0, stores verdicts plan past (which_or (which_of which)) id (meant_passes verdicts plan past fh which id true h))

-- the step of a list that is set is decided
set_decided : (verdicts : Verdicts) (plan : PlanData) (past : Past) (fh : FhId) (which : ℕ) (id : Option RequestId) (list : List ExtControl) → first_refusal (set_checks verdicts plan past fh which id list) ≡ None
    → Decided verdicts plan past (list_step plan past fh which id list)
unfolding Stores
set_decided verdicts plan past fh which id list h =
    let first = none_of_both (opening_checks verdicts plan past fh which id true) (write_checks verdicts plan (write_view verdicts plan past fh which id) true list ++ limit) h in
    let rest = none_of_both (write_checks verdicts plan (write_view verdicts plan past fh which id) true list) limit first.1 in
    let opening = opened_by verdicts plan past fh which id first.0 in
    by (meant (which_or (which_of which)) id) opening.0 opening.1 rest.0 rest.1
  where
    limit : List (Option Refusal)
    limit = refused_if (is_full past) ListHistoryFull ∷ []

    view : Option RequestId → ViewData
    view m = record (write_view verdicts plan past fh which id) { asked = earlier_pairs plan past m }

    pairs : List Pair
    pairs = list_pairs plan past fh which list

    entries : List ExtControl
    entries = entries_of plan pairs

    by : (m : Option RequestId) → is_none (handler_of past fh) ≡ false → Stores verdicts plan past m → first_refusal (write_checks verdicts plan (view m) true list) ≡ None → first_refusal limit ≡ None
        → Decided verdicts plan past (pairs_step m fh pairs)
    by None is_open through own few =
        let checks = all_pass (refused_if (is_long list) TooManyEntries) (refused_if (is_of_no_class plan (view None) list) ClassNotShown) (at_first (naming_check plan (view None)) list)
        (at_first (writing_check plan (view None) true) pairs) (at_first (judging_check verdicts plan (view None) pairs) pairs) own in
        let shows : shows_pairs plan (handler_or (handler_of past fh)) pairs ≡ true = (entries_back plan (view None) 0 list checks.2).1 in
        let other : ViewData = record (view None) { which = Current } in (
          set_unrefused (fault_at_count (length entries)) (first_refusal (set_checks verdicts plan past fh 0 None entries)) (entries_judged verdicts plan other entries)
              (none_both (opening_checks verdicts plan past fh 0 None true) (write_checks verdicts plan other true entries ++ limit) (opens (is_none (handler_of past fh)) None is_open refl)
              (none_both (write_checks verdicts plan other true entries) limit
              (writes_back verdicts plan (view None) (handler_or (handler_of past fh)) Current list (λ i. refl) refl shows own) few)),
          ap (λ (ps : List Pair). Some (steps.Set fh ps)) (pairs_back plan other 0 pairs (λ i. refl) shows).0,
        )
    by (Some r) is_open through own few =
        let checks = all_pass (refused_if (is_long list) TooManyEntries) (refused_if (is_of_no_class plan (view (Some r)) list) ClassNotShown) (at_first (naming_check plan (view (Some r))) list)
        (at_first (writing_check plan (view (Some r)) true) pairs) (at_first (judging_check verdicts plan (view (Some r)) ((view (Some r)).asked ++ pairs)) pairs) own in
        let before : shows_pairs plan (handler_or (handler_of past fh)) pairs ≡ true = (entries_back plan (view (Some r)) 0 list checks.2).1 in
        let found = storer_fits plan past fh pairs is_open before in
        let to : FhId = storer plan past pairs in
        let other : ViewData = record (view (Some r)) { handler = handler_or (handler_of past to); which = Request } in (
          set_unrefused (fault_at_count (length entries)) (first_refusal (set_checks verdicts plan past to 0x0f010000 (Some r) entries)) (entries_judged verdicts plan other entries)
              (none_both (opening_checks verdicts plan past to 0x0f010000 (Some r) true) (write_checks verdicts plan other true entries ++ limit)
              (opens (is_none (handler_of past to)) (request_check true (request verdicts plan past r.0)) found.0 through)
              (none_both (write_checks verdicts plan other true entries) limit
              (writes_back verdicts plan (view (Some r)) (handler_or (handler_of past to)) Request list (λ i. refl) refl found.1 own) few)),
          ap (λ (ps : List Pair). Some (steps.Store r ps)) (pairs_back plan other 0 pairs (λ i. refl) found.1).0,
        )

-- Where a step may follow, nothing refuses the ask that is made of it, and this ask adds the step.
pub may_decided : (verdicts : Verdicts) (plan : PlanData) (past : Past) (step : Step) → MayFollow verdicts plan past step
    → (refusal verdicts plan past (ask_by plan past step) ≡ None) × (step_of verdicts plan past (ask_by plan past step) ≡ Some step)
may_decided verdicts plan past step may = by may.0 may.1 may.2
  where
    is : (ask : Ask) → ask_by plan past step ≡ ask → refusal verdicts plan past ask ≡ None → step_of verdicts plan past ask ≡ Some step → Decided verdicts plan past step
    is ask same h adds = subst (λ (a : Ask). (refusal verdicts plan past a ≡ None) × (step_of verdicts plan past a ≡ Some step)) (sym same) (h, adds)

    own : (s : Step) → Some s ≡ Some step → ask_by plan past step ≡ ask_by plan past s
    own s adds = ap (ask_by plan past) (sym (same_step s step adds))

    begins : (o : Option ℕ) → option_map (λ r. steps.Begin (record { 0 = r })) o ≡ Some step → ask_by plan past step ≡ asks.Begin
    begins None adds = cc
    begins (Some r) adds = own (steps.Begin (record { 0 = r })) adds

    completes : (o : Option ℕ) → option_map (λ r. steps.Complete (record { 0 = r })) o ≡ Some step → ask_by plan past step ≡ asks.Complete
    completes None adds = cc
    completes (Some r) adds = own (steps.Complete (record { 0 = r })) adds

    nothing : None ≡ Some step → Decided verdicts plan past step
    nothing adds = cc

    subscribes : (fh : FhId) (id : CtrlId) (flags : SubFlags) (o : Option ℕ) → shown plan past fh id ≡ o → refusal verdicts plan past (asks.Subscribe fh id flags) ≡ None
        → option_map (λ c. steps.Subscribe fh c flags) o ≡ Some step → Decided verdicts plan past step
    subscribes fh id flags None found h adds = nothing adds
    subscribes fh id flags (Some c) found h adds =
        is (asks.Subscribe fh id flags) (own (steps.Subscribe fh c flags) adds ∙ ap (λ (i : CtrlId). asks.Subscribe fh i flags) (shown_id plan past fh id c found)) h
        (ap (option_map (λ d. steps.Subscribe fh d flags)) found ∙ adds)

    ends : (fh : FhId) (id : CtrlId) (o : Option ℕ) → shown plan past fh id ≡ o → refusal verdicts plan past (asks.Unsubscribe fh id) ≡ None → Some (steps.Unsubscribe fh o) ≡ Some step → Decided verdicts plan past step
    ends fh id (Some c) found h adds =
        is (asks.Unsubscribe fh id) (own (steps.Unsubscribe fh (Some c)) adds ∙ ap (λ (i : CtrlId). asks.Unsubscribe fh i) (shown_id plan past fh id c found)) h
        (ap (λ (d : Option ℕ). Some (steps.Unsubscribe fh d)) found ∙ adds)
    ends fh id None found h adds =
        is (asks.Unsubscribe fh (free_id plan (handler_or (handler_of past fh)))) (own (steps.Unsubscribe fh None) adds) h
        (ap (λ (d : Option ℕ). Some (steps.Unsubscribe fh d)) (unshown (handler_of past fh)) ∙ adds)
      where
        unshown : (handler : Option ℕ) → option_and_then (λ n. find plan n (free_id plan (handler_or handler))) handler ≡ None
        unshown None = refl
        unshown (Some handler) = free_unshown plan handler

    takes : (fh : FhId) (o : Option ℕ) → refusal verdicts plan past (asks.Take fh) ≡ None → first_control (pending verdicts plan past fh) ≡ o → option_map (λ c. steps.Take fh c) o ≡ Some step → Decided verdicts plan past step
    takes fh None h first adds = nothing adds
    takes fh (Some c) h first adds = is (asks.Take fh) (own (steps.Take fh c) adds) h (ap (option_map (λ d. steps.Take fh d)) first ∙ adds)

    by : (ask : Ask) → refusal verdicts plan past ask ≡ None → step_of verdicts plan past ask ≡ Some step → Decided verdicts plan past step
    by (asks.GetCtrls fh which id list) h adds = nothing adds
    by (asks.SetCtrls fh which id list) h adds =
        subst (Decided verdicts plan past) (same_step (list_step plan past fh which id list) step adds)
        (set_decided verdicts plan past fh which id list
        (unrefused_set (fault_at_count (length list)) (first_refusal (set_checks verdicts plan past fh which id list)) (entries_judged verdicts plan (write_view verdicts plan past fh which id) list) h))
    by (asks.TryCtrls fh which id list) h adds = nothing adds
    by asks.Begin h adds = is asks.Begin (begins (first_of (queue past)) adds) h adds
    by asks.Complete h adds = is asks.Complete (completes (running past) adds) h adds
    by (asks.Subscribe fh id flags) h adds = subscribes fh id flags (shown plan past fh id) refl h adds
    by (asks.Unsubscribe fh id) h adds = ends fh id (shown plan past fh id) refl h adds
    by (asks.Take fh) h adds = takes fh (first_control (pending verdicts plan past fh)) h refl adds
    by (asks.StateOf r) h adds = nothing adds
    by (asks.Forecast place) h adds = nothing adds
    by (asks.Query fh id) h adds = nothing adds
    by (asks.NextId fh id) h adds = nothing adds
    by (asks.MenuItem fh id index) h adds = nothing adds
    by (asks.Told cluster) h adds = nothing adds
    by ask h adds = is ask (own _ adds) h adds
