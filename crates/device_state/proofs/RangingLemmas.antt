-- Another range for a control: what it is answered, whom it is told, and what is kept after it.
use Rattle.std.proofs.Common.{◌≡◌, ◌≢◌, ℕ, zero, suc, ◌<◌, ◌≤◌, ◌+◌, ◌⊎◌, ◌==◌, ◌&&◌, ◌||◌, not, cond, ℤ, Bool, true, false, nat_eq, nat_le, if◌then◌else◌, List, [], ◌∷◌, ◌++◌, length, Option, None, Some, is_some, Ok, slice_index, slice_set, count_by, inl, inr, refl, ap, sym, subst, ◌∙◌, arith}
use Rattle.std.specs.List.{list_any, range_with_len}
use Rattle.std.specs.Option.{option_map}
use Rattle.std.proofs.Math.Dec.{leb}
use Rattle.std.proofs.lemmas.Bool.Decides.{eqb_tells, leb_tells, nat_tests}
use Rattle.std.proofs.lemmas.List.{get_or-set_other, get_or_past}
use Rattle.std.proofs.lemmas.List.Sums.{sum_by-cons}
use Rattle.ctrl_types.specs.Values.{zero_value, is_same}
use Rattle.history.specs.Past.{past}
use Rattle.ctrl_types.specs.Flags.{contains}
use Rattle.ctrl_types.specs.declared.value.CtrlValue.{CtrlValue}
use Rattle.ctrl_types.specs.declared.flags.TheConstants.Flags.{EXECUTE_ON_WRITE}
use Rattle.ctrl_types.specs.declared.check.Check.{Check}
use Rattle.ctrl_types.specs.declared.check.Check.TheVariants.{ControlMissing}
use Rattle.ctrl_calls.specs.Meanings.{Verdicts, Words}
use Rattle.ctrl_calls.specs.declared.relation.Relation.{Relation}
use Rattle.ctrl_calls.specs.declared.work.Work.{Work}
use Rattle.ctrl_settle.specs.Control.{Control, with_range}
use Rattle.ctrl_settle.specs.Faults.{IsFirstFault, IsWellFormed, range_check_of}
use Rattle.ctrl_settle.specs.FirstFault.{first_fault}
use Rattle.ctrl_settle.specs.Settle.{settled_anew}
use Rattle.ctrl_settle.specs.declared.fault.CtrlFault.{CtrlFault}
use Rattle.ctrl_settle.proofs.WellFormed.{fault_found, nothing_found}
use Rattle.ctrl_handlers.specs.ClusterData.{ClusterData}
use Rattle.ctrl_handlers.specs.Plan.{IsPlan, PlanData, calls_of, cluster_of, control, control_in, members, no_cluster}
use Rattle.ctrl_handlers.proofs.ClusterLemmas.{cluster_of_member, cluster_of_within, none_of}
use Rattle.ctrl_clusters.specs.Ranges.{modified}
use Rattle.ctrl_clusters.specs.Rows.{Values, row_of, value_at}
use Rattle.ctrl_clusters.specs.Changes.{members_change}
use Rattle.ctrl_clusters.specs.Notified.{AreNotified, IsNotified, MaySay, after_change, notified_count}
use Rattle.ctrl_clusters.proofs.NotifyLemmas.{words_between}
use Rattle.ctrl_clusters.proofs.OverlayLemmas.{none_any}
use Rattle.ctrl_forecast.specs.Boards.{BoardData}
use Rattle.device_history.specs.declared.ask.Ask.TheVariants as asks
use Rattle.device_history.specs.declared.ask.Reply.TheVariants.{Done}
use Rattle.device_history.specs.declared.limits.TheConstants.{MAX_STEPS}
use Rattle.device_history.specs.Steps.{History, Past}
use Rattle.device_history.specs.Ranges.{range_answer, range_check, ranges_after, ranges_now}
use Rattle.device_history.specs.Refusals.{fault_of, is_full, step_check, unless_refused}
use Rattle.device_history.specs.Values.{now}
use Rattle.device_history.specs.Words.{changes}
use Rattle.device_history.proofs.WordLemmas.{changed_row}
use Rattle.device_state.specs.Device.{DeviceData, Handles, cluster_asks}
use Rattle.device_parts.specs.Makes.{Makes}
use Rattle.device_parts.specs.State.{StateData}
use Rattle.device_state.specs.Kept.{Caches, IsKept}
use Rattle.device_state.specs.Changed.{IsChangedBy, values_then}
use Rattle.device_state.specs.Ranging.{IsRanged, range_step}
use Rattle.device_state.proofs.KeptLemmas.{kept_makes, set_room}
use Rattle.device_state.proofs.HandleLemmas.{at_rest, handles_changed}
use Rattle.device_state.proofs.SetLemmas.{and_false, none_from, unchanged}
use Rattle.device_state.proofs.StepLemmas.{step_answered, step_free, step_passes}
use Rattle.device_history.specs.Forecasts.{board_over}

-- a control that is there is no unknown one
there : (plan : PlanData) (c : ℕ) → c < length plan.controls → nat_le (length plan.controls) c ≡ false
there plan c known = grind (arith, nat_tests)

-- a range with which the control has a fault
pub range_faulty : (plan : PlanData) (older : Past) (c : ℕ) (low high : ℤ) (apart : ℕ) (default_value : ℤ) (fault : CtrlFault) → c < length plan.controls → IsFirstFault (with_range (control_in (ranges_now plan older) c) low high apart default_value) fault
    → range_check plan older c low high apart default_value ≡ Some (range_check_of fault)
range_faulty plan older c low high apart default_value fault known is =
    rw (there plan c known, fault_found (with_range (control_in (ranges_now plan older) c) low high apart default_value) fault is) refl

-- one with which nothing is wrong
pub range_sound : (plan : PlanData) (older : Past) (c : ℕ) (low high : ℤ) (apart : ℕ) (default_value : ℤ) → c < length plan.controls → IsWellFormed (with_range (control_in (ranges_now plan older) c) low high apart default_value)
    → range_check plan older c low high apart default_value ≡ None
range_sound plan older c low high apart default_value known well =
    rw (there plan c known, nothing_found (with_range (control_in (ranges_now plan older) c) low high apart default_value) well) refl

-- one that no check refuses is accepted where there is room
pub range_accepted : (plan : PlanData) (older : Past) (c : ℕ) (low high : ℤ) (apart : ℕ) (default_value : ℤ) → range_check plan older c low high apart default_value ≡ None → step_check older None ≡ None
    → range_answer plan older c low high apart default_value ≡ Ok Done
range_accepted plan older c low high apart default_value own room = step_answered older _ Done (step_free older _ own (step_passes older None room).1)

-- and refused where there is none
pub range_full : (plan : PlanData) (older : Past) (c : ℕ) (low high : ℤ) (apart : ℕ) (default_value : ℤ) (check : Check) → range_check plan older c low high apart default_value ≡ None → step_check older None ≡ Some check
    → step_check older (range_check plan older c low high apart default_value) ≡ Some check
range_full plan older c low high apart default_value check own full = ap (step_check older) own ∙ full

-- a control that was read with its new range can be given it
pub ranged : (plan : PlanData) (older : Past) (c : ℕ) (low high : ℤ) (apart : ℕ) (default_value : ℤ) (changed : Control) → changed ≡ with_range (control_in (ranges_now plan older) c) low high apart default_value
    → range_answer plan older c low high apart default_value ≡ Ok Done → IsRanged plan older c changed
ranged plan older c low high apart default_value changed is accepted = rw is (record { accepted = accepted; its_own = refl })

-- what is accepted, nothing refuses
accepted_free : (o : Option Check) → unless_refused o Done ≡ Ok Done → o ≡ None
accepted_free None h = refl
accepted_free (Some check) h = cc

known_parts : (b : Bool) (fault : Option CtrlFault) → (if b then Some ControlMissing else option_map range_check_of fault) ≡ None → b ≡ false
known_parts true fault h = cc
known_parts false fault h = refl

range_parts : (plan : PlanData) (older : Past) (c : ℕ) (changed : Control) → IsRanged plan older c changed → (nat_le (length plan.controls) c ≡ false) × (is_full older ≡ false)
range_parts plan older c changed is =
    let passes = step_passes older (range_check plan older c changed.minimum changed.maximum changed.step changed.default_value) (accepted_free _ is.accepted) in
    (known_parts (nat_le (length plan.controls) c) (first_fault (with_range (control_in (ranges_now plan older) c) changed.minimum changed.maximum changed.step changed.default_value)) passes.0, passes.1)

-- where a range change is accepted, one more step is kept
range_room : (plan : PlanData) (steps : History) (c : ℕ) (changed : Control) → IsRanged plan (past steps) c changed → length steps < MAX_STEPS
range_room plan steps c changed is = set_room steps (range_parts plan (past steps) c changed is).1

-- and the control is there
pub range_known : (plan : PlanData) (older : Past) (c : ℕ) (changed : Control) → IsRanged plan older c changed → c < length plan.controls
range_known plan older c changed is = grind (arith, nat_tests, (range_parts plan older c changed is).0)

-- a control among others of which no other passes
any_own : (f : ℕ → Bool) (c : ℕ) (cs : List ℕ) → list_any (nat_eq c) cs ≡ true → ((d : ℕ) → d ≢ c → f d ≡ false) → list_any f cs ≡ f c
any_own f c cs among others = by (f c) (list_any f cs) refl refl
  where
    by : (a b : Bool) → f c ≡ a → list_any f cs ≡ b → b ≡ a
    by true true own some = refl
    by false false own some = refl
    by true false own some = sym (none_of f c cs some among) ∙ own
    by false true own some = sym some ∙ none_any f cs (λ d in_them. each d (eqb_tells d c))
      where
        each : (d : ℕ) → ((d == c) ≡ true × (d ≡ c)) ⊎ ((d == c) ≡ false × (d ≢ c)) → f d ≡ false
        each d (inl same) = ap f same.1 ∙ own
        each d (inr other) = others d other.1

-- where one control alone gets another value, no other is changed
others_stay : (plan : PlanData) (values : Values) (c : ℕ) (v : CtrlValue) (d : ℕ) → d ≢ c → changes plan values (slice_set values c v) (Some []) d ≡ false
others_stay plan values c v d other =
    rw (get_or-set_other values c d v zero_value other) (unchanged (value_at values d) (contains (control plan d).flags EXECUTE_ON_WRITE) false refl)

-- so only its own cluster is
own_changes : (plan : PlanData) (values : Values) (c k : ℕ) (v : CtrlValue) → cluster_of plan c ≡ Some k → members_change plan values (slice_set values c v) [] k ≡ not (is_same (value_at values c) (value_at (slice_set values c v) c))
own_changes plan values c k v is =
    sym (changed_row plan values (slice_set values c v) [] (members plan k))
    ∙ any_own (changes plan values (slice_set values c v) (Some [])) c (members plan k) (cluster_of_member plan c k is) (others_stay plan values c v)
    ∙ by (is_same (value_at values c) (value_at (slice_set values c v) c)) (contains (control plan c).flags EXECUTE_ON_WRITE)
  where
    by : (same acts : Bool) → (not same || (acts && false)) ≡ not same
    by false acts = refl
    by true acts = and_false acts

other_clusters_stay : (plan : PlanData) (values : Values) (c k : ℕ) (v : CtrlValue) (j : ℕ) → IsPlan plan → cluster_of plan c ≡ Some k → j ≢ k → members_change plan values (slice_set values c v) [] j ≡ false
other_clusters_stay plan values c k v j plans is other =
    sym (changed_row plan values (slice_set values c v) [] (members plan j))
    ∙ none_any (changes plan values (slice_set values c v) (Some [])) (members plan j) (λ d among. each d among (eqb_tells d c))
  where
    same_cluster : Some k ≡ Some j → j ≡ k
    same_cluster h = cc

    within : list_any (nat_eq c) (members plan j) ≡ true → ((leb (length plan.clusters) j ≡ true) × (length plan.clusters ≤ j)) ⊎ ((leb (length plan.clusters) j ≡ false) × (j < length plan.clusters)) → j < length plan.clusters
    within among (inl outside) = absurd (nobody (subst (λ (k : ClusterData). list_any (nat_eq c) k.members ≡ true) (get_or_past plan.clusters j no_cluster outside.1) among))
      where
        nobody : false ≡ true → ⊥
        nobody h = cc
    within among (inr inside) = inside.1

    each : (d : ℕ) → list_any (nat_eq d) (members plan j) ≡ true → ((d == c) ≡ true × (d ≡ c)) ⊎ ((d == c) ≡ false × (d ≢ c)) → changes plan values (slice_set values c v) (Some []) d ≡ false
    each d among (inl same) =
        let there : list_any (nat_eq c) (members plan j) ≡ true = subst (λ (x : ℕ). list_any (nat_eq x) (members plan j) ≡ true) same.1 among in
        absurd (other (same_cluster (sym is ∙ plans.members_apart j c (within there (leb_tells (length plan.clusters) j)) there)))
    each d among (inr apart) = others_stay plan values c v d apart.1

-- one cluster that is notified alone
one_notified : (says : Words) (plan : PlanData) (f : ℕ → Bool) (rows : ℕ → List CtrlValue) (k : ℕ) (words new : List ℕ) → ((j : ℕ) → j ≢ k → f j ≡ false) → k < length plan.clusters
    → IsNotified says plan k (f k) (rows k) words new → AreNotified says plan f rows words new
one_notified says plan f rows k words new others there is = record {
  each = is.each;
  own = λ j lt ch. own j ch (eqb_tells j k);
  others = λ j same. is.others j (λ e. subst (λ (i : ℕ). f i ≡ false) e (same (subst (λ (i : ℕ). i < length plan.clusters) (sym e) there)));
}
  where
    differ : false ≡ true → ⊥
    differ h = cc

    own : (j : ℕ) → f j ≡ true → ((j == k) ≡ true × (j ≡ k)) ⊎ ((j == k) ≡ false × (j ≢ k)) → MaySay says (calls_of plan j).notifier (rows j) (slice_index new j)
    own j ch (inl same) = subst (λ (i : ℕ). MaySay says (calls_of plan i).notifier (rows i) (slice_index new i)) (sym same.1) (is.own (subst (λ (i : ℕ). f i ≡ true) same.1 ch))
    own j ch (inr apart) = absurd (differ (sym (others j apart.1) ∙ ch))

-- one cluster that counts alone
one_from : (plan : PlanData) (f : ℕ → Bool) (k a n : ℕ) → ((j : ℕ) → j ≢ k → f j ≡ false) → a ≤ k → k < a + n
    → count_by (λ j. is_some (calls_of plan j).notifier && f j) (range_with_len a n) ≡ cond (is_some (calls_of plan k).notifier && f k) 1 0
one_from plan f k a zero others from within = absurd (omega (arith, from, within))
one_from plan f k a (suc n) others from within = sum_by-cons one a (range_with_len (a + 1) n) ∙ by (eqb_tells a k) (one_from plan f k (a + 1) n others)
  where
    one : ℕ → ℕ
    one j = cond (is_some (calls_of plan j).notifier && f j) 1 0

    no_count : ℕ
    no_count = 0

    uncounted : (b : Bool) → cond (b && false) 1 no_count ≡ 0
    uncounted b = rw (and_false b) refl

    behind : ℕ
    behind = count_by (λ j. is_some (calls_of plan j).notifier && f j) (range_with_len (a + 1) n)

    by : ((a == k) ≡ true × (a ≡ k)) ⊎ ((a == k) ≡ false × (a ≢ k)) → (a + 1 ≤ k → k < a + 1 + n → behind ≡ one k) → one a + behind ≡ one k
    by (inl same) rest_is =
        let rest : behind ≡ 0 = none_from plan f (a + 1) n (λ j at. others j (λ e. omega (arith, at, e, same.1))) in
        omega (arith, rest, ap one same.1)
    by (inr other) rest_is =
        let first : one a ≡ 0 = rw (others a other.1) (uncounted (is_some (calls_of plan a).notifier)) in
        omega (arith, first, rest_is (omega (arith, from, other.1)) (omega (arith, within)))

one_counted : (plan : PlanData) (f : ℕ → Bool) (k : ℕ) → ((j : ℕ) → j ≢ k → f j ≡ false) → k < length plan.clusters → after_change plan k (f k) 0 ≡ notified_count plan f
one_counted plan f k others there = by (calls_of plan k).notifier (f k) refl ∙ sym (one_from plan f k 0 (length plan.clusters) others (omega arith) (omega (arith, there)))
  where
    by : (o : Option Relation) (b : Bool) → (calls_of plan k).notifier ≡ o → after_change plan k b 0 ≡ cond (is_some (calls_of plan k).notifier && b) 1 0
    by None true is = rw is refl
    by (Some r) true is = rw is refl
    by o false is = sym (rw (and_false (is_some (calls_of plan k).notifier)) refl)

-- where one control alone gets another value, its own cluster is told, if it differs, and no other
pub told_alone : (says : Words) (plan : PlanData) (values after : Values) (c k : ℕ) (v : CtrlValue) (differs : Bool) (words new : List ℕ) → IsPlan plan → cluster_of plan c ≡ Some k → after ≡ slice_set values c v
    → differs ≡ not (is_same (value_at values c) (value_at after c)) → IsNotified says plan k differs (row_of after (members plan k)) words new
    → AreNotified says plan (members_change plan values after []) (λ j. row_of after (members plan j)) words new
told_alone says plan values after c k v differs words new plans is set d told =
    rw set
    (one_notified says plan (members_change plan values (slice_set values c v) []) (λ j. row_of (slice_set values c v) (members plan j)) k words new (λ j other. other_clusters_stay plan values c k v j plans is other) (cluster_of_within plan c k is)
    (rw (own_changes plan values c k v is, ← set, ← d) told))

pub counted_alone : (plan : PlanData) (values after : Values) (c k : ℕ) (v : CtrlValue) (differs : Bool) (count before : ℕ) → IsPlan plan → cluster_of plan c ≡ Some k → after ≡ slice_set values c v
    → differs ≡ not (is_same (value_at values c) (value_at after c)) → before ≡ 0 → count ≡ after_change plan k differs before → count ≡ notified_count plan (members_change plan values after [])
counted_alone plan values after c k v differs count before plans is set d fresh told =
    told
    ∙ ap (after_change plan k differs) fresh
    ∙ ap (λ (b : Bool). after_change plan k b 0) (d ∙ ap (λ (vs : Values). not (is_same (value_at values c) (value_at vs c))) set ∙ sym (own_changes plan values c k v is))
    ∙ one_counted plan (members_change plan values (slice_set values c v) []) k (λ j other. other_clusters_stay plan values c k v j plans is other) (cluster_of_within plan c k is)
    ∙ ap (λ (vs : Values). notified_count plan (members_change plan values vs [])) (sym set)

-- the values after a range change
pub values_ranged : (verdicts : Verdicts) (plan : PlanData) (older : Past) (c : ℕ) (changed : Control) (values after : Values) → IsRanged plan older c changed → values ≡ now verdicts plan older
    → after ≡ slice_set values c (settled_anew changed (value_at values c)) → after ≡ values_then verdicts plan older (range_step c changed)
values_ranged verdicts plan older c changed values after is own set =
    set ∙ ap (λ (vs : Values). slice_set vs c (settled_anew changed (value_at vs c))) own
    ∙ ap (λ (x : Control). slice_set (now verdicts plan older) c (settled_anew x (value_at (now verdicts plan older) c))) is.its_own

-- and the ranges
pub ranges_ranged : (plan : PlanData) (older : Past) (c : ℕ) (changed : Control) (ranges after : List Control) → IsRanged plan older c changed → ranges ≡ ranges_now plan older → after ≡ modified ranges c changed
    → after ≡ ranges_after (range_step c changed) (ranges_now plan older)
ranges_ranged plan older c changed ranges after is own set =
    set ∙ ap (λ (cs : List Control). modified cs c changed) own ∙ ap (modified (ranges_now plan older) c) is.its_own

-- what is kept after a range change
pub kept_range : (verdicts : Verdicts) (told : Words) (plan : PlanData) (steps steps' : History) (caches : Caches) (state : StateData) (b : BoardData) (words : List ℕ) (seat c : ℕ) (changed : Control)
    → IsKept verdicts told plan steps caches → IsRanged plan (past steps) c changed → steps' ≡ steps ++ record { seat = seat; step = range_step c changed } ∷ []
    → Makes verdicts plan (length steps) (range_step c changed) caches.state state
    → AreNotified told plan (members_change plan caches.state.controls.values state.controls.values []) (λ k. row_of state.controls.values (members plan k)) caches.words words
    → b ≡ board_over verdicts plan state.controls caches.board.queued
    → IsKept verdicts told plan steps' (record caches { state = state; board = b; words = words })
kept_range verdicts told plan steps steps' caches state b words seat c changed kept is s makes retold renewed =
    kept_makes verdicts told plan steps steps' caches (record caches { state = state; board = b; words = words }) (record { seat = seat; step = range_step c changed }) kept (range_room plan steps c changed is)
    (asks.ModifyRange c changed.minimum changed.maximum changed.step changed.default_value, ap fault_of is.accepted, refl) s makes
    (words_between told plan caches.state.controls.values state.controls.values [] caches.words words kept.words retold)
    caches.board.queued renewed (ap (λ (x : BoardData). x.queued) kept.board)

-- a range change that is accepted
pub handles_range : (verdicts : Verdicts) (told : Words) (old between new : DeviceData) (work : Work) (seat c : ℕ) (low high : ℤ) (apart : ℕ) (default_value : ℤ) (changed : Control) → between ≡ record old { work = work } → work ≡ at_rest
    → range_answer old.plan (past old.steps) c low high apart default_value ≡ Ok Done → changed ≡ with_range (control_in (ranges_now old.plan (past old.steps)) c) low high apart default_value
    → IsChangedBy verdicts told between new seat (range_step c changed) [] (cluster_asks old.plan (past old.steps) (cluster_of old.plan c)) → Handles verdicts old new seat (asks.ModifyRange c low high apart default_value) (Ok Done)
handles_range verdicts told old between new work seat c low high apart default_value changed begin rest accepted its_own does =
    let made : Control = with_range (control_in (ranges_now old.plan (past old.steps)) c) low high apart default_value in
    let most : ℕ = cluster_asks old.plan (past old.steps) (cluster_of old.plan c) in
    handles_changed verdicts told old between new work seat (asks.ModifyRange c low high apart default_value) (range_step c made) [] most Done begin (inl (sym accepted)) refl refl (omega (arith, ap (λ (w : Work). w.asked) rest)) (omega arith)
    (subst (λ (x : Control). IsChangedBy verdicts told between new seat (range_step c x) [] most) its_own does)
