-- What is due, what is asked for, and what refuses it.
use Rattle.std.proofs.Common.{◌≡◌, ◌⊎◌, inl, inr, ℕ, ℤ, ◌<◌, ◌≤◌, ◌+◌, Bool, true, false, if◌then◌else◌, nat_eq, nat_le, List, [], ◌∷◌, ◌++◌, append-nil, length, map, filter_map, slice_index_or, take, IfSome, Option, None, Some, Err, refl, ap, sym, subst, ◌∙◌, arith}
use Rattle.std.specs.List.{All, cons_option, range_with_len}
use Rattle.std.specs.Map.{lookup}
use Rattle.std.specs.Option.{option_and_then, option_map}
use Rattle.std.specs.Result.{result_err}
use Rattle.std.proofs.lemmas.Bool.{leb-true}
use Rattle.std.proofs.lemmas.List.{length_push, map-id, map_push, take_more}
use Rattle.std.proofs.lemmas.List.Elements.{All-push, filter_map-append}
use Rattle.std.proofs.lemmas.List.FromFn.{map-range_with_len_more}
use Rattle.history.specs.Past.{past}
use Rattle.ctrl_types.specs.declared.check.Check.TheVariants.{ControlMissing, HistoryFull, MemoryRefused}
use Rattle.ctrl_types.specs.declared.errno.Fault.{Fault}
use Rattle.ctrl_calls.specs.Meanings.{Verdicts}
use Rattle.ctrl_settle.specs.Control.{Control, with_range}
use Rattle.ctrl_settle.specs.Faults.{IsWellFormed, range_check_of}
use Rattle.ctrl_settle.specs.FirstFault.{first_fault}
use Rattle.ctrl_settle.proofs.WellFormed.{nothing_found}
use Rattle.ctrl_handlers.specs.Plan.{PlanData, control, control_in}
use Rattle.ctrl_clusters.specs.Rows.{Values}
use Rattle.device_history.specs.declared.ask.Ask.TheVariants.{ModifyRange}
use Rattle.device_history.specs.declared.ask.Reply.TheVariants.{Done}
use Rattle.device_history.specs.Ranges.{RangeData, control_with_range, range_answer, range_check, ranged_if_given, ranges_made, ranges_now}
use Rattle.device_history.specs.Refusals.{Answer, fault_by, is_full, stepped, unless_refused}
use Rattle.device_history.specs.Steps.{Past}
use Rattle.device_history.proofs.RangeLemmas.{control_at_now}
use Rattle.device_state.specs.Device.{DeviceData, Handles}
use Rattle.device_state.specs.Runs.{Call, IsRun}
use Rattle.range_followers.specs.declared.follower.Follower.{Follower}
use Rattle.range_followers.specs.Wanted.{can_follow, default_from, follower_of, has_range_of, number_from, range_due, unless_there, wanted_by, wanted_of, wanted_range}
use Rattle.following_ranges.specs.declared.asking.RangeAsk.{RangeAsk}
use Rattle.following_ranges.specs.Following.{IsOfRoom, IsOwn, RangeFor, answer_by, range_call, range_for, with_found}

-- one more call
run_more : (verdicts : Verdicts) (calls : List Call) (first middle last : DeviceData) (call : Call) → IsRun verdicts first calls middle → Handles verdicts middle last call.seat call.ask call.answer
    → IsRun verdicts first (calls ++ call ∷ []) last
unfolding IsRun
run_more verdicts [] first middle last call run does = (last, subst (λ (d : DeviceData). Handles verdicts d last call.seat call.ask call.answer) run does, refl)
run_more verdicts (c ∷ calls) first middle last call run does = (run.0, run.1, run_more verdicts calls run.0 middle last call run.2 does)

-- no call
run_none : (verdicts : Verdicts) (device : DeviceData) → IsRun verdicts device [] device
unfolding IsRun
run_none verdicts device = refl

range_more : (n : ℕ) → range_with_len 0 (n + 1) ≡ range_with_len 0 n ++ n ∷ []
range_more n = sym (map-id (range_with_len 0 (n + 1))) ∙ map-range_with_len_more (λ k. k) 0 n n (omega arith) ∙ ap (λ ks. ks ++ n ∷ []) (map-id (range_with_len 0 n))

found_more : {X : Type 0} (f : ℕ → Option X) (n : ℕ) → filter_map f (range_with_len 0 (n + 1)) ≡ filter_map f (range_with_len 0 n) ++ cons_option (f n) []
found_more f n = ap (filter_map f) (range_more n) ∙ filter_map-append f (range_with_len 0 n) (n ∷ [])

-- one more number, of which something is found
found_pushed : {X : Type 0} (f : ℕ → Option X) (n : ℕ) (one : X) (old new : List X) → f n ≡ Some one → old ≡ filter_map f (range_with_len 0 n) → new ≡ old ++ one ∷ []
    → new ≡ filter_map f (range_with_len 0 (n + 1))
found_pushed f n one old new is so_far pushed =
    pushed ∙ ap (λ xs. xs ++ one ∷ []) so_far ∙ sym (found_more f n ∙ ap (λ o. filter_map f (range_with_len 0 n) ++ cons_option o []) is)

-- one more, of which nothing is
none_found : {X : Type 0} (f : ℕ → Option X) (n : ℕ) (old : List X) → f n ≡ None → old ≡ filter_map f (range_with_len 0 n) → old ≡ filter_map f (range_with_len 0 (n + 1))
none_found f n old is so_far =
    so_far ∙ sym (append-nil (filter_map f (range_with_len 0 n))) ∙ sym (found_more f n ∙ ap (λ o. filter_map f (range_with_len 0 n) ++ cons_option o []) is)

-- what was found of one more number, where something was
pub found_added : {X : Type 0} (f : ℕ → Option X) (n : ℕ) (found : Option X) (old new : List X) → found ≡ f n → new ≡ with_found found old → old ≡ filter_map f (range_with_len 0 n)
    → new ≡ filter_map f (range_with_len 0 (n + 1))
found_added f n None old new is added so_far = added ∙ none_found f n old (sym is) so_far
found_added f n (Some one) old new is added so_far = found_pushed f n one old new (sym is) so_far added

pub few_added : {X : Type 0} (n : ℕ) (found : Option X) (old new : List X) → new ≡ with_found found old → length old ≤ n → length new ≤ n + 1
few_added n None old new added few = let same : length new ≡ length old = ap length added in omega (arith, same, few)
few_added n (Some one) old new added few = let more : length new ≡ length old + 1 = ap length added ∙ length_push old one in omega (arith, more, few)

pub all_added : {X : Type 0} (P : X → Type 0) (found : Option X) (old new : List X) → new ≡ with_found found old → All P old → IfSome found P → All P new
all_added P None old new added all own = subst (All P) (sym added) all
all_added P (Some one) old new added all own = subst (All P) (sym added) (All-push P old one all own)

pub all_pushed : {X : Type 0} (P : X → Type 0) (old new : List X) (one : X) → new ≡ old ++ one ∷ [] → All P old → P one → All P new
all_pushed P old new one pushed all own = subst (All P) (sym pushed) (All-push P old one all own)

-- a control with another range is the plan's with it, whatever range it had
ranged_anew : (ctrl : Control) (given : Option RangeData) (low high : ℤ) (apart : ℕ) (default_value : ℤ) → with_range (ranged_if_given ctrl given) low high apart default_value ≡ with_range ctrl low high apart default_value
ranged_anew ctrl None low high apart default_value = refl
ranged_anew ctrl (Some range) low high apart default_value = refl

own_range : (plan : PlanData) (past : Past) (c : ℕ) (low high : ℤ) (apart : ℕ) (default_value : ℤ) → c < length plan.controls
    → control_with_range (ranges_now plan past) c low high apart default_value ≡ with_range (control plan c) low high apart default_value
own_range plan past c low high apart default_value there =
    ap (λ (ctrl : Control). with_range ctrl low high apart default_value) (control_at_now plan past c there)
    ∙ ranged_anew (control plan c) (lookup (nat_eq c) (ranges_made past)) low high apart default_value

-- what is due is the control with another range, and so the plan's with it
due_own : (plan : PlanData) (past : Past) (c : ℕ) (wanted : Control) (low high default_value : ℤ) → c < length plan.controls
    → wanted ≡ with_range (control_in (ranges_now plan past) c) low high (control_in (ranges_now plan past) c).step default_value
    → wanted ≡ with_range (control plan c) wanted.minimum wanted.maximum wanted.step wanted.default_value
due_own plan past c wanted low high default_value there is =
    let at : Control = control_in (ranges_now plan past) c in
    let so : wanted ≡ with_range (control plan c) low high at.step default_value = is ∙ own_range plan past c low high at.step default_value there in
    subst (λ (w : Control). w ≡ with_range (control plan c) w.minimum w.maximum w.step w.default_value) (sym so) refl

-- nothing refuses such a range, but that there is no room
passes : (plan : PlanData) (past : Past) (c : ℕ) (wanted : Control) → c < length plan.controls → wanted ≡ with_range (control plan c) wanted.minimum wanted.maximum wanted.step wanted.default_value → IsWellFormed wanted
    → range_check plan past c wanted.minimum wanted.maximum wanted.step wanted.default_value ≡ None
passes plan past c wanted there own well =
    let whole : control_with_range (ranges_now plan past) c wanted.minimum wanted.maximum wanted.step wanted.default_value ≡ wanted =
    own_range plan past c wanted.minimum wanted.maximum wanted.step wanted.default_value there ∙ sym own in
    let fault : first_fault (control_with_range (ranges_now plan past) c wanted.minimum wanted.maximum wanted.step wanted.default_value) ≡ None = ap first_fault whole ∙ nothing_found wanted well in
    by (nat_le (length plan.controls) c) refl fault
  where
    by : (b : Bool) → nat_le (length plan.controls) c ≡ b → first_fault (control_with_range (ranges_now plan past) c wanted.minimum wanted.maximum wanted.step wanted.default_value) ≡ None
        → (if b then Some ControlMissing else option_map range_check_of (first_fault (control_with_range (ranges_now plan past) c wanted.minimum wanted.maximum wanted.step wanted.default_value))) ≡ None
    by true e fault = let up : length plan.controls ≤ c = leb-true (length plan.controls) c e in absurd (omega (arith, there, up))
    by false e fault = ap (option_map range_check_of) fault

-- what is said where no further step is kept, or else it is done; and where memory is wanted
full_or_done : (full : Bool) (answer : Answer) → answer ≡ unless_refused (if full then Some HistoryFull else None) Done → IsOfRoom (result_err answer) × (answer ≡ answer_by (result_err answer))
full_or_done true answer is = rw is (inr refl, refl)
full_or_done false answer is = rw is (tt, refl)

lacking : (answer : Answer) → answer ≡ Err (fault_by MemoryRefused) → IsOfRoom (result_err answer) × (answer ≡ answer_by (result_err answer))
lacking answer is = rw is (inl refl, refl)

-- what a range is answered
range_answered : {P : Type 0} (plan : PlanData) (past : Past) (c : ℕ) (wanted : Control) (answer : Answer) → c < length plan.controls
    → wanted ≡ with_range (control plan c) wanted.minimum wanted.maximum wanted.step wanted.default_value → IsWellFormed wanted
    → (answer ≡ range_answer plan past c wanted.minimum wanted.maximum wanted.step wanted.default_value) ⊎ (P × (answer ≡ Err (fault_by MemoryRefused)))
    → IsOfRoom (result_err answer) × (answer ≡ answer_by (result_err answer))
range_answered plan past c wanted answer there own well (inl is) =
    full_or_done (is_full past) answer (is ∙ ap (λ o. stepped o past Done) (passes plan past c wanted there own well))
range_answered plan past c wanted answer there own well (inr lacks) = lacking answer lacks.1

-- what asking for a range does, where its parts are read from the control
pub asked_so : (verdicts : Verdicts) (old new : DeviceData) (seat c : ℕ) (wanted : Control) (low high : ℤ) (apart : ℕ) (default_value : ℤ) (answer : Answer) (refusal : Option Fault)
    → IsOwn old.plan (c, wanted) → low ≡ wanted.minimum → high ≡ wanted.maximum → apart ≡ wanted.step → default_value ≡ wanted.default_value
    → Handles verdicts old new seat (ModifyRange c low high apart default_value) answer → refusal ≡ result_err answer
    → IsOfRoom refusal × Handles verdicts old new seat (ModifyRange c wanted.minimum wanted.maximum wanted.step wanted.default_value) (answer_by refusal)
asked_so verdicts old new seat c wanted low high apart default_value answer refusal own is_low is_high is_apart is_default does is =
    let does_low : Handles verdicts old new seat (ModifyRange c wanted.minimum high apart default_value) answer =
    subst (λ (x : ℤ). Handles verdicts old new seat (ModifyRange c x high apart default_value) answer) is_low does in
    let does_high : Handles verdicts old new seat (ModifyRange c wanted.minimum wanted.maximum apart default_value) answer =
    subst (λ (x : ℤ). Handles verdicts old new seat (ModifyRange c wanted.minimum x apart default_value) answer) is_high does_low in
    let does_apart : Handles verdicts old new seat (ModifyRange c wanted.minimum wanted.maximum wanted.step default_value) answer =
    subst (λ (x : ℕ). Handles verdicts old new seat (ModifyRange c wanted.minimum wanted.maximum x default_value) answer) is_apart does_high in
    let does_all : Handles verdicts old new seat (ModifyRange c wanted.minimum wanted.maximum wanted.step wanted.default_value) answer =
    subst (λ (x : ℤ). Handles verdicts old new seat (ModifyRange c wanted.minimum wanted.maximum wanted.step x) answer) is_default does_apart in
    let told = range_answered old.plan (past old.steps) c wanted answer own.0 own.1 own.2 does_all.answers in (
      subst IsOfRoom (sym is) told.0,
      subst (λ (a : Answer). Handles verdicts old new seat (ModifyRange c wanted.minimum wanted.maximum wanted.step wanted.default_value) a) (told.1 ∙ ap answer_by (sym is)) does_all,
    )

-- what is wanted is the control with other bounds and another default
abbrev IsRangeOf : Control → Control → Type 0
IsRangeOf ctrl w = w ≡ with_range ctrl w.minimum w.maximum ctrl.step w.default_value

same_found : {X : Type 0} (a b : X) → Some a ≡ Some b → a ≡ b
same_found a b e = cc

of_kind : (ctrl : Control) (low high : Option ℤ) (number : ℤ) (w : Control) (b : Bool) → (if b then Some (wanted_of ctrl low high number) else None) ≡ Some w → IsRangeOf ctrl w
of_kind ctrl low high number w true e = subst (IsRangeOf ctrl) (same_found (wanted_of ctrl low high number) w e) refl
of_kind ctrl low high number w false e = absurd (cc)

of_follower : (ctrl : Control) (values : Values) (found : Option Follower) (w : Control) → option_and_then (wanted_by ctrl values) found ≡ Some w → IsRangeOf ctrl w
of_follower ctrl values None w e = absurd (cc)
of_follower ctrl values (Some f) w e =
    of_kind ctrl (option_map (number_from values) f.minimum) (option_map (number_from values) f.maximum) (default_from values f.default_value) w (can_follow ctrl.kind) e

unless_same : (wanted w : Control) (b : Bool) → (if b then None else Some wanted) ≡ Some w → Some wanted ≡ Some w
unless_same wanted w true e = absurd (cc)
unless_same wanted w false e = e

of_wanted : (ctrl : Control) (wanted : Option Control) (w : Control) → unless_there ctrl wanted ≡ Some w → wanted ≡ Some w
of_wanted ctrl None w e = e
of_wanted ctrl (Some wanted) w e = unless_same wanted w (has_range_of ctrl wanted) e

-- so a range that is due is its control's
pub due_is_own : (plan : PlanData) (past : Past) (c : ℕ) (followers : List Follower) (values : Values) (ctrl w : Control) → c < length plan.controls → ctrl ≡ control_in (ranges_now plan past) c
    → Some w ≡ range_due followers c ctrl values → IsWellFormed w → IsOwn plan (c, w)
due_is_own plan past c followers values ctrl w there at is well =
    let own : IsRangeOf ctrl w = of_follower ctrl values (follower_of followers c) w (of_wanted ctrl (wanted_range followers c ctrl values) w (sym is)) in
    (there, due_own plan past c w w.minimum w.maximum w.default_value there (subst (λ (x : Control). IsRangeOf x w) at own), well)

-- the range at a place is its control's, as long as the plan stays
pub own_at : (plan now : PlanData) (due : List RangeFor) (i : ℕ) (d : RangeFor) → now ≡ plan → d ≡ slice_index_or due i d → All (IsOwn plan) due → i < length due → IsOwn now d
own_at plan now due i d same is all within = subst (λ (p : PlanData). IsOwn p d) (sym same) (subst (IsOwn plan) (sym is) (all i d within))

-- one more is asked for
pub asked_pushed : (due : List RangeFor) (i : ℕ) (d : RangeFor) (old new : List RangeAsk) (one : RangeAsk) → i < length due → d ≡ slice_index_or due i d → range_for one ≡ d → new ≡ old ++ one ∷ []
    → map range_for old ≡ take i due → map range_for new ≡ take (i + 1) due
asked_pushed due i d old new one within is own pushed so_far =
    ap (map range_for) pushed ∙ map_push range_for old one ∙ ap (λ xs. xs ++ range_for one ∷ []) so_far ∙ ap (λ (r : RangeFor). take i due ++ r ∷ []) (own ∙ is) ∙ sym (take_more due i d within)

pub run_pushed : (verdicts : Verdicts) (first middle last : DeviceData) (seat : ℕ) (old new : List RangeAsk) (one : RangeAsk) → new ≡ old ++ one ∷ [] → IsRun verdicts first (map (range_call seat) old) middle
    → Handles verdicts middle last seat (ModifyRange one.control one.wanted.minimum one.wanted.maximum one.wanted.step one.wanted.default_value) (answer_by one.refusal) → IsRun verdicts first (map (range_call seat) new) last
run_pushed verdicts first middle last seat old new one pushed run does =
    subst (λ (calls : List Call). IsRun verdicts first calls last) (sym (ap (map (range_call seat)) pushed ∙ map_push (range_call seat) old one))
    (run_more verdicts (map (range_call seat) old) first middle last (range_call seat one) run does)

pub run_nothing : (verdicts : Verdicts) (device : DeviceData) (seat : ℕ) (asked : List RangeAsk) → asked ≡ [] → IsRun verdicts device (map (range_call seat) asked) device
run_nothing verdicts device seat asked none = subst (λ (a : List RangeAsk). IsRun verdicts device (map (range_call seat) a) device) (sym none) (run_none verdicts device)
