-- What the raises between two moments make of the events of a file handle is what the history says.
use Rattle.std.proofs.Common.{arith, suc, ◌++◌, append-nil, append_assoc, length-append, ◌≡◌, ◌∙◌, ◌≤◌, ◌+◌, ◌*◌, mul-le-mul, ℕ, ℤ, Bool, true, false, not, ◌&&◌, ◌||◌, List, [], ◌∷◌, length, Option, None, Some, refl, ap, sym}
use Rattle.ctrl_types.proofs.ValueLemmas.{Decides-same}
use Rattle.ctrl_types.specs.Values.{is_same}
use Rattle.history.specs.declared.entry.Entry.{Entry}
use Rattle.ctrl_types.specs.Flags.{contains}
use Rattle.ctrl_types.specs.declared.changes.Changes.{Changes}
use Rattle.ctrl_types.specs.declared.flags.TheConstants.Flags.{EXECUTE_ON_WRITE}
use Rattle.ctrl_types.specs.declared.ids.FhId.{FhId}
use Rattle.ctrl_types.specs.declared.ids.Pair.{Pair}
use Rattle.ctrl_types.specs.declared.ids.RequestId.{RequestId}
use Rattle.ctrl_calls.specs.Meanings.{Verdicts}
use Rattle.history.specs.Past.{past}
use Rattle.history.proofs.Pasts.{past_add}
use Rattle.ctrl_clusters.specs.ControlsData.{ControlsData}
use Rattle.ctrl_events.specs.declared.event.Waiting.{Waiting}
use Rattle.ctrl_events.specs.Pending.{Happening, raise, raises as raises_in}
use Rattle.ctrl_events.specs.declared.event.Payload.{Payload}
use Rattle.ctrl_events.specs.Events.{FileEvents}
use Rattle.ctrl_handlers.specs.Plan.{IsPlan, PlanData, control, control_in}
use Rattle.ctrl_clusters.specs.Changes.{is_changed}
use Rattle.ctrl_clusters.specs.Rows.{Values, value_at}
use Rattle.ctrl_raises.specs.Raises.{changed_between, changes_of, differ, needing_feedback, payload_at, raised_all, raised_one, range_differs}
use Rattle.device_history.specs.declared.ask.Step.{Step}
use Rattle.device_history.specs.declared.ask.Step.TheVariants as steps
use Rattle.device_history.specs.declared.limits.TheConstants.{MAX_STEPS}
use Rattle.device_history.specs.Steps.{History, Past}
use Rattle.device_history.specs.Controls.{controls_now}
use Rattle.device_history.specs.Ranges.{ranges_now}
use Rattle.device_history.specs.Values.{now, values_after}
use Rattle.device_history.specs.Flags.{flags_now}
use Rattle.device_history.specs.Snapshots.{begun_pairs}
use Rattle.device_history.specs.Words.{pairs_applied, changes}
use Rattle.device_history.specs.Events.{changed, happened, payload, raises, raises_from, all_raised_for, value_differs, with_withdrawn, with_raises, from_of}
use Rattle.device_history.specs.EventSteps.{AreAround, AreEvents, raised_by}
use Rattle.device_history.proofs.EventLemmas.{values_controls_left}
use Rattle.device_history.proofs.RaiseBounds.{next_bound, raises_gone}

-- raises of the same changes, payloads and callers
raised_same : (change change' : ℕ → Changes) (told told' : ℕ → Payload) (from from' : ℕ → Option ℕ) (fh : ℕ) (cs : List ℕ) (f : FileEvents)
    → ((c : ℕ) → change c ≡ change' c) → ((c : ℕ) → told c ≡ told' c) → ((c : ℕ) → from c ≡ from' c) → raised_all change told from fh cs f ≡ raised_all change' told' from' fh cs f
unfolding raised_all
raised_same change change' told told' from from' fh [] f one two three = refl
raised_same change change' told told' from from' fh (c ∷ cs) f one two three =
    ap (λ (x : Changes). raised_all change told from fh cs (raised_one x (told c) (from c) fh c f)) (one c)
    ∙ ap (λ (x : Payload). raised_all change told from fh cs (raised_one (change' c) x (from c) fh c f)) (two c)
    ∙ ap (λ (x : Option ℕ). raised_all change told from fh cs (raised_one (change' c) (told' c) x fh c f)) (three c)
    ∙ raised_same change change' told told' from from' fh cs (raised_one (change' c) (told' c) (from' c) fh c f) one two three

payload_same : (verdicts : Verdicts) (plan : PlanData) (past : Past) (at : ControlsData) → at ≡ controls_now verdicts plan past → (c : ℕ) → payload_at plan at c ≡ payload verdicts plan past c
payload_same verdicts plan past at is c = ap (λ (m : ControlsData). payload_at plan m c) is

changed_same : (verdicts : Verdicts) (plan : PlanData) (e : Entry Step) (older : Past) (before after : ControlsData) (pairs : List Pair) → AreAround verdicts plan e older before after → (c : ℕ)
    → is_changed plan (now verdicts plan older) pairs c (value_at (now verdicts plan (e ∷ older)) c) ≡ value_differs verdicts plan e older c → changed_between plan before after pairs c ≡ changed verdicts plan e older c
changed_same verdicts plan e older before after pairs around c is =
    (λ i. changed_between plan (around.old i) (around.new i) pairs c)
    ∙ ap (λ (b : Bool). changes_of b (differ (flags_now verdicts plan older c) (flags_now verdicts plan (e ∷ older) c)) (range_differs (control_in (ranges_now plan older) c) (control_in (ranges_now plan (e ∷ older)) c))) is

-- raises between the moments around an entry
raised_around : (verdicts : Verdicts) (plan : PlanData) (e : Entry Step) (older : Past) (before after : ControlsData) (pairs : List Pair) (from : Option ℕ) (fh : FhId) (cs : List ℕ) (f : FileEvents)
    → AreAround verdicts plan e older before after → ((c : ℕ) → is_changed plan (now verdicts plan older) pairs c (value_at (now verdicts plan (e ∷ older)) c) ≡ value_differs verdicts plan e older c)
    → ((change : Changes) (c : ℕ) → needing_feedback from pairs change c ≡ from_of e.step change c)
    → raised_all (changed_between plan before after pairs) (payload_at plan after) (λ c. needing_feedback from pairs (changed_between plan before after pairs c) c) fh.0 cs f ≡ raised_by verdicts plan e older fh cs f
raised_around verdicts plan e older before after pairs from fh cs f around differs hears =
    raised_same _ (changed verdicts plan e older) _ (payload verdicts plan (e ∷ older)) _ (λ c. from_of e.step (changed verdicts plan e older c) c) fh.0 cs f
    (λ c. changed_same verdicts plan e older before after pairs around c (differs c))
    (payload_same verdicts plan (e ∷ older) after around.new)
    (λ c. ap (λ (x : Changes). needing_feedback from pairs x c) (changed_same verdicts plan e older before after pairs around c (differs c)) ∙ hears (changed verdicts plan e older c) c)

-- The raises of a set.
pub set_raises : (verdicts : Verdicts) (plan : PlanData) (e : Entry Step) (older : Past) (before after : ControlsData) (from : FhId) (pairs : List Pair) (fh : FhId) (cs : List ℕ) (f : FileEvents)
    → e.step ≡ steps.Set from pairs → AreAround verdicts plan e older before after
    → raised_all (changed_between plan before after pairs) (payload_at plan after) (λ c. needing_feedback (Some from.0) pairs (changed_between plan before after pairs c) c) fh.0 cs f ≡ raised_by verdicts plan e older fh cs f
set_raises verdicts plan e older before after from pairs fh cs f is around =
    raised_around verdicts plan e older before after pairs (Some from.0) fh cs f around
    (λ c. sym (ap (λ (s : Step). changes plan (now verdicts plan older) (now verdicts plan (e ∷ older)) (pairs_applied verdicts plan older s) c) is))
    (λ change c. sym (ap (λ (s : Step). from_of s change c) is))

-- The raises of the begin of a frame.
pub begin_raises : (verdicts : Verdicts) (plan : PlanData) (e : Entry Step) (older : Past) (before after : ControlsData) (r : RequestId) (fh : FhId) (cs : List ℕ) (f : FileEvents)
    → e.step ≡ steps.Begin r → AreAround verdicts plan e older before after
    → raised_all (changed_between plan before after (begun_pairs verdicts plan older r.0)) (payload_at plan after) (λ c. needing_feedback None (begun_pairs verdicts plan older r.0) (changed_between plan before after (begun_pairs verdicts plan older r.0) c) c) fh.0 cs f
    ≡ raised_by verdicts plan e older fh cs f
begin_raises verdicts plan e older before after r fh cs f is around =
    raised_around verdicts plan e older before after (begun_pairs verdicts plan older r.0) None fh cs f around
    (λ c. sym (ap (λ (s : Step). changes plan (now verdicts plan older) (now verdicts plan (e ∷ older)) (pairs_applied verdicts plan older s) c) is))
    (λ change c. sym (ap (λ (s : Step). from_of s change c) is))

-- what stays doesn't change where nothing was applied
unchanged : (plan : PlanData) (values : Values) (c : ℕ) → is_changed plan values [] c (value_at values c) ≡ false
unchanged plan values c = by (is_same (value_at values c) (value_at values c)) ((Decides-same (value_at values c) (value_at values c)).1 refl) (contains (control plan c).flags EXECUTE_ON_WRITE)
  where
    by : (b : Bool) → b ≡ true → (w : Bool) → (not b || (w && false)) ≡ false
    by true is true = refl
    by true is false = refl
    by false is w = cc

-- The raises of a grab.
pub grab_raises : (verdicts : Verdicts) (plan : PlanData) (e : Entry Step) (older : Past) (before after : ControlsData) (d : ℕ) (on : Bool) (fh : FhId) (cs : List ℕ) (f : FileEvents)
    → e.step ≡ steps.Grab d on → AreAround verdicts plan e older before after
    → raised_all (changed_between plan before after []) (payload_at plan after) (λ c. needing_feedback None [] (changed_between plan before after [] c) c) fh.0 cs f ≡ raised_by verdicts plan e older fh cs f
grab_raises verdicts plan e older before after d on fh cs f is around =
    raised_around verdicts plan e older before after [] None fh cs f around
    (λ c. ap (λ (vs : Values). is_changed plan (now verdicts plan older) [] c (value_at vs c)) (values_controls_left verdicts plan e older (ap (λ (s : Step). values_after verdicts plan older s (now verdicts plan older)) is)) ∙ unchanged plan (now verdicts plan older) c
    ∙ sym (ap (λ (s : Step). changes plan (now verdicts plan older) (now verdicts plan (e ∷ older)) (pairs_applied verdicts plan older s) c) is))
    (λ change c. sym (ap (λ (s : Step). from_of s change c) is))

-- The raises of a range change.
pub range_raises : (verdicts : Verdicts) (plan : PlanData) (e : Entry Step) (older : Past) (before after : ControlsData) (d : ℕ) (low high : ℤ) (apart : ℕ) (default_value : ℤ) (fh : FhId) (cs : List ℕ) (f : FileEvents)
    → e.step ≡ steps.ModifyRange d low high apart default_value → AreAround verdicts plan e older before after
    → raised_all (changed_between plan before after []) (payload_at plan after) (λ c. needing_feedback None [] (changed_between plan before after [] c) c) fh.0 cs f ≡ raised_by verdicts plan e older fh cs f
range_raises verdicts plan e older before after d low high apart default_value fh cs f is around =
    raised_around verdicts plan e older before after [] None fh cs f around
    (λ c. sym (ap (λ (s : Step). changes plan (now verdicts plan older) (now verdicts plan (e ∷ older)) (pairs_applied verdicts plan older s) c) is))
    (λ change c. sym (ap (λ (s : Step). from_of s change c) is))

-- What a subscription tells at once.
pub subscribe_tells : (verdicts : Verdicts) (plan : PlanData) (e : Entry Step) (older : Past) (at : ControlsData) (c : ℕ) → at ≡ controls_now verdicts plan (e ∷ older) → payload_at plan at c ≡ payload verdicts plan (e ∷ older) c
subscribe_tells verdicts plan e older at c is = payload_same verdicts plan (e ∷ older) at is c

-- There is a number for each raise of one more step.
pub numbers_left : (verdicts : Verdicts) (plan : PlanData) (past : Past) (fh : FhId) (f : FileEvents) → IsPlan plan → length past ≤ MAX_STEPS → AreEvents verdicts plan past fh f → f.next + length plan.controls ≤ 4294967295
numbers_left verdicts plan past fh f plans few are =
    let bound = next_bound verdicts plan past fh in
    let most : length plan.controls * length past ≤ 256 * MAX_STEPS = mul-le-mul plans.few_controls few in
    omega (arith, bound, most, are.next, plans.few_controls)

-- raises behind others
raises_behind : (told : ℕ → Payload) (rs : List (ℕ × Changes)) (hs : List Happening) → raises_in (with_raises told rs hs) ≡ raises_in hs ++ raises_from (length (raises_in hs)) told rs
unfolding with_raises raises_in raises_from
raises_behind told [] hs = sym (append-nil (raises_in hs))
raises_behind told (r ∷ rs) hs =
    let w : Waiting = record { control = r.0; changes = r.1; payload = told r.0; sequence = length (raises_in hs) } in
    let one = length-append (raises_in hs) (w ∷ []) in
    let next : length (raises_in hs ++ w ∷ []) ≡ suc (length (raises_in hs)) = omega (arith, one) in
    raises_behind told rs (raise w ∷ hs)
    ∙ ap (λ (n : ℕ). (raises_in hs ++ w ∷ []) ++ raises_from n told rs) next
    ∙ append_assoc (raises_in hs) (w ∷ []) (raises_from (suc (length (raises_in hs))) told rs)

-- The raises for a file handle, entry by entry.
pub raises_start : (verdicts : Verdicts) (plan : PlanData) (fh : FhId) → raises verdicts plan (past []) fh ≡ []
unfolding happened raises_in
raises_start verdicts plan fh = refl

raises_more : (verdicts : Verdicts) (plan : PlanData) (e : Entry Step) (older : Past) (fh : FhId) → raises verdicts plan (e ∷ older) fh
    ≡ raises verdicts plan older fh ++ raises_from (length (raises verdicts plan older fh)) (payload verdicts plan (e ∷ older)) (all_raised_for verdicts plan e older fh)
unfolding happened
raises_more verdicts plan e older fh =
    raises_behind (payload verdicts plan (e ∷ older)) (all_raised_for verdicts plan e older fh) (with_withdrawn fh e.step (happened verdicts plan older fh))
    ∙ ap (λ (ws : List Waiting). ws ++ raises_from (length ws) (payload verdicts plan (e ∷ older)) (all_raised_for verdicts plan e older fh)) (raises_gone fh e.step (happened verdicts plan older fh))

pub raises_add : (verdicts : Verdicts) (plan : PlanData) (steps : History) (e : Entry Step) (fh : FhId) → raises verdicts plan (past (steps ++ e ∷ [])) fh
    ≡ raises verdicts plan (past steps) fh ++ raises_from (length (raises verdicts plan (past steps) fh)) (payload verdicts plan (past (steps ++ e ∷ []))) (all_raised_for verdicts plan e (past steps) fh)
raises_add verdicts plan entries e fh = rw (past_add entries e) (raises_more verdicts plan e (past entries) fh)
