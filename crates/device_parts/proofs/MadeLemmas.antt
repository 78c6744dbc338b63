-- What is so of a state that steps made.
use Rattle.std.proofs.Common.{◌≡◌, ℕ, ◌≤◌, nat_eq, [], ◌∷◌, ◌++◌, length, None, ap, sym, ◌∙◌, subst, arith}
use Rattle.std.specs.Map.{lookup}
use Rattle.history.specs.declared.entry.Entry.{Entry}
use Rattle.history.specs.Past.{past}
use Rattle.history.proofs.Pasts.{length_past}
use Rattle.ctrl_calls.specs.Meanings.{Verdicts}
use Rattle.ctrl_types.specs.declared.ids.FhId.{FhId}
use Rattle.ctrl_clusters.specs.Rows.{AreControlsOf}
use Rattle.ctrl_events.specs.Events.{FileEvents, events_of}
use Rattle.ctrl_handlers.specs.Plan.{IsPlan, PlanData}
use Rattle.device_history.specs.declared.ask.Step.{Step}
use Rattle.device_history.specs.declared.limits.TheConstants.{MAX_STEPS}
use Rattle.device_history.specs.Steps.{History}
use Rattle.device_history.specs.Handles.{opened, ever_opened, opened_after}
use Rattle.device_history.specs.Controls.{controls_after, controls_now}
use Rattle.device_history.specs.Snapshots.{frames}
use Rattle.device_history.specs.FrameSteps.{frames_after}
use Rattle.device_history.specs.EventSteps.{AreEvents, events_after}
use Rattle.device_history.specs.Legal.{IsLegal, MayFollow}
use Rattle.device_history.proofs.EventLemmas.{events_add, events_start}
use Rattle.device_history.proofs.FrameLaw.{frames_start, frames_add}
use Rattle.device_history.proofs.RaiseLaw.{numbers_left}
use Rattle.device_history.proofs.PastLemmas.{opened_add, opened_fresh, legal_add}
use Rattle.device_history.proofs.ControlsLemmas.{controls_add, controls_start, grabs_of, ranges_of, values_of}
use Rattle.device_history.proofs.PresentLemmas.{length_grabbed, length_now}
use Rattle.device_history.proofs.RangeLemmas.{ranges_own}
use Rattle.device_parts.specs.State.{IsMade, IsReady, IsStart, StateData}

-- what a device starts with is what no step makes
pub made_start : (verdicts : Verdicts) (plan : PlanData) (state : StateData) → IsPlan plan → IsStart plan state → IsMade verdicts plan [] state
unfolding IsLegal opened ever_opened
made_start verdicts plan state plans start = record {
  plans = plans;
  legal = tt;
  file_handles = start.file_handles;
  controls = start.controls ∙ sym (controls_start verdicts plan);
  frames = start.frames ∙ sym (frames_start verdicts plan);
  events = λ fh. subst (λ (k : FileEvents). AreEvents verdicts plan (past []) fh k) (sym (start.events fh.0)) (events_start verdicts plan fh);
}

-- one more entry of a step that may follow, with the parts that it makes
pub made_add : (verdicts : Verdicts) (plan : PlanData) (steps : History) (old new : StateData) (e : Entry Step) → IsMade verdicts plan steps old → MayFollow verdicts plan (past steps) e.step
    → new.file_handles ≡ opened_after (length steps) e.step (opened (past steps)) → new.controls ≡ controls_after verdicts plan (past steps) e.step (controls_now verdicts plan (past steps))
    → new.frames ≡ frames_after verdicts plan (past steps) (length steps) e.step (frames verdicts plan (past steps))
    → ((fh : FhId) → events_of new.events fh.0 ≡ events_after verdicts plan e (past steps) fh (events_of old.events fh.0)) → IsMade verdicts plan (steps ++ e ∷ []) new
made_add verdicts plan steps old new e made may h c f ev = record {
  plans = made.plans;
  legal = legal_add verdicts plan steps e made.legal may;
  file_handles = h ∙ sym (opened_add steps e);
  controls = c ∙ sym (controls_add verdicts plan steps e);
  frames = f ∙ sym (frames_add verdicts plan steps e made.legal may);
  events = λ fh. subst (λ (k : FileEvents). AreEvents verdicts plan (past (steps ++ e ∷ [])) fh k) (sym (ev fh)) (events_add verdicts plan steps e fh (events_of old.events fh.0) made.plans made.legal may (made.events fh));
}

-- the number of the next step is no open file handle's id
pub made_fresh : (verdicts : Verdicts) (plan : PlanData) (steps : History) (state : StateData) → IsMade verdicts plan steps state → lookup (nat_eq (length steps)) state.file_handles ≡ None
made_fresh verdicts plan steps state made =
    ap (lookup (nat_eq (length steps))) made.file_handles ∙ subst (λ (n : ℕ). lookup (nat_eq n) (opened (past steps)) ≡ None) (length_past steps) (opened_fresh (past steps))

-- a state that steps made is ready for one more, where that is kept
pub made_ready : (verdicts : Verdicts) (plan : PlanData) (steps : History) (state : StateData) → IsMade verdicts plan steps state → length steps ≤ MAX_STEPS → IsReady plan state
made_ready verdicts plan steps state made few = record {
  ranges = own;
  valued = ap length (values_of made.controls) ∙ length_now verdicts plan (past steps) ∙ sym own.many;
  held = ap length (grabs_of made.controls) ∙ length_grabbed plan (past steps) ∙ sym own.many;
  numbers = λ j. numbers_left verdicts plan (past steps) (record { 0 = j }) (events_of state.events j) made.plans (omega (arith, length_past steps, few)) (made.events (record { 0 = j }));
}
  where
    own : AreControlsOf plan state.controls.ranges
    own = subst (AreControlsOf plan) (sym (ranges_of made.controls)) (ranges_own plan (past steps))
