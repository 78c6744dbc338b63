-- A step that may follow a history fits the requests and the queue that the history makes.
use Rattle.std.proofs.Common.{◌≡◌, ℕ, true, length, ap, sym, ◌∙◌, subst}
use Rattle.history.specs.Past.{past}
use Rattle.ctrl_calls.specs.Meanings.{Verdicts}
use Rattle.ctrl_handlers.specs.Plan.{PlanData}
use Rattle.req_book.specs.Requests.{find}
use Rattle.frame_queue.specs.Frames.{FramesData}
use Rattle.device_history.specs.declared.ask.Step.{Step}
use Rattle.device_history.specs.declared.ask.Step.TheVariants as steps
use Rattle.device_history.specs.Steps.{History}
use Rattle.device_history.specs.Frames.{queue, running}
use Rattle.device_history.specs.Snapshots.{frames, request, requests}
use Rattle.device_history.specs.StepChecks.{HasItsTurn, request_refusal}
use Rattle.device_history.specs.Legal.{IsLegal, MayFollow}
use Rattle.device_history.proofs.FitLemmas.{fits}
use Rattle.device_history.proofs.FrameLaw.{found_request, fresh_request}
use Rattle.device_parts.specs.Leaving.{FitsIn, IsNew, NamesKnown, leaves_controls}

-- the request that is kept under an id
pub found : (verdicts : Verdicts) (plan : PlanData) (entries : History) (kept : FramesData) (r : ℕ) → kept ≡ frames verdicts plan (past entries) → IsLegal verdicts plan (past entries)
    → find kept.requests.all r ≡ request verdicts plan (past entries) r
found verdicts plan entries kept r own legal = ap (λ (f : FramesData). find f.requests.all r) own ∙ found_request verdicts plan (past entries) r legal

-- a step that may follow can change what is kept
pub fits_in : (verdicts : Verdicts) (plan : PlanData) (entries : History) (kept : FramesData) (step : Step) → kept ≡ frames verdicts plan (past entries) → IsLegal verdicts plan (past entries)
    → MayFollow verdicts plan (past entries) step → leaves_controls step ≡ true → NamesKnown (length plan.controls) step → FitsIn (length entries) step kept
fits_in verdicts plan entries kept step own legal may leaves known =
    let fit = fits verdicts plan (past entries) step may in (
      leaves,
      new step,
      subst (λ (f : FramesData). NamesKnown f.requests.controls step) (sym own) known,
      ap (λ (f : FramesData). request_refusal f.requests.all (find f.requests.all) step) own ∙ (λ i. request_refusal (requests verdicts plan (past entries)) (λ r. found_request verdicts plan (past entries) r legal i) step) ∙ fit.0,
      subst (λ (f : FramesData). HasItsTurn f.queue f.running step) (sym own) fit.1,
    )
  where
    new : (step : Step) → IsNew (length entries) step kept.requests.all
    new steps.Alloc = found verdicts plan entries kept (length entries) own legal ∙ fresh_request verdicts plan entries legal
    new _ = tt
