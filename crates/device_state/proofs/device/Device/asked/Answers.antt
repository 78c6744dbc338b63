use Rattle.std.proofs.Common.{Option, Ok, Err, MatchResult, subst, ◌≡◌}
use Rattle.req_book.specs.Requests.{RequestData}
use Rattle.req_book.specs.Refusals.{asked_answer}
use Rattle.device_state.proofs.EnterLemmas.{found}
use Rattle.device_state.proofs.device.Device.asked.Goals as goal

pub returns : goal.returns
returns g c =
    let device = c.self.inside in
    rw (← c.self.view_is)
    (subst (λ (o : Option RequestData). MatchResult c.asked.result (λ pairs. asked_answer o ≡ Ok pairs.now) (λ errno. asked_answer o ≡ Err errno))
    (found g.D.Validates.verdict g.D.Notifies.told device.plan device.steps.items _ c.args.request.0 c.self.invariant _ c.frames.ensures _ c.requests.ensures) c.asked.ensures)
