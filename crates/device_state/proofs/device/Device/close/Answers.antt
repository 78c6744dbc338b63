use Rattle.std.proofs.Common.{refl, inr, ap, sym, ◌∙◌}
use Rattle.history.specs.Past.{past}
use Rattle.device_history.specs.declared.ask.Ask.TheVariants as asks
use Rattle.device_history.specs.Refusals.{step_check}
use Rattle.device_state.proofs.HandleLemmas.{handles_refused, handles_close, handles_unstepped}
use Rattle.device_state.proofs.StepLemmas.{step_accepted}
use Rattle.device_state.proofs.device.Device.close.Goals as goal

pub returns-in-Some-clause-handles : goal.returns-in-Some-clause-handles
returns-in-Some-clause-handles g c =
    rw (← c.self.view_is, c.refused.ensures)
    (handles_unstepped g.D.Validates.verdict _ _ _ c.args.seat (asks.CloseFh c.args.fh) _ c.in-Some.check _ refl c.new-self-inside.ensures refl (sym (c.in-Some.ensures ∙ ap (step_check (past c.self.inside.steps.items)) c.through.ensures)))

pub returns-in-Ok-clause-handles : goal.returns-in-Ok-clause-handles
returns-in-Ok-clause-handles g c =
    rw (← c.self.view_is, c.in-Ok.ensures.ok) (handles_close g.D.Validates.verdict _ _ c.args.seat c.args.fh c.new-self-inside.ensures (sym (c.in_default.ensures ∙ ap (step_check (past c.self.inside.steps.items)) c.through.ensures)))

pub returns-in-Err-clause-handles : goal.returns-in-Err-clause-handles
returns-in-Err-clause-handles g c =
    rw (← c.self.view_is, c.refused-in-Err.ensures)
    (handles_refused g.D.Validates.verdict _ _ _ c.args.seat _ _ c.in-Err.ensures.err c.new-self-inside.ensures (inr (step_accepted (past c.self.inside.steps.items) _ _ (sym (c.in_default.ensures ∙ ap (step_check (past c.self.inside.steps.items)) c.through.ensures)), refl)))
