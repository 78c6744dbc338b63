use Rattle.std.proofs.Common.{refl, sym, ap}
use Rattle.std.specs.Result.{result_err}
use Rattle.device_history.specs.declared.ask.Ask.TheVariants as asks
use Rattle.device_state.proofs.HandleLemmas.{handles_unowned}
use Rattle.device_state.proofs.device.Device.subscribe.Goals as goal

pub returns-in-Err-clause-handles : goal.returns-in-Err-clause-handles
returns-in-Err-clause-handles g c =
    rw c.refuse.ensures.answer
    (handles_unowned g.D.Validates.verdict _ _ _ c.args.seat (asks.Subscribe c.args.fh c.args.id c.args.flags) _ c.in-Err.check _ c.refuse.ensures.kept refl refl (ap result_err (sym c.in-Err.ensures.shown)))
