use Rattle.std.proofs.Common.{subst, sym}
use Rattle.ctrl_handlers.specs.Plan.{IsFinished}
use Rattle.ctrl_clusters.specs.Rows.{AreControlsOf}
use Rattle.device_history.proofs.RangeLemmas.{ranges_own}
use Rattle.device_history.proofs.ControlsLemmas.{ranges_of}
use Rattle.device_state.proofs.KeptLemmas.{kept_start}
use Rattle.device_state.proofs.device.Device.new.Goals as goal

-- the ranges are the plan's
pub at-requires : goal.at-requires
at-requires g c = subst (AreControlsOf c.args.plan) (sym (ranges_of c.in-Ok.ensures.made.controls)) (ranges_own c.args.plan _)

-- before the first step the state is what a device starts with
pub invariant_of-result : goal.invariant_of-result
invariant_of-result g c =
    kept_start g.D.Validates.verdict g.D.Notifies.told c.args.plan _ _ c.new-2.ensures.items c.in-Ok.ensures.made
    (rw (c.at.ensures.plan, c.at.ensures.values) at c.in-Ok-first_words.ensures.words) (subst IsFinished c.at.ensures.plan c.at.result.planned) c.empty.ensures
