use Rattle.std.proofs.Common.{sym, subst, arith}
use Rattle.history.specs.declared.entry.Entry.{Entry}
use Rattle.history.specs.Past.{past}
use Rattle.device_history.specs.declared.ask.Step.{Step}
use Rattle.device_history.specs.Steps.{History}
use Rattle.device_renewal.proofs.QuietLemmas.{AllGone, all_gone, no_requests, none_gone, one_gone, unheard}
use Rattle.device_renewal.specs.Quiet.{IsGone}
use Rattle.device_renewal.proofs.quiet.is_quiet.Goals as goal

pub loop-number-init : goal.loop-number-init
loop-number-init g c = none_gone g.D.Validates.verdict c.args.device.now.plan (past c.args.device.now.steps) c.args.device.now.steps

-- one more step is gone
pub loop-number-preserved : goal.loop-number-preserved
loop-number-preserved g c =
    let all = past c.args.device.now.steps in
    let own : IsGone g.D.Validates.verdict c.args.device.now.plan all c.loop-number.number c.index-steps-number.result.step =
    subst (λ (e : Entry Step). IsGone g.D.Validates.verdict c.args.device.now.plan all c.loop-number.number e.step) (sym c.index-steps-number.is) (c.is_there.ensures c.if-is_there.false) in
    one_gone g.D.Validates.verdict c.args.device.now.plan all c.steps-steps.result.now c.loop-number.number c.index-steps-number.result (omega (arith, c.loop-number-test.true)) (sym c.index-steps-number.is) c.loop-number.invariant own

-- all are
pub returns : goal.returns
returns g c =
    let all = past c.args.device.now.steps in
    let taken : AllGone g.D.Validates.verdict c.args.device.now.plan all (past c.steps-steps.result.now) =
    all_gone g.D.Validates.verdict c.args.device.now.plan all c.steps-steps.result.now c.loop-number.number (omega (arith, c.loop-number-test.false, c.loop-number.auto.number-end)) c.loop-number.invariant in
    let gone : AllGone g.D.Validates.verdict c.args.device.now.plan all all =
    subst (λ (steps : History). AllGone g.D.Validates.verdict c.args.device.now.plan all (past steps)) c.steps-steps.ensures.steps taken in
    λ _. record {
      unheard = λ fh control. unheard g.D.Validates.verdict c.args.device.now.plan all fh control gone;
      no_requests = no_requests g.D.Validates.verdict c.args.device.now.plan all all gone;
    }
