use Rattle.std.proofs.Common.{sym, ◌∙◌}
use Rattle.history.specs.Past.{past}
use Rattle.ctrl_forecast.specs.Looks.{seen}
use Rattle.device_state.proofs.EnterLemmas.{asked_is}
use Rattle.frame_reasons.proofs.FrameReasons.{frame_known, frame_there, refused_is, unrefused}
use Rattle.frame_reasons.proofs.refused.frame_reason.Goals as goal

pub returns-then-not-contains : goal.returns-then-not-contains
returns-then-not-contains g c =
    unrefused g.D.Validates.verdict c.args.device.now c.args.place c.args.cluster (seen c.in_ok-row.row) c.in_ok-row.ensures (sym c.if-not-contains.true ∙ c.contains.ensures.value)

-- a queued request is there
pub unreachable-requires : goal.unreachable-requires
unreachable-requires g c =
    frame_there g.D.Validates.verdict c.args.device.now.plan (past c.args.device.now.steps) c.args.place (seen c.in_ok-row.row) c.in-Err.field-0 (sym c.in_ok-row.ensures) c.in-Err.ensures

pub cluster_reason-requires-clause-cluster : goal.cluster_reason-requires-clause-cluster
cluster_reason-requires-clause-cluster g c =
    frame_known g.D.Validates.verdict c.args.device.now.plan (past c.args.device.now.steps) c.args.place (seen c.in_ok-row.row) c.args.cluster (sym c.in_ok-row.ensures) (sym c.contains.ensures.value ∙ c.if-not-contains.false)

pub returns : goal.returns
returns g c =
    refused_is g.D.Validates.verdict c.args.device.now c.args.place c.args.cluster (seen c.in_ok-row.row) c.values_before-values.result.now c.in-Ok.pairs.now c.cluster_reason.result
    c.in_ok-row.ensures (sym c.if-not-contains.false ∙ c.contains.ensures.value) c.values_before-values.ensures.values
    (asked_is g.D.Validates.verdict c.args.device.now.plan (past c.args.device.now.steps) c.in_ok-row.row.request.0 c.in-Ok.pairs.now c.in-Ok.ensures) c.cluster_reason.ensures
