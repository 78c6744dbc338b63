use Rattle.std.proofs.Common.{◌<◌, ap, arith, length, sym}
use Rattle.ctrl_clusters.specs.Rows.{Values}
use Rattle.frame_forecast.proofs.SparseLemmas.{length_upto}
use Rattle.frame_forecast.proofs.behind.Behind.value.Goals as goal

-- there are as many values as before the first frame
pub value_before-requires-clause-control : goal.value_before-requires-clause-control
value_before-requires-clause-control c =
    omega (arith, c.requires, ap (λ (v : Values). length v) (sym c.self.view_is), length_upto c.self.inside.values.now c.self.inside.frames.now (length c.self.inside.frames.now))
