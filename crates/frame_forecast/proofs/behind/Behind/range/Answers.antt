use Rattle.std.proofs.Common.{◌∙◌, ap, length, subst, sym, ℕ}
use Rattle.ctrl_handlers.specs.Plan.{AreAmong}
use Rattle.ctrl_clusters.specs.Rows.{Values}
use Rattle.frame_forecast.proofs.SparseLemmas.{length_upto}
use Rattle.frame_forecast.proofs.behind.Behind.range.Goals as goal

-- there are as many values as before the first frame
pub range_before-requires-clause-followers : goal.range_before-requires-clause-followers
range_before-requires-clause-followers c =
    subst (λ (n : ℕ). AreAmong n c.args.followers.now) (ap (λ (v : Values). length v) (sym c.self.view_is) ∙ length_upto c.self.inside.values.now c.self.inside.frames.now (length c.self.inside.frames.now)) c.requires.followers
