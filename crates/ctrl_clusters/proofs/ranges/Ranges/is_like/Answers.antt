use Rattle.std.proofs.Common.{◌∙◌, sym}
use Rattle.ctrl_clusters.proofs.RangeLemmas.{same_controls}
use Rattle.ctrl_clusters.proofs.ranges.Ranges.is_like.Goals as goal

pub returns : goal.returns
returns c =
    let decides = same_controls c.self.inside.controls.items c.other.inside.controls.items c.eq.result c.eq.ensures in (
      λ is. sym c.self.view_is ∙ decides.0 is ∙ c.other.view_is,
      λ like. decides.1 (c.self.view_is ∙ like ∙ sym c.other.view_is),
    )
