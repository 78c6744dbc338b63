use Rattle.std.proofs.Common.{◌≡◌, ◌∙◌, ◌<◌, ◌≤◌, ℕ, length, ap, arith, ext_get_or, sym}
use Rattle.ctrl_types.specs.Values.{zero_value}
use Rattle.ctrl_clusters.specs.Rows.{Values, value_at}
use Rattle.frame_forecast.proofs.SparseLemmas.{length_upto}
use Rattle.frame_forecast.proofs.behind.Behind.is_like.Goals as goal

pub is_like_below-requires-clause-within : goal.is_like_below-requires-clause-within
is_like_below-requires-clause-within c =
    omega (arith, ap (λ (v : Values). length v) c.self.view_is, length_upto c.self.inside.values.now c.self.inside.frames.now (length c.self.inside.frames.now))

pub returns : goal.returns
returns c =
    let long : length c.self.inside.values.now ≡ length c.args.self.now = sym (length_upto c.self.inside.values.now c.self.inside.frames.now (length c.self.inside.frames.now)) ∙ ap (λ (v : Values). length v) c.self.view_is in (
      λ h. ext_get_or zero_value c.args.self.now c.args.other.now c.requires.same (λ k lt. c.is_like_below.ensures.0 h k (omega (arith, lt, long))),
      λ same. c.is_like_below.ensures.1 (λ k lt. ap (λ (v : Values). value_at v k) same),
    )
