use Rattle.std.proofs.Common.{◌≡◌, ◌∙◌, ◌&&◌, Bool, true, false, [], ◌∷◌, ap, refl}
use Rattle.ctrl_settle.specs.Control.{Control}
use Rattle.ctrl_clusters.proofs.RangeLemmas.{same_controls}
use Rattle.device_renewal.proofs.alike.are_ranges.Goals as goal

and_true : (b : Bool) → b ≡ b && true
and_true true = refl
and_true false = refl

-- `==` says of one control what it says of a list of it alone
pub returns : goal.returns
returns c =
    let decides = same_controls (c.args.one.now ∷ []) (c.args.other.now ∷ []) c.eq.result (c.eq.ensures ∙ and_true _) in (
      λ is. let alike = decides.0 is in cc,
      λ alike. decides.1 (ap (λ (x : Control). x ∷ []) alike),
    )
