-- Controls of which one gets another range, and when controls are the same.
use Rattle.std.proofs.Common.{rules, ◌≡◌, ℕ, nat_eq, Bool, Option, List, refl, ap, ◌∙◌}
use Rattle.std.specs.Bool.{Decides}
use Rattle.std.specs.Option.{option_eq}
use Rattle.std.specs.Cmp.Lexicographic.{pointwise}
use Rattle.std.specs.Cmp.{booleans_Decides}
use Rattle.std.proofs.lemmas.Bool.Decides.{Decides-eqb, Decides-int_eq, Decides-and}
use Rattle.std.proofs.lemmas.Slice.Eq.{slice_eq-Decides}
use denote.Enum.Bare.{sameb}
use Rattle.ctrl_types.specs.contracts.kind.Kind.{the_type}
use Rattle.ctrl_types.specs.declared.kind.Kind.{Kind}
use Rattle.ctrl_settle.specs.contracts.control.CtrlPartialEq.TheImpl.{eq-value as ctrl_eq}
use Rattle.std.proofs.Math.Seq.{map-set_same}
use Rattle.std.proofs.lemmas.List.{length-set}
use Rattle.ctrl_settle.specs.Control.{Control}
use Rattle.ctrl_handlers.specs.Plan.{control_in, no_control}
use Rattle.ctrl_clusters.specs.Ranges.{HasRangeFor, StayControlsOf, modified}

-- they stay controls of their plan
pub modified_stay : (controls : List Control) (c : ℕ) (changed : Control) → HasRangeFor (control_in controls c) changed → StayControlsOf controls (modified controls c changed)
modified_stay controls c changed same plan are = record {
  many = length-set controls c changed ∙ are.many;
  ids = map-set_same (λ (x : Control). x.id) controls c changed no_control same.id ∙ are.ids;
  kinds = map-set_same (λ (x : Control). x.kind) controls c changed no_control same.kind ∙ are.kinds;
  flags = map-set_same (λ (x : Control). x.flags) controls c changed no_control same.flags ∙ are.flags;
  skipped = map-set_same (λ (x : Control). x.skip) controls c changed no_control same.skip ∙ are.skipped;
  elems = map-set_same (λ (x : Control). x.elems) controls c changed no_control same.elems ∙ are.elems;
}

kinds : (a b : Kind) (r : Bool) → r ≡ sameb the_type a b → Decides r (a ≡ b)
kinds a b r is = search rules

counts : (a b : Option ℕ) (r : Bool) → r ≡ option_eq nat_eq a b → Decides r (a ≡ b)
counts a b r is = search rules

-- controls with the same parts are the same
abbrev SameParts : Control → Control → Type 0
SameParts a b =
    (a.id.0 ≡ b.id.0) × ((a.kind ≡ b.kind) × ((a.minimum ≡ b.minimum) × ((a.maximum ≡ b.maximum) × ((a.step ≡ b.step) × ((a.default_value ≡ b.default_value) × ((a.skip ≡ b.skip) × ((a.flags.0 ≡ b.flags.0) × ((a.is_private ≡ b.is_private) × (a.elems ≡ b.elems)))))))))

parts : (a b : Control) → Decides (ctrl_eq.it a b) (SameParts a b)
parts a b =
    Decides-and _ _ (Decides-eqb a.id.0 b.id.0) (
    Decides-and _ _ (kinds a.kind b.kind _ (λ i. sameb the_type a.kind b.kind)) (
    Decides-and _ _ (Decides-int_eq a.minimum b.minimum) (
    Decides-and _ _ (Decides-int_eq a.maximum b.maximum) (
    Decides-and _ _ (Decides-eqb a.step b.step) (
    Decides-and _ _ (Decides-int_eq a.default_value b.default_value) (
    Decides-and _ _ (Decides-eqb a.skip b.skip) (
    Decides-and _ _ (Decides-eqb a.flags.0 b.flags.0) (Decides-and _ _ (booleans_Decides a.is_private b.is_private) (counts a.elems b.elems _ refl))
    )
    )
    )
    )
    )
    )
    )

whole : (a b : Control) → SameParts a b → a ≡ b
whole a b same = λ i. record {
  id = record { 0 = same.0 i };
  kind = same.1.0 i;
  minimum = same.1.1.0 i;
  maximum = same.1.1.1.0 i;
  step = same.1.1.1.1.0 i;
  default_value = same.1.1.1.1.1.0 i;
  skip = same.1.1.1.1.1.1.0 i;
  flags = record { 0 = same.1.1.1.1.1.1.1.0 i };
  is_private = same.1.1.1.1.1.1.1.1.0 i;
  elems = same.1.1.1.1.1.1.1.1.1 i;
}

fields : (a b : Control) → a ≡ b → SameParts a b
fields a b is = (
  ap (λ (c : Control). c.id.0) is,
  (ap (λ (c : Control). c.kind) is, (ap (λ (c : Control). c.minimum) is, (ap (λ (c : Control). c.maximum) is, (ap (λ (c : Control). c.step) is, (ap (λ (c : Control). c.default_value) is, (ap (λ (c : Control). c.skip) is, (ap (λ (c : Control). c.flags.0) is, (ap (λ (c : Control). c.is_private) is, ap (λ (c : Control). c.elems) is)))))))),
)

one : (a b : Control) → Decides (ctrl_eq.it a b) (a ≡ b)
one a b = (λ h. whole a b ((parts a b).0 h), λ is. (parts a b).1 (fields a b is))

-- what `==` says of controls
pub same_controls : (a b : List Control) (r : Bool) → r ≡ pointwise ctrl_eq.it a b → Decides r (a ≡ b)
same_controls = slice_eq-Decides one
