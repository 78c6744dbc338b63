use Rattle.std.proofs.Common.{rules, ◌≡◌, sym, subst, to_z, of_z, w64}
use Rattle.ctrl_settle.specs.Control.{with_range}
use Rattle.ctrl_settle.specs.Faults.{IsWellFormed}
use Rattle.range_followers.specs.Wanted.{wanted_of}
use Rattle.range_followers.proofs.Sound.{bounds_of_words, same_found, wanted_of_words, wanted_sound}
use Rattle.range_followers.proofs.wanted.range_wanted.Goals as goal

pub ranged-requires : goal.ranged-requires
ranged-requires c =
    bounds_of_words c.args.ctrl.now c.args.minimum c.args.maximum c.wanted_minimum-least.result c.wanted_maximum-most.result (search rules) (search rules) c.id-id.ensures.well_formed (search rules)

pub ranged-requires-2 : goal.ranged-requires-2
ranged-requires-2 c =
    let bounds : c.in_ok-bounds.bounds ≡ with_range c.args.ctrl.now (to_z w64 (of_z w64 c.wanted_minimum-least.result)) (to_z w64 (of_z w64 c.wanted_maximum-most.result)) c.args.ctrl.now.step (to_z w64 (of_z w64 c.wanted_minimum-least.result)) =
    same_found c.ranged.result _ _ c.in_ok-bounds.was c.ranged.ensures in
    let is : with_range c.args.ctrl.now (to_z w64 (of_z w64 c.wanted_minimum-least.result)) (to_z w64 (of_z w64 c.wanted_maximum-most.result)) c.args.ctrl.now.step (to_z w64 (of_z w64 c.nearest-default_value.result))
    ≡ wanted_of c.args.ctrl.now c.args.minimum c.args.maximum c.args.default_value =
    wanted_of_words c.args.ctrl.now c.in_ok-bounds.bounds c.args.minimum c.args.maximum c.args.default_value c.wanted_minimum-least.result c.wanted_maximum-most.result c.cut.result c.nearest-default_value.result
    c.kind-2.result (search rules) (search rules) bounds c.ranges.default_value c.kind-2.ensures c.cut.ensures c.nearest-default_value.ensures c.id-id.ensures.well_formed (search rules) in
    subst IsWellFormed (sym is) (wanted_sound c.args.ctrl.now c.args.minimum c.args.maximum c.args.default_value c.id-id.ensures.well_formed (search rules))
