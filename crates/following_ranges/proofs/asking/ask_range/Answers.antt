use Rattle.std.proofs.Common.{rules, ◌≡◌, ◌∙◌, to_z, of_z, w64}
use Rattle.device_state.specs.Device.{Handles}
use Rattle.device_history.specs.declared.ask.Ask.TheVariants as asks
use Rattle.following_ranges.specs.Following.{IsOfRoom, answer_by}
use Rattle.following_ranges.proofs.FollowLemmas.{asked_so}
use Rattle.following_ranges.proofs.asking.ask_range.Goals as goal

-- the ask is made of the range, and refused for want of room alone
asked : (g : _) (c : goal.After-drop-ask g) → IsOfRoom c.err.result
    × Handles g.D.Validates.verdict c.args.device.now c.handle.new.self c.args.seat (asks.ModifyRange c.args.control c.args.wanted.now.minimum c.args.wanted.now.maximum c.args.wanted.now.step c.args.wanted.now.default_value) (answer_by c.err.result)
asked g c =
    asked_so g.D.Validates.verdict c.args.device.now c.handle.new.self c.args.seat c.args.control c.args.wanted.now _ _ c.step.result _ c.handle.result c.err.result c.requires
    (low ∙ c.minimum.ensures) (high ∙ c.maximum.ensures) c.step.ensures (value ∙ c.default_value.ensures) c.handle.ensures.handles c.err.ensures.value
  where
    low : to_z w64 (of_z w64 c.minimum.result) ≡ c.minimum.result
    low = search rules

    high : to_z w64 (of_z w64 c.maximum.result) ≡ c.maximum.result
    high = search rules

    value : to_z w64 (of_z w64 c.default_value.result) ≡ c.default_value.result
    value = search rules

pub returns-clause-handles : goal.returns-clause-handles
returns-clause-handles g c = (asked g c).1

pub returns-clause-of_room : goal.returns-clause-of_room
returns-clause-of_room g c = (asked g c).0
