use Rattle.std.proofs.Common.{◌≡◌, rules, subst}
use Rattle.ctrl_types.specs.declared.kind.Kind.TheVariants.{Bitmask}
use Rattle.ctrl_settle.specs.Faults.{HasBounds}
use Rattle.ctrl_settle.proofs.Settling.{settle-word}
use Rattle.ctrl_settle.proofs.config.CtrlConfig.settle_number.Goals as goal

pub returns-in-Bitmask : goal.returns-in-Bitmask
returns-in-Bitmask c =
    let kind : c.args.self.now.kind ≡ Bitmask = search rules in
    let bounds : HasBounds Bitmask c.args.self.now = subst (λ k. HasBounds k c.args.self.now) kind c.requires.bounds in
    settle-word c.args.self.now c.args.number c.args.self.now.maximum kind bounds (search rules) c.ranges.number
