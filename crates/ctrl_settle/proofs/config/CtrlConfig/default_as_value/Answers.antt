use Rattle.std.proofs.Common.{rules, arith, ◌≡◌, FitsSigned, Some, to_z, of_z, w64}
use Rattle.std.proofs.Math.Facts.{to_z-of_z}
use Rattle.std.proofs.lemmas.Int.{ints}
use Rattle.ctrl_settle.proofs.Settling.{default_fits}
use Rattle.ctrl_settle.proofs.config.CtrlConfig.default_as_value.Goals as goal

pub overflow_cast-self : goal.overflow_cast-self
overflow_cast-self c =
    let elems : c.args.self.now.elems ≡ Some c.in-Some.elems = c.in-Some.is in
    let fits = default_fits c.args.self.now c.in-Some.elems c.requires.sound elems in
    let whole : FitsSigned w64 c.args.self.now.default_value = search rules in
    let read : to_z w64 (of_z w64 c.args.self.now.default_value) ≡ c.args.self.now.default_value = to_z-of_z {w = w64} {z = c.args.self.now.default_value} whole in
    omega (arith, ints, fits.1.0, fits.1.1, read)
