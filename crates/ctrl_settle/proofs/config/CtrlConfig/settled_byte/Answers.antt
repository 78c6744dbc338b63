use Rattle.std.proofs.Common.{rules, arith, ◌≡◌, FitsSigned, pos, to_z, of_z, w64}
use Rattle.std.proofs.Math.Facts.{to_z-of_z}
use Rattle.std.proofs.lemmas.Int.{ints}
use Rattle.ctrl_settle.specs.Grid.{nearest}
use Rattle.ctrl_settle.proofs.Settling.{byte_fits}
use Rattle.ctrl_settle.proofs.config.CtrlConfig.settled_byte.Goals as goal

pub overflow_cast-result : goal.overflow_cast-result
overflow_cast-result c =
    let fits = byte_fits c.args.self.now c.args.byte c.requires.in_order c.requires.low c.requires.high in
    let is : c.nearest.result ≡ nearest c.args.self.now (pos c.args.byte) = search rules in
    let whole : FitsSigned w64 c.nearest.result = search rules in
    let read : to_z w64 (of_z w64 c.nearest.result) ≡ c.nearest.result = to_z-of_z {w = w64} {z = c.nearest.result} whole in
    omega (arith, ints, fits.0, fits.1, is, read)
