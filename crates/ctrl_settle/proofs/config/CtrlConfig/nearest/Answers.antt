use Rattle.std.proofs.Common.{◌≡◌, rules, arith, FitsSigned, w64}
use Rattle.std.proofs.lemmas.Int.{ints, to_z-of_z}
use Rattle.ctrl_settle.specs.Grid.{grid_value, nearest}
use Rattle.ctrl_settle.proofs.Grid.{nearest-unique}
use Rattle.ctrl_settle.proofs.config.CtrlConfig.nearest.Goals as goal

pub overflow_cast-result : goal.overflow_cast-result
overflow_cast-result c =
    let minimum : FitsSigned w64 c.args.self.now.minimum = search rules in
    let maximum : FitsSigned w64 c.args.self.now.maximum = search rules in
    let within = c.nearest_step.ensures.on_grid.within in
    omega (arith, ints)

pub returns : goal.returns
returns c =
    let minimum : FitsSigned w64 c.args.self.now.minimum = search rules in
    let maximum : FitsSigned w64 c.args.self.now.maximum = search rules in
    let within = c.nearest_step.ensures.on_grid.within in
    let is_nearest : grid_value c.args.self.now c.nearest_step.result ≡ nearest c.args.self.now c.args.value =
    nearest-unique _ _ _ (simp (to_z-of_z, c.ranges.value) at c.nearest_step.ensures) in
    rw (← is_nearest) (omega (arith, ints))
