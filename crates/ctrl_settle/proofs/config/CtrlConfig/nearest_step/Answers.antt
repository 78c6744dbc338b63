use Rattle.std.proofs.Common.{rules}
use Rattle.ctrl_settle.proofs.Grid.{nearest-last, nearest-below, nearest-above}
use Rattle.ctrl_settle.proofs.config.CtrlConfig.nearest_step.Goals as goal

pub returns-then-below-last : goal.returns-then-below-last
returns-then-below-last c =
    nearest-last _ _ c.abs_diff.result c.abs_diff-asked.result (search rules) (search rules) (search rules) (search rules) (search rules) c.if-below-last.true

pub returns-then-past-self : goal.returns-then-past-self
returns-then-past-self c =
    nearest-below _ _ c.abs_diff.result c.abs_diff-asked.result (search rules) (search rules) (search rules) (search rules) (search rules) c.if-below-last.false c.if-past-self.true

pub returns-else-past-self : goal.returns-else-past-self
returns-else-past-self c =
    nearest-above _ _ c.abs_diff.result c.abs_diff-asked.result (search rules) (search rules) (search rules) (search rules) (search rules) c.if-below-last.false c.if-past-self.false
