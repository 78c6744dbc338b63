-- What a device is built of, and what a list of its controls is checked against.
use Rattle.ctrl_handlers.specs.Plan.{PlanData}
use Rattle.ctrl_lists.specs.View.{ViewData}

-- a plan, and what a list is checked against
pub record ListData : Type 0 where
  pub plan : PlanData
  pub parts : ViewData
