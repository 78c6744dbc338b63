-- A handler as plain data (Linux driver API, "V4L2 Controls", `v4l2_ctrl_new_custom` and `v4l2_ctrl_add_handler`).
use Rattle.std.specs.Prelude.{ℕ, List}

-- its own controls, in the order of their declaration, and the handlers that it adds, in the order of adding
pub record HandlerData : Type 0 where
  pub own : List ℕ
  pub added : List ℕ
