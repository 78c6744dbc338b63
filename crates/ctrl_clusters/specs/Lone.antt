-- An array is alone in its cluster (of this project).
use Rattle.std.specs.Prelude.{◌≢◌, ℕ, ◌<◌, List, length}
use Rattle.std.specs.List.{All}
use Rattle.ctrl_types.specs.declared.kind.Kind.TheVariants.{U8}
use Rattle.ctrl_settle.specs.Control.{Control}
use Rattle.ctrl_handlers.specs.Plan.{control_in}

-- of several members none is an array
abbrev pub AreLone : List Control → List ℕ → Type 0
AreLone controls members = 1 < length members → All (λ c. (control_in controls c).kind ≢ U8) members
