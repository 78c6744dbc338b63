use Rattle.std.proofs.Common.{◌≡◌, ◌==◌, drop}
use Rattle.std.specs.List.{list_any}
use Rattle.ctrl_types.specs.Classes.{class_of}
use Rattle.ctrl_handlers.specs.Plan.{control_in}
use Rattle.ctrl_lists.proofs.naming.is_any_of.Given as goal

-- one of the class stands among those that are left
abbrev pub invariant-loop-number : goal.invariant-loop-number
invariant-loop-number l =
    list_any (λ c. class_of (control_in l.controls c).id.0 == l.class) (drop l.number-index l.numbers)
    ≡ list_any (λ c. class_of (control_in l.controls c).id.0 == l.class) l.numbers
