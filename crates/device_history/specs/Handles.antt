-- File handles: the open ones after a history, what is shown to them, and what opening and closing are answered (of this project).
use Rattle.std.specs.Prelude.{ℕ, Bool, false, nat_le, nat_eq, not, suc, ◌-◌, ◌++◌, take, filter, if◌then◌else◌, List, [], ◌∷◌, length, Option, None, Some, is_some}
use Rattle.std.specs.List.{list_any}
use Rattle.std.specs.Option.{option_and_then}
use Rattle.std.specs.Map.{lookup}
use Rattle.ctrl_types.specs.declared.check.Check.{Check}
use Rattle.ctrl_types.specs.declared.check.Check.TheVariants.{HandlerMissing, TooManyHandles, HandleNotOpen}
use Rattle.ctrl_types.specs.declared.ids.CtrlId.{CtrlId}
use Rattle.ctrl_types.specs.declared.ids.FhId.{FhId}
use Rattle.device_history.specs.declared.ask.Step.{Step}
use Rattle.device_history.specs.declared.ask.Step.TheVariants.{OpenFh, CloseFh}
use Rattle.device_history.specs.declared.ask.Reply.TheVariants.{Fh, Done}
use Rattle.device_history.specs.declared.limits.TheConstants.{MAX_FILE_HANDLES}
use Rattle.ctrl_handlers.specs.Plan.{PlanData}
use Rattle.ctrl_handlers.specs.Visible.{find}
use Rattle.device_history.specs.Steps.{Past}
use Rattle.device_history.specs.Refusals.{Answer, stepped}

-- the file handle that the step with a number opens: this number is its id; with its handler
abbrev pub opening : ℕ → Step → List (ℕ × ℕ)
opening n (OpenFh handler) = (n, handler) ∷ []
opening n _ = []

-- the file handles that were ever opened, in the order of their opening
unfoldable pub ever_opened : Past → List (ℕ × ℕ)
ever_opened [] = []
ever_opened (e ∷ older) = ever_opened older ++ opening (length older) e.step

-- a step closes the file handle with an id
abbrev pub closes : ℕ → Step → Bool
closes n (CloseFh fh) = nat_eq fh.0 n
closes n _ = false

-- the entries behind the one with a number, which are newer
abbrev pub behind : ℕ → Past → Past
behind n past = take (length past - suc n) past

-- a step behind the one that opened a file handle closes it
abbrev pub is_closed : Past → ℕ → Bool
is_closed past n = list_any (λ e. closes n e.step) (behind n past)

-- The open file handles, in the order of their opening, each with its handler: those that were opened and that no later step closes.
unfoldable pub opened : Past → List (ℕ × ℕ)
opened past = filter (λ h. not (is_closed past h.0)) (ever_opened past)

-- What the step with a number makes of the open file handles, as the law `open_handles` says: an opening adds one, a close drops the
-- one that it names.
abbrev pub opened_after : ℕ → Step → List (ℕ × ℕ) → List (ℕ × ℕ)
opened_after n (OpenFh handler) handles = handles ++ (n, handler) ∷ []
opened_after n (CloseFh fh) handles = filter (λ h. not (nat_eq fh.0 h.0)) handles
opened_after n _ handles = handles

-- the handler that a file handle was opened on, if it is open
abbrev pub handler_of : Past → FhId → Option ℕ
handler_of past fh = lookup (nat_eq fh.0) (opened past)

-- the control that is shown to a file handle under an id
abbrev pub shown : PlanData → Past → FhId → CtrlId → Option ℕ
shown plan past fh id = option_and_then (λ handler. find plan handler id) (handler_of past fh)

-- no further file handle can be opened
abbrev pub are_all_open : Past → Bool
are_all_open past = nat_le MAX_FILE_HANDLES (length (opened past))

-- why an ask through a file handle is refused: it isn't open; else as the ask says
abbrev pub through : Past → FhId → Option Check → Option Check
through past fh check = if is_some (handler_of past fh) then check else Some HandleNotOpen

-- Why no file handle is opened on a handler: there is no such handler; as many are open as can be.
abbrev pub open_check : PlanData → Past → ℕ → Option Check
open_check plan past handler =
    if nat_le (length plan.handlers) handler then Some HandlerMissing
    else if are_all_open past then Some TooManyHandles
    else None

-- Opening on a handler: the file handle, whose id is the number of this step.
abbrev pub open_answer : PlanData → Past → ℕ → Answer
open_answer plan past handler = stepped (open_check plan past handler) past (Fh (record { 0 = length past }))

-- Closing a file handle: refused where it isn't open, and else by the limit of steps alone.
abbrev pub close_answer : Past → FhId → Answer
close_answer past fh = stepped (through past fh None) past Done
