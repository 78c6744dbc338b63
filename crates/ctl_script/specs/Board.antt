-- What a board prints of the frames that are queued (of this project).
use Rattle.std.specs.Prelude.{◌≡◌, ◌≢◌, ℕ, ◌<◌, zero, suc, ◌⊎◌, List, [], ◌∷◌, ◌++◌, length, Option, ⊤}
use Rattle.std.specs.Io.KnownBytes.{Appends}
use Rattle.history.specs.Past.{past}
use Rattle.ctrl_calls.specs.Meanings.{Verdicts, Words}
use Rattle.ctrl_handlers.specs.Plan.{PlanData}
use Rattle.device_history.specs.declared.ask.Ask.TheVariants as asks
use Rattle.device_history.specs.Steps.{Past}
use Rattle.device_history.specs.Frames.{queue}
use Rattle.device_history.specs.Forecasts.{forecast_answer}
use Rattle.device_state.specs.Device.{DeviceData}
use Rattle.script_lines.specs.ControlWords.{ControlWord}
use Rattle.script_replies.specs.Replies.{answer_line, no_frames_line}
use Rattle.script_replies.specs.declared.outcome.Outcome.{Outcome}
use Rattle.script_replies.specs.declared.outcome.Outcome.TheVariants.{Finished, WriteFault, Memory}
use Rattle.ctl_script.specs.Run.{Said, HasEnded}

-- the line of the frame at a place of the queue, as a forecast there prints it
abbrev pub queued_line : Verdicts → PlanData → Past → ℕ → List ℕ
queued_line verdicts plan past place = answer_line (asks.Forecast place) (forecast_answer verdicts plan past place)

-- the lines of the frames before a place
abbrev pub queued_lines : Verdicts → PlanData → Past → ℕ → List ℕ
queued_lines verdicts plan past zero = []
queued_lines verdicts plan past (suc place) = queued_lines verdicts plan past place ++ queued_line verdicts plan past place

-- the lines of all of them, or that there is none
abbrev pub lines_of : Verdicts → PlanData → Past → List ℕ → List ℕ
lines_of verdicts plan past [] = no_frames_line
lines_of verdicts plan past (first ∷ more) = queued_lines verdicts plan past (length (first ∷ more))

abbrev pub board_lines : Verdicts → PlanData → Past → List ℕ
board_lines verdicts plan past = lines_of verdicts plan past (queue past)

-- forecasts leave the plan and the steps
pub record IsSame (old new : DeviceData) : Type 0 where
  pub plan : new.plan ≡ old.plan
  pub steps : new.steps ≡ old.steps

-- How the printing of the frames ends: all are printed, or memory is wanting at one, or the writer fails; and then this line.
abbrev pub IsShown : Verdicts → PlanData → Past → Outcome → List ℕ → Option (List ℕ) → Option (List ℕ) → Type 0
IsShown verdicts plan past Finished line before after = Appends before after (board_lines verdicts plan past ++ line)
IsShown verdicts plan past Memory line before after = (place : ℕ) × (place < length (queue past)) × Appends before after (queued_lines verdicts plan past place ++ line)
IsShown verdicts plan past WriteFault line before after = ⊤
IsShown verdicts plan past _ line before after = ⊥

-- of the code: why one frame isn't printed
abbrev pub IsUnshown : Outcome → Option (List ℕ) → Option (List ℕ) → Type 0
IsUnshown Memory before after = after ≡ before
IsUnshown WriteFault before after = ⊤
IsUnshown _ before after = ⊥

-- What a board does: its script ends otherwise than whole, and nothing is printed but this line; or it has run whole, and the frames that are queued then are
-- printed, which leaves the device.
abbrev pub HasBoard : Verdicts → Words → List ControlWord → Option (List ℕ) → Option (List ℕ) → DeviceData → DeviceData → Outcome → List ℕ → Option (List ℕ) → Option (List ℕ) → Type 0
HasBoard verdicts tells known unread left old new outcome line before after = (said : List Said) × (
    ((outcome ≢ Finished) × HasEnded verdicts tells known unread left old new said outcome × (outcome ≢ WriteFault → Appends before after line))
    ⊎ ((ran : DeviceData) × HasEnded verdicts tells known unread left old ran said Finished × IsSame ran new × IsShown verdicts ran.plan (past ran.steps) outcome line before after))
