-- What a script does to a device, and what it is answered (of this project).
use Rattle.std.specs.Prelude.{◌≡◌, ◌≢◌, ℕ, ◌+◌, ◌<◌, ◌≤◌, ◌⊎◌, List, [], ◌∷◌, ◌++◌, length, Option, None, Some, IfSome, ⊤}
use Rattle.std.specs.List.{flat_map}
use Rattle.std.specs.Io.KnownBytes.{Consumes, IsAtEnd, Appends}
use mathlib.Core.Logic.{inl, inr}
use Rattle.history.specs.Past.{past}
use Rattle.ctrl_calls.specs.Meanings.{Verdicts, Words}
use Rattle.ctrl_clusters.specs.Notified.{HaveWords}
use Rattle.device_history.specs.declared.ask.Ask.{Ask}
use Rattle.device_history.specs.Refusals.{Answer}
use Rattle.device_history.specs.Steps.{History}
use Rattle.device_history.specs.Values.{now}
use Rattle.device_state.specs.Device.{DeviceData, Handles}
use Rattle.script_lines.specs.ControlWords.{ControlWord}
use Rattle.script_lines.specs.Commands.{words, line_of}
use Rattle.script_lines.specs.declared.command.Command.{Command}
use Rattle.script_replies.specs.Replies.{answer_line, audit_line}
use Rattle.script_replies.specs.declared.audited.Audited.{Audited}
use Rattle.script_replies.specs.declared.audited.Audited.TheVariants.{Equal}
use Rattle.script_replies.specs.declared.audited.Audited.TheVariants as audits
use Rattle.script_replies.specs.declared.outcome.Outcome.{Outcome}
use Rattle.script_replies.specs.declared.outcome.Outcome.TheVariants.{Finished, BadLine, TooLong, ReadFault, WriteFault, Memory}
use Rattle.ctl_script.specs.Asks.{asked_by, bound_behind}
use Rattle.ctl_script.specs.Bindings.{Bound, unbound}
use Rattle.ctl_script.specs.Lines.{lines_in}
use Rattle.ctl_script.specs.declared.run.LineEnd.{LineEnd}
use Rattle.ctl_script.specs.declared.run.LineEnd.TheVariants.{NotACommand}
use Rattle.ctl_script.specs.declared.run.LineEnd.TheVariants as ends

-- The plan stays, and the steps begin with those that were there.
pub record GrowsFrom (old new : DeviceData) : Type 0 where
  pub plan : new.plan ≡ old.plan
  pub steps : (more : History) × (new.steps ≡ old.steps ++ more)

-- the script of an input: its commands, up to the first line that is none, with the number of that line
abbrev pub Script : Type 0
Script = List Command × Option ℕ

-- what a line, which was read, adds before the script of those behind it
abbrev pub read_before : ℕ → Option (Option Command) → Script → Script
read_before number None script = ([], Some number)
read_before number (Some None) script = script
read_before number (Some (Some command)) script = (command ∷ script.0, script.1)

-- the script of lines that are numbered from this number on, where these words name controls
abbrev pub script_in : List ControlWord → ℕ → List (List ℕ) → Script
script_in known number [] = ([], None)
script_in known number (line ∷ lines) = read_before number (line_of known (words line)) (script_in known (number + 1) lines)

-- an input that was read whole, and its script
pub record HasScript (known : List ControlWord) (unread left : Option (List ℕ)) (script : Script) : Type 0 where
  pub input : List ℕ
  pub within : length input ≤ 1048576
  pub consumed : Consumes unread left input
  pub ended : IsAtEnd left
  pub read : script_in known 1 (lines_in input) ≡ script

-- what a command came to: what it asked, with the answer, or an audit
abbrev pub Said : Type 0
Said = (Ask × Answer) ⊎ Audited

-- the answer of what it asked
abbrev pub answer_in : Said → Option Answer
answer_in (inl said) = Some said.1
answer_in (inr audited) = None

-- its reply line
abbrev pub reply_line : Said → List ℕ
reply_line (inl said) = answer_line said.0 said.1
reply_line (inr audited) = audit_line audited

-- the reply lines of commands
abbrev pub reply_lines : List Said → List ℕ
reply_lines said = flat_map reply_line said

-- how a script may end, of which these commands weren't asked: only a fault of memory or of the writer leaves any
abbrev pub IsEnd : Option ℕ → List Command → Outcome → Type 0
IsEnd bad_line unasked Finished = (unasked ≡ []) × (bad_line ≡ None)
IsEnd bad_line unasked (BadLine number) = (unasked ≡ []) × (bad_line ≡ Some number)
IsEnd bad_line unasked Memory = ⊤
IsEnd bad_line unasked WriteFault = ⊤
IsEnd bad_line unasked _ = ⊥

-- Why an input isn't run at all: it is too long; or the reader or the writer failed, or memory was wanting, of which no more is said.
abbrev pub IsUnread : Option (List ℕ) → Outcome → Type 0
IsUnread unread TooLong = IfSome unread (λ bytes. 1048576 < length bytes)
IsUnread unread ReadFault = ⊤
IsUnread unread Memory = ⊤
IsUnread unread WriteFault = ⊤
IsUnread unread _ = ⊥

module _ (verdicts : Verdicts) (tells : Words) where
  -- A command, while names stand for this: what it asks is answered by the device, whose words are such as may have been told; an audit leaves the device as it is,
  -- and agrees, where it finds memory.
  abbrev pub IsSaid : Bound → Command → Said → DeviceData → DeviceData → Type 0
  IsSaid bound command (inl said) old new = (asked_by bound command ≡ Some said.0) × Handles verdicts old new 0 said.0 said.1
      × HaveWords tells new.plan (now verdicts new.plan (past new.steps)) new.words
  IsSaid bound command (inr audited) old new = (asked_by bound command ≡ None) × (new ≡ old) × (audited ≢ audits.Memory → audited ≡ Equal (length old.steps))

  -- commands one after another, each once, with what names stand for behind those before it
  abbrev pub AreSaid : Bound → List Command → List Said → DeviceData → DeviceData → Type 0
  AreSaid bound [] [] old new = new ≡ old
  AreSaid bound (command ∷ commands) (one ∷ said) old new = (between : DeviceData) × IsSaid bound command one old between
      × AreSaid (bound_behind command (answer_in one) bound) commands said between new
  AreSaid bound [] (one ∷ said) old new = ⊥
  AreSaid bound (command ∷ commands) [] old new = ⊥

  -- Of the code: what a line does where it doesn't end the run. Its command comes to something, which is printed; a line that is skipped does nothing.
  abbrev pub IsLine : Option (Option Command) → Bound → Bound → DeviceData → DeviceData → Option (List ℕ) → Option (List ℕ) → Type 0
  IsLine None bound bound_after old new before after = ⊥
  IsLine (Some None) bound bound_after old new before after = (bound_after ≡ bound) × (new ≡ old) × (after ≡ before)
  IsLine (Some (Some command)) bound bound_after old new before after =
      (one : Said) × IsSaid bound command one old new × (bound_after ≡ bound_behind command (answer_in one) bound) × Appends before after (reply_line one)

  -- Of the code: what it does where it ends the run. Where its reply couldn't be written its command has come to something all the same.
  abbrev pub IsLastLine : Option (Option Command) → Bound → DeviceData → DeviceData → Option (List ℕ) → Option (List ℕ) → LineEnd → Type 0
  IsLastLine read bound old new before after NotACommand = (read ≡ None) × (new ≡ old) × (after ≡ before)
  IsLastLine read bound old new before after ends.Memory = (new ≡ old) × (after ≡ before)
  IsLastLine read bound old new before after ends.WriteFault = (command : Command) × (one : Said) × (read ≡ Some (Some command)) × IsSaid bound command one old new

  -- The first commands of a script have come to this, and led a device from old to new.
  pub record WasRun (script : Script) (old new : DeviceData) (said : List Said) (outcome : Outcome) : Type 0 where
    pub asked : List Command
    pub unasked : List Command
    pub split : script.0 ≡ asked ++ unasked
    pub each : AreSaid unbound asked said old new
    pub end : IsEnd script.1 unasked outcome

  -- Of the code: the same, and its reply lines were printed, unless the writer failed.
  abbrev pub HasSaid : Script → DeviceData → DeviceData → Outcome → Option (List ℕ) → Option (List ℕ) → Type 0
  HasSaid script old new outcome before after = (said : List Said) × WasRun script old new said outcome × (outcome ≢ WriteFault → Appends before after (reply_lines said))

  -- An input was read whole and its script has run, or it wasn't and nothing has.
  abbrev pub HasEnded : List ControlWord → Option (List ℕ) → Option (List ℕ) → DeviceData → DeviceData → List Said → Outcome → Type 0
  HasEnded known unread left old new said outcome = ((script : Script) × HasScript known unread left script × WasRun script old new said outcome)
      ⊎ ((said ≡ []) × (new ≡ old) × IsUnread unread outcome)

  -- It has ended so, its reply lines were printed, and then such more, unless the writer failed.
  abbrev pub HasPrinted : List ControlWord → Option (List ℕ) → Option (List ℕ) → DeviceData → DeviceData → Outcome → List ℕ → Option (List ℕ) → Option (List ℕ) → Type 0
  HasPrinted known unread left old new outcome more before after =
      (said : List Said) × HasEnded known unread left old new said outcome × (outcome ≢ WriteFault → Appends before after (reply_lines said ++ more))
