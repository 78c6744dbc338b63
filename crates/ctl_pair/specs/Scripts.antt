-- How an input holds two scripts (of this project).
use Rattle.std.specs.Prelude.{◌≡◌, ◌≢◌, ℕ, ◌+◌, ◌<◌, ◌≤◌, ◌&&◌, not, Bool, true, false, if◌then◌else◌, List, [], ◌∷◌, ◌++◌, length, Option, None, Some, Result, Ok, Err, IfSome, ⊤}
use Rattle.std.specs.Io.KnownBytes.{Consumes, IsAtEnd}
use Rattle.script_lines.specs.ControlWords.{ControlWord}
use Rattle.script_lines.specs.Commands.{words, line_of}
use Rattle.script_lines.specs.Dividing.{divides}
use Rattle.script_lines.specs.declared.command.Command.{Command}
use Rattle.script_lines.specs.declared.command.Command.TheVariants.{Audit}
use Rattle.script_replies.specs.declared.outcome.Outcome.{Outcome}
use Rattle.script_replies.specs.declared.outcome.Outcome.TheVariants.{BadLine, NoSecond, TooLong, ReadFault, Memory}
use Rattle.ctl_script.specs.Lines.{lines_in}

-- what a line that was read adds to a script: a command, or nothing where it is skipped; an audit is no command here
abbrev pub commands_read : Option (Option Command) → Option (List Command)
commands_read None = None
commands_read (Some None) = Some []
commands_read (Some (Some Audit)) = None
commands_read (Some (Some command)) = Some (command ∷ [])

abbrev pub added_by : List ControlWord → List ℕ → Option (List Command)
added_by known line = commands_read (line_of known (words line))

-- what a line adds stands before what those behind it add to the same script; one that is no command is told by its number
abbrev pub with_commands : Bool → ℕ → Option (List Command) → Result (List Command × List Command) Outcome → Result (List Command × List Command) Outcome
with_commands is_second number None scripts = Err (BadLine number)
with_commands is_second number (Some commands) (Err outcome) = Err outcome
with_commands false number (Some commands) (Ok (first, second)) = Ok (commands ++ first, second)
with_commands true number (Some commands) (Ok (first, second)) = Ok (first, commands ++ second)

-- The two scripts of lines that are numbered from this number on, where these words name controls: the first line that divides stands between them. It has come where `is_second`.
abbrev pub scripts_in : List ControlWord → Bool → ℕ → List (List ℕ) → Result (List Command × List Command) Outcome
scripts_in known false number [] = Err NoSecond
scripts_in known true number [] = Ok ([], [])
scripts_in known is_second number (line ∷ lines) =
    if not is_second && divides (words line) then scripts_in known true (number + 1) lines
    else with_commands is_second number (added_by known line) (scripts_in known is_second (number + 1) lines)

-- what was read of both scripts stands before the rest
abbrev pub behind_both : List Command → List Command → Result (List Command × List Command) Outcome → Result (List Command × List Command) Outcome
behind_both first second (Ok (more, others)) = Ok (first ++ more, second ++ others)
behind_both first second (Err outcome) = Err outcome

-- a script has what a line adds to it
pub record HasAdded (known : List ControlWord) (line : List ℕ) (before after : List Command) : Type 0 where
  pub added : List Command
  pub by_line : added_by known line ≡ Some added
  pub last : after ≡ before ++ added

-- a command of a script asks something
abbrev pub IsAsk : Command → Type 0
IsAsk command = command ≢ Audit

-- Where lines hold no two scripts, this is why; only want of memory may take its place.
abbrev pub IsUndivided : List ControlWord → List (List ℕ) → Outcome → Type 0
IsUndivided known lines (BadLine number) = scripts_in known false 1 lines ≡ Err (BadLine number)
IsUndivided known lines NoSecond = scripts_in known false 1 lines ≡ Err NoSecond
IsUndivided known lines Memory = ⊤
IsUndivided known lines _ = ⊥

-- an input that was read whole, and the scripts that it holds, or why it holds none
pub record HasRead (known : List ControlWord) (unread left : Option (List ℕ)) (scripts : Result (List Command × List Command) Outcome) : Type 0 where
  pub input : List ℕ
  pub within : length input ≤ 1048576
  pub consumed : Consumes unread left input
  pub ended : IsAtEnd left
  pub read : scripts_in known false 1 (lines_in input) ≡ scripts

-- Why two scripts didn't run: the input is too long, or holds none; or the reader failed, or memory was wanting, of which no more is said.
abbrev pub IsRefused : List ControlWord → Option (List ℕ) → Option (List ℕ) → Outcome → Type 0
IsRefused known unread left (BadLine number) = HasRead known unread left (Err (BadLine number))
IsRefused known unread left NoSecond = HasRead known unread left (Err NoSecond)
IsRefused known unread left TooLong = IfSome unread (λ bytes. 1048576 < length bytes)
IsRefused known unread left ReadFault = ⊤
IsRefused known unread left Memory = ⊤
IsRefused known unread left _ = ⊥
