-- What the tool is asked to do by its command line (of this project).
use Rattle.std.specs.Prelude.{◌≡◌, true, List, [], Option, Some, Result, Ok, Err, codes, option_map}
use Rattle.clap.specs.Words.{App, Text, fault_of, new_app, subcommand_of, with_subcommand}
use Rattle.command_line.specs.declared.mode.Mode.{Mode}
use Rattle.command_line.specs.declared.mode.Mode.TheVariants.{Run, Pair, Board}
use Rattle.command_line.specs.declared.mode.ModeFault.{ModeFault}
use Rattle.command_line.specs.declared.mode.ModeFault.TheVariants.{Usage, Memory}

-- a command one of whose subcommands has to be used
abbrev pub with_required : App → App
with_required a = record { top = record a.top { subcommand_required = true }; subs = a.subs }

-- the tool's command line: three subcommands, `run`, `pair` and `board`
abbrev pub tool : App
tool = with_subcommand
    (with_subcommand
    (with_subcommand (with_required (new_app (codes "ctl_tool"))) (new_app (codes "run")).top)
    (new_app (codes "pair")).top)
    (new_app (codes "board")).top

-- The words are a command line of the tool, the first being the program.
abbrev pub IsCommandLine : List Text → Type 0
IsCommandLine words = fault_of tool words ≡ []

-- the subcommand that the words name
abbrev pub subcommand_named : List Text → Option Text
subcommand_named words = option_map (λ p. p.0) (subcommand_of tool words)

-- the subcommand of a mode
abbrev pub name_of : Mode → Text
name_of Run = codes "run"
name_of Pair = codes "pair"
name_of Board = codes "board"

-- A mode is answered only for a command line of the tool, and its subcommand is the one that the words name; `Usage` is
-- never answered for a command line of the tool.
abbrev pub Answers : Result Mode ModeFault → List Text → Type 0
Answers (Ok mode) words = IsCommandLine words × (subcommand_named words ≡ Some (name_of mode))
Answers (Err Usage) words = ¬ IsCommandLine words
Answers (Err Memory) words = Unit {0}
