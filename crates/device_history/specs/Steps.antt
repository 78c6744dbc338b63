-- A history: the accepted steps, each with the number of the seat that it was entered for (of this project).
use Rattle.std.specs.Prelude.{List}
use Rattle.history.specs.declared.entry.Entry.{Entry}
use Rattle.device_history.specs.declared.ask.Step.{Step}

-- the accepted steps, oldest first
abbrev pub History : Type 0
History = List (Entry Step)

-- the same, newest first, as definitions go over them: the number of an entry is the length of what is older
abbrev pub Past : Type 0
Past = List (Entry Step)
