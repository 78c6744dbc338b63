-- What is wrong with a table of a device file. Reading goes from key to key, and the first fault that is met is the answer (of this project).
use Rattle.std.specs.Prelude.{ℕ, Some, None, Result, Ok, Err}
use Rattle.file_faults.specs.declared.fault.FileFault.{FileFault}
use Rattle.file_faults.specs.declared.fault.FileFault.TheVariants as files
use Rattle.file_faults.specs.declared.fault.KeyFault.{KeyFault}
use Rattle.file_faults.specs.declared.key.Key.{Key}
use Rattle.file_faults.specs.declared.place.Place.{Place}
use Rattle.file_faults.specs.declared.problem.Problem.{Problem}

-- a key is wrong, in this way
abbrev pub wrong : Key → Problem → KeyFault
wrong key problem = record { key = key; element = None; problem = problem }

-- one element of a key's array is wrong, or the item at an index
abbrev pub wrong_at : Key → ℕ → Problem → KeyFault
wrong_at key element problem = record { key = key; element = Some element; problem = problem }

-- What is read next, of what was read; a fault before it stays. `do` writes it line by line.
abbrev pub read_then : {A B E : Type 0} → (A → Result B E) → Result A E → Result B E
read_then next (Ok it) = next it
read_then next (Err fault) = Err fault

infixl 10 ◌>>=◌
abbrev pub ◌>>=◌ : {A B E : Type 0} → Result A E → (A → Result B E) → Result B E
read >>= next = read_then next read

-- what is read of the table at a place of the file
abbrev pub at_place : {A : Type 0} → Place → Result A KeyFault → Result A FileFault
at_place place (Ok it) = Ok it
at_place place (Err fault) = Err (files.Table place fault)
