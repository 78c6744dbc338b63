-- How the words of a line are gone through one after another (of this project).
use Rattle.std.specs.Prelude.{◌≡◌, ◌≢◌, ℕ, ◌<◌, Bool, true, false, List, [], ◌∷◌, length, Option, None, Some, slice_index, ⊤}
use Rattle.script_lines.specs.Commands.{which_of}
use Rattle.script_lines.specs.Names.{name_of}
use Rattle.script_lines.specs.declared.command.WhichWord.{WhichWord}
use Rattle.script_lines.specs.declared.name.Name.{Name}
use Rattle.script_lines.specs.declared.parse.Verb.{Verb}
use Rattle.script_lines.specs.declared.parse.Verb.TheVariants.{Get, Set, Try}

-- a text without a byte, or whose first is no space
abbrev pub BeginsWithWord : List ℕ → Type 0
BeginsWithWord [] = ⊤
BeginsWithWord (b ∷ text) = b ≢ 32

-- a place of a text where a space is, or its end
abbrev pub EndsWord : List ℕ → ℕ → Type 0
EndsWord text end = end < length text → slice_index text end ≡ 32

-- the operands of a command about a list: a file handle, which values, and the words of the entries
abbrev pub head_parts : Option Name → Option WhichWord → List (List ℕ) → Option (Name × WhichWord × List (List ℕ))
head_parts (Some fh) (Some which) entries = Some (fh, which, entries)
head_parts (Some fh) None entries = None
head_parts None which entries = None

abbrev pub head_of : List (List ℕ) → Option (Name × WhichWord × List (List ℕ))
head_of [] = None
head_of (fh ∷ []) = None
head_of (fh ∷ which ∷ entries) = head_parts (name_of fh) (which_of which) entries

-- the command of a verb isn't about a list
abbrev pub is_short : Verb → Bool
is_short Get = false
is_short Set = false
is_short Try = false
is_short _ = true
