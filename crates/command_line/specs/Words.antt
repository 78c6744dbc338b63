-- What is wrong with the words of a command line (of this project).
use Rattle.std.specs.Prelude.{ℕ, Bool, ◌||◌, List, [], ◌∷◌, Option, Some, None, codes, if◌then◌else◌}
use Rattle.std.specs.Str.{bytes_eq}
use Rattle.command_line.specs.declared.words.WordsFault.{WordsFault}
use Rattle.command_line.specs.declared.words.WordsFault.TheVariants.{Missing, Unknown, Further}

-- a word that says what the tool is to do
abbrev pub is_mode : List ℕ → Bool
is_mode word = bytes_eq word (codes "run") || (bytes_eq word (codes "pair") || bytes_eq word (codes "board"))

-- what is wrong with the words behind that one
abbrev pub further : List (List ℕ) → Option (ℕ × WordsFault)
further [] = None
further (word ∷ rest) = Some (2, Further)

-- What is wrong, and the place of the word, of which the program has place 0: behind the program stands one such word alone.
abbrev pub words_fault : List (List ℕ) → Option (ℕ × WordsFault)
words_fault [] = Some (1, Missing)
words_fault (program ∷ []) = Some (1, Missing)
words_fault (program ∷ word ∷ rest) = if is_mode word then further rest else Some (1, Unknown)
