-- The words by which scripts name the controls of a device (of this project), over their bytes.
use Rattle.std.specs.Prelude.{ℕ, ◌==◌, List, Option}
use Rattle.std.specs.List.{find}
use Rattle.std.specs.Option.{option_map}
use Rattle.std.specs.Str.{bytes_eq}
use Rattle.ctrl_types.specs.declared.ids.CtrlId.{CtrlId}

-- a row of the table: a word, and the id and the number of the control that it names
pub record ControlWord : Type 0 where
  pub word : List ℕ
  pub id : CtrlId
  pub number : ℕ

-- the first row with this word
abbrev pub row_named : List ControlWord → List ℕ → Option ControlWord
row_named known word = find (λ row. bytes_eq word row.word) known

-- the id of the control that a word names
abbrev pub known_id : List ControlWord → List ℕ → Option CtrlId
known_id known word = option_map (λ row. row.id) (row_named known word)

-- its number
abbrev pub known_number : List ControlWord → List ℕ → Option ℕ
known_number known word = option_map (λ row. row.number) (row_named known word)

-- the word of a control, by its number: that of the first row with it
abbrev pub known_word : List ControlWord → ℕ → Option (List ℕ)
known_word known number = option_map (λ row. row.word) (find (λ row. row.number == number) known)
