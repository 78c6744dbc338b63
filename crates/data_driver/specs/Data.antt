-- What the driver means by its relations: each is a limit, or a word (Linux driver API, "V4L2 Controls", has the callbacks: "Control
-- Clusters" for `try_ctrl`, "Adding Notify Callbacks" for notifications; the relations are of this project).
use Rattle.std.specs.Prelude.{◌≡◌, ℕ, ◌++◌, [], List, Option, None, Some}
use Rattle.ctrl_types.specs.declared.value.CtrlValue.{CtrlValue}
use Rattle.ctrl_calls.specs.Meanings.{Verdicts, Words}
use Rattle.ctrl_calls.specs.declared.verdict.Verdict.{Verdict}
use Rattle.ctrl_calls.specs.declared.verdict.Verdict.TheVariants.{Accept}
use Rattle.data_driver.specs.Limits.{verdict_of, limit_places}
use Rattle.data_driver.specs.Relations.{limit_of, told_word}
use Rattle.data_driver.specs.Words.{word_of, word_places}
use Rattle.data_driver.specs.declared.limit.Limit.{Limit}
use Rattle.data_driver.specs.declared.word.Word.{Word}

-- a limit, where there is one, judges the row; else it is accepted as it is
abbrev pub verdict_by : Option Limit → List CtrlValue → Verdict
verdict_by (Some limit) row = verdict_of limit row
verdict_by None row = Accept row

-- what the validators make of a row: what the limit does that their relation is
abbrev pub data_verdict : Verdicts
data_verdict relation row = verdict_by (limit_of relation) row

-- a word, where there is one, says what is told of a row; else it is 0
abbrev pub said : Option Word → List CtrlValue → ℕ
said (Some word) row = word_of word row
said None row = 0

-- what the notifiers say of a row: what the word does that their relation is, and nothing else
abbrev pub data_told : Words
data_told relation row word = word ≡ said (told_word relation) row

-- the places that a limit and a word name, each where there is one
abbrev pub places_named : Option Limit → Option Word → List ℕ
places_named (Some limit) (Some word) = limit_places limit ++ word_places word
places_named (Some limit) None = limit_places limit
places_named None (Some word) = word_places word
places_named None None = []
