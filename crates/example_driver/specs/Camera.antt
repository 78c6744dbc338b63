-- What the camera's driver means by its relations: what its validators make of a row, and what its notifiers may say of one.
use Rattle.std.specs.Prelude.{◌≡◌, ◌≢◌, ℕ, ℤ, pos, ◌+ℤ◌, ◌*ℤ◌, ◌≤ℤ◌, ◌<ℤ◌, int_le, if◌then◌else◌, ⊤, [], ◌∷◌, List, ◌==◌, MatchBool}
use Rattle.ctrl_types.specs.declared.value.CtrlValue.{CtrlValue}
use Rattle.ctrl_types.specs.declared.value.CtrlValue.TheVariants.{Number}
use Rattle.ctrl_calls.specs.Meanings.{Verdicts, Words}
use Rattle.ctrl_calls.specs.declared.verdict.Verdict.{Verdict}
use Rattle.ctrl_calls.specs.declared.verdict.Verdict.TheVariants.{Accept, Refuse}
use Rattle.ctrl_types.specs.declared.errno.Errno.TheVariants.{EINVAL}

-- the lesser of two
abbrev pub lesser : ℤ → ℤ → ℤ
lesser a b = if int_le a b then a else b

-- relation 1: of red and blue, blue is at most red and the first bound; no other row is theirs
abbrev pub limited : List ℤ → List CtrlValue → Verdict
limited (margin ∷ rest) (Number red ∷ Number blue ∷ []) = Accept (Number red ∷ Number (lesser blue (red +ℤ margin)) ∷ [])
limited _ row = Refuse EINVAL

-- what the camera's validators make of a row; under another relation it is accepted as it is
abbrev pub camera_verdict : Verdicts
camera_verdict relation row = if relation.number == 1 then limited relation.bounds row else Accept row

-- the value fits a register of so many values
abbrev pub Fits : ℤ → ℤ → Type 0
Fits count value = (pos 0 ≤ℤ value) × (value <ℤ count)

-- a word has the time in the upper bytes and the gain in the lowest one, where they fit
abbrev pub AreJoined : ℤ → ℤ → ℕ → Type 0
AreJoined time gain word = Fits (pos 65536) time → Fits (pos 256) gain → pos word ≡ pos 256 *ℤ time +ℤ gain

-- relation 2: of mode, time and gain, 0 where the mode isn't the first bound; else the time and the gain
abbrev pub IsExposure : List ℤ → List CtrlValue → ℕ → Type 0
IsExposure (manual ∷ rest) (Number mode ∷ Number time ∷ Number gain ∷ []) word =
    (mode ≢ manual → word ≡ 0)
    × (mode ≡ manual → AreJoined time gain word)
IsExposure _ _ word = ⊤

-- what the camera's notifiers may say; under another relation they may say anything
abbrev pub camera_told : Words
camera_told relation row word =
    MatchBool (relation.number == 2) (IsExposure relation.bounds row word) ⊤
