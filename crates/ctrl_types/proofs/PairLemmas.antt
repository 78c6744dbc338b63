-- The last pair of a control.
use Rattle.std.proofs.Common.{◌≡◌, ℕ, ◌==◌, true, false, List, ◌∷◌, if◌then◌else◌, Option, None, Some, refl}
use Rattle.std.specs.Option.{option_or}
use Rattle.ctrl_types.specs.Pairs.{last_value}
use Rattle.ctrl_types.specs.declared.ids.Pair.{Pair}
use Rattle.ctrl_types.specs.declared.value.CtrlValue.{CtrlValue}

-- what was found so far counts where the pairs that are left give nothing
abbrev pub last_from : Option CtrlValue → List Pair → ℕ → Option CtrlValue
last_from found pairs c = option_or (last_value pairs c) found

or_or : (a b d : Option CtrlValue) → option_or (option_or a b) d ≡ option_or a (option_or b d)
or_or None b d = refl
or_or (Some x) b d = refl

-- a pair of the control takes the place of what was found
pub last_more : (found : Option CtrlValue) (p : Pair) (pairs : List Pair) (c : ℕ) → (p.control == c) ≡ true → last_from found (p ∷ pairs) c ≡ last_from (Some p.value) pairs c
last_more found p pairs c h = rw h (or_or (last_value pairs c) (Some p.value) found)

-- another pair leaves it
pub last_skip : (found : Option CtrlValue) (p : Pair) (pairs : List Pair) (c : ℕ) → (p.control == c) ≡ false → last_from found (p ∷ pairs) c ≡ last_from found pairs c
last_skip found p pairs c h = rw h (or_or (last_value pairs c) None found)
