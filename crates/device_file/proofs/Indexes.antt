-- The index that a key of a table of items writes.
use Rattle.std.proofs.Common.{◌≡◌, ◌∙◌, ℕ, ◌^◌, ◌<◌, List, [], ◌∷◌, length, true, arith, refl, ap, sym, Option, Some, None, Ok, Err}
use Rattle.std.proofs.lemmas.Grind.{common_steps}
use Rattle.std.proofs.lemmas.Bool.Decides.{nat_tests}
use Rattle.std.specs.Char.{digit_value}
use Rattle.std.specs.Option.{ok_or}
use Rattle.std.specs.Str.Parse.{AllDigits, IsNumeral, digits_value, without_leading_plus}
use Rattle.file_faults.specs.Faults.{wrong}
use Rattle.device_file.specs.Items.{are_digits, index_named, number_of_digits}
use Rattle.file_faults.specs.declared.fault.KeyFault.{KeyFault}
use Rattle.file_faults.specs.declared.key.Key.TheVariants as keys
use Rattle.file_faults.specs.declared.problem.Problem.TheVariants as problems

are_all : (ds : List ℕ) → AllDigits 10 ds → are_digits ds ≡ true
are_all [] h = refl
are_all (c ∷ cs) h =
    let front : digit_value c < 10 = h.0 in
    let rest : are_digits cs ≡ true = are_all cs h.1 in
    grind (arith, common_steps)

all_are : (ds : List ℕ) → are_digits ds ≡ true → AllDigits 10 ds
all_are [] h = tt
all_are (c ∷ cs) h = grind (arith, common_steps, all_are cs)

fits : (ds : List ℕ) → IsNumeral 10 ds × (digits_value 10 ds < 2 ^ 32) → number_of_digits ds ≡ Some (digits_value 10 ds)
fits ds h =
    let some : 0 < length ds = h.0.0 in
    let digits : are_digits ds ≡ true = are_all ds h.0.1 in
    let small : digits_value 10 ds < 2 ^ 32 = h.1 in
    grind (arith, nat_tests, common_steps)

misfits : (ds : List ℕ) → ¬ (IsNumeral 10 ds × (digits_value 10 ds < 2 ^ 32)) → number_of_digits ds ≡ None
misfits ds h = grind (arith, nat_tests, common_steps, all_are ds, h)

-- what `parse` reads as a number of 32 bits is the index that the key writes
pub index_ok : (key : List ℕ) (number : ℕ) → (IsNumeral 10 (without_leading_plus key) × (digits_value 10 (without_leading_plus key) < 2 ^ 32))
    × (number ≡ digits_value 10 (without_leading_plus key)) → Ok number ≡ index_named key
index_ok key number h =
    let fit = fits (without_leading_plus key) h.0 in
    let same : number ≡ digits_value 10 (without_leading_plus key) = h.1 in
    ap Ok same ∙ sym (ap (λ (n : Option ℕ). ok_or n (wrong keys.Menu problems.NotItemIndex)) fit)

pub index_err : (key : List ℕ) (fault : KeyFault) → ¬ (IsNumeral 10 (without_leading_plus key) × (digits_value 10 (without_leading_plus key) < 2 ^ 32))
    → fault ≡ wrong keys.Menu problems.NotItemIndex → Err fault ≡ index_named key
index_err key fault h said =
    let none = misfits (without_leading_plus key) h in
    ap Err said ∙ sym (ap (λ (n : Option ℕ). ok_or n (wrong keys.Menu problems.NotItemIndex)) none)
