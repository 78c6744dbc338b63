-- The sum of a row, value by value.
use Rattle.std.proofs.Common.{◌≡◌, ℕ, suc, zero, List, [], ◌∷◌, drop, ◌+ℤ◌, Some, slice_get}
use Rattle.ctrl_types.specs.Values.{number_of}
use Rattle.ctrl_types.specs.declared.value.CtrlValue.{CtrlValue}
use Rattle.data_driver.specs.Limits.{sum_of_values}

-- from a place on: the value there, and the sum from the next place on
pub sum_of_values-drop : (row : List CtrlValue) (place : ℕ) (value : CtrlValue) → slice_get row place ≡ Some value → sum_of_values (drop place row) ≡ number_of value +ℤ sum_of_values (drop (suc place) row)
sum_of_values-drop [] place value e = cc
sum_of_values-drop (x ∷ row) zero value e = cc
sum_of_values-drop (x ∷ row) (suc place) value e = sum_of_values-drop row place value e
