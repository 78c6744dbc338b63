-- Where a menu takes an item (Linux driver API, "V4L2 Controls", "Menu Controls").
use Rattle.std.specs.Prelude.{ℕ, pos, Bool, false, is_ok}
use Rattle.ctrl_types.specs.declared.kind.Kind.{Kind}
use Rattle.ctrl_types.specs.declared.kind.Kind.TheVariants.{Menu, IntegerMenu}
use Rattle.ctrl_types.specs.declared.value.CtrlValue.TheVariants.{Number}
use Rattle.ctrl_settle.specs.Control.{Control}
use Rattle.ctrl_settle.specs.Settle.{settle}
use Rattle.menu_items.specs.declared.item.MenuItem.{MenuItem}
use Rattle.menu_items.specs.declared.item.MenuItem.TheVariants.{Name, Number}

-- an index that a menu takes: within its range, and not skipped
abbrev pub is_taken : Control → ℕ → Bool
is_taken ctrl index = is_ok (settle ctrl (Number (pos index)))

-- a control takes a name at an index: its items have names, and it takes the index
abbrev pub names_in : Kind → Control → ℕ → Bool
names_in Menu ctrl index = is_taken ctrl index
names_in _ ctrl index = false

abbrev pub takes_name : Control → ℕ → Bool
takes_name ctrl index = names_in ctrl.kind ctrl index

-- a control takes a number at an index: its items are numbers, and it takes the index
abbrev pub numbers_in : Kind → Control → ℕ → Bool
numbers_in IntegerMenu ctrl index = is_taken ctrl index
numbers_in _ ctrl index = false

abbrev pub takes_number : Control → ℕ → Bool
takes_number ctrl index = numbers_in ctrl.kind ctrl index

-- a control takes an item at an index
abbrev pub takes : MenuItem → Control → ℕ → Bool
takes (Name name) ctrl index = takes_name ctrl index
takes (Number number) ctrl index = takes_number ctrl index
