-- The names that a script gives to file handles and requests (of this project).
use Rattle.std.specs.Prelude.{ℕ, Bool, ◌-◌, ◌&&◌, nat_lt, nat_le, if◌then◌else◌, List, ◌++◌, length, replicate, Option, None, Some}
use Rattle.std.specs.Char.{is_ascii_alphanumeric}
use Rattle.std.specs.List.{list_all}
use Rattle.script_lines.specs.declared.name.Name.{Name}

-- 1 to 16 ASCII letters and digits
abbrev pub is_name : List ℕ → Bool
is_name word = nat_lt 0 (length word) && nat_le (length word) 16 && list_all is_ascii_alphanumeric word

-- the name that a word writes
abbrev pub name_of : List ℕ → Option Name
name_of word =
    if is_name word
    then Some (record { bytes = word ++ replicate (16 - length word) 0; len = length word })
    else None
