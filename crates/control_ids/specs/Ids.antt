-- The ids of controls by the names of linux/v4l2-controls.h. They stand in rows, each behind the end of a line: the name, a space, and the id in eight hexadecimal digits.
use Rattle.std.specs.Prelude.{ℕ, ◌+◌, ◌-◌, ◌*◌, ◌%◌, ◌^◌, ◌==◌, ◌&&◌, Bool, not, nat_lt, List, [], ◌∷◌, length, take, drop, slice_index, Option, Some, None, if◌then◌else◌}
use Rattle.std.specs.List.{list_any}
use Rattle.std.specs.Str.{bytes_eq}
use Rattle.control_ids.specs.declared.table.TheConstants.{ROWS}

-- a digit, 0 to 9 and a to f
abbrev pub digit_of : ℕ → ℕ
digit_of byte = if nat_lt byte 97 then byte - 48 else byte - 87

-- the number that hexadecimal digits write, in 32 bits, behind those of another number
abbrev pub number_of : ℕ → List ℕ → ℕ
number_of n [] = n
number_of n (b ∷ bs) = number_of ((((n * 16) % 2 ^ 32) + digit_of b) % 2 ^ 32) bs

-- whether a row begins with a name, with a space behind it
abbrev pub is_named : List ℕ → List ℕ → Bool
is_named name row = bytes_eq (take (length name) row) name && slice_index row (length name) == 32

-- the id of a row, where these bytes begin that of a name: the end of a line, and what is behind it
abbrev pub row_id : List ℕ → ℕ → List ℕ → Option ℕ
row_id name first rest =
    if not (first == 10) then None
    else if nat_lt (length rest) (length name + 9) then None
    else if is_named name rest then Some (number_of 0 (take 8 (drop (length name + 1) rest)))
    else None

-- an id, or another where there is none
abbrev pub id_or : Option ℕ → Option ℕ → Option ℕ
id_or (Some id) other = Some id
id_or None other = other

-- the id of the first row of a text with a name
abbrev pub id_among : List ℕ → List ℕ → Option ℕ
id_among name [] = None
id_among name (b ∷ bs) = id_or (row_id name b bs) (id_among name bs)

-- the rows of the kernel's names
unfoldable pub kernel_rows : List ℕ
kernel_rows = ROWS.now

abbrev pub is_space : ℕ → Bool
is_space byte = byte == 32

-- the id that the kernel has for a name, where it has the name, in which no space stands
abbrev pub kernel_id : List ℕ → Option ℕ
kernel_id name = if list_any is_space name then None else id_among name kernel_rows
