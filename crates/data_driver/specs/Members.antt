-- The members of a cluster, named by their places, the master's being 0 (Linux driver API, "V4L2 Controls", "Control Clusters").
use Rattle.std.specs.Prelude.{ℕ, ℤ, pos, negsuc, ◌^◌, nat_lt, if◌then◌else◌, [], ◌∷◌, List, Option, None, Some}
use Rattle.data_driver.specs.declared.members.NoMember.{NoMember}

-- a number as a place, where a byte has it
abbrev pub place_of : ℤ → Option ℕ
place_of (pos place) = if nat_lt place (2 ^ 8) then Some place else None
place_of (negsuc _) = None

-- the first of these places that a cluster of so many members doesn't have
abbrev pub missing : ℕ → List ℕ → Option NoMember
missing members [] = None
missing members (place ∷ rest) = if nat_lt place members then missing members rest else Some (record { place = place; members = members })
