-- When stores of requests are alike: what a begin applied doesn't count (of this project).
use Rattle.std.specs.Prelude.{◌≡◌, [], map}
use Rattle.req_book.specs.Requests.{RequestData, RequestsData}

-- what is compared of a request: all but what its begin applied
abbrev pub compared : RequestData → RequestData
compared r = record r { applied = [] }

-- They are for as many controls, and have the same requests in the same order: of each its number, its state, its buffer, what it asks for, and where it
-- is complete what its frame had.
pub record AreLike (one other : RequestsData) : Type 0 where
  pub controls : one.controls ≡ other.controls
  pub requests : map compared one.all ≡ map compared other.all
