-- What has been seen of a history so far is a prefix of it.
use Rattle.std.specs.Prelude.{◌≡◌, List, ◌++◌}

-- the second list begins with the first
pub record IsPrefix {A : Type 0} (seen all : List A) : Type 0 where
  pub rest : List A
  pub joined : seen ++ rest ≡ all
