-- A cluster as plain data (Linux driver API, "V4L2 Controls", "Control Clusters").
use Rattle.std.specs.Prelude.{ℕ, ℤ, List, Option}
use Rattle.ctrl_calls.specs.declared.relation.Relations.{Relations}

-- its members, the first of which is its master; the master's manual value, where it is an auto cluster; and what its closures
-- answer by
pub record ClusterData : Type 0 where
  pub members : List ℕ
  pub manual : Option ℤ
  pub calls : Relations
