-- The values that controls get where pairs are laid over values (of this project).
use Rattle.std.specs.Prelude.{ℕ, Bool, false, not, List, map, filter, Option, None, Some, nat_eq}
use Rattle.std.specs.List.{list_any}
use Rattle.ctrl_types.specs.declared.ids.Pair.{Pair}
use Rattle.ctrl_handlers.specs.Plan.{PlanData, cluster_of}
use Rattle.ctrl_clusters.specs.Rows.{Values, value_at}

-- a control whose cluster is among refused ones
abbrev pub is_refused_in : List ℕ → Option ℕ → Bool
is_refused_in refused None = false
is_refused_in refused (Some k) = list_any (nat_eq k) refused

-- what is applied of pairs: those whose cluster isn't refused, each with the value that its control has afterwards
abbrev pub applied_pairs : PlanData → Values → List ℕ → List Pair → List Pair
applied_pairs plan after refused pairs = map (λ p. record { control = p.control; value = value_at after p.control }) (filter (λ p. not (is_refused_in refused (cluster_of plan p.control))) pairs)
