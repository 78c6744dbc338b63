use Rattle.std.proofs.Common.{◌≡◌, drop, unwrap_or}
use Rattle.ctrl_types.specs.Pairs.{last_value}
use Rattle.ctrl_clusters.specs.Rows.{value_at}
use Rattle.ctrl_clusters.proofs.rows.asked_of.Given as goal

-- what was found so far counts where the pairs that are left give nothing
abbrev pub invariant-loop-pair : goal.invariant-loop-pair
invariant-loop-pair l = unwrap_or (last_value (drop l.pair-index l.pairs) l.control) l.asked ≡ unwrap_or (last_value l.pairs l.control) (value_at l.values l.control)
