use Rattle.std.proofs.Common.{◌≡◌, drop}
use Rattle.ctrl_types.specs.Pairs.{last_value}
use Rattle.ctrl_types.proofs.PairLemmas.{last_from}
use Rattle.ctrl_types.proofs.pairs.last_value.Given as goal

-- what was found counts where the pairs that are left give nothing
abbrev pub invariant-loop-pair : goal.invariant-loop-pair
invariant-loop-pair l = last_from l.last (drop l.pair-index l.pairs) l.control ≡ last_value l.pairs l.control
