use Rattle.std.proofs.Common.{◌∷◌, [], arith}
use Rattle.ctrl_clusters.specs.Moments.{parts, parts_after}
use Rattle.part_tests.proofs.WithinLemmas.{all_within, four_there}
use Rattle.part_tests.proofs.raise.listeners.raise_of_four.Goals as goal

pub raise_within-requires-clause-within : goal.raise_within-requires-clause-within
raise_within-requires-clause-within c =
    let change = c.args.change.now in
    let plan = change.before.plan.now in
    all_within plan (3 ∷ 0 ∷ 2 ∷ 1 ∷ []) (parts change.before) (parts_after change) c.args.pairs.now change.before.planned
    (λ k lt. four_there k (omega (arith, lt, c.requires.four)))
    (record { ranges = change.before.ranged.many; values = change.before.valued; grabs = change.before.held })
    (record { ranges = change.ranged.many; values = change.valued; grabs = change.held })
