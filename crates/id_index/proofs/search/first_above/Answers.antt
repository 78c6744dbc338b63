use Rattle.std.proofs.Common.{leb, arith, rules}
use Rattle.std.proofs.lemmas.Bool.Decides.{nat_tests}
use Rattle.std.proofs.lemmas.List.Sorted.{IsPartitionPoint-from_clause, IsPartitionedBy-leb}
use Rattle.id_index.proofs.search.first_above.Goals as goal

-- the place parts the greater ids from the others
pub returns-clause-point : goal.returns-clause-point
returns-clause-point c =
    let parted = IsPartitionedBy-leb (λ e. e.0) c.args.entries.now c.args.id c.requires in
    let point = IsPartitionPoint-from_clause (λ e. leb e.0 c.args.id) c.args.entries.now c.partition_point.result c.partition_point.ensures.partitioned parted (λ a r q k. search rules) in
    (λ k d low high. grind (arith, nat_tests, point.0 k d low high), λ k d low high. grind (arith, nat_tests, point.1 k d low high))
