use Rattle.std.proofs.Common.{◌≡◌, ◌&&◌, ℕ, List, filter, not, false, nat_eq, slice_index_or, ap, subst, arith}
use Rattle.std.specs.List.{range_with_len}
use Rattle.std.specs.Result.{IfOk}
use Rattle.reach_table.specs.Reached.{is_reached, others_reached}
use Rattle.reach_table.proofs.CountLemmas.{filter_same}
use Rattle.reach_table.proofs.table.row_of.Goals as goal

-- what is marked is reached
pub returns-clause-row : goal.returns-clause-row
returns-clause-row c =
    let same : filter (λ n. slice_index_or c.mark_reached.new.marks n false && not (nat_eq c.args.from n)) (range_with_len 0 c.args.count) ≡ others_reached c.args.count c.args.links.now c.args.from =
    filter_same (λ n. slice_index_or c.mark_reached.new.marks n false && not (nat_eq c.args.from n)) (λ n. is_reached c.args.links.now c.args.from n && not (nat_eq c.args.from n)) 0 c.args.count
    (λ n lt. ap (λ b. b && not (nat_eq c.args.from n)) (c.mark_reached.ensures.marked n (omega (arith, lt, c.requires.marks)))) in
    subst (λ (wanted : List ℕ). IfOk c.marked_others.result (λ row. row ≡ wanted)) same c.marked_others.ensures
