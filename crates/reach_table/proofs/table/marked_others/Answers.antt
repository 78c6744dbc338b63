use Rattle.std.proofs.Common.{◌∙◌, ◌++◌, ◌∷◌, [], ◌&&◌, ℕ, Bool, cond, filter, not, false, nat_eq, slice_index_or, sym, ap}
use Rattle.std.specs.List.{range_with_len}
use Rattle.reach_table.proofs.CountLemmas.{filter_more}
use Rattle.reach_table.proofs.table.marked_others.Goals as goal

-- one number more
pub loop-number-preserved : goal.loop-number-preserved
loop-number-preserved c =
    let others : ℕ → Bool = λ n. slice_index_or c.args.marks.now n false && not (nat_eq c.args.from n) in
    c.in_ok-push_where.ensures ∙ ap (λ row. row ++ cond c.is_other.result (c.loop-number.number ∷ []) []) c.loop-number.invariant
    ∙ ap (λ there. filter others (range_with_len 0 c.loop-number.number) ++ cond there (c.loop-number.number ∷ []) []) c.is_other.ensures
    ∙ sym (filter_more others c.loop-number.number)
