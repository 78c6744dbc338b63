use Rattle.std.proofs.Common.{rules, ◌≡◌, ◌∙◌, ◌+◌, ◌++◌, ◌∷◌, [], cond, suc, sym, ap, List, ℕ, arith}
use Rattle.std.specs.List.{filter, range_with_len}
use Rattle.frame_forecast.specs.Sparse.{can_move}
use Rattle.ctrl_clusters.proofs.RisingLemmas.{passing_more}
use Rattle.frame_forecast.proofs.moving.moved_controls.Goals as goal

pub loop-control-preserved : goal.loop-control-preserved
loop-control-preserved g c =
    let one : suc c.loop-control.control ≡ c.loop-control.control + 1 = omega arith in
    (search rules)
    ∙ ap (λ (l : List ℕ). l ++ cond (can_move c.args.plan.now c.args.pairs.now c.loop-control.control) (c.loop-control.control ∷ []) []) c.loop-control.invariant
    ∙ sym (passing_more (can_move c.args.plan.now c.args.pairs.now) c.loop-control.control)
    ∙ ap (λ (n : ℕ). filter (can_move c.args.plan.now c.args.pairs.now) (range_with_len 0 n)) one
