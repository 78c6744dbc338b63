use Rattle.std.proofs.Common.{◌∙◌, ◌++◌, ap, sym, ℕ, true, false, [], ◌∷◌, List, Vec, Global}
use Rattle.std.proofs.lemmas.List.{append-nil}
use Rattle.ctrl_types.specs.declared.ids.Pair.{Pair}
use Rattle.ctrl_forecast.proofs.ApplyingLemmas.{applied_next}
use Rattle.ctrl_forecast.proofs.applying.applied.Goals.{then-not-is_refused+in_ok-push, else-not-is_refused}
use Rattle.ctrl_forecast.proofs.applying.applied.Goals as goal

-- one more pair is applied, where its cluster isn't refused
pub loop-pair-preserved : goal.loop-pair-preserved
loop-pair-preserved g c =
    let d : Pair = c.pair-item.result in
    let i : ℕ = c.loop-pair.pair-index in
    let old : List Pair = c.loop-pair.applied.items in
    let new : List Pair = c.if-not-is_refused.applied.items in
    elim c.if-not-is_refused.branch [
      | then-not-is_refused+in_ok-push w ↦
          applied_next c.args.plan.now c.args.values.now c.args.refused.now c.args.pairs.now i d false old new c.loop-pair-test.true c.pair-item.is c.loop-pair.invariant w.if-not-is_refused.ensures
          (ap (λ (v : Vec Pair Global). v.items) w.applied-is ∙ w.in_ok-push.ensures.items ∙ ap (λ (q : Pair). old ++ q ∷ []) w.pair_after.ensures)
      | else-not-is_refused w ↦
          applied_next c.args.plan.now c.args.values.now c.args.refused.now c.args.pairs.now i d true old new c.loop-pair-test.true c.pair-item.is c.loop-pair.invariant w.if-not-is_refused.ensures
          (ap (λ (v : Vec Pair Global). v.items) w.applied-is ∙ sym (append-nil old))
    ]
