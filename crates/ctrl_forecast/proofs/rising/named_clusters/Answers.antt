use Rattle.std.proofs.Common.{◌≡◌, ◌∙◌, ◌+◌, ◌++◌, ℕ, true, Vec, Global, List, [], ◌∷◌, length, take, ap, sym, arith}
use Rattle.std.proofs.lemmas.List.{take_more}
use Rattle.ctrl_types.specs.declared.ids.Pair.{Pair}
use Rattle.ctrl_forecast.specs.Boards.{named_clusters}
use Rattle.ctrl_clusters.specs.Rising.{with_or_without}
use Rattle.ctrl_clusters.proofs.RisingLemmas.{length_marked}
use Rattle.ctrl_forecast.proofs.NamingLemmas.{named_none, named_more, named_unknown}
use Rattle.ctrl_forecast.proofs.rising.named_clusters.Goals.{then-control-count+in_ok-reserve, else-control-count}
use Rattle.ctrl_forecast.proofs.rising.named_clusters.Goals as goal

pub loop-pair-init : goal.loop-pair-init
loop-pair-init g c = c.new-named.ensures.items ∙ named_none c.args.plan.now

pub mark-requires : goal.mark-requires
mark-requires g c = record { room = let more = length_marked c.cluster_of.result c.reserve.new.self.items in omega (arith, more, c.in_ok-reserve.ensures.ok) }

pub loop-pair-preserved : goal.loop-pair-preserved
loop-pair-preserved g c =
    let i : ℕ = c.loop-pair.pair-index in
    let p : Pair = c.pair-item.result in
    let before : List Pair = take i c.args.pairs.now in
    let next : take (i + 1) c.args.pairs.now ≡ before ++ p ∷ [] = take_more c.args.pairs.now i p c.loop-pair-test.true ∙ ap (λ (q : Pair). before ++ q ∷ []) (sym c.pair-item.is) in
    elim c.if-control-count.branch [
      | then-control-count+in_ok-reserve w ↦
          ap (λ (v : Vec ℕ Global). v.items) w.named-is ∙ w.mark.ensures.numbers ∙ ap (with_or_without w.cluster_of.result true) (w.reserve.ensures.items ∙ c.loop-pair.invariant)
          ∙ sym (named_more c.args.plan.now before p w.cluster_of.result c.controls-count.ensures.finished.is_plan w.cluster_of.ensures.cluster) ∙ ap (named_clusters c.args.plan.now) (sym next)
      | else-control-count w ↦
          ap (λ (v : Vec ℕ Global). v.items) w.named-is ∙ c.loop-pair.invariant
          ∙ sym (named_unknown c.args.plan.now before p c.controls-count.ensures.finished.is_plan (omega (arith, w.if-control-count.false, ap length c.controls-count.ensures.controls))) ∙ ap (named_clusters c.args.plan.now) (sym next)
    ]
