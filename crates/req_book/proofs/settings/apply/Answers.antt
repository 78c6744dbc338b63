use Rattle.std.proofs.Common.{rules, ◌≡◌, ◌+◌, ◌++◌, ◌∷◌, ◌∙◌, [], ap, sym, subst, take, map, None, List}
use Rattle.std.proofs.lemmas.List.{take_more}
use Rattle.std.specs.List.{range_with_len}
use Rattle.ctrl_types.specs.Pairs.{last_value}
use Rattle.ctrl_types.specs.declared.ids.Pair.{Pair}
use Rattle.req_book.proofs.SettingLemmas.{map_more, map_all, given_here, given_elsewhere}
use Rattle.req_book.proofs.settings.apply.Goals.{then-pair-controls, else-pair-controls}
use Rattle.req_book.proofs.settings.apply.Goals as goal

pub loop-control-preserved : goal.loop-control-preserved
loop-control-preserved c = record {
  so_far = map_more c.loop-control.applied.items c.loop-control.control None (λ i. None) (search rules) c.loop-control.invariant.so_far (search rules);
  long = search rules;
}

-- no control has a value yet
pub loop-pair-init : goal.loop-pair-init
loop-pair-init c = map_all c.loop-control.applied.items c.loop-control.control c.args.controls (last_value []) c.loop-control.invariant.so_far (search rules) (search rules)

-- one more pair gives its control a value, where it is one of these
pub loop-pair-preserved : goal.loop-pair-preserved
loop-pair-preserved c =
    let so_far : List Pair = take c.loop-pair.pair-index c.args.pairs.now in
    let more : take (c.loop-pair.pair-index + 1) c.args.pairs.now ≡ so_far ++ c.pair-item.result ∷ [] =
    take_more c.args.pairs.now c.loop-pair.pair-index c.pair-item.result c.loop-pair-test.true ∙ ap (λ (p : Pair). so_far ++ p ∷ []) (sym c.pair-item.is) in
    subst (λ (pairs : List Pair). c.if-pair-controls.applied.items ≡ map (last_value pairs) (range_with_len 0 c.args.controls)) (sym more)
    (elim c.if-pair-controls.branch [
      | then-pair-controls w ↦ (search rules) ∙ given_here c.loop-pair.applied.items so_far c.pair-item.result c.args.controls c.loop-pair.invariant (search rules)
      | else-pair-controls w ↦ rw w.applied-is (given_elsewhere c.loop-pair.applied.items so_far c.pair-item.result c.args.controls c.loop-pair.invariant (search rules))
    ])
