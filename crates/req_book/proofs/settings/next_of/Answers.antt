use Rattle.std.proofs.Common.{◌≡◌, ◌+◌, ◌++◌, ◌∷◌, ◌∙◌, [], take, ap, sym, subst, List, rules}
use Rattle.std.proofs.lemmas.List.{take_more}
use Rattle.ctrl_types.specs.declared.ids.Pair.{Pair}
use Rattle.req_book.specs.Named.{IsNextNamed}
use Rattle.req_book.proofs.SettingLemmas.{next_here, next_stays}
use Rattle.req_book.proofs.settings.next_of.Goals.{then-from-pair+then-pair-next, else-from-pair}
use Rattle.req_book.proofs.settings.next_of.Goals as goal

pub loop-pair-preserved : goal.loop-pair-preserved
loop-pair-preserved c =
    let so_far : List Pair = take c.loop-pair.pair-index c.args.pairs.now in
    let more : take (c.loop-pair.pair-index + 1) c.args.pairs.now ≡ so_far ++ c.pair-item.result ∷ [] =
    take_more c.args.pairs.now c.loop-pair.pair-index c.pair-item.result c.loop-pair-test.true ∙ ap (λ (p : Pair). so_far ++ p ∷ []) (sym c.pair-item.is) in
    subst (λ (pairs : List Pair). IsNextNamed pairs c.args.from c.args.end c.if-from-pair.next) (sym more)
    (elim c.if-from-pair.branch [
      | then-from-pair+then-pair-next w ↦ rw w.next-is (next_here so_far c.pair-item.result c.args.from c.args.end c.loop-pair.next c.loop-pair.invariant (search rules) (search rules))
      | else-from-pair w ↦ rw w.next-is (next_stays so_far c.pair-item.result c.args.from c.args.end c.loop-pair.next c.loop-pair.invariant (search rules))
    ])
