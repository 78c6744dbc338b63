use Rattle.std.proofs.Common.{◌∙◌, [], get_or, sym, ap}
use Rattle.reach_table.specs.Reached.{others_reached}
use Rattle.reach_table.proofs.ReachLemmas.{no_others, no_links}
use Rattle.reach_table.proofs.table.ReachTable.build.Goals as goal

pub returns-then-is_empty : goal.returns-then-is_empty
returns-then-is_empty c n lt =
    ap (λ rows. get_or rows n []) c.new.ensures.items
    ∙ sym (no_others c.args.count n)
    ∙ ap (λ links. others_reached c.args.count links n) (sym (no_links c.args.links.now (sym c.is_empty.ensures ∙ c.if-is_empty.true)))
