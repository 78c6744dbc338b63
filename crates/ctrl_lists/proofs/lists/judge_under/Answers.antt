use Rattle.std.proofs.Common.{map, ap, ◌∙◌}
use Rattle.ctrl_types.specs.declared.ids.Pair.{Pair}
use Rattle.ctrl_lists.specs.Lists.{ListData}
use Rattle.ctrl_lists.specs.Touched.{entry_in}
use Rattle.ctrl_lists.proofs.TouchLemmas.{entries_same}
use Rattle.ctrl_lists.proofs.lists.judge_under.Goals as goal

-- the rows give each pair its entry
pub returns-in-Ok-clause-answers : goal.returns-in-Ok-clause-answers
returns-in-Ok-clause-answers g c =
    let rows = c.judge_all.new.rows.rows in
    let pairs = c.args.pairs.now in
    c.in-Ok.ensures
    ∙ ap (λ (v : ListData). map (λ (p : Pair). entry_in v.plan v.parts.values rows p.control) pairs) c.view.view_is
    ∙ entries_same g.D.Validates.verdict c.args.view.now.plan c.args.view.now.parts c.args.laid.now pairs rows c.in_ok-judge_all.ensures.rows c.requires.among
