use Rattle.std.proofs.Common.{◌≡◌, ◌+◌, sym, ◌∙◌, ap, take, length}
use Rattle.ctrl_clusters.specs.NewRows.{with_row, written}
use Rattle.ctrl_clusters.proofs.NewRowLemmas.{written_none, written_next, length_written}
use Rattle.ctrl_clusters.proofs.writing.write_rows.Goals as goal

pub loop-new-init : goal.loop-new-init
loop-new-init g c = record {
  so_far = sym (written_none c.args.plan.now c.args.values.now.items);
  many = c.requires.values;
}

-- one more row is written
pub loop-new-preserved : goal.loop-new-preserved
loop-new-preserved g c =
    let loop = c.loop-new in
    let plan = c.args.plan.now in
    let more : c.write_members.new.values.items ≡ written plan c.args.values.now.items (take (loop.new-index + 1) c.args.rows.now) =
    c.write_members.ensures ∙ ap (λ v. with_row v c.members.result.now c.new-item.result.row) loop.invariant.so_far
    ∙ ap (λ ms. with_row (written plan c.args.values.now.items (take loop.new-index c.args.rows.now)) ms c.new-item.result.row) c.members.ensures.members
    ∙ written_next plan c.args.values.now.items c.args.rows.now loop.new-index c.new-item.result c.members.ensures.plan c.requires.values c.requires.rows c.loop-new-test.true c.new-item.is in
    record {
      so_far = more;
      many = ap length more ∙ length_written plan c.args.values.now.items (take (loop.new-index + 1) c.args.rows.now) ∙ c.requires.values;
    }
