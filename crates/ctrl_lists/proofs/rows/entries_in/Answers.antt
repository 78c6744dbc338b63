use Rattle.std.proofs.Common.{ap, ◌∙◌}
use Rattle.ctrl_types.specs.declared.ids.Pair.{Pair}
use Rattle.ctrl_lists.specs.Touched.{entry_in}
use Rattle.ctrl_lists.proofs.ListLemmas.{map_pushed}
use Rattle.ctrl_lists.proofs.rows.entries_in.Goals as goal

-- one more entry
pub loop-pair-preserved : goal.loop-pair-preserved
loop-pair-preserved g c =
    let old = c.loop-pair.invariant in
    let d = c.pair-item.result in
    let read = λ (p : Pair). entry_in c.args.at.now.plan.now c.args.at.now.values.now c.args.rows.now.rows p.control in
    record {
      so_far = map_pushed read c.args.pairs.now c.loop-pair.pair-index d c.loop-pair.entries.items c.push_reserved.new.self.items c.entry_in.result
          c.loop-pair-test.true old.so_far c.push_reserved.ensures.items (c.entry_in.ensures ∙ ap read c.pair-item.is);
      room = rw c.push_reserved.ensures.capacity old.room;
    }
