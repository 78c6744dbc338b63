use Rattle.std.proofs.Common.{ap, ◌∙◌}
use Rattle.ctrl_lists.specs.Answers.{entry_read}
use Rattle.ctrl_lists.proofs.ListLemmas.{map_pushed}
use Rattle.ctrl_lists.proofs.lists.entries_read.Goals as goal

-- one more entry
pub loop-pair-preserved : goal.loop-pair-preserved
loop-pair-preserved g c =
    let old = c.loop-pair.invariant in
    let d = c.pair-item.result in
    let read = entry_read c.args.view.now.plan c.args.view.now.parts in
    record {
      so_far = map_pushed read c.args.pairs.now c.loop-pair.pair-index d c.loop-pair.answers.items c.push_reserved.new.self.items c.entry_read.result
          c.loop-pair-test.true old.so_far c.push_reserved.ensures.items (c.entry_read.ensures ∙ ap read c.pair-item.is);
      room = rw c.push_reserved.ensures.capacity old.room;
    }
