use Rattle.std.proofs.Common.{◌<◌, length, ap, sym, ◌∙◌}
use Rattle.std.specs.Result.{result_err}
use Rattle.ctrl_types.specs.declared.ids.Pair.{Pair}
use Rattle.ctrl_lists.specs.View.{pair_of}
use Rattle.ctrl_lists.specs.Checks.{at_first, naming_check}
use Rattle.ctrl_lists.proofs.ListLemmas.{all_pushed, gives_pushed, passes, pushed_length}
use Rattle.ctrl_lists.proofs.naming.pairs_of.Goals as goal

-- one more pair, of an entry that names a control
pub loop-place-preserved : goal.loop-place-preserved
loop-place-preserved g c =
    let old = c.loop-place.invariant in
    let P : Pair → Type 0 = λ p. p.control < length c.args.view.now.plan.controls in
    let d = c.index-list-place.result in
    let at_d = pair_of c.args.view.now.plan c.args.view.now.parts.handler c.args.view.now.parts.which in
    let gives = sym (ap at_d c.index-list-place.is) ∙ c.in-Ok.ensures.pair in
    record {
      so_far = gives_pushed (pair_of c.args.view.now.plan c.args.view.now.parts.handler c.args.view.now.parts.which) c.args.list.now c.loop-place.place d c.in-Ok.pair c.loop-place.pairs.items c.push_reserved.new.self.items
          c.loop-place-test.true old.so_far c.push_reserved.ensures.items gives;
      each = pushed_length c.loop-place.pairs.items c.push_reserved.new.self.items c.in-Ok.pair c.loop-place.place c.push_reserved.ensures.items old.each;
      none = passes (naming_check c.args.view.now.plan c.args.view.now.parts) (at_first (naming_check c.args.view.now.plan c.args.view.now.parts) c.args.list.now) c.args.list.now c.loop-place.place d c.loop-place-test.true
          (sym (ap (naming_check c.args.view.now.plan c.args.view.now.parts) c.index-list-place.is) ∙ sym c.pair_of.ensures.check ∙ ap result_err c.in-Ok.is) old.none;
      known = all_pushed P c.loop-place.pairs.items c.push_reserved.new.self.items c.in-Ok.pair c.push_reserved.ensures.items old.known c.in-Ok.ensures.known;
      room = rw c.push_reserved.ensures.capacity old.room;
    }
