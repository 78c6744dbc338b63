use Rattle.std.proofs.Common.{◌∙◌, ◌||◌, Bool, List, length, false, get_or, refl, sym, ap}
use Rattle.reach_table.specs.Reached.{is_led_to, is_near}
use Rattle.reach_table.proofs.ReachLemmas.{near_next, led_same}
use Rattle.reach_table.proofs.marks.mark_reached.Goals as goal

-- the number alone is there without a link
pub loop-init : goal.loop-init
unfolding is_near
loop-init c = record {
  marked = c.mark_only.ensures.marked;
  count = c.mark_only.ensures.count;
  before = refl;
}

-- one link more
pub loop-preserved : goal.loop-preserved
loop-preserved c = record {
  marked = λ n lt.
      c.mark_next.ensures.marked n
      ∙ ap (λ (b : Bool). b || is_led_to c.args.links.now (λ k. get_or c.copy_from_slice.new.self k false) n) (c.loop.invariant.marked n lt)
      ∙ ap (λ (b : Bool). is_near c.args.links.now c.args.from c.loop.index n || b)
      (led_same (length c.args.marks.now) c.args.links.now (λ k. get_or c.copy_from_slice.new.self k false) (is_near c.args.links.now c.args.from c.loop.index) n c.requires.links
      (λ k within. ap (λ (bs : List Bool). get_or bs k false) c.copy_from_slice.ensures.after ∙ c.loop.invariant.marked k within))
      ∙ sym (near_next c.args.links.now c.args.from c.loop.index n);
  count = c.mark_next.ensures.count ∙ c.loop.invariant.count;
  before = c.copy_from_slice.ensures.len ∙ c.loop.invariant.before;
}
