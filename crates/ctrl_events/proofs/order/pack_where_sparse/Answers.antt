use Rattle.std.proofs.Common.{arith, ◌∙◌, ◌≡◌, sym, ap, length, Some}
use Rattle.std.proofs.lemmas.List.{length-map}
use Rattle.ctrl_events.specs.Order.{logged}
use Rattle.ctrl_events.proofs.OrderLemmas.{logged_packed, empty_none}
use Rattle.ctrl_events.proofs.order.pack_where_sparse.Goals as goal

pub returns-clause-members : goal.returns-clause-members
returns-clause-members c = ap logged c.pack.ensures.numbers ∙ logged_packed (logged c.args.log.now.items)

pub returns-clause-order : goal.returns-clause-order
returns-clause-order c =
    let as_many : length c.pack.new.log.items ≡ c.args.count = ap length c.pack.ensures.numbers ∙ length-map (logged c.args.log.now.items) (λ n. Some n) ∙ sym c.requires.counted in
    record {
      placed = c.pack.ensures.placed;
      passed = empty_none c.pack.new.log.items;
      counted = c.requires.counted ∙ ap length (sym (ap logged c.pack.ensures.numbers ∙ logged_packed (logged c.args.log.now.items)));
      few = omega (arith, as_many);
    }
