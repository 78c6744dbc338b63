use Rattle.std.proofs.Common.{◌∙◌, [], List, ℕ, get_or, arith, rules, ap}
use Rattle.reach_table.specs.Reached.{others_reached}
use Rattle.reach_table.proofs.CountLemmas.{made_more}
use Rattle.reach_table.proofs.table.rows_of.Goals as goal

-- one row more
pub loop-from-preserved : goal.loop-from-preserved
loop-from-preserved c = record {
  many = search rules;
  made = λ n lt.
      ap (λ (rows : List (List ℕ)). get_or rows n []) c.push_reserved.ensures.items
      ∙ made_more (others_reached c.args.count c.args.links.now) [] c.loop-from.rows.items c.loop-from.from c.in_ok-row.row c.loop-from.invariant.many c.loop-from.invariant.made c.in_ok-row.ensures.row n lt;
  room = omega (arith, c.loop-from.invariant.room, c.push_reserved.ensures.capacity);
  marks = c.row_of.ensures.marks;
  before = c.row_of.ensures.before;
}
