use Rattle.id_index.proofs.EntryLemmas.{next_past, next_here}
use Rattle.id_index.proofs.search.next_in.Goals as goal

-- no entry stands at the place
pub returns-in_err-other : goal.returns-in_err-other
returns-in_err-other c = rw c.from_residual.ensures (next_past c.args.entries.now c.args.id c.first_above.result c.first_above.ensures.point c.in_err-other.ensures.lookup.3)

-- the entry there has the next id
pub returns : goal.returns
returns c =
    next_here c.args.entries.now c.args.id c.first_above.result c.in_ok-other.field-0.now c.requires c.first_above.ensures.point c.in_ok-other.ensures.lookup.3.0 c.in_ok-other.ensures.lookup.1
