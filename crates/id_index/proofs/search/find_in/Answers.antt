use Rattle.std.proofs.Common.{◌∙◌, arith}
use Rattle.std.proofs.lemmas.Bool.Decides.{nat_tests}
use Rattle.id_index.proofs.EntryLemmas.{found_past, found_here, found_none}
use Rattle.id_index.proofs.search.find_in.Goals as goal

-- no entry stands at the place
pub returns-in_err-other : goal.returns-in_err-other
returns-in_err-other c = c.from_residual.ensures ∙ found_past c.args.entries.now c.args.id c.first_from.result c.first_from.ensures.point c.in_err-other.ensures.lookup.3

-- the entry there has the id
pub returns-then-other-id : goal.returns-then-other-id
returns-then-other-id c =
    found_here c.args.entries.now c.args.id c.first_from.result c.in_ok-other.field-0.now c.first_from.ensures.point c.in_ok-other.ensures.lookup.3.0 c.in_ok-other.ensures.lookup.1
    (grind (arith, nat_tests, c.if-other-id.true))

-- or another one
pub returns-else-other-id : goal.returns-else-other-id
returns-else-other-id c =
    found_none c.args.entries.now c.args.id c.first_from.result c.in_ok-other.field-0.now c.requires c.first_from.ensures.point c.in_ok-other.ensures.lookup.3.0 c.in_ok-other.ensures.lookup.1
    (grind (arith, nat_tests, c.if-other-id.false))
