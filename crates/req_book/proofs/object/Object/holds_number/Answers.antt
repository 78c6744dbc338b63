-- written out so that a wrong body is refused soon (docs/GATE.md)
use Rattle.std.proofs.Common.{rules}
use Rattle.req_book.proofs.object.Object.holds_number.Goals as goal

pub returns-then-eq : goal.returns-then-eq
returns-then-eq c = search rules
