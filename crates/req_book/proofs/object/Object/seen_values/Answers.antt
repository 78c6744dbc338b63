-- written out so that a wrong body is refused soon (docs/GATE.md)
use Rattle.std.proofs.Common.{rules}
use Rattle.req_book.proofs.object.Object.seen_values.Goals as goal

pub returns-in-Complete : goal.returns-in-Complete
returns-in-Complete c = search rules
