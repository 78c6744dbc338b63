-- written out so that a wrong body is refused soon (docs/GATE.md)
use Rattle.std.proofs.Common.{rules}
use Rattle.req_book.proofs.object.Object.queue_refusal.Goals as goal

pub returns-else-is_none : goal.returns-else-is_none
returns-else-is_none c = search rules
