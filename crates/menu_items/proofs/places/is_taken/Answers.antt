-- written out so that a wrong body is refused soon (docs/GATE.md)
use Rattle.std.proofs.Common.{rules}
use Rattle.menu_items.proofs.places.is_taken.Goals as goal

pub returns : goal.returns
returns c = search rules
