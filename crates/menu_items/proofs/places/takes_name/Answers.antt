-- written out so that a wrong body is refused soon (docs/GATE.md)
use Rattle.std.proofs.Common.{rules}
use Rattle.menu_items.proofs.places.takes_name.Goals as goal

pub returns-in-Menu : goal.returns-in-Menu
returns-in-Menu c = search rules
