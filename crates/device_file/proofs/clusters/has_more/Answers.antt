-- written out so that a wrong body is refused soon (docs/GATE.md)
use Rattle.std.proofs.Common.{rules}
use Rattle.std.proofs.lemmas.List.{length-map}
use Rattle.toml.specs.View.{view}
use Rattle.device_file.proofs.clusters.has_more.Goals as goal

pub returns-else-is_some : goal.returns-else-is_some
returns-else-is_some c = search (rules, length-map c.args.names.now view)
