-- The first handler that has the name is the same among the values and among what they say.
use Rattle.std.proofs.Common.{sym, ◌∙◌}
use Rattle.toml.specs.View.{view}
use Rattle.device_file.specs.Handlers.{has_name}
use Rattle.file_tables.proofs.Lists.{position_map}
use Rattle.device_file.proofs.handlers.place_of.Goals as goal

pub returns : goal.returns
returns c = c.first_named.ensures ∙ sym (position_map (has_name c.args.name.now) view c.args.handlers.now)
