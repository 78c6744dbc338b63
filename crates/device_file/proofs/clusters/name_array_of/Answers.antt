-- The handlers as values and as what they say.
use Rattle.std.proofs.Common.{map, sym, ◌∙◌}
use Rattle.toml.specs.Data.{Data, as_table}
use Rattle.toml.specs.View.{view}
use Rattle.device_file.specs.Clusters.{has_array_among}
use Rattle.file_tables.proofs.Lists.{any_map}
use Rattle.device_file.proofs.clusters.name_array_of.Goals as goal

pub returns : goal.returns
returns c = c.some_has_array.ensures ∙ sym (any_map (λ (handler : Data). has_array_among (map view c.args.names.now) (as_table handler)) view c.args.handlers.now)
