-- The controls as values and as what they say.
use Rattle.std.proofs.Common.{map, sym, ◌∙◌}
use Rattle.toml.specs.Data.{Data, as_table}
use Rattle.toml.specs.View.{view}
use Rattle.device_file.specs.Clusters.{is_array_among}
use Rattle.file_tables.proofs.Lists.{any_map}
use Rattle.device_file.proofs.clusters.have_array.Goals as goal

pub returns : goal.returns
returns c = c.some_is_array.ensures ∙ sym (any_map (λ (control : Data). is_array_among (map view c.args.names.now) (as_table control)) view c.args.controls.now)
