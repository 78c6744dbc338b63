-- The clusters as values and as what they say.
use Rattle.std.proofs.Common.{sym, ◌∙◌}
use Rattle.toml.specs.Data.{Data, as_table}
use Rattle.toml.specs.View.{view}
use Rattle.device_file.specs.Clusters.{has_member}
use Rattle.file_tables.proofs.Lists.{position_map}
use Rattle.device_file.proofs.clusters.cluster_of.Goals as goal

pub returns : goal.returns
returns c = c.first_with.ensures ∙ sym (position_map (λ (cluster : Data). has_member c.args.name.now (as_table cluster)) view c.args.clusters.now)
