use Rattle.std.proofs.Common.{◌≡◌, [], drop, map, take}
use Rattle.toml.specs.View.{view}
use Rattle.device_file.specs.Clusters.{with_clusters}
use Rattle.device_file.proofs.clusters.add_clusters.Given as goal

-- the clusters so far, and those that are left
abbrev pub invariant-loop-number : goal.invariant-loop-number
invariant-loop-number l =
    with_clusters (map view l.handlers) l.words (map view (take l.number l.tables)) l.builder l.number (map view (drop l.number l.tables)) ≡ with_clusters (map view l.handlers) l.words [] l.initial.builder 0 (map view l.tables)
