use Rattle.std.proofs.Common.{◌≡◌, [], drop, map, take}
use Rattle.toml.specs.View.{view}
use Rattle.device_file.specs.Clusters.{numbers_with}
use Rattle.device_file.proofs.clusters.numbers_of.Given as goal

-- the numbers so far, and those of the names that are left
abbrev pub invariant-loop-place : goal.invariant-loop-place
invariant-loop-place l =
    numbers_with l.words (map view l.earlier) (map view (take l.place l.names)) l.members.items l.place (map view (drop l.place l.names)) ≡ numbers_with l.words (map view l.earlier) [] [] 0 (map view l.names)
