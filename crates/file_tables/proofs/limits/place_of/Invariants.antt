use Rattle.std.proofs.Common.{◌≡◌, drop, map}
use Rattle.toml.specs.View.{view}
use Rattle.file_tables.specs.Limits.{place_from, place_of_text}
use Rattle.file_tables.proofs.limits.place_of.Given as goal

-- the text stands among the values that are left, or nowhere
abbrev pub invariant-loop-place : goal.invariant-loop-place
invariant-loop-place l = place_from l.place l.word (map view (drop l.place l.values)) ≡ place_of_text l.word (map view l.values)
