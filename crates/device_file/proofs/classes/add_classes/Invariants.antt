use Rattle.std.proofs.Common.{◌≡◌, drop, map}
use Rattle.toml.specs.View.{view}
use Rattle.device_file.specs.Classes.{with_classes}
use Rattle.device_file.proofs.classes.add_classes.Given as goal

-- the names so far, and those of the tables that are left
abbrev pub invariant-loop-number : goal.invariant-loop-number
invariant-loop-number l = with_classes l.controls l.names l.number (map view (drop l.number l.tables)) ≡ with_classes l.controls l.initial.names 0 (map view l.tables)
