use Rattle.std.proofs.Common.{◌≡◌, drop, length, map}
use Rattle.toml.specs.View.{view}
use Rattle.device_file.specs.Items.{with_list}
use Rattle.device_file.proofs.items.add_list.Given as goal

-- the elements that are left are the rest of the items
abbrev pub invariant-loop-place : goal.invariant-loop-place
invariant-loop-place l = record {
  many : length l.builder.handlers ≡ length l.initial.builder.handlers;
  rest : with_list l.builder l.control l.ctrl l.place (map view (drop l.place l.items)) ≡ with_list l.initial.builder l.control l.ctrl 0 (map view l.items);
}
