use Rattle.std.proofs.Common.{◌≡◌, drop, length, map}
use Rattle.toml.specs.View.{view}
use Rattle.device_file.specs.Handlers.{with_others}
use Rattle.device_file.proofs.handlers.add_others.Given as goal

-- those that are added so far, and those that are left
abbrev pub invariant-loop-place : goal.invariant-loop-place
invariant-loop-place l = record {
  many : length l.builder.handlers ≡ length l.initial.builder.handlers;
  rest : with_others (map view l.earlier) l.builder l.number l.place (map view (drop l.place l.names)) ≡ with_others (map view l.earlier) l.initial.builder l.number 0 (map view l.names);
}
