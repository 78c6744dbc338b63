use Rattle.std.proofs.Common.{◌≡◌, drop, length, map}
use Rattle.toml.specs.View.{view}
use Rattle.device_file.specs.Handlers.{device, with_controls}
use Rattle.device_file.proofs.handlers.add_controls.Given as goal

-- the controls so far, and those that are left
abbrev pub invariant-loop-number : goal.invariant-loop-number
invariant-loop-number l = record {
  many : length l.builder.handlers ≡ length l.initial.builder.handlers;
  rest : with_controls (device l.builder l.words l.followers.items) l.handler l.number (map view (drop l.number l.tables)) ≡ with_controls (device l.initial.builder l.initial.words l.initial.followers.items) l.handler 0 (map view l.tables);
}
