use Rattle.std.proofs.Common.{◌≡◌, ◌≤◌, [], drop, length, map, take}
use Rattle.toml.specs.View.{view}
use Rattle.ctrl_handlers.specs.declared.limits.TheConstants.{MAX_HANDLERS}
use Rattle.device_file.specs.Handlers.{device, with_handlers}
use Rattle.device_file.proofs.handlers.add_handlers.Given as goal

-- the handlers so far, and those that are left
abbrev pub invariant-loop-number : goal.invariant-loop-number
invariant-loop-number l = record {
  many : length l.builder.handlers ≡ l.number;
  few : l.number ≤ MAX_HANDLERS;
  rest : with_handlers (map view (take l.number l.tables)) (device l.builder l.words l.followers.items) l.number (map view (drop l.number l.tables)) ≡ with_handlers [] (device l.initial.builder l.initial.words l.initial.followers.items) 0 (map view l.tables);
}
