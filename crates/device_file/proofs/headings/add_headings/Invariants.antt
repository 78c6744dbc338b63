use Rattle.std.proofs.Common.{◌≡◌}
use Rattle.device_file.specs.Headings.{with_headings_below}
use Rattle.device_file.proofs.headings.add_headings.Given as goal

-- the handlers so far have their headings
abbrev pub invariant-loop-handler : goal.invariant-loop-handler
invariant-loop-handler l = l.builder ≡ with_headings_below l.plain l.initial.builder l.handler
