use Rattle.std.proofs.Common.{◌≡◌}
use Rattle.device_file.specs.Headings.{with_headings_of}
use Rattle.device_file.proofs.headings.add_headings_of.Given as goal

-- the handler has its headings of the classes so far
abbrev pub invariant-loop-number : goal.invariant-loop-number
invariant-loop-number l = l.builder ≡ with_headings_of l.plain l.initial.builder l.handler l.number
