-- The bits of flags that a file may name are none of those that come and go.
use Rattle.std.proofs.Common.{map, sym}
use Rattle.toml.specs.View.{view}
use Rattle.file_tables.proofs.Flags.{flags_declared}
use Rattle.file_tables.proofs.controls.flags_of.Goals as goal

pub returns-clause-declared : goal.returns-clause-declared
returns-clause-declared c = rw (c.from_bits_retain.ensures) (flags_declared (map view c.in_ok-elements.field-0.now) c.in_ok-bits.bits (sym c.in_ok-bits.ensures))
