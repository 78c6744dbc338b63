-- The first key that is none of these is where the map has it.
use Rattle.std.proofs.Common.{Err, ap, sym, ◌∙◌}
use Rattle.file_tables.specs.Reading.{is_free_of}
use Rattle.file_tables.proofs.Lists.{others_in}
use Rattle.file_tables.proofs.reading.no_others.Goals as goal

pub returns-in-Some : goal.returns-in-Some
returns-in-Some c = ap Err c.new.ensures ∙ ap is_free_of (sym c.in-Some.is ∙ c.other_place.ensures ∙ others_in c.args.known.now c.args.table.now)

pub returns-in-None : goal.returns-in-None
returns-in-None c = ap is_free_of (sym c.in-None.is ∙ c.other_place.ensures ∙ others_in c.args.known.now c.args.table.now)
