-- What the map finds is the value of the member.
use Rattle.toml.proofs.Views.{table_get}
use Rattle.file_tables.proofs.reading.member.Goals as goal

pub returns : goal.returns
returns c = table_get c.get.result c.args.key.now c.args.table.now.entries c.get.ensures.value
