use Rattle.ctrl_calls.proofs.FormLemmas.{set_lone}
use Rattle.ctrl_calls.proofs.row_values.RowValues.set.Goals as goal

-- an array is alone in its row
pub returns-in-Bytes : goal.returns-in-Bytes
returns-in-Bytes c = set_lone c.args.self.now c.args.index c.in-Bytes.bytes c.args.value c.in-Bytes.is c.requires.within c.requires.fits
