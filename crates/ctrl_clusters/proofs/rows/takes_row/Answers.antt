use Rattle.std.proofs.Common.{sym}
use Rattle.ctrl_clusters.proofs.RowLemmas.{takes_length}
use Rattle.ctrl_clusters.proofs.rows.takes_row.Goals as goal

-- a row of another length isn't taken
pub returns-then-row-members-clause-taken : goal.returns-then-row-members-clause-taken
returns-then-row-members-clause-taken c = sym (takes_length c.args.ranges.now c.args.members.now c.args.row.now c.if-row-members.true)
