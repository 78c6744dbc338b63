use Rattle.std.proofs.Common.{rules}
use Rattle.ctrl_clusters.proofs.RowLemmas.{given_here}
use Rattle.ctrl_clusters.proofs.rows.member_value.Goals as goal

-- the member's value is found
pub returns-then-member-control : goal.returns-then-member-control
returns-then-member-control c =
    given_here c.args.members.now c.args.row.now c.args.control c.loop-place.place c.value.result (search rules) (search rules) (search rules) (search rules) c.loop-place.invariant
