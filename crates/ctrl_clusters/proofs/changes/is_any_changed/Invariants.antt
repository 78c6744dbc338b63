use Rattle.std.proofs.Common.{◌≡◌, drop}
use Rattle.ctrl_clusters.specs.Changes.{row_changes}
use Rattle.ctrl_clusters.specs.Rows.{row_of}
use Rattle.ctrl_clusters.proofs.changes.is_any_changed.Given as goal

-- the answer stands among the members that are left
abbrev pub invariant-loop-member : goal.invariant-loop-member
invariant-loop-member g l =
    row_changes l.change.before.plan.now l.change.before.values.now l.pairs (drop l.member-index l.members) (row_of l.change.values.now (drop l.member-index l.members))
    ≡ row_changes l.change.before.plan.now l.change.before.values.now l.pairs l.members (row_of l.change.values.now l.members)
