-- written out so that a wrong body is refused soon (docs/GATE.md)
use Rattle.std.proofs.Common.{◌≡◌, ◌∙◌, ℕ, List, Ok, Err, ap, rules, sym}
use Rattle.ctrl_handlers.specs.Plan.{calls_of, members}
use Rattle.ctrl_clusters.specs.Rows.{overwritten, settle_row}
use Rattle.ctrl_clusters.specs.Judging.{asks_validator, validated_row}
use Rattle.ctrl_clusters.proofs.RowLemmas.{asked_settled, asked_unsettled}
use Rattle.ctrl_clusters.proofs.judging.validated_row.Goals as goal

pub returns-in-Ok-clause-ok : goal.returns-in-Ok-clause-ok
unfolding validated_row
returns-in-Ok-clause-ok g c = search rules

-- the row is judged once it has settled
pub returns-in-Ok-clause-counted : goal.returns-in-Ok-clause-counted
unfolding asks_validator
returns-in-Ok-clause-counted g c =
    let k : ℕ = c.args.cluster in
    let settled : settle_row c.args.at.now.ranges.now (members c.args.at.now.plan.now k) (overwritten c.args.at.now.values.now c.args.pairs.now (members c.args.at.now.plan.now k)) ≡ Ok c.settle_row.new.row =
    sym (ap (λ (cs : List ℕ). settle_row c.args.at.now.ranges.now cs (overwritten c.args.at.now.values.now c.args.pairs.now cs)) c.members_of-members.ensures.members) ∙ c.in-Ok.ensures.ok in
    c.judge_settled.ensures.counted
    ∙ ap (λ (n : ℕ). record c.args.work.now { asked = n }) (asked_settled (calls_of c.args.at.now.plan.now k).validator _ c.settle_row.new.row c.args.work.now.asked settled)

-- and nobody is asked where it doesn't
pub returns-in-Err-clause-counted : goal.returns-in-Err-clause-counted
unfolding asks_validator
returns-in-Err-clause-counted g c =
    let k : ℕ = c.args.cluster in
    let unsettled : settle_row c.args.at.now.ranges.now (members c.args.at.now.plan.now k) (overwritten c.args.at.now.values.now c.args.pairs.now (members c.args.at.now.plan.now k)) ≡ Err c.in-Err.errno =
    sym (ap (λ (cs : List ℕ). settle_row c.args.at.now.ranges.now cs (overwritten c.args.at.now.values.now c.args.pairs.now cs)) c.members_of-members.ensures.members) ∙ c.in-Err.ensures.err in
    ap (λ (n : ℕ). record c.args.work.now { asked = n }) (asked_unsettled (calls_of c.args.at.now.plan.now k).validator _ c.in-Err.errno c.args.work.now.asked unsettled)
