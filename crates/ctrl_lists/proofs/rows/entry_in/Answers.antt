use Rattle.std.proofs.Common.{◌≡◌, ℕ, List, length, ap, sym, ◌∙◌, Some, option_map}
use Rattle.ctrl_types.specs.declared.value.CtrlValue.{CtrlValue}
use Rattle.ctrl_handlers.specs.Plan.{members}
use Rattle.ctrl_clusters.specs.NewRows.{row_among}
use Rattle.ctrl_clusters.proofs.NewRowLemmas.{row_met}
use Rattle.ctrl_lists.proofs.rows.entry_in.Goals as goal

-- a cluster's row has a value for each member
pub member_value-given-requires : goal.member_value-given-requires
member_value-given-requires g c =
    let found : row_among c.args.rows.now.rows c.cluster_of-cluster.result ≡ Some c.in-Some.row.now = sym c.among.ensures ∙ ap (option_map (λ row. row.now)) c.in-Some.is in
    row_met (λ (k : ℕ) (row : List CtrlValue). length row ≡ length (members c.args.at.now.plan.now k)) c.args.rows.now.rows c.cluster_of-cluster.result c.in-Some.row.now c.requires.long found
    ∙ sym (ap length c.members.ensures.members)
