use Rattle.std.proofs.Common.{◌≡◌, ◌∙◌, ◌≤◌, length, sym, ap, rules}
use Rattle.ctrl_clusters.specs.ControlsData.{ControlsData}
use Rattle.ctrl_clusters.specs.Rows.{Values, value_at}
use Rattle.ctrl_clusters.proofs.ControlLemmas.{differ_less, differ_nowhere}
use Rattle.ctrl_clusters.proofs.controls.Controls.replace_within.Goals as goal

-- one cluster less differs
pub loop-cluster-preserved : goal.loop-cluster-preserved
loop-cluster-preserved g c =
    let own : c.as_slice.result.now ≡ c.args.values.items = c.as_slice.ensures.value ∙ c.loop-cluster.invariant.same in
    record {
      same = c.loop-cluster.invariant.same;
      long = c.copy_members.ensures.long ∙ ap length own;
      left = differ_less c.args.plan.now c.args.clusters.now c.loop-cluster.cluster-index c.loop-cluster.spare.items c.copy_members.new.copy.items c.args.values.items (search rules) c.loop-cluster.invariant.left
          (λ d inside. c.copy_members.ensures.given d (rw c.members.ensures.members inside) ∙ ap (λ (vs : Values). value_at vs d) own)
          (λ d outside. c.copy_members.ensures.others d (rw c.members.ensures.members outside));
    }

-- so what is kept to be lent is the same
pub invariant_of-self : goal.invariant_of-self
invariant_of-self g c =
    let all : length c.args.clusters.now ≤ c.loop-cluster.cluster-index = search rules in
    let valued : length c.args.values.items ≡ length c.self.inside.ranges = c.requires.values ∙ ap (λ (m : ControlsData). length m.ranges) (sym c.self.view_is) in (
      ap length c.loop-cluster.invariant.same ∙ valued,
      c.self.invariant.1,
      differ_nowhere c.args.plan.now c.args.clusters.now c.loop-cluster.cluster-index c.loop-cluster.spare.items c.args.values.items all c.loop-cluster.invariant.long c.loop-cluster.invariant.left ∙ sym c.loop-cluster.invariant.same,
      c.self.invariant.3,
    )
