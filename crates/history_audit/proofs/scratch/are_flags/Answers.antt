use Rattle.std.proofs.Common.{◌≡◌, ◌∙◌, sym, length, true, false, arith}
use Rattle.ctrl_clusters.specs.PresentFlags.{flags_under}
use Rattle.history_audit.proofs.ScratchLemmas.{compared_next, compared_each, compared_many}
use Rattle.history_audit.proofs.scratch.are_flags.Goals as goal

clash : true ≡ false → ⊥
clash h = cc

-- there are more or less
pub returns-then-flags-count : goal.returns-then-flags-count
returns-then-flags-count g c = (
  λ h. cc,
  λ is. absurd (omega (arith, compared_many c.args.flags.now (flags_under c.args.at.now.plan.now c.args.at.now.values.now c.args.at.now.grabs.now) (length c.args.at.now.plan.now.controls) is, c.control_count-count.ensures.count, c.if-flags-count.true)),
)

-- one is another
pub returns-then-not-are_equal : goal.returns-then-not-are_equal
returns-then-not-are_equal g c = (
  λ h. cc,
  λ is.
      absurd
      (clash
      (sym
      (c.are_equal.ensures.1
      (compared_each c.args.flags.now (flags_under c.args.at.now.plan.now c.args.at.now.values.now c.args.at.now.grabs.now) (length c.args.at.now.plan.now.controls) c.loop-control.control _ is
      (omega (arith, c.loop-control-test.true, c.control_count-count.ensures.count))
      ∙ sym c.flags_under.ensures))
      ∙ c.if-not-are_equal.true)),
)

-- one more is the same
pub loop-control-preserved : goal.loop-control-preserved
loop-control-preserved g c =
    compared_next c.args.flags.now (flags_under c.args.at.now.plan.now c.args.at.now.values.now c.args.at.now.grabs.now) c.loop-control.control _ (omega (arith, c.loop-control-test.true, c.if-flags-count.false))
    (c.are_equal.ensures.0 c.if-not-are_equal.false ∙ c.flags_under.ensures) c.loop-control.invariant
