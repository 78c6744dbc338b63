use Rattle.std.proofs.Common.{sym, ◌∙◌}
use Rattle.history.specs.Past.{past}
use Rattle.history_audit.proofs.FollowLemmas.{fits_may, full_not, may_fits, names_known}
use Rattle.history_audit.proofs.replay.Replay.fits.Goals as goal

-- no further step is kept
pub returns-then-is_full-clause-follows : goal.returns-then-is_full-clause-follows
returns-then-is_full-clause-follows g c =
    (λ h. cc, λ may. absurd (full_not g.D.Validates.verdict c.args.self.now.plan (past c.args.self.now.steps) c.args.step.now c.requires (sym c.is_full.ensures.full ∙ c.if-is_full.true) may))

-- else it is read off the parts
pub returns-clause-follows : goal.returns-clause-follows
returns-clause-follows g c = (
  λ h. fits_may g.D.Validates.verdict c.args.self.now.plan (past c.args.self.now.steps) c.args.step.now c.requires (sym c.is_full.ensures.full ∙ c.if-is_full.false) (sym c.is_unrefused.ensures ∙ h),
  λ may. c.is_unrefused.ensures ∙ (may_fits g.D.Validates.verdict c.args.self.now.plan (past c.args.self.now.steps) c.args.step.now c.requires may).1,
)

-- and the controls that the step names are the plan's
pub returns-clause-known : goal.returns-clause-known
returns-clause-known g c = λ h.
    names_known g.D.Validates.verdict c.args.self.now.plan (past c.args.self.now.steps) c.args.step.now c.is_full.ensures.plan c.requires
    (fits_may g.D.Validates.verdict c.args.self.now.plan (past c.args.self.now.steps) c.args.step.now c.requires (sym c.is_full.ensures.full ∙ c.if-is_full.false) (sym c.is_unrefused.ensures ∙ h))
