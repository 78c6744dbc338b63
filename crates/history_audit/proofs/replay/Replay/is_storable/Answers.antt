use Rattle.std.proofs.Common.{◌≡◌, List, Option, None, Some, false, is_some, sym, refl, ap, subst, ◌∙◌}
use Rattle.ctrl_types.specs.declared.check.Check.{Check}
use Rattle.ctrl_types.specs.declared.ids.Pair.{Pair}
use Rattle.ctrl_types.specs.declared.which.Which.TheVariants.{Request}
use Rattle.history.specs.Past.{past}
use Rattle.history_audit.specs.Judged.{view_of}
use Rattle.history_audit.proofs.JudgedLemmas.{Judged, store_full, store_judged, store_refused, store_unshown}
use Rattle.history_audit.proofs.ReadLemmas.{store_there}
use Rattle.history_audit.proofs.replay.Replay.is_storable.Goals as goal

nothing : (o : Option Check) → is_some o ≡ false → o ≡ None
nothing None h = refl
nothing (Some check) h = cc

-- no further step is kept
pub returns-then-is_full-clause-follows : goal.returns-then-is_full-clause-follows
returns-then-is_full-clause-follows g c = (λ none. cc, λ may. absurd (store_full g.D.Validates.verdict c.args.self.now.plan (past c.args.self.now.steps) c.args.request c.args.pairs.now (sym c.is_full.ensures.full ∙ c.if-is_full.true) may))

-- the request refuses pairs
pub returns-then-is_some-clause-follows : goal.returns-then-is_some-clause-follows
returns-then-is_some-clause-follows g c =
    let refused = ap (λ (o : Option Check). is_some o) (sym c.store_refusal.ensures) ∙ sym c.is_some.ensures ∙ c.if-is_some.true in
    (λ none. cc, λ may. absurd (store_refused g.D.Validates.verdict c.args.self.now.plan (past c.args.self.now.steps) c.args.request c.args.pairs.now refused may))

-- no open file handle's handler shows the pairs
pub returns-in_default-clause-follows : goal.returns-in_default-clause-follows
returns-in_default-clause-follows g c = (λ none. cc, λ may. absurd (store_unshown g.D.Validates.verdict c.args.self.now.plan (past c.args.self.now.steps) c.args.request c.args.pairs.now c.in_default.ensures may))

-- the request is there
pub asked_by-requires : goal.asked_by-requires
asked_by-requires g c =
    store_there g.D.Validates.verdict c.args.self.now.plan (past c.args.self.now.steps) c.args.request.0
    (sym c.store_refusal.ensures ∙ nothing c.store_refusal.result (sym c.is_some.ensures ∙ c.if-is_some.false))

-- the list decides
pub returns-clause-follows : goal.returns-clause-follows
returns-clause-follows g c =
    let verdict = g.D.Validates.verdict in
    let plan = c.args.self.now.plan in
    let judged = subst (λ (asks : List Pair). Judged verdict plan (view_of verdict plan (past c.args.self.now.steps) c.in-Some.handler Request asks) c.args.pairs.now c.in_ok-touched.touched) c.asked_by.ensures c.in_ok-touched.ensures in
    rw c.is_some-2.ensures
    (store_judged verdict plan (past c.args.self.now.steps) c.args.request c.in-Some.handler c.args.pairs.now c.in_ok-touched.touched c.in-Some.ensures (sym c.is_full.ensures.full ∙ c.if-is_full.false)
    (sym c.store_refusal.ensures ∙ nothing c.store_refusal.result (sym c.is_some.ensures ∙ c.if-is_some.false)) judged)
