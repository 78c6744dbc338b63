use Rattle.std.proofs.Common.{◌≡◌, ◌<◌, length, get_or, option_map, ap, sym, subst, ◌∙◌}
use Rattle.history.specs.declared.entry.Entry.{Entry}
use Rattle.device_history.specs.declared.ask.Step.{Step}
use Rattle.device_history.specs.Steps.{History}
use Rattle.history_audit.specs.Replay.{IsNextEntry, ReplayData}
use Rattle.history_audit.proofs.AuditLemmas.{legal_next, more_stand, next_read}
use Rattle.history_audit.proofs.MadeLemmas.{at}
use Rattle.history_audit.proofs.replay.Replay.next.Goals as goal

-- there is such an entry
pub bounds-all-self : goal.bounds-all-self
bounds-all-self g c =
    let r = c.replay.inside in
    let all : c.self.inside.steps.now ≡ r.steps.now = ap (λ (d : ReplayData). d.all) c.self.view_is ∙ sym (ap (λ (d : ReplayData). d.all) c.replay.view_is) in
    subst (λ (xs : History). r.count < length xs) (sym all) (more_stand r.steps.now r.count c.replay.invariant.within (rw (← c.replay.view_is) at c.requires))

-- it is the next one
pub replay-requires : goal.replay-requires
replay-requires g c =
    let r = c.replay.inside in
    let all : c.self.inside.steps.now ≡ r.steps.now = ap (λ (d : ReplayData). d.all) c.self.view_is ∙ sym (ap (λ (d : ReplayData). d.all) c.replay.view_is) in
    let here : IsNextEntry (at r.plan.now r.steps.now r.count) c.index-all-self.result =
    next_read r.plan.now r.steps.now r.count c.index-all-self.result c.replay.invariant.within (rw (← c.replay.view_is) at c.requires) (c.index-all-self.is ∙ ap (λ (xs : History). get_or xs r.count c.index-all-self.result) all) in
    rw (← c.index-all-self.is, ← c.replay.view_is) (ap (option_map (λ (e : Entry Step). e.step)) here)

-- the steps stay legal
pub returns-clause-legal : goal.returns-clause-legal
returns-clause-legal g c =
    let r = c.replay.inside in
    let all : c.self.inside.steps.now ≡ r.steps.now = ap (λ (d : ReplayData). d.all) c.self.view_is ∙ sym (ap (λ (d : ReplayData). d.all) c.replay.view_is) in
    let here : IsNextEntry (at r.plan.now r.steps.now r.count) c.index-all-self.result =
    next_read r.plan.now r.steps.now r.count c.index-all-self.result c.replay.invariant.within (rw (← c.replay.view_is) at c.requires) (c.index-all-self.is ∙ ap (λ (xs : History). get_or xs r.count c.index-all-self.result) all) in
    legal_next g.D.Validates.verdict c.args.self.now c.replay-2.new.self c.index-all-self.result c.replay-2.result (rw (← c.replay.view_is) c.replay.invariant.made.legal) (rw (← c.replay.view_is) here) c.replay-2.ensures.ok c.replay-2.ensures.err
