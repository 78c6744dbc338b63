use Rattle.std.proofs.Common.{◌≡◌, ◌≤◌, ℕ, List, length, ap, sym, subst, ◌∙◌, arith}
use Rattle.history.specs.declared.entry.Entry.{Entry}
use Rattle.device_history.specs.declared.ask.Step.{Step}
use Rattle.history_audit.specs.Fault.{StopsAt}
use Rattle.history_audit.specs.Replay.{ReplayData}
use Rattle.history_audit.proofs.MadeLemmas.{taken_many}
use Rattle.history_audit.proofs.AuditLemmas.{aside_of, audit_next, audit_stops, audited_legal, audited_scratch, next_there, no_fewer, whole_aside, rest_starts, stays_there}
use Rattle.history_audit.proofs.auditing.replay_rest.Goals as goal

-- those that were replayed at first are there
there : (replay : ReplayData) (all : List (Entry Step)) (n : ℕ) → replay.all ≡ all → n ≡ length replay.steps → n ≤ length replay.all → length replay.steps ≤ length all
there replay all n is many within = omega (arith, ap (λ (es : List (Entry Step)). length es) is, many, within)

-- it begins behind those that were replayed
pub loop-init : goal.loop-init
loop-init g c = (rest_starts c.args.replay c.args.steps.now c.replayed-first.result c.requires c.replayed-first.ensures.first, omega (arith, c.replayed-first.ensures.count))

-- the next step is there
pub next-requires : goal.next-requires
next-requires g c = next_there c.args.replay.plan c.args.steps.now c.loop.replay c.loop.counter c.loop.invariant.0 c.loop-test.true

-- the first step that may not follow
pub returns-in-Ok-false-clause-fault : goal.returns-in-Ok-false-clause-fault
returns-in-Ok-false-clause-fault g c =
    subst (λ (n : ℕ). StopsAt g.D.Validates.verdict c.args.replay.plan c.args.steps.now n)
    (sym (c.replayed-index.ensures.count ∙ ap (λ (r : ReplayData). length r.steps) c.loop.invariant.0 ∙ taken_many c.args.steps.now c.loop.counter (omega (arith, c.loop-test.true))))
    (audit_stops g.D.Validates.verdict c.args.replay.plan c.args.steps.now c.loop.replay c.next.new.self c.loop.counter c.loop.invariant.0 c.loop-test.true (rw c.in-Ok-false.field-0-test at c.in-Ok-false.ensures.replayed)
    c.in-Ok-false.ensures.legal)

pub returns-in-Ok-false-clause-aside : goal.returns-in-Ok-false-clause-aside
returns-in-Ok-false-clause-aside g c =
    aside_of g.D.Validates.verdict c.args.replay.plan c.args.steps.now c.loop.counter c.next.new.self c.put_aside.result
    (stays_there g.D.Validates.verdict c.args.replay.plan c.args.steps.now c.loop.replay c.next.new.self c.loop.counter c.loop.invariant.0 c.loop-test.true (rw c.in-Ok-false.field-0-test at c.in-Ok-false.ensures.replayed))
    c.put_aside.ensures.aside

pub returns-in-Ok-false-clause-kept : goal.returns-in-Ok-false-clause-kept
returns-in-Ok-false-clause-kept g c =
    no_fewer c.args.replay.plan c.args.steps.now c.loop.counter (length c.args.replay.steps) c.next.new.self c.put_aside.result
    (stays_there g.D.Validates.verdict c.args.replay.plan c.args.steps.now c.loop.replay c.next.new.self c.loop.counter c.loop.invariant.0 c.loop-test.true (rw c.in-Ok-false.field-0-test at c.in-Ok-false.ensures.replayed))
    (there c.args.replay c.args.steps.now c.replayed-first.result c.requires c.replayed-first.ensures.count c.replayed-first.ensures.within) c.loop.invariant.1 c.put_aside.ensures.aside.many

pub returns-in-Ok-false-clause-stopped : goal.returns-in-Ok-false-clause-stopped
returns-in-Ok-false-clause-stopped g c =
    c.put_aside.ensures.aside.many
    ∙ ap (λ (r : ReplayData). length r.steps)
    (stays_there g.D.Validates.verdict c.args.replay.plan c.args.steps.now c.loop.replay c.next.new.self c.loop.counter c.loop.invariant.0 c.loop-test.true (rw c.in-Ok-false.field-0-test at c.in-Ok-false.ensures.replayed) ∙ sym c.loop.invariant.0)
    ∙ sym c.replayed-index.ensures.count

-- want of memory
pub returns-in-Err-clause-aside : goal.returns-in-Err-clause-aside
returns-in-Err-clause-aside g c =
    aside_of g.D.Validates.verdict c.args.replay.plan c.args.steps.now c.loop.counter c.next.new.self c.put_aside-in-Err.result (c.in-Err.ensures.err ∙ c.loop.invariant.0) c.put_aside-in-Err.ensures.aside

pub returns-in-Err-clause-kept : goal.returns-in-Err-clause-kept
returns-in-Err-clause-kept g c =
    no_fewer c.args.replay.plan c.args.steps.now c.loop.counter (length c.args.replay.steps) c.next.new.self c.put_aside-in-Err.result (c.in-Err.ensures.err ∙ c.loop.invariant.0)
    (there c.args.replay c.args.steps.now c.replayed-first.result c.requires c.replayed-first.ensures.count c.replayed-first.ensures.within) c.loop.invariant.1 c.put_aside-in-Err.ensures.aside.many

-- one more step was replayed
pub loop-preserved : goal.loop-preserved
loop-preserved g c = (
  audit_next g.D.Validates.verdict c.args.replay.plan c.args.steps.now c.loop.replay c.next.new.self c.loop.counter c.loop.invariant.0 c.loop-test.true (rw c.in-Ok-true.field-0-test at c.in-Ok-true.ensures.replayed),
  omega (arith, c.loop.invariant.1),
)

-- all steps were replayed
pub returns-in-Ok-clause-legal : goal.returns-in-Ok-clause-legal
returns-in-Ok-clause-legal g c = audited_legal g.D.Validates.verdict c.args.replay.plan c.args.steps.now c.loop.replay c.loop.counter c.loop.invariant.0 c.loop-test.false c.in-Ok.ensures.legal

pub returns-in-Ok-clause-scratch : goal.returns-in-Ok-clause-scratch
returns-in-Ok-clause-scratch g c =
    audited_scratch g.D.Validates.verdict c.args.replay.plan c.args.steps.now c.loop.replay c.loop.counter c.in-Ok.scratch.shown c.loop.invariant.0 c.loop-test.false c.in-Ok.ensures.scratch

pub returns-in-Ok-clause-made : goal.returns-in-Ok-clause-made
returns-in-Ok-clause-made g c = aside_of g.D.Validates.verdict c.args.replay.plan c.args.steps.now c.loop.counter c.loop.replay c.in-Ok.scratch.made c.loop.invariant.0 c.in-Ok.ensures.aside

pub returns-in-Err-finish-clause-aside : goal.returns-in-Err-finish-clause-aside
returns-in-Err-finish-clause-aside g c = aside_of g.D.Validates.verdict c.args.replay.plan c.args.steps.now c.loop.counter c.loop.replay c.in-Err-finish.made c.loop.invariant.0 c.in-Err-finish.ensures.err

pub returns-in-Err-finish-clause-kept : goal.returns-in-Err-finish-clause-kept
returns-in-Err-finish-clause-kept g c =
    no_fewer c.args.replay.plan c.args.steps.now c.loop.counter (length c.args.replay.steps) c.loop.replay c.in-Err-finish.made c.loop.invariant.0
    (there c.args.replay c.args.steps.now c.replayed-first.result c.requires c.replayed-first.ensures.count c.replayed-first.ensures.within) c.loop.invariant.1 c.in-Err-finish.ensures.err.many

pub returns-in-Ok-clause-whole : goal.returns-in-Ok-clause-whole
returns-in-Ok-clause-whole g c = whole_aside c.args.replay.plan c.args.steps.now c.loop.replay c.loop.counter c.in-Ok.scratch.made c.loop.invariant.0 c.loop-test.false c.in-Ok.ensures.aside.many
