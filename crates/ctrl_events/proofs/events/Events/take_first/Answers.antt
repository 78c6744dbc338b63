use Rattle.std.proofs.Common.{◌∙◌, sym, ap, refl, is_some}
use Rattle.ctrl_events.specs.Events.{FileEvents, flags_in, first_waiting, after_take}
use Rattle.ctrl_events.proofs.FileLemmas.{found, missing, written, unwritten}
use Rattle.ctrl_events.proofs.events.Events.take_first.Goals as goal
use Rattle.ctrl_events.proofs.HeardLemmas.{written_heard}
use Rattle.ctrl_events.proofs.events.Events.take_first.Goals.{in-Some, in-None}

pub returns-clause-events : goal.returns-clause-events
returns-clause-events c = elim c.match-get_mut.branch [
  | in-Some w ↦ rw w.self-inside-is (
      written c.self.inside.files.entries (c.get_mut.follows.lender w.take.new.self).entries c.args.self.now c.args.fh.0 w.in-Some.queue.now w.take.new.self after_take c.self.view_is w.in-Some.ensures.value
      ((c.get_mut.follows.holds w.take.new.self).3 (sym (ap is_some w.in-Some.ensures.value))).0 w.take.ensures.events
      )
  | in-None w ↦ rw (w.self-inside-is, c.get_mut.follows.holds-at-none) (unwritten c.self.inside.files.entries c.args.self.now c.args.fh.0 after_take c.self.view_is w.in-None.ensures.value refl)
]

pub returns-clause-answer : goal.returns-clause-answer
returns-clause-answer c = elim c.match-get_mut.branch [
  | in-Some w ↦ w.result-is ∙ w.take.ensures.answer ∙ ap (λ (f : FileEvents). first_waiting f.waiting) (found c.self.inside.files.entries c.args.self.now c.args.fh.0 w.in-Some.queue.now c.self.view_is w.in-Some.ensures.value)
  | in-None w ↦ w.result-is ∙ ap (λ (f : FileEvents). first_waiting f.waiting) (missing c.self.inside.files.entries c.args.self.now c.args.fh.0 c.self.view_is w.in-None.ensures.value)
]

pub invariant_of-self : goal.invariant_of-self
invariant_of-self c = elim c.match-get_mut.branch [
  | in-Some w ↦ rw w.self-inside-is (
      written_heard c.self.inside.files.entries (c.get_mut.follows.lender w.take.new.self).entries c.self.inside.heard.items c.args.fh.0 w.in-Some.queue.now w.take.new.self c.self.invariant w.in-Some.ensures.value
      (c.get_mut.follows.holds w.take.new.self).0
      (λ d there. ap (λ (f : FileEvents). is_some (flags_in f.subscribed d)) (sym w.take.ensures.events) ∙ there)
      )
  | in-None w ↦ rw (w.self-inside-is, c.get_mut.follows.holds-at-none) c.self.invariant
]
