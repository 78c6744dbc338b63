use Rattle.std.proofs.Common.{◌∙◌, sym, ap, refl, is_some}
use Rattle.ctrl_events.specs.Events.{FileEvents, flags_in, after_unsubscribe}
use Rattle.ctrl_events.proofs.FileLemmas.{written, unwritten}
use Rattle.ctrl_events.proofs.events.Events.unsubscribe.Goals as goal
use Rattle.ctrl_events.proofs.HeardLemmas.{written_heard, subscribed_left}
use Rattle.ctrl_events.proofs.events.Events.unsubscribe.Goals.{in-Some, in_default}

pub returns : goal.returns
returns c = elim c.match-get_mut.branch [
  | in-Some w ↦ rw w.self-inside-is (
      written c.self.inside.files.entries (c.get_mut.follows.lender w.unsubscribe.new.self).entries c.args.self.now c.args.fh.0 w.in-Some.queue.now w.unsubscribe.new.self (after_unsubscribe c.args.control) c.self.view_is w.in-Some.ensures.value
      ((c.get_mut.follows.holds w.unsubscribe.new.self).3 (sym (ap is_some w.in-Some.ensures.value))).0 w.unsubscribe.ensures
      )
  | in_default w ↦ rw (w.self-inside-is, c.get_mut.follows.holds-at-none) (unwritten c.self.inside.files.entries c.args.self.now c.args.fh.0 (after_unsubscribe c.args.control) c.self.view_is w.in_default.ensures.value refl)
]

pub invariant_of-self : goal.invariant_of-self
invariant_of-self c = elim c.match-get_mut.branch [
  | in-Some w ↦ rw w.self-inside-is (
      written_heard c.self.inside.files.entries (c.get_mut.follows.lender w.unsubscribe.new.self).entries c.self.inside.heard.items c.args.fh.0 w.in-Some.queue.now w.unsubscribe.new.self c.self.invariant w.in-Some.ensures.value
      (c.get_mut.follows.holds w.unsubscribe.new.self).0
      (λ d there. subscribed_left w.in-Some.queue.now.subscribed c.args.control d (ap (λ (f : FileEvents). is_some (flags_in f.subscribed d)) (sym w.unsubscribe.ensures) ∙ there))
      )
  | in_default w ↦ rw (w.self-inside-is, c.get_mut.follows.holds-at-none) c.self.invariant
]
