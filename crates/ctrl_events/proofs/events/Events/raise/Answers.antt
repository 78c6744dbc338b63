use Rattle.std.proofs.Common.{arith, ◌≡◌, ◌∙◌, ◌<◌, ◌%◌, ℕ, Option, IfSome, slice_get, refl, sym, ap, subst}
use Rattle.std.specs.Int.{bit_at}
use Rattle.std.specs.Option.{option_map}
use Rattle.std.proofs.lemmas.Nat.Bits.{bit_at-zero}
use Rattle.ctrl_events.specs.Events.{FileEvents, EventsData}
use Rattle.ctrl_events.specs.Files.{raised_in_entry}
use Rattle.ctrl_events.specs.Heard.{is_listening}
use Rattle.ctrl_events.proofs.RaiseLemmas.{IsTakenOut, not_raised, raised_bit, left_bit, gathered_bit, raised_listening, raised_for, at_entry}
use Rattle.ctrl_events.proofs.events.Events.raise.Goals as goal

pub loop-rest-init : goal.loop-rest-init
loop-rest-init c = record {
  raised = λ p off. not_raised (slice_get c.args.self.now.files p) c.args.control c.args.changes c.args.payload.now (option_map (λ fh. fh.0) c.args.from) (λ there. absurd (omega (arith, sym off ∙ c.bits_of-rest.ensures.bits p there)));
  left = λ p on. refl;
  gathered = λ p off there. absurd (omega (arith, sym off ∙ c.bits_of-rest.ensures.bits p there));
}

pub raise_in-is_heard-requires-clause-next : goal.raise_in-is_heard-requires-clause-next
raise_in-is_heard-requires-clause-next c = λ p here.
    subst (λ (o : Option (ℕ × FileEvents)). IfSome o (λ e. e.1.next < 4294967295)) (sym (c.loop-rest.invariant.left p (ap (bit_at c.loop-rest.rest) here ∙ c.lowest_bit-bit.ensures.set)))
    (at_entry c.args.self.now p 4294967295 c.bits_of-rest.ensures.distinct c.requires)

pub loop-rest-preserved : goal.loop-rest-preserved
loop-rest-preserved c =
    let change : ℕ × FileEvents → ℕ × FileEvents = raised_in_entry c.args.control c.args.changes c.args.payload.now (option_map (λ fh. fh.0) c.args.from) in
    let out : IsTakenOut c.loop-rest.rest c.without_bit-rest.result c.lowest_bit-bit.result = record { set = c.lowest_bit-bit.ensures.set; cleared = c.without_bit-rest.ensures.cleared; kept = c.without_bit-rest.ensures.kept } in
    record {
      raised = raised_bit c.args.self.now.files c.loop-rest.self.files c.raise_in-is_heard.new.self.files c.loop-rest.rest c.without_bit-rest.result c.lowest_bit-bit.result change out c.loop-rest.invariant.raised c.loop-rest.invariant.left c.raise_in-is_heard.ensures.raised c.raise_in-is_heard.ensures.others;
      left = left_bit c.args.self.now.files c.loop-rest.self.files c.raise_in-is_heard.new.self.files c.loop-rest.rest c.without_bit-rest.result c.lowest_bit-bit.result out c.loop-rest.invariant.left c.raise_in-is_heard.ensures.others;
      gathered = gathered_bit c.args.self.now.files c.loop-rest.self.files c.loop-rest.rest c.without_bit-rest.result c.lowest_bit-bit.result c.args.control c.loop-rest.still c.with_bit-still.result c.raise_in-is_heard.result out c.loop-rest.invariant.left c.loop-rest.invariant.gathered c.raise_in-is_heard.ensures.heard c.with_bit-still.ensures.set c.with_bit-still.ensures.kept;
    }

pub keep_heard-requires : goal.keep_heard-requires
keep_heard-requires c = λ p there.
    let none : c.loop-rest.rest ≡ 0 = omega (arith, c.loop-rest-test.false) in
    let off : bit_at c.loop-rest.rest (p % 64) ≡ 0 = ap (λ (n : ℕ). bit_at n (p % 64)) none ∙ bit_at-zero (p % 64) in
    c.loop-rest.invariant.gathered p off (
    sym (ap (λ (o : Option (ℕ × FileEvents)). is_listening o c.args.control) (c.loop-rest.invariant.raised p off) ∙ raised_listening (slice_get c.args.self.now.files p) c.args.control c.args.changes c.args.payload.now (option_map (λ fh. fh.0) c.args.from) c.args.control) ∙ there
    )

pub returns : goal.returns
returns c =
    let none : c.loop-rest.rest ≡ 0 = omega (arith, c.loop-rest-test.false) in
    raised_for c.args.self.now c.keep_heard.new.self c.args.control c.args.changes c.args.payload.now (option_map (λ fh. fh.0) c.args.from)
    (λ p. ap (λ (d : EventsData). slice_get d.files p) c.keep_heard.ensures ∙ c.loop-rest.invariant.raised p (ap (λ (n : ℕ). bit_at n (p % 64)) none ∙ bit_at-zero (p % 64)))
