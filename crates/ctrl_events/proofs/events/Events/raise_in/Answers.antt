use Rattle.std.proofs.Common.{arith, ◌≤◌, ℕ, length}
use Rattle.std.specs.Option.{option_map}
use Rattle.ctrl_events.specs.Events.{FileEvents}
use Rattle.ctrl_events.specs.Files.{raised_in_entry}
use Rattle.ctrl_events.proofs.RaiseLemmas.{raised_next, left_next, heard_next, raised_places, heard_places}
use Rattle.ctrl_events.proofs.events.Events.raise_in.Goals as goal

pub loop-place-preserved : goal.loop-place-preserved
loop-place-preserved c =
    let change : ℕ × FileEvents → ℕ × FileEvents = raised_in_entry c.args.control c.args.changes c.args.payload.now (option_map (λ fh. fh.0) c.args.from) in
    record {
      bit = omega (arith, c.loop-place.invariant.bit);
      raised = raised_next c.args.self.now.files c.loop-place.self.files c.raise_at-is_heard.new.self.files c.args.bit c.loop-place.place change c.loop-place.invariant.bit c.loop-place.invariant.raised c.loop-place.invariant.left c.raise_at-is_heard.ensures.files;
      left = left_next c.args.self.now.files c.loop-place.self.files c.raise_at-is_heard.new.self.files c.args.bit c.loop-place.place change c.loop-place.invariant.bit c.loop-place.invariant.left c.raise_at-is_heard.ensures.files;
      heard = heard_next c.args.self.now.files c.loop-place.self.files c.args.bit c.loop-place.place c.args.control c.loop-place.is_heard c.raise_at-is_heard.result c.loop-place.invariant.bit c.loop-place.invariant.left c.loop-place.invariant.heard c.raise_at-is_heard.ensures.own c.raise_at-is_heard.ensures.kept;
    }

pub returns-clause-raised : goal.returns-clause-raised
returns-clause-raised c =
    let change : ℕ × FileEvents → ℕ × FileEvents = raised_in_entry c.args.control c.args.changes c.args.payload.now (option_map (λ fh. fh.0) c.args.from) in
    let all : length c.args.self.now.files ≤ c.loop-place.place = omega (arith, c.loop-place-test.false, c.count-count.ensures.files) in
    raised_places c.args.self.now.files c.loop-place.self.files c.args.bit c.loop-place.place change all c.loop-place.invariant.raised c.loop-place.invariant.left

pub returns-clause-heard : goal.returns-clause-heard
returns-clause-heard c =
    let all : length c.args.self.now.files ≤ c.loop-place.place = omega (arith, c.loop-place-test.false, c.count-count.ensures.files) in
    heard_places c.args.self.now.files c.args.bit c.loop-place.place c.args.control c.loop-place.is_heard all c.loop-place.invariant.heard
