use Rattle.std.proofs.Common.{◌≡◌, length, map, refl, ap, ◌∙◌, arith}
use Rattle.following_ranges.specs.declared.asking.RangeAsk.{RangeAsk}
use Rattle.following_ranges.specs.Following.{IsOfRoom, range_for}
use Rattle.following_ranges.proofs.FollowLemmas.{all_pushed, asked_pushed, own_at, run_nothing, run_pushed}
use Rattle.following_ranges.proofs.asking.ask_due.Goals as goal

pub ask_range-refusal-requires : goal.ask_range-refusal-requires
ask_range-refusal-requires g c =
    own_at c.args.device.now.plan c.loop-one.device.plan c.args.due.now c.loop-one.one-index c.one-item.result c.loop-one.invariant.plan c.one-item.is c.requires.own c.loop-one-test.true

-- none was asked for
pub loop-one-init : goal.loop-one-init
loop-one-init g c =
    let none_there : length c.args.asked.now.items ≡ 0 = ap length c.requires.none in
    record {
      exactly = ap (map range_for) c.requires.none;
      one_by_one = run_nothing g.D.Validates.verdict c.args.device.now c.args.seat c.args.asked.now.items c.requires.none;
      plan = refl;
      of_room = λ k d within. absurd (omega (arith, within, none_there));
      room = c.requires.room;
    }

-- one more is asked for
pub loop-one-preserved : goal.loop-one-preserved
loop-one-preserved g c =
    let old = c.loop-one.invariant in
    let d = c.one-item.result in
    let one : RangeAsk = record { control = d.0; wanted = d.1; refusal = c.ask_range-refusal.result } in
    let asked = c.loop-one.asked.items in
    let more = c.push_reserved.new.self.items in
    let device = c.ask_range-refusal.new.device in
    record {
      exactly = asked_pushed c.args.due.now c.loop-one.one-index d asked more one c.loop-one-test.true c.one-item.is refl c.push_reserved.ensures.items old.exactly;
      one_by_one = run_pushed g.D.Validates.verdict c.args.device.now c.loop-one.device device c.args.seat asked more one c.push_reserved.ensures.items old.one_by_one c.ask_range-refusal.ensures.handles;
      plan = c.ask_range-refusal.ensures.handles.plan ∙ old.plan;
      of_room = all_pushed (λ (it : RangeAsk). IsOfRoom it.refusal) asked more one c.push_reserved.ensures.items old.of_room c.ask_range-refusal.ensures.of_room;
      room = rw c.push_reserved.ensures.capacity old.room;
    }
