use Rattle.std.proofs.Common.{arith, ◌≡◌, ◌∙◌, ◌+◌, ℕ, [], Option, None, Some, true≢false, slice_get, drop, sym, ap}
use Rattle.std.proofs.lemmas.List.{drop_all}
use Rattle.std.proofs.lemmas.Option.{slice_get-get_or}
use Rattle.ctrl_events.specs.Order.{logged}
use Rattle.ctrl_events.specs.Queue.{events_to}
use Rattle.ctrl_events.proofs.OrderLemmas.{has_there, number_there}
use Rattle.ctrl_events.proofs.AlikeLemmas.{alike_next, unlike, all_alike}
use Rattle.ctrl_events.proofs.queue.are_alike.Goals as goal

pub is_alike-requires-clause-own : goal.is_alike-requires-clause-own
is_alike-requires-clause-own c =
    let there : slice_get c.args.log.now c.loop-entry.entry-index ≡ Some (Some c.in-Some.control) = slice_get-get_or c.args.log.now c.loop-entry.entry-index None c.loop-entry-test.true ∙ ap (λ (o : Option ℕ). Some o) c.in-Some.is in
    c.requires.own c.in-Some.control (has_there c.args.log.now c.loop-entry.entry-index c.in-Some.control there)

pub is_alike-requires-clause-other : goal.is_alike-requires-clause-other
is_alike-requires-clause-other c = λ d is. c.requires.other d (has_there c.args.others.now c.next_entry-at.result d (number_there (slice_get c.args.others.now c.next_entry-at.result) d is))

pub returns-then-not-is_alike : goal.returns-then-not-is_alike
returns-then-not-is_alike c =
    let there : slice_get c.args.log.now c.loop-entry.entry-index ≡ Some (Some c.in-Some.control) = slice_get-get_or c.args.log.now c.loop-entry.entry-index None c.loop-entry-test.true ∙ ap (λ (o : Option ℕ). Some o) c.in-Some.is in (
      λ h. absurd (true≢false (sym h)),
      λ all. absurd (unlike c.args.latest.now c.args.latest_of_others.now c.args.log.now c.args.others.now c.loop-entry.entry-index c.loop-entry.at c.next_entry-at.result c.in-Some.control there c.next_entry-at.ensures.rest c.next_entry-at.ensures.found (λ same. true≢false (sym (c.is_alike.ensures.alike.1 same) ∙ c.if-not-is_alike.true)) (c.loop-entry.invariant.0 all)),
    )

pub loop-entry-preserved : goal.loop-entry-preserved
loop-entry-preserved c =
    let there : slice_get c.args.log.now c.loop-entry.entry-index ≡ Some (Some c.in-Some.control) = slice_get-get_or c.args.log.now c.loop-entry.entry-index None c.loop-entry-test.true ∙ ap (λ (o : Option ℕ). Some o) c.in-Some.is in
    let more = alike_next c.args.latest.now c.args.latest_of_others.now c.args.log.now c.args.others.now c.loop-entry.entry-index c.loop-entry.at c.next_entry-at.result c.in-Some.control (c.loop-entry.entry-index + 1) (c.next_entry-at.result + 1) (omega arith) (omega arith) there c.next_entry-at.ensures.rest (c.is_alike.ensures.alike.0 c.if-not-is_alike.false) in
    (λ all. more.0 (c.loop-entry.invariant.0 all), λ further. c.loop-entry.invariant.1 (more.1 further))

pub returns : goal.returns
returns c =
    let done : events_to c.args.latest.now (logged (drop c.loop-entry.entry-index c.args.log.now)) ≡ events_to c.args.latest.now [] = ap (λ es. events_to c.args.latest.now (logged es)) (drop_all c.loop-entry.entry-index c.args.log.now c.loop-entry-test.false) in
    let last = all_alike c.args.latest.now c.args.latest_of_others.now c.args.others.now c.loop-entry.at c.next_entry.result c.next_entry.ensures.rest c.next_entry.ensures.found in
    (λ beyond. c.loop-entry.invariant.1 (done ∙ last.0 beyond), λ all. last.1 (sym done ∙ c.loop-entry.invariant.0 all))
