use Rattle.std.proofs.Common.{sym, ◌∙◌}
use Rattle.device_history.specs.AskChecks.{published}
use Rattle.following_ranges.proofs.HandledLemmas.{followed_accepted}
use Rattle.following_ranges.proofs.QuietLemmas.{alone, err_published, refused_alone}
use Rattle.following_ranges.proofs.handling.handle_and_follow.Goals as goal

-- an ask that can't be a change is answered, and nothing is asked behind it
pub returns-then-not-is_change-clause-ok : goal.returns-then-not-is_change-clause-ok
returns-then-not-is_change-clause-ok g c =
    alone g.D.Validates.verdict c.args.followers.now c.args.device.now c.ask.new.self c.args.owed.now c.args.seat c.args.ask.now (published c.args.ask.now c.ask.result) c.new.result.items c.ask.ensures.handles
    (sym c.is_change.ensures ∙ c.if-not-is_change.true) c.new.ensures.items

-- and so is one that is refused
pub returns-then-is_err-clause-ok : goal.returns-then-is_err-clause-ok
returns-then-is_err-clause-ok g c =
    refused_alone g.D.Validates.verdict c.args.followers.now c.args.device.now c.ask-answer.new.self c.args.owed.now c.args.seat c.args.ask.now (published c.args.ask.now c.ask-answer.result) c.in_ok-asked.asked.items
    c.ask-answer.ensures.handles (err_published c.args.ask.now c.ask-answer.result ∙ sym c.is_err.ensures.value ∙ c.if-is_err.true) c.in_ok-asked.ensures.items

-- behind an accepted change ranges follow
pub returns-clause-ok : goal.returns-clause-ok
returns-clause-ok g c =
    followed_accepted g.D.Validates.verdict c.args.followers.now c.args.device.now c.ask-answer.new.self c.follow.new.device _ c.args.owed.now c.follow.new.owed c.args.seat c.args.ask.now (published c.args.ask.now c.ask-answer.result) c.follow.new.asked.items
    c.ask-answer.ensures.handles (sym c.is_change.ensures ∙ c.if-not-is_change.false) (c.as_slice.ensures.value ∙ c.in_ok-before.ensures.items ∙ c.values.ensures.values) (err_published c.args.ask.now c.ask-answer.result ∙ sym c.is_err.ensures.value ∙ c.if-is_err.false) c.follow.ensures.due c.follow.ensures.run c.follow.ensures.owes
