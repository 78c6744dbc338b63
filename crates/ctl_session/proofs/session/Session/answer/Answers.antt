use Rattle.std.proofs.Common.{refl, rules, subst}
use Rattle.device_history.specs.AskChecks.{published}
use Rattle.ctl_session.specs.Session.{Asked, SessionData}
use Rattle.ctl_session.proofs.CallLemmas.{handled}
use Rattle.ctl_session.proofs.session.Session.answer.Goals as goal

-- src/session.rt
pub returns-in-Ok : goal.returns-in-Ok
returns-in-Ok g c =
    let then : SessionData = record { device = c.handle_and_follow.new.device; followers = c.self.inside.followers.items; owed = c.handle_and_follow.new.owed } in
    subst (λ (before : SessionData). Asked g.D.Validates.verdict before then c.args.ask.now (published c.args.ask.now c.in-Ok.answer)) c.self.view_is
    (handled g.D.Validates.verdict (record { device = c.self.inside.device; followers = c.self.inside.followers.items; owed = c.self.inside.owed }) then c.args.ask.now (published c.args.ask.now c.in-Ok.answer) c.in-Ok.field-0-1.items refl
    (search (rules, c.in-Ok.ensures.ok, c.as_slice.ensures.value)))
