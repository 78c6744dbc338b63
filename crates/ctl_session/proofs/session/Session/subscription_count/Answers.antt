use Rattle.std.proofs.Common.{◌∙◌, ap, length, sym}
use Rattle.std.proofs.lemmas.List.{length-take-le}
use Rattle.ctl_session.specs.Calls.{subscribed_controls}
use Rattle.ctl_session.proofs.session.Session.subscription_count.Goals as goal

-- src/events.rt
pub returns : goal.returns
returns g c =
    let found = c.subscriptions-count.result in
    sym (length-take-le found.1 found.0 c.subscriptions-count.ensures.few)
    ∙ ap length (c.subscriptions-count.ensures.found ∙ ap (λ device. subscribed_controls device c.args.fh) c.device.ensures)
