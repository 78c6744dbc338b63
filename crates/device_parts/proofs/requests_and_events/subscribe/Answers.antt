use Rattle.std.proofs.Common.{◌∙◌, ap}
use Rattle.std.proofs.lemmas.Result.{on_ok_weaker}
use Rattle.ctrl_types.specs.declared.changes.Changes.{Changes}
use Rattle.ctrl_clusters.specs.Moments.{parts}
use Rattle.ctrl_events.specs.declared.event.Payload.{Payload}
use Rattle.ctrl_events.specs.Events.{after_subscribe, events_of, only_at}
use Rattle.ctrl_handlers.specs.Plan.{control}
use Rattle.ctrl_raises.specs.Raises.{initial_changes}
use Rattle.device_parts.proofs.RaisedLemmas.{subscribed_step}
use Rattle.device_parts.proofs.requests_and_events.subscribe.Goals as goal

-- the file handle is subscribed, and told where it asks for it
pub returns-clause-ok : goal.returns-clause-ok
returns-clause-ok g c = on_ok_weaker c.subscribe.result (λ done verdicts e older is now_is j.
    done j.0
    ∙ ap (λ (x : Changes). only_at c.args.fh.0 (after_subscribe c.args.control c.args.flags x c.payload_at-payload.result) j.0 (events_of c.args.events.now j.0)) c.initial_changes-changes.ensures
    ∙ ap (λ (x : Payload). only_at c.args.fh.0 (after_subscribe c.args.control c.args.flags (initial_changes (control c.args.at.now.plan.now c.args.control).flags) x) j.0 (events_of c.args.events.now j.0)) c.payload_at-payload.ensures
    ∙ subscribed_step verdicts c.args.at.now.plan.now e older (parts c.args.at.now) c.args.fh c.args.control c.args.flags j (events_of c.args.events.now j.0) is now_is) c.subscribe.ensures.ok
