use Rattle.std.proofs.Common.{◌∙◌}
use Rattle.ctrl_clusters.specs.Moments.{parts, parts_after}
use Rattle.ctrl_events.specs.Events.{events_of}
use Rattle.device_parts.proofs.RaisedLemmas.{raised_step}
use Rattle.device_parts.proofs.raising.raise_touched.Goals as goal

-- many clusters: all controls are looked at
pub returns-then-are_many : goal.returns-then-are_many
returns-then-are_many g c verdicts e older around given fh =
    c.raise_between.ensures fh.0 ∙ raised_step verdicts c.args.change.now.before.plan.now e older (parts c.args.change.now.before) (parts_after c.args.change.now) c.args.pairs.now c.args.from fh (events_of c.args.events.now fh.0) around given

-- few: their members alone
pub returns-else-are_many : goal.returns-else-are_many
returns-else-are_many g c verdicts e older around given fh =
    c.raise_within.ensures fh.0 ∙ raised_step verdicts c.args.change.now.before.plan.now e older (parts c.args.change.now.before) (parts_after c.args.change.now) c.args.pairs.now c.args.from fh (events_of c.args.events.now fh.0) around given
