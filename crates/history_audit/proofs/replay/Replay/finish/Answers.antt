use Rattle.std.proofs.Common.{ap, ◌∙◌}
use Rattle.history_audit.specs.Scratch.{AuditedData}
use Rattle.history_audit.proofs.ScratchLemmas.{shown_made}
use Rattle.history_audit.proofs.replay.Replay.finish.Goals as goal

-- each part is what the steps make of it
pub returns-in-Ok-clause-scratch : goal.returns-in-Ok-clause-scratch
returns-in-Ok-clause-scratch g c =
    let replay = c.args.self in
    ap (λ (d : AuditedData). d.shown) c.of.ensures
    ∙ shown_made g.D.Validates.verdict replay.plan replay.steps _ _ _ c.put_aside.ensures.aside.made c.in-Ok.ensures.flags c.in-Ok.ensures.forecasts
