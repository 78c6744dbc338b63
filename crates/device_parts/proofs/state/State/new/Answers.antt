use Rattle.std.proofs.Common.{List, [], length, None, ap, ◌∙◌}
use Rattle.ctrl_settle.specs.Control.{Control}
use Rattle.frame_queue.specs.Frames.{FramesData}
use Rattle.device_parts.proofs.MadeLemmas.{made_start}
use Rattle.device_parts.proofs.state.State.new.Goals as goal

-- what a device starts with is what no step makes
pub returns-clause-made : goal.returns-clause-made
returns-clause-made g c =
    made_start g.D.Validates.verdict c.args.plan.now _ c.controls.ensures.plan
    (record {
      file_handles = c.new-2.ensures.empty;
      controls = c.in_ok-controls.ensures;
      frames = c.in-Ok.ensures ∙ ap (λ (cs : List Control). (let f : FramesData = record { requests = record { controls = length cs; all = [] }; queue = []; running = None } in f)) c.controls.ensures.controls;
      events = c.new-3.ensures;
    })
