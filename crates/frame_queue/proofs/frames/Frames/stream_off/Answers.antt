use Rattle.std.proofs.Common.{◌∙◌, ap, sym}
use Rattle.frame_queue.proofs.FrameLemmas.{stopped, at_end, all_ended}
use Rattle.frame_queue.proofs.frames.Frames.stream_off.Goals as goal

pub returns : goal.returns
returns c =
    sym (at_end c.args.values.now c.loop-id.self (sym c.next_waiting.ensures ∙ c.in_default.is)) ∙ c.loop-id.invariant.rest ∙ ap (stopped c.args.values.now) c.complete_running.ensures.frames
    ∙ all_ended c.args.values.now c.args.self.now c.complete_running.ensures.queue c.complete_running.ensures.ids
