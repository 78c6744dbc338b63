use Rattle.std.proofs.Common.{◌≡◌, length}
use Rattle.frame_queue.proofs.FrameLemmas.{stopped}
use Rattle.frame_queue.proofs.frames.Frames.stream_off.Given as goal

-- stopping what is left stops the whole
abbrev pub invariant-loop-id : goal.invariant-loop-id
invariant-loop-id l = record {
  rest : stopped l.values l.self ≡ stopped l.values l.initial.self;
  controls : length l.values ≡ l.self.requests.controls;
}

-- how many still wait
abbrev pub decreases-loop-id : goal.decreases-loop-id
decreases-loop-id l = length l.self.queue
