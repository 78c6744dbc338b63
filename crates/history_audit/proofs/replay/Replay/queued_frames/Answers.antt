use Rattle.std.proofs.Common.{◌≡◌, length, slice_get, ap, ◌∙◌, arith, rules}
use Rattle.history.specs.Past.{past}
use Rattle.device_history.specs.Forecasts.{queued_frame}
use Rattle.device_history.specs.Frames.{queue}
use Rattle.history_audit.proofs.EvaluateLemmas.{mapped_next}
use Rattle.history_audit.proofs.replay.Replay.queued_frames.Goals as goal

-- one more frame
pub loop-request-preserved : goal.loop-request-preserved
loop-request-preserved g c =
    let p = past c.args.self.now.steps in
    let many : c.len.result ≡ length c.loop-request.all.items = omega (arith, c.len.ensures, c.loop-request.all.ok.0) in
    let more = mapped_next (queued_frame c.args.self.now.plan p) (queue p) c.in-Some.request.0 c.queued_frame.result c.loop-request.all.items c.push_reserved.new.self.items (c.in-Some.ensures.request ∙ ap (slice_get (queue p)) many)
    c.loop-request.invariant.so_far c.queued_frame.ensures c.push_reserved.ensures.items in
    record { so_far = more.0; within = more.1; room = search rules }
