use Rattle.std.proofs.Common.{arith, None, refl, ap, sym, subst}
use Rattle.req_book.specs.Requests.{RequestsData, completed}
use Rattle.frame_queue.specs.Frames.{FramesData, QueueFitsRequests}
use Rattle.frame_queue.proofs.PlaceLemmas.{many_after, own_after}
use Rattle.frame_queue.proofs.FrameLemmas.{completed_kept}
use Rattle.frame_queue.proofs.frames.Frames.complete.Goals as goal

pub invariant_of-self : goal.invariant_of-self
invariant_of-self c =
    let old : FramesData = record { requests = c.self.inside.requests; queue = c.self.inside.queue.items; running = c.self.inside.running } in
    let whole : RequestsData → FramesData = λ requests. record { requests = requests; queue = c.self.inside.queue.items; running = None } in
    record {
      frames = subst QueueFitsRequests (sym (ap whole c.mark_complete.ensures)) (completed_kept old c.unwrap-id.result c.args.values.now c.self.invariant.frames c.unwrap-id.ensures);
      own = own_after c.self.inside.requests _ c.unwrap-id.result (completed c.args.values.now) (λ r. refl) c.mark_complete.ensures c.self.invariant.own;
      few = omega (arith, c.self.invariant.few, many_after c.self.inside.requests _ c.unwrap-id.result _ c.mark_complete.ensures);
      fits = c.self.invariant.fits;
    }
