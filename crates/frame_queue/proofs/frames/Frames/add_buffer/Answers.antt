use Rattle.std.proofs.Common.{arith, ap, sym, subst, refl}
use Rattle.req_book.specs.Requests.{RequestsData, with_buffer}
use Rattle.frame_queue.specs.Frames.{FramesData, QueueFitsRequests}
use Rattle.frame_queue.proofs.PlaceLemmas.{many_after, own_after}
use Rattle.frame_queue.proofs.FrameLemmas.{state_kept}
use Rattle.frame_queue.proofs.frames.Frames.add_buffer.Goals as goal

pub invariant_of-self : goal.invariant_of-self
invariant_of-self c =
    let old : FramesData = record { requests = c.self.inside.requests; queue = c.self.inside.queue.items; running = c.self.inside.running } in
    let whole : RequestsData → FramesData = λ requests. record { requests = requests; queue = c.self.inside.queue.items; running = c.self.inside.running } in
    record {
      frames = subst QueueFitsRequests (sym (ap whole c.add_buffer.ensures)) (state_kept old c.args.id.0 (with_buffer c.args.number) c.self.invariant.frames (λ r. refl) (λ r. refl) (λ r held. refl));
      own = own_after c.self.inside.requests _ c.args.id.0 (with_buffer c.args.number) (λ r. refl) c.add_buffer.ensures c.self.invariant.own;
      few = omega (arith, c.self.invariant.few, many_after c.self.inside.requests _ c.args.id.0 _ c.add_buffer.ensures);
      fits = c.self.invariant.fits;
    }
