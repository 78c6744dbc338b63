use Rattle.std.proofs.Common.{arith, ◌≡◌, ◌∙◌, List, ℕ, None, refl, ap, sym, subst}
use Rattle.std.proofs.Math.Path.{ap₂}
use Rattle.req_book.specs.Requests.{RequestsData, completed, find}
use Rattle.frame_queue.specs.Frames.{FramesData, QueueFitsRequests, cancel_check}
use Rattle.frame_queue.proofs.PlaceLemmas.{many_after, own_after}
use Rattle.frame_queue.proofs.FrameLemmas.{cancelled_kept}
use Rattle.frame_queue.proofs.frames.Frames.cancel.Goals as goal

pub invariant_of-self : goal.invariant_of-self
invariant_of-self c =
    let old : FramesData = record { requests = c.self.inside.requests; queue = c.self.inside.queue.items; running = c.self.inside.running } in
    let whole : RequestsData → List ℕ → FramesData = λ requests ids. record { requests = requests; queue = ids; running = c.self.inside.running } in
    let waits : cancel_check (find c.self.inside.requests.all c.args.id.0) ≡ None = ap (λ (f : FramesData). cancel_check (find f.requests.all c.args.id.0)) c.self.view_is ∙ c.requires.waits in
    record {
      frames = subst QueueFitsRequests (sym (ap₂ whole c.mark_complete.ensures c.leave.ensures.left)) (cancelled_kept old c.args.id.0 _ c.self.invariant.frames waits);
      own = own_after c.self.inside.requests _ c.args.id.0 (completed c.args.values.now) (λ r. refl) c.mark_complete.ensures c.self.invariant.own;
      few = omega (arith, c.self.invariant.few, many_after c.self.inside.requests _ c.args.id.0 _ c.mark_complete.ensures);
      fits = omega (arith, c.self.invariant.fits, c.leave.ensures.room);
    }
