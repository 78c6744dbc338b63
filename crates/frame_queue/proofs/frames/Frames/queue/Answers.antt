use Rattle.std.proofs.Common.{◌≡◌, ◌∙◌, None, List, ℕ, vec_capacity, refl, ap, sym, subst, length, arith}
use Rattle.std.proofs.Math.Path.{ap₂}
use Rattle.req_book.specs.Requests.{RequestsData, find, queued}
use Rattle.req_book.specs.Refusals.{queue_check}
use Rattle.frame_queue.specs.Frames.{FramesData, QueueFitsRequests}
use Rattle.frame_queue.proofs.FrameLemmas.{queued_kept}
use Rattle.frame_queue.proofs.PlaceLemmas.{many_changed, one_fits, own_after}
use Rattle.frame_queue.proofs.frames.Frames.queue.Goals as goal

-- there is a place for it
pub push_reserved-requires : goal.push_reserved-requires
push_reserved-requires c =
    let old : FramesData = record { requests = c.self.inside.requests; queue = c.self.inside.queue.items; running = c.self.inside.running } in
    let idle : queue_check (find c.self.inside.requests.all c.args.id.0) ≡ None = ap (λ (f : FramesData). queue_check (find f.requests.all c.args.id.0)) c.self.view_is ∙ c.requires.passes in
    omega (arith, one_fits old (vec_capacity c.self.inside.queue) c.args.id.0 c.self.invariant idle, c.self.invariant.fits)

pub invariant_of-self : goal.invariant_of-self
invariant_of-self c =
    let old : FramesData = record { requests = c.self.inside.requests; queue = c.self.inside.queue.items; running = c.self.inside.running } in
    let whole : RequestsData → List ℕ → FramesData = λ requests ids. record { requests = requests; queue = ids; running = c.self.inside.running } in
    let idle : queue_check (find c.self.inside.requests.all c.args.id.0) ≡ None = ap (λ (f : FramesData). queue_check (find f.requests.all c.args.id.0)) c.self.view_is ∙ c.requires.passes in
    record {
      frames = subst QueueFitsRequests (sym (ap₂ whole c.mark_queued.ensures c.push_reserved.ensures.items)) (queued_kept old c.args.id.0 c.self.invariant.frames idle);
      own = own_after c.self.inside.requests _ c.args.id.0 (queued c.self.inside.requests.controls) (λ r. refl) c.mark_queued.ensures c.self.invariant.own;
      few = omega (arith, c.self.invariant.few, ap (λ (r : RequestsData). length r.all) c.mark_queued.ensures, many_changed c.self.inside.requests.all c.args.id.0 (queued c.self.inside.requests.controls));
      fits = omega (arith, c.self.invariant.fits, c.push_reserved.ensures.capacity);
    }
