use Rattle.std.proofs.Common.{arith, ◌≡◌, ◌∙◌, ◌∷◌, List, ℕ, Some, None, refl, ap, sym, subst, remove, slice_get}
use Rattle.std.proofs.Math.Path.{ap₂}
use Rattle.req_book.specs.Requests.{RequestsData, begun}
use Rattle.frame_queue.specs.Frames.{FramesData, QueueFitsRequests}
use Rattle.frame_queue.proofs.PlaceLemmas.{many_after, own_after}
use Rattle.frame_queue.proofs.FrameLemmas.{begun_kept, first_is}
use Rattle.frame_queue.proofs.frames.Frames.begin_first.Goals as goal

pub invariant_of-self : goal.invariant_of-self
invariant_of-self c =
    let old : FramesData = record { requests = c.self.inside.requests; queue = c.self.inside.queue.items; running = c.self.inside.running } in
    let whole : RequestsData → List ℕ → FramesData = λ requests ids. record { requests = requests; queue = ids; running = Some c.args.id } in
    let first : c.self.inside.queue.items ≡ c.args.id ∷ remove c.self.inside.queue.items 0 = first_is c.self.inside.queue.items c.args.id (ap (λ (f : FramesData). slice_get f.queue 0) c.self.view_is ∙ c.requires.first) in
    let none : c.self.inside.running ≡ None = ap (λ (f : FramesData). f.running) c.self.view_is ∙ c.requires.idle in
    record {
      frames = subst QueueFitsRequests (sym (ap₂ whole c.mark_running.ensures c.remove.ensures.items)) (begun_kept old c.args.id (remove c.self.inside.queue.items 0) c.args.applied.now c.self.invariant.frames first none);
      own = own_after c.self.inside.requests _ c.args.id (begun c.self.inside.requests.controls c.args.applied.now) (λ r. refl) c.mark_running.ensures c.self.invariant.own;
      few = omega (arith, c.self.invariant.few, many_after c.self.inside.requests _ c.args.id _ c.mark_running.ensures);
      fits = omega (arith, c.self.invariant.fits, c.remove.ensures.capacity);
    }
