use Rattle.std.proofs.Common.{◌≡◌, ◌∙◌, None, arith, refl, ap, sym, subst}
use Rattle.req_book.specs.Requests.{RequestsData, find, cleared}
use Rattle.req_book.specs.Refusals.{clear_check}
use Rattle.frame_queue.specs.Frames.{FramesData, QueueFitsRequests}
use Rattle.frame_queue.proofs.PlaceLemmas.{many_after, own_after}
use Rattle.frame_queue.proofs.FrameLemmas.{cleared_kept}
use Rattle.frame_queue.proofs.frames.Frames.reinit.Goals as goal

pub invariant_of-self : goal.invariant_of-self
invariant_of-self c =
    let old : FramesData = record { requests = c.self.inside.requests; queue = c.self.inside.queue.items; running = c.self.inside.running } in
    let whole : RequestsData → FramesData = λ requests. record { requests = requests; queue = c.self.inside.queue.items; running = c.self.inside.running } in
    let passes : clear_check (find c.self.inside.requests.all c.args.id.0) ≡ None = ap (λ (f : FramesData). clear_check (find f.requests.all c.args.id.0)) c.self.view_is ∙ c.requires in
    record {
      frames = subst QueueFitsRequests (sym (ap whole c.reinit.ensures)) (cleared_kept old c.args.id.0 c.self.invariant.frames passes);
      own = own_after c.self.inside.requests _ c.args.id.0 cleared (λ r. refl) c.reinit.ensures c.self.invariant.own;
      few = omega (arith, c.self.invariant.few, many_after c.self.inside.requests _ c.args.id.0 _ c.reinit.ensures);
      fits = c.self.invariant.fits;
    }
