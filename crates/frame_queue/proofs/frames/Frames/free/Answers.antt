use Rattle.std.proofs.Common.{◌≡◌, ◌∙◌, None, arith, length, ap, sym, subst}
use Rattle.req_book.specs.Requests.{RequestsData, HaveOwnIds, find}
use Rattle.req_book.specs.Refusals.{clear_check}
use Rattle.frame_queue.specs.Frames.{FramesData, QueueFitsRequests}
use Rattle.frame_queue.proofs.PlaceLemmas.{no_more_without}
use Rattle.frame_queue.proofs.FrameLemmas.{freed_kept, own_without}
use Rattle.frame_queue.proofs.frames.Frames.free.Goals as goal

pub invariant_of-self : goal.invariant_of-self
invariant_of-self c =
    let old : FramesData = record { requests = c.self.inside.requests; queue = c.self.inside.queue.items; running = c.self.inside.running } in
    let whole : RequestsData → FramesData = λ requests. record { requests = requests; queue = c.self.inside.queue.items; running = c.self.inside.running } in
    let passes : clear_check (find c.self.inside.requests.all c.args.id.0) ≡ None = ap (λ (f : FramesData). clear_check (find f.requests.all c.args.id.0)) c.self.view_is ∙ c.requires in
    record {
      frames = subst QueueFitsRequests (sym (ap whole c.free.ensures)) (freed_kept old c.args.id.0 c.self.invariant.frames passes);
      own = subst (λ (r : RequestsData). HaveOwnIds r.all) (sym c.free.ensures) (own_without c.self.inside.requests.all c.args.id.0 c.self.invariant.own);
      few = omega (arith, c.self.invariant.few, no_more_without c.self.inside.requests.all c.args.id.0, ap (λ (r : RequestsData). length r.all) c.free.ensures);
      fits = c.self.invariant.fits;
    }
