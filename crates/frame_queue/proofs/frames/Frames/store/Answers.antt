use Rattle.std.proofs.Common.{arith, vec_capacity, refl}
use Rattle.req_book.specs.Requests.{RequestData, RequestsData, with_changed, with_pairs}
use Rattle.frame_queue.specs.Frames.{FramesData, with_requests}
use Rattle.frame_queue.specs.Places.{HasQueueRoom}
use Rattle.frame_queue.proofs.FrameLemmas.{own_changed, state_kept}
use Rattle.frame_queue.proofs.PlaceLemmas.{either_places, many_changed}
use Rattle.frame_queue.proofs.frames.Frames.store.Goals as goal

pub invariant_of-self : goal.invariant_of-self
invariant_of-self c =
    let old : FramesData = record { requests = c.self.inside.requests; queue = c.self.inside.queue.items; running = c.self.inside.running } in
    let change : RequestData → RequestData = with_pairs c.self.inside.requests.controls c.args.pairs.now in
    let new : RequestsData = with_changed c.self.inside.requests c.args.id.0 change in
    let made : HasQueueRoom (with_requests old new) (vec_capacity c.self.inside.queue) = record {
      frames = state_kept old c.args.id.0 change c.self.invariant.frames (λ r. refl) (λ r. refl) (λ r held. held);
      own = own_changed c.self.inside.requests.all c.args.id.0 change (λ r. refl) c.self.invariant.own;
      few = omega (arith, c.self.invariant.few, many_changed c.self.inside.requests.all c.args.id.0 change);
      fits = c.self.invariant.fits;
    } in
    either_places old (vec_capacity c.self.inside.queue) c.store.new.self new c.store.result c.self.invariant made c.store.ensures.ok c.store.ensures.err
