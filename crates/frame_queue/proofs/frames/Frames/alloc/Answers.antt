use Rattle.std.proofs.Common.{vec_capacity, ◌≡◌, ◌∙◌, ◌++◌, ◌∷◌, [], None, ap}
use Rattle.req_book.specs.Requests.{RequestsData, find, new_request}
use Rattle.req_book.specs.Refusals.{alloc_check}
use Rattle.frame_queue.specs.Frames.{FramesData, with_requests}
use Rattle.frame_queue.specs.Places.{HasQueueRoom}
use Rattle.frame_queue.proofs.FrameLemmas.{added_kept, own_added}
use Rattle.frame_queue.proofs.PlaceLemmas.{either_places, made_few}
use Rattle.frame_queue.proofs.frames.Frames.alloc.Goals as goal

pub invariant_of-self : goal.invariant_of-self
invariant_of-self c =
    let old : FramesData = record { requests = c.self.inside.requests; queue = c.self.inside.queue.items; running = c.self.inside.running } in
    let new : RequestsData = record c.self.inside.requests { all = c.self.inside.requests.all ++ new_request c.args.id.0 ∷ [] } in
    let unused : find c.self.inside.requests.all c.args.id.0 ≡ None = ap (λ (f : FramesData). find f.requests.all c.args.id.0) c.self.view_is ∙ c.requires.unused in
    let passes : alloc_check c.self.inside.requests.all ≡ None = ap (λ (f : FramesData). alloc_check f.requests.all) c.self.view_is ∙ c.requires.passes in
    let made : HasQueueRoom (with_requests old new) (vec_capacity c.self.inside.queue) = record {
      frames = added_kept old c.args.id.0 c.self.invariant.frames unused;
      own = own_added c.self.inside.requests.all c.args.id.0 c.self.invariant.own unused;
      few = made_few c.self.inside.requests.all c.args.id.0 passes;
      fits = c.self.invariant.fits;
    } in
    either_places old (vec_capacity c.self.inside.queue) c.alloc.new.self new c.alloc.result c.self.invariant made c.alloc.ensures.ok c.alloc.ensures.err
