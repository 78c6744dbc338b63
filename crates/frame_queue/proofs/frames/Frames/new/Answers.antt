use Rattle.std.proofs.Common.{ap, length, arith}
use Rattle.req_book.specs.Requests.{RequestsData}
use Rattle.frame_queue.proofs.PlaceLemmas.{none_kept}
use Rattle.frame_queue.proofs.frames.Frames.new.Goals as goal

-- nothing waits, and there is room
pub invariant_of-result : goal.invariant_of-result
invariant_of-result c = record {
  frames = rw (c.new.ensures, c.in-Ok.ensures.items) (none_kept c.args.controls);
  own = rw c.new.ensures tt;
  few = omega (arith, ap (λ (r : RequestsData). length r.all) c.new.ensures);
  fits = omega (arith, c.in-Ok.ensures.capacity);
}
