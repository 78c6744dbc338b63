use Rattle.std.proofs.Common.{arith}
use Rattle.req_book.proofs.LikeLemmas.{alike_at, alike_many, alike_stores}
use Rattle.req_book.proofs.objects.Objects.is_like.Goals as goal

-- there are more or less
pub returns-then-count : goal.returns-then-count
returns-then-count c = (λ h. cc, λ alike. absurd (omega (arith, alike_many c.args.self.now c.args.other.now alike, c.count-count.ensures.count, c.count.ensures.count, c.if-count.true)))

-- as many controls, as many requests, and alike at each place
pub returns : goal.returns
returns c = (
  λ h. alike_stores c.args.self.now c.args.other.now (omega (arith, c.controls.ensures, c.controls-2.ensures, c.if-controls.false)) (omega (arith, c.count-count.ensures.count, c.count.ensures.count, c.if-count.false))
      (λ place within. c.is_like_below.ensures.0 h place (omega (arith, within, c.count-count.ensures.count))),
  λ alike. c.is_like_below.ensures.1 (λ place within. alike_at c.args.self.now c.args.other.now place alike),
)
