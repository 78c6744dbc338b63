use Rattle.std.proofs.Common.{◌≡◌, ◌∙◌, sym}
use Rattle.req_book.proofs.LikeLemmas.{same_decides, same_alike, alike_same, same_parts}
use Rattle.req_book.proofs.object.Object.is_like.Goals as goal

pub returns : goal.returns
returns c =
    let is : c.eq.result ≡ same_parts c.args.self.now c.args.other.now =
    rw (c.seen.ensures.state, c.seen.ensures.buffer, c.seen.ensures.pairs, c.seen.ensures.values, c.seen-2.ensures.state, c.seen-2.ensures.buffer, c.seen-2.ensures.pairs, c.seen-2.ensures.values) at c.eq.ensures in
    (λ h. same_alike 0 c.args.self.now c.args.other.now ((same_decides c.args.self.now c.args.other.now).0 (sym is ∙ h)), λ alike. is ∙ (same_decides c.args.self.now c.args.other.now).1 (alike_same 0 c.args.self.now c.args.other.now alike))
