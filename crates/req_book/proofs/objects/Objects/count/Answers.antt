use Rattle.std.proofs.Common.{◌∙◌, sym, ap, subst, length}
use Rattle.req_book.specs.Requests.{RequestsData, HaveOwnIds}
use Rattle.req_book.proofs.ObjectLemmas.{counted, own_ids}
use Rattle.req_book.proofs.objects.Objects.count.Goals as goal

pub returns-clause-count : goal.returns-clause-count
returns-clause-count c = c.len.ensures.len ∙ sym (counted c.self.inside.controls c.self.inside.slots c.self.inside.ids.entries c.self.invariant.named) ∙ ap (λ (r : RequestsData). length r.all) c.self.view_is

pub returns-clause-ids : goal.returns-clause-ids
returns-clause-ids c = subst (λ (r : RequestsData). HaveOwnIds r.all) c.self.view_is (own_ids c.self.inside.controls c.self.inside.slots c.self.inside.ids.entries c.self.invariant.named)
