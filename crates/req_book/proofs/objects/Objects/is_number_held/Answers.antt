use Rattle.std.proofs.Common.{◌∙◌, ap}
use Rattle.req_book.specs.Requests.{RequestsData, is_number_held}
use Rattle.req_book.proofs.ObjectLemmas.{held_among}
use Rattle.req_book.proofs.objects.Objects.is_number_held.Goals as goal

pub returns : goal.returns
returns c = c.some_holds.ensures ∙ held_among c.self.inside.controls c.self.inside.slots c.self.inside.ids.entries c.args.number c.self.invariant.named ∙ ap (λ (r : RequestsData). is_number_held r.all c.args.number) c.self.view_is
