use Rattle.std.proofs.Common.{◌≡◌, ◌∙◌, ℕ, sym, ap, Option, Some, None, nat_eq}
use Rattle.std.specs.Option.{option_map, option_and_then}
use Rattle.std.specs.Map.{lookup}
use Rattle.slab.specs.Slab.{get}
use Rattle.req_book.specs.Objects.{request_at}
use Rattle.req_book.specs.Requests.{RequestsData, find}
use Rattle.req_book.proofs.ObjectLemmas.{found, room_lent, object_of}
use Rattle.req_book.proofs.objects.Objects.get.Goals as goal

pub returns-in-Some-clause-request : goal.returns-in-Some-clause-request
returns-in-Some-clause-request c =
    let key : Some c.in-Some.key.now ≡ lookup (nat_eq c.args.id) c.self.inside.ids.entries = c.in-Some.ensures.value in
    ap (option_map (request_at c.args.id)) c.get-in-Some.ensures
    ∙ ap (λ (k : Option ℕ). option_map (request_at c.args.id) (option_and_then (get c.self.inside.slots) k)) key
    ∙ sym (found c.self.inside.controls c.self.inside.slots c.self.inside.ids.entries c.args.id c.self.invariant.named)
    ∙ ap (λ (r : RequestsData). find r.all c.args.id) c.self.view_is

pub returns-in-None-clause-request : goal.returns-in-None-clause-request
returns-in-None-clause-request c =
    let key : None ≡ lookup (nat_eq c.args.id) c.self.inside.ids.entries = c.in-None.ensures.value in
    ap (λ (k : Option ℕ). option_map (request_at c.args.id) (option_and_then (get c.self.inside.slots) k)) key
    ∙ sym (found c.self.inside.controls c.self.inside.slots c.self.inside.ids.entries c.args.id c.self.invariant.named)
    ∙ ap (λ (r : RequestsData). find r.all c.args.id) c.self.view_is

pub returns-in-Some-clause-room : goal.returns-in-Some-clause-room
returns-in-Some-clause-room c =
    room_lent c.self.inside.controls c.args.self.now.controls (get c.self.inside.slots c.in-Some.key.now) c.get-in-Some.result (ap (λ (r : RequestsData). r.controls) c.self.view_is) c.get-in-Some.ensures
    (object_of c.self.inside.controls c.self.inside.slots c.self.inside.ids.entries c.args.id c.in-Some.key.now c.self.invariant.named (sym c.in-Some.ensures.value))
