use Rattle.std.proofs.Common.{◌≡◌, refl}
use Rattle.req_book.specs.Requests.{RequestsData, with_changed, asking}
use Rattle.req_book.proofs.ObjectLemmas.{done, undone, never_empty}
use Rattle.req_book.proofs.objects.Objects.set_pairs.Goals as goal
use Rattle.slab.specs.Slab.{with_value}
use Rattle.req_book.specs.declared.object.Object.{Object}
use Rattle.req_book.specs.Objects.{requests_of_entries, IsObjectTable}

abbrev object : goal.After-drop-object → Object
object c = record c.in-Some-get_mut.object.now { pairs = c.args.pairs }

made : (c : goal.After-drop-object) → IsObjectTable c.self.inside.controls (with_value c.self.inside.slots c.in-Some.key.now (object c)) c.self.inside.ids.entries
    × (◌≡◌ {A = RequestsData} (record { controls = c.self.inside.controls; all = requests_of_entries (with_value c.self.inside.slots c.in-Some.key.now (object c)) c.self.inside.ids.entries }) (with_changed c.args.self.now c.args.id (asking c.args.pairs.items)))
made c =
    done c.self.inside.controls c.self.inside.slots c.self.inside.ids.entries c.args.self.now c.args.id c.in-Some.key.now c.in-Some-get_mut.object.now (object c) (asking c.args.pairs.items)
    c.self.view_is c.self.invariant c.in-Some.ensures.value c.in-Some-get_mut.ensures.value (λ sized. sized) (refl)

pub invariant_of-self : goal.invariant_of-self
invariant_of-self c = (made c).0

pub returns-in-Some-get_mut : goal.returns-in-Some-get_mut
returns-in-Some-get_mut c = (made c).1

pub returns-in_default-get_mut : goal.returns-in_default-get_mut
returns-in_default-get_mut c = absurd (never_empty c.self.inside.controls c.self.inside.slots c.self.inside.ids.entries c.args.id c.in-Some.key.now c.self.invariant.named c.in-Some.ensures.value c.in_default-get_mut.ensures.value)

pub returns-in_default : goal.returns-in_default
returns-in_default c = undone c.self.inside.controls c.self.inside.slots c.self.inside.ids.entries c.args.self.now c.args.id (asking c.args.pairs.items) c.self.view_is c.self.invariant.named c.in_default.ensures.value
