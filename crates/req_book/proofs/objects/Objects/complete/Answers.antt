use Rattle.std.proofs.Common.{◌≡◌, ◌∙◌, ap, sym, List, length, true}
use Rattle.req_book.specs.Requests.{RequestData, RequestsData, with_changed, completed, snapshot_of, is_pending}
use Rattle.req_book.proofs.ObjectLemmas.{done, undone, never_empty, owed, room_of, room_there}
use Rattle.req_book.proofs.objects.Objects.complete.Goals as goal
use Rattle.ctrl_types.specs.declared.value.CtrlValue.{CtrlValue}
use Rattle.req_book.proofs.SettingLemmas.{snapshot_long}
use Rattle.slab.specs.Slab.{with_value}
use Rattle.req_book.specs.declared.object.Object.{Object}
use Rattle.req_book.specs.declared.state.RequestState.TheVariants.{Complete}
use Rattle.req_book.specs.Objects.{requests_of_entries, IsObjectTable}

abbrev object : goal.After-self-in-Some-get_mut-1 → Object
object c = record c.in-Some-get_mut.object.now { state = Complete; values = c.keep.new.values }

made : (c : goal.After-self-in-Some-get_mut-1) → IsObjectTable c.self.inside.controls (with_value c.self.inside.slots c.in-Some.key.now (object c)) c.self.inside.ids.entries
    × (◌≡◌ {A = RequestsData} (record { controls = c.self.inside.controls; all = requests_of_entries (with_value c.self.inside.slots c.in-Some.key.now (object c)) c.self.inside.ids.entries }) (with_changed c.args.self.now c.args.id (completed c.args.values.now)))
made c =
    let before = c.in-Some-get_mut.object.now in
    let pending : is_pending before.state ≡ true = owed c.self.inside.controls c.self.inside.slots c.self.inside.ids.entries c.args.self.now c.args.id c.in-Some.key.now before (λ r. is_pending r.state ≡ true) c.self.view_is c.self.invariant.named c.in-Some.ensures.value c.in-Some-get_mut.ensures.value c.requires.state in
    let same : c.args.self.now.controls ≡ c.self.inside.controls = ap (λ (r : RequestsData). r.controls) (sym c.self.view_is) in
    let kept : c.keep.new.values.items ≡ snapshot_of before.applied.items c.args.values.now = c.keep.ensures ∙ ap (λ a. snapshot_of a c.args.values.now) c.as_slice.ensures.value in
    let seen : List CtrlValue → RequestData = λ s. record { id = c.args.id; state = Complete; buffer = before.buffer; pairs = before.pairs.items; applied = before.applied.items; snapshot = s } in
    done c.self.inside.controls c.self.inside.slots c.self.inside.ids.entries c.args.self.now c.args.id c.in-Some.key.now before (object c) (completed c.args.values.now)
    c.self.view_is c.self.invariant c.in-Some.ensures.value c.in-Some-get_mut.ensures.value
    (λ sized. ((room_of c.self.inside.controls before.state before.applied.items before.values.items pending sized).0, ap length kept ∙ snapshot_long before.applied.items c.args.values.now ∙ c.requires.values ∙ same))
    (ap seen kept)

pub keep-requires-clause-applied : goal.keep-requires-clause-applied
keep-requires-clause-applied c =
    let before = c.in-Some-get_mut.object.now in
    let pending : is_pending before.state ≡ true = owed c.self.inside.controls c.self.inside.slots c.self.inside.ids.entries c.args.self.now c.args.id c.in-Some.key.now before (λ r. is_pending r.state ≡ true) c.self.view_is c.self.invariant.named c.in-Some.ensures.value c.in-Some-get_mut.ensures.value c.requires.state in
    let room = room_of c.self.inside.controls before.state before.applied.items before.values.items pending (room_there c.self.inside.controls c.self.inside.slots c.self.inside.ids.entries c.args.id c.in-Some.key.now before c.self.invariant.named c.in-Some.ensures.value c.in-Some-get_mut.ensures.value) in
    ap length c.as_slice.ensures.value ∙ room.0 ∙ sym room.1

pub keep-requires-clause-present : goal.keep-requires-clause-present
keep-requires-clause-present c =
    let before = c.in-Some-get_mut.object.now in
    let pending : is_pending before.state ≡ true = owed c.self.inside.controls c.self.inside.slots c.self.inside.ids.entries c.args.self.now c.args.id c.in-Some.key.now before (λ r. is_pending r.state ≡ true) c.self.view_is c.self.invariant.named c.in-Some.ensures.value c.in-Some-get_mut.ensures.value c.requires.state in
    let same : c.args.self.now.controls ≡ c.self.inside.controls = ap (λ (r : RequestsData). r.controls) (sym c.self.view_is) in
    let room = room_of c.self.inside.controls before.state before.applied.items before.values.items pending (room_there c.self.inside.controls c.self.inside.slots c.self.inside.ids.entries c.args.id c.in-Some.key.now before c.self.invariant.named c.in-Some.ensures.value c.in-Some-get_mut.ensures.value) in
    c.requires.values ∙ same ∙ sym room.1

pub invariant_of-self : goal.invariant_of-self
invariant_of-self c = (made c).0

pub returns-in-Some-get_mut : goal.returns-in-Some-get_mut
returns-in-Some-get_mut c = (made c).1

pub returns-in_default-get_mut : goal.returns-in_default-get_mut
returns-in_default-get_mut c = absurd (never_empty c.self.inside.controls c.self.inside.slots c.self.inside.ids.entries c.args.id c.in-Some.key.now c.self.invariant.named c.in-Some.ensures.value c.in_default-get_mut.ensures.value)

pub returns-in_default : goal.returns-in_default
returns-in_default c = undone c.self.inside.controls c.self.inside.slots c.self.inside.ids.entries c.args.self.now c.args.id (completed c.args.values.now) c.self.view_is c.self.invariant.named c.in_default.ensures.value
