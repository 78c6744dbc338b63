use Rattle.std.proofs.Common.{◌≡◌, ◌∙◌, ap, sym, List, map, length, Option, subst}
use Rattle.std.proofs.Math.Path.{ap₂}
use Rattle.req_book.specs.Requests.{RequestData, RequestsData, with_changed, begun}
use Rattle.req_book.proofs.ObjectLemmas.{done, undone, never_empty, owed, room_there}
use Rattle.req_book.proofs.objects.Objects.begin.Goals as goal
use Rattle.std.specs.List.{range_with_len}
use Rattle.std.proofs.lemmas.List.FromFn.{length-map-range_with_len}
use Rattle.ctrl_types.specs.declared.value.CtrlValue.{CtrlValue}
use Rattle.ctrl_types.specs.Pairs.{last_value}
use Rattle.slab.specs.Slab.{with_value}
use Rattle.req_book.specs.declared.object.Object.{Object}
use Rattle.req_book.specs.declared.state.RequestState.TheVariants.{Queued, Running}
use Rattle.req_book.specs.Objects.{requests_of_entries, snapshot_seen, HasFrameRoom, IsObjectTable}

abbrev object : goal.After-self-in-Some-get_mut-1 → Object
object c = record c.in-Some-get_mut.object.now { state = Running; applied = c.apply.new.applied }

made : (c : goal.After-self-in-Some-get_mut-1) → IsObjectTable c.self.inside.controls (with_value c.self.inside.slots c.in-Some.key.now (object c)) c.self.inside.ids.entries
    × (◌≡◌ {A = RequestsData} (record { controls = c.self.inside.controls; all = requests_of_entries (with_value c.self.inside.slots c.in-Some.key.now (object c)) c.self.inside.ids.entries }) (with_changed c.args.self.now c.args.id (begun c.args.self.now.controls c.args.applied.now)))
made c =
    let before = c.in-Some-get_mut.object.now in
    let state : before.state ≡ Queued = owed c.self.inside.controls c.self.inside.slots c.self.inside.ids.entries c.args.self.now c.args.id c.in-Some.key.now before (λ r. r.state ≡ Queued) c.self.view_is c.self.invariant.named c.in-Some.ensures.value c.in-Some-get_mut.ensures.value c.requires in
    let same : c.self.inside.controls ≡ c.args.self.now.controls = ap (λ (r : RequestsData). r.controls) c.self.view_is in
    let seen : List (Option CtrlValue) → List CtrlValue → RequestData = λ a s. record { id = c.args.id; state = Running; buffer = before.buffer; pairs = before.pairs.items; applied = a; snapshot = s } in
    done c.self.inside.controls c.self.inside.slots c.self.inside.ids.entries c.args.self.now c.args.id c.in-Some.key.now before (object c) (begun c.args.self.now.controls c.args.applied.now)
    c.self.view_is c.self.invariant c.in-Some.ensures.value c.in-Some-get_mut.ensures.value
    (λ sized. (ap length c.apply.ensures ∙ length-map-range_with_len (last_value c.args.applied.now) 0 c.self.inside.controls, (subst (λ s. HasFrameRoom c.self.inside.controls s before.applied.items before.values.items) state sized).1))
    (ap₂ seen (c.apply.ensures ∙ ap (λ n. map (last_value c.args.applied.now) (range_with_len 0 n)) same) (sym (ap (λ s. snapshot_seen s before.values.items) state)))

pub apply-requires : goal.apply-requires
apply-requires c =
    let before = c.in-Some-get_mut.object.now in
    let state : before.state ≡ Queued = owed c.self.inside.controls c.self.inside.slots c.self.inside.ids.entries c.args.self.now c.args.id c.in-Some.key.now before (λ r. r.state ≡ Queued) c.self.view_is c.self.invariant.named c.in-Some.ensures.value c.in-Some-get_mut.ensures.value c.requires in
    (subst (λ s. HasFrameRoom c.self.inside.controls s before.applied.items before.values.items) state
    (room_there c.self.inside.controls c.self.inside.slots c.self.inside.ids.entries c.args.id c.in-Some.key.now before c.self.invariant.named c.in-Some.ensures.value c.in-Some-get_mut.ensures.value)).0

pub invariant_of-self : goal.invariant_of-self
invariant_of-self c = (made c).0

pub returns-in-Some-get_mut : goal.returns-in-Some-get_mut
returns-in-Some-get_mut c = (made c).1

pub returns-in_default-get_mut : goal.returns-in_default-get_mut
returns-in_default-get_mut c = absurd (never_empty c.self.inside.controls c.self.inside.slots c.self.inside.ids.entries c.args.id c.in-Some.key.now c.self.invariant.named c.in-Some.ensures.value c.in_default-get_mut.ensures.value)

pub returns-in_default : goal.returns-in_default
returns-in_default c = undone c.self.inside.controls c.self.inside.slots c.self.inside.ids.entries c.args.self.now c.args.id (begun c.args.self.now.controls c.args.applied.now) c.self.view_is c.self.invariant.named c.in_default.ensures.value
