use Rattle.std.proofs.Common.{◌≡◌, ◌∙◌, ap, sym, None, List, length, Option}
use Rattle.std.proofs.Math.Path.{ap₂}
use Rattle.req_book.specs.Requests.{RequestData, RequestsData, with_changed, queued}
use Rattle.req_book.proofs.ObjectLemmas.{done, undone, never_empty, owed}
use Rattle.req_book.proofs.objects.Objects.enqueue.Goals as goal
use Rattle.std.proofs.lemmas.List.{length-replicate}
use Rattle.ctrl_types.specs.declared.value.CtrlValue.{CtrlValue}
use Rattle.slab.specs.Slab.{with_value}
use Rattle.req_book.specs.declared.object.Object.{Object}
use Rattle.req_book.specs.declared.state.RequestState.TheVariants.{Idle, Queued}
use Rattle.req_book.specs.Objects.{requests_of_entries, snapshot_seen, IsObjectTable}

abbrev object : goal.After-drop-object-in-Some-get_mut → Object
object c = record c.in-Some-get_mut.object.now { state = Queued; applied = c.args.applied; values = c.args.values }

made : (c : goal.After-drop-object-in-Some-get_mut) → IsObjectTable c.self.inside.controls (with_value c.self.inside.slots c.in-Some.key.now (object c)) c.self.inside.ids.entries
    × (◌≡◌ {A = RequestsData} (record { controls = c.self.inside.controls; all = requests_of_entries (with_value c.self.inside.slots c.in-Some.key.now (object c)) c.self.inside.ids.entries }) (with_changed c.args.self.now c.args.id (queued c.args.self.now.controls)))
made c =
    let before = c.in-Some-get_mut.object.now in
    let state : before.state ≡ Idle = owed c.self.inside.controls c.self.inside.slots c.self.inside.ids.entries c.args.self.now c.args.id c.in-Some.key.now before (λ r. r.state ≡ Idle) c.self.view_is c.self.invariant.named c.in-Some.ensures.value c.in-Some-get_mut.ensures.value c.requires.state in
    let same : c.args.self.now.controls ≡ c.self.inside.controls = ap (λ (r : RequestsData). r.controls) (sym c.self.view_is) in
    let seen : List (Option CtrlValue) → List CtrlValue → RequestData = λ a s. record { id = c.args.id; state = Queued; buffer = before.buffer; pairs = before.pairs.items; applied = a; snapshot = s } in
    done c.self.inside.controls c.self.inside.slots c.self.inside.ids.entries c.args.self.now c.args.id c.in-Some.key.now before (object c) (queued c.args.self.now.controls)
    c.self.view_is c.self.invariant c.in-Some.ensures.value c.in-Some-get_mut.ensures.value
    (λ sized. (ap length c.requires.applied ∙ length-replicate c.args.self.now.controls None ∙ same, c.requires.values ∙ same))
    (ap₂ seen c.requires.applied (sym (ap (λ s. snapshot_seen s before.values.items) state)))

pub invariant_of-self : goal.invariant_of-self
invariant_of-self c = (made c).0

pub returns-in-Some-get_mut : goal.returns-in-Some-get_mut
returns-in-Some-get_mut c = (made c).1

pub returns-in_default-get_mut : goal.returns-in_default-get_mut
returns-in_default-get_mut c = absurd (never_empty c.self.inside.controls c.self.inside.slots c.self.inside.ids.entries c.args.id c.in-Some.key.now c.self.invariant.named c.in-Some.ensures.value c.in_default-get_mut.ensures.value)

pub returns-in_default : goal.returns-in_default
returns-in_default c = undone c.self.inside.controls c.self.inside.slots c.self.inside.ids.entries c.args.self.now c.args.id (queued c.args.self.now.controls) c.self.view_is c.self.invariant.named c.in_default.ensures.value
