use Rattle.std.proofs.Common.{◌≡◌, ◌∙◌, ◌++◌, ◌∷◌, [], None, OnErr, Result, Ok, Err, ap, sym, subst, nat_eq, length, arith}
use Rattle.std.specs.Map.{lookup}
use Rattle.slab.specs.Slab.{Slab, get, slab_len}
use Rattle.indexmap.specs.IndexMap.{insert_entry}
use Rattle.req_book.specs.declared.object.Object.{Object}
use Rattle.req_book.specs.Requests.{RequestData, RequestsData, find, new_request}
use Rattle.std.specs.declared.alloc.AllocError.{AllocError}
use Rattle.req_book.specs.declared.state.RequestState.{RequestState}
use Rattle.req_book.specs.declared.state.RequestState.TheVariants.{Idle, Queued, Running, Complete}
use Rattle.req_book.specs.Objects.{requests_of_entries, AreObjects, HasFrameRoom, IsObjectTable}
use Rattle.req_book.proofs.ObjectLemmas.{added, unnamed, same_get, on_ok, is_fresh, one_more}
use Rattle.req_book.proofs.objects.Objects.add.Goals as goal

pub invariant_of-self-in_err-reserve-2 : goal.invariant_of-self-in_err-reserve-2
invariant_of-self-in_err-reserve-2 c = record {
  named =
      subst (AreObjects c.self.inside.controls c.reserve-2.new.self) (sym c.reserve.ensures.entries)
      (same_get c.self.inside.controls c.self.inside.slots c.reserve-2.new.self c.self.inside.ids.entries (λ key. ap (λ (s : Slab Object). get s key) c.reserve-2.ensures.rest_kept) c.self.invariant.named).0;
  counted = ap slab_len c.reserve-2.ensures.rest_kept ∙ c.self.invariant.counted ∙ sym (ap length c.reserve.ensures.entries);
}

pub returns-in_err-reserve-2-clause-err : goal.returns-in_err-reserve-2-clause-err
returns-in_err-reserve-2-clause-err c = holds_number c.from_residual-in_err-reserve-2.result
  where
    is : requests_of_entries c.reserve-2.new.self c.reserve.new.self.entries ≡ requests_of_entries c.self.inside.slots c.self.inside.ids.entries
    is = ap (requests_of_entries c.reserve-2.new.self) c.reserve.ensures.entries
        ∙ (same_get c.self.inside.controls c.self.inside.slots c.reserve-2.new.self c.self.inside.ids.entries (λ key. ap (λ (s : Slab Object). get s key) c.reserve-2.ensures.rest_kept) c.self.invariant.named).1

    holds_number : (r : Result (Unit {0}) AllocError) → OnErr r (record { controls = c.self.inside.controls; all = requests_of_entries c.reserve-2.new.self c.reserve.new.self.entries } ≡ c.args.self.now)
    holds_number (Ok done) = tt
    holds_number (Err error) = ap (λ rs. record { controls = c.self.inside.controls; all = rs }) is ∙ c.self.view_is

-- room was made: the object stands under a key that was free, and the id is there
abbrev stands : goal.After-unwrap → Type 0
stands c = IsObjectTable c.self.inside.controls c.insert_reserved-key.new.self c.insert.new.self.entries
    × (requests_of_entries c.insert_reserved-key.new.self c.insert.new.self.entries ≡ requests_of_entries c.self.inside.slots c.self.inside.ids.entries ++ new_request c.args.id ∷ [])

standing : (c : goal.After-unwrap) → stands c
standing c =
    let n = c.self.inside.controls in
    let kept = same_get n c.self.inside.slots c.reserve-2.new.self c.self.inside.ids.entries (λ key. ap (λ (s : Slab Object). get s key) c.reserve-2.ensures.rest_kept) c.self.invariant.named in
    let none : find (requests_of_entries c.self.inside.slots c.self.inside.ids.entries) c.args.id ≡ None = ap (λ (r : RequestsData). find r.all c.args.id) c.self.view_is ∙ c.requires in
    let free : lookup (nat_eq c.args.id) c.self.inside.ids.entries ≡ None = unnamed n c.self.inside.slots c.self.inside.ids.entries c.args.id c.self.invariant.named none in
    let was : lookup (nat_eq c.args.id) c.reserve.new.self.entries ≡ None = ap (lookup (nat_eq c.args.id)) c.reserve.ensures.entries ∙ free in
    let entries : c.insert.new.self.entries ≡ insert_entry nat_eq c.self.inside.ids.entries c.args.id c.insert_reserved-key.result =
    on_ok c.insert.result (c.insert.new.self.entries ≡ insert_entry nat_eq c.reserve.new.self.entries c.args.id c.insert_reserved-key.result) (c.insert.ensures.succeeds (omega (arith, c.in_ok-reserve.ensures.ok))) c.insert.ensures.entries
    ∙ ap (λ es. insert_entry nat_eq es c.args.id c.insert_reserved-key.result) c.reserve.ensures.entries in
    let made = added n c.reserve-2.new.self c.insert_reserved-key.new.self c.self.inside.ids.entries c.args.id c.insert_reserved-key.result c.new.result kept.0 free c.insert_reserved-key.ensures.was_vacant c.insert_reserved-key.ensures.updates
    (sized c.new.result.state c.new.ensures.state) in (
      record {
        named = subst (AreObjects n c.insert_reserved-key.new.self) (sym entries) made.0;
        counted = let more = one_more c.self.inside.ids.entries c.args.id c.insert_reserved-key.result free in omega (arith, c.insert_reserved-key.ensures.len, ap slab_len c.reserve-2.ensures.rest_kept, c.self.invariant.counted, more, ap length entries);
      },
      ap (requests_of_entries c.insert_reserved-key.new.self) entries ∙ made.1
          ∙ ap (λ (r : RequestData). requests_of_entries c.reserve-2.new.self c.self.inside.ids.entries ++ r ∷ []) (is_fresh c.args.id c.new.result c.new.ensures.state c.new.ensures.buffer c.new.ensures.pairs c.new.ensures.applied)
          ∙ ap (λ rs. rs ++ new_request c.args.id ∷ []) kept.1,
    )
  where
    sized : (state : RequestState) → state ≡ Idle → HasFrameRoom c.self.inside.controls state c.new.result.applied.items c.new.result.values.items
    sized Idle is = tt
    sized Queued is = cc
    sized Running is = cc
    sized Complete is = cc

pub invariant_of-self-2 : goal.invariant_of-self-2
invariant_of-self-2 c = (standing c).0

-- there was room for the id
pub unwrap-requires : goal.unwrap-requires
unwrap-requires c = c.insert.ensures.succeeds (omega (arith, c.in_ok-reserve.ensures.ok))

pub returns-clause-ok : goal.returns-clause-ok
returns-clause-ok c =
    ap (λ rs. record { controls = c.self.inside.controls; all = rs }) (standing c).1 ∙ ap (λ (r : RequestsData). record { controls = r.controls; all = r.all ++ new_request c.args.id ∷ [] }) c.self.view_is
