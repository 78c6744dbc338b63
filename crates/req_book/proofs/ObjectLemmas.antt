-- Requests under keys, which ids name: what is found, and what is left once an object is put in, changed or taken out.
use Rattle.std.proofs.Common.{◌≡◌, ◌≢◌, ℕ, suc, ◌+◌, ◌<◌, arith, length-append, is_some, ◌∙◌, ◌||◌, ◌==◌, ◌⊎◌, Bool, true, false, cond, inl, inr, List, [], ◌∷◌, ◌++◌, length, Option, None, Some, Result, Ok, Err, IsOk, OnOk, IsSome, IfSome, Bor, option_copied, nat_eq, eq-eqb, refl, sym, ap, subst}
use Rattle.std.specs.List.{cons_option, list_any}
use Rattle.std.specs.Option.{option_map, option_and_then}
use Rattle.std.specs.Map.{lookup, remove_entry, values_of}
use Rattle.std.proofs.lemmas.Bool.{or_from, or_parts}
use Rattle.std.proofs.lemmas.Bool.Decides.{eqb_tells}
use Rattle.std.proofs.lemmas.List.Folds.{list_any-append}
use Rattle.std.proofs.Math.Path.{ap₂}
use Rattle.slab.specs.Slab.{Slab, get, slab_len, Updates, with_value}
use Rattle.slab.proofs.SlabLemmas.{ContainsKey-within, Updates-with_value}
use Rattle.std.proofs.lemmas.List.Sums.{sum_by-set}
use Rattle.indexmap.specs.IndexMap.{insert_entry}
use Rattle.req_book.specs.declared.object.Object.{Object}
use Rattle.ctrl_types.specs.declared.value.CtrlValue.{CtrlValue}
use Rattle.req_book.specs.declared.state.RequestState.{RequestState}
use Rattle.req_book.specs.declared.state.RequestState.TheVariants.{Idle, Queued, Running, Complete}
use Rattle.req_book.specs.Requests.{RequestData, RequestsData, HaveOwnIds, find, with_request, with_changed, without, new_request, is_pending, is_number_held}
use Rattle.req_book.specs.Objects.{request_at, request_of_entry, requests_of_entries, is_shared, HasFrameRoom, IsObject, AreObjects, IsObjectTable, held_by}

-- what a comparison of two numbers tells
abbrev pub Tells : ℕ → ℕ → Type 0
Tells a b = ((a == b) ≡ true × (a ≡ b)) ⊎ ((a == b) ≡ false × (a ≢ b))

-- the request that an id finds is that of its object
pub found : (n : ℕ) (slots : Slab Object) (es : List (ℕ × ℕ)) (id : ℕ) → AreObjects n slots es
    → find (requests_of_entries slots es) id ≡ option_map (request_at id) (option_and_then (get slots) (lookup (nat_eq id) es))
unfolding requests_of_entries
found n slots [] id kept = refl
found n slots (e ∷ es) id kept = by (get slots e.1) refl (eqb_tells id e.0) (found n slots es id kept.2)
  where
    by : (o : Option Object) → get slots e.1 ≡ o → Tells id e.0
        → find (requests_of_entries slots es) id ≡ option_map (request_at id) (option_and_then (get slots) (lookup (nat_eq id) es))
        → find (requests_of_entries slots (e ∷ es)) id ≡ option_map (request_at id) (option_and_then (get slots) (lookup (nat_eq id) (e ∷ es)))
    by None is same rest = absurd (subst (IsObject n) is kept.0)
    by (Some o) is (inl same) rest = rw (is, same.0, is) (ap (λ i. Some (request_at i o)) (sym same.1))
    by (Some o) is (inr other) rest = rw (is, other.0) rest

-- an entry stands for one request
pub first_in : (n : ℕ) (slots : Slab Object) (e : ℕ × ℕ) (rs : List RequestData) → IsObject n (get slots e.1) → (o : Object) × (get slots e.1 ≡ Some o) × (cons_option (request_of_entry slots e) rs ≡ request_at e.0 o ∷ rs)
first_in n slots e rs there = by (get slots e.1) refl
  where
    by : (o : Option Object) → get slots e.1 ≡ o → (o : Object) × (get slots e.1 ≡ Some o) × (cons_option (request_of_entry slots e) rs ≡ request_at e.0 o ∷ rs)
    by None is = absurd (subst (IsObject n) is there)
    by (Some o) is = (o, is, rw is refl)

-- there are as many requests as entries
pub counted : (n : ℕ) (slots : Slab Object) (es : List (ℕ × ℕ)) → AreObjects n slots es → length (requests_of_entries slots es) ≡ length es
unfolding requests_of_entries
counted n slots [] kept = refl
counted n slots (e ∷ es) kept =
    let first = first_in n slots e (requests_of_entries slots es) kept.0 in
    ap length first.2 ∙ ap suc (counted n slots es kept.2)

-- an entry that shares nothing with others has an id that names none of them
unshared : (e : ℕ × ℕ) (es : List (ℕ × ℕ)) → is_shared e es ≡ false → lookup (nat_eq e.0) es ≡ None
unshared e [] apart = refl
unshared e (o ∷ es) apart =
    let parts = or_parts (nat_eq e.0 o.0 || nat_eq e.1 o.1) (is_shared e es) apart in
    let own = or_parts (nat_eq e.0 o.0) (nat_eq e.1 o.1) parts.0 in
    rw own.0 (unshared e es parts.1)

-- no two requests have an id in common
pub own_ids : (n : ℕ) (slots : Slab Object) (es : List (ℕ × ℕ)) → AreObjects n slots es → HaveOwnIds (requests_of_entries slots es)
unfolding requests_of_entries
own_ids n slots [] kept = tt
own_ids n slots (e ∷ es) kept =
    let first = first_in n slots e (requests_of_entries slots es) kept.0 in
    let none : find (requests_of_entries slots es) e.0 ≡ None = found n slots es e.0 kept.2 ∙ ap (λ (k : Option ℕ). option_map (request_at e.0) (option_and_then (get slots) k)) (unshared e es kept.1) in
    subst HaveOwnIds (sym first.2) (none, own_ids n slots es kept.2)

-- objects under other keys don't matter
pub same_slots : (n : ℕ) (slots new : Slab Object) (es : List (ℕ × ℕ)) (id key : ℕ) (slot : Option Object) → AreObjects n slots es → is_shared (id, key) es ≡ false → Updates slots new key slot
    → (requests_of_entries new es ≡ requests_of_entries slots es) × AreObjects n new es
unfolding requests_of_entries
same_slots n slots new [] id key slot kept apart up = (refl, tt)
same_slots n slots new (e ∷ es) id key slot kept apart up =
    let parts = or_parts (nat_eq id e.0 || nat_eq key e.1) (is_shared (id, key) es) apart in
    let own = or_parts (nat_eq id e.0) (nat_eq key e.1) parts.0 in
    let same : get new e.1 ≡ get slots e.1 = up.others e.1 (differ own.1) in
    let rest = same_slots n slots new es id key slot kept.2 parts.1 up in
    (ap₂ (λ o rs. cons_option (option_map (request_at e.0) o) rs) same rest.0, (subst (IsObject n) (sym same) kept.0, kept.1, rest.1))
  where
    differ : nat_eq key e.1 ≡ false → e.1 ≢ key
    differ off is = clash (sym (eq-eqb key e.1 (sym is)) ∙ off)
      where
        clash : true ≡ false → ⊥
        clash h = cc

-- taking another request out does nothing to these
pub untaken : (slots : Slab Object) (es : List (ℕ × ℕ)) (id key : ℕ) → is_shared (id, key) es ≡ false → without id (requests_of_entries slots es) ≡ requests_of_entries slots es
unfolding requests_of_entries
untaken slots [] id key apart = refl
untaken slots (e ∷ es) id key apart =
    let parts = or_parts (nat_eq id e.0 || nat_eq key e.1) (is_shared (id, key) es) apart in
    let own = or_parts (nat_eq id e.0) (nat_eq key e.1) parts.0 in
    by (get slots e.1) own.0 (untaken slots es id key parts.1)
  where
    by : (o : Option Object) → nat_eq id e.0 ≡ false → without id (requests_of_entries slots es) ≡ requests_of_entries slots es
        → without id (cons_option (option_map (request_at e.0) o) (requests_of_entries slots es)) ≡ cons_option (option_map (request_at e.0) o) (requests_of_entries slots es)
    by None off rest = rest
    by (Some o) off rest = rw off (ap (λ rs. request_at e.0 o ∷ rs) rest)

-- an entry that shares nothing with others has another key than one of these
pub other_key : (e : ℕ × ℕ) (es : List (ℕ × ℕ)) (id key : ℕ) → is_shared e es ≡ false → lookup (nat_eq id) es ≡ Some key → e.1 ≢ key
other_key e [] id key apart there = cc
other_key e (o ∷ es) id key apart there =
    let parts = or_parts (nat_eq e.0 o.0 || nat_eq e.1 o.1) (is_shared e es) apart in
    let own = or_parts (nat_eq e.0 o.0) (nat_eq e.1 o.1) parts.0 in
    by (eqb_tells id o.0) own.1 (λ further. other_key e es id key parts.1 further)
  where
    by : Tells id o.0 → nat_eq e.1 o.1 ≡ false → (lookup (nat_eq id) es ≡ Some key → e.1 ≢ key) → e.1 ≢ key
    by (inl same) off rest = λ is. clash (sym (eq-eqb e.1 o.1 (is ∙ sym (some_same o.1 key (rw same.0 at there)))) ∙ off)
      where
        clash : true ≡ false → ⊥
        clash h = cc

        some_same : (a b : ℕ) → Some a ≡ Some b → a ≡ b
        some_same a b h = cc
    by (inr other) off rest = rest (rw other.0 at there)

-- one object is changed
pub changed_at : (n : ℕ) (slots new : Slab Object) (es : List (ℕ × ℕ)) (id key : ℕ) (o : Object) (f : RequestData → RequestData) → AreObjects n slots es → lookup (nat_eq id) es ≡ Some key
    → Updates slots new key (Some o) → IsObject n (Some o) → ((before : Object) → get slots key ≡ Some before → request_at id o ≡ f (request_at id before))
    → AreObjects n new es × (requests_of_entries new es ≡ with_request id f (requests_of_entries slots es))
unfolding requests_of_entries
changed_at n slots new [] id key o f kept there up sized changes = cc
changed_at n slots new (e ∷ es) id key o f kept there up sized changes = by (eqb_tells id e.0) (λ further. changed_at n slots new es id key o f kept.2 further up sized changes)
  where
    Goal : Type 0
    Goal = AreObjects n new (e ∷ es) × (requests_of_entries new (e ∷ es) ≡ with_request id f (requests_of_entries slots (e ∷ es)))

    some_same : (a b : ℕ) → Some a ≡ Some b → a ≡ b
    some_same a b h = cc

    here : id ≡ e.0 → e.1 ≡ key → Goal
    here name is =
        let apart : is_shared (id, key) es ≡ false = subst (λ k. is_shared (id, k) es ≡ false) is (subst (λ i. is_shared (i, e.1) es ≡ false) (sym name) kept.1) in
        let rest = same_slots n slots new es id key (Some o) kept.2 apart up in
        let now : get new e.1 ≡ Some o = subst (λ k. get new k ≡ Some o) (sym is) up.changed in
        let before = first_in n slots e (requests_of_entries slots es) kept.0 in
        let was : get slots key ≡ Some before.0 = subst (λ k. get slots k ≡ Some before.0) is before.1 in
        let made : request_at e.0 o ≡ f (request_at e.0 before.0) = subst (λ i. request_at i o ≡ f (request_at i before.0)) name (changes before.0 was) in
        let head : with_request id f (request_at e.0 before.0 ∷ requests_of_entries slots es) ≡ f (request_at e.0 before.0) ∷ requests_of_entries slots es = rw (eq-eqb id e.0 name) refl in (
          (subst (IsObject n) (sym now) sized, kept.1, rest.1),
          ap₂ (λ x rs. cons_option (option_map (request_at e.0) x) rs) now rest.0 ∙ ap (λ r. r ∷ requests_of_entries slots es) made ∙ sym head ∙ ap (with_request id f) (sym before.2),
        )

    further : nat_eq id e.0 ≡ false → e.1 ≢ key → AreObjects n new es × (requests_of_entries new es ≡ with_request id f (requests_of_entries slots es)) → Goal
    further off apart rest =
        let same : get new e.1 ≡ get slots e.1 = up.others e.1 apart in
        let before = first_in n slots e (requests_of_entries slots es) kept.0 in
        let head : with_request id f (request_at e.0 before.0 ∷ requests_of_entries slots es) ≡ request_at e.0 before.0 ∷ with_request id f (requests_of_entries slots es) = rw off refl in (
          (subst (IsObject n) (sym same) kept.0, kept.1, rest.0),
          ap₂ (λ x rs. cons_option (option_map (request_at e.0) x) rs) (same ∙ before.1) rest.1 ∙ sym head ∙ ap (with_request id f) (sym before.2),
        )

    by : Tells id e.0 → (lookup (nat_eq id) es ≡ Some key → AreObjects n new es × (requests_of_entries new es ≡ with_request id f (requests_of_entries slots es))) → Goal
    by (inl same) rest = here same.1 (some_same e.1 key (rw same.0 at there))
    by (inr other) rest = let there_2 : lookup (nat_eq id) es ≡ Some key = rw other.0 at there in further other.0 (other_key e es id key kept.1 there_2) (rest there_2)

-- an entry that comes last
insert_last : (es : List (ℕ × ℕ)) (id key : ℕ) → lookup (nat_eq id) es ≡ None → insert_entry nat_eq es id key ≡ es ++ (id, key) ∷ []
insert_last [] id key none = refl
insert_last (e ∷ es) id key none = by (eqb_tells id e.0) (λ further. insert_last es id key further)
  where
    by : Tells id e.0 → (lookup (nat_eq id) es ≡ None → insert_entry nat_eq es id key ≡ es ++ (id, key) ∷ []) → insert_entry nat_eq (e ∷ es) id key ≡ e ∷ (es ++ (id, key) ∷ [])
    by (inl same) rest = absurd (clash (rw same.0 at none))
      where
        clash : Some e.1 ≡ None → ⊥
        clash h = cc
    by (inr other) rest = rw other.0 (ap (λ more. e ∷ more) (rest (rw other.0 at none)))

-- one object is put in, under a key that was free
added_last : (n : ℕ) (slots new : Slab Object) (es : List (ℕ × ℕ)) (id key : ℕ) (o : Object) → AreObjects n slots es → lookup (nat_eq id) es ≡ None → get slots key ≡ None → Updates slots new key (Some o) → IsObject n (Some o)
    → AreObjects n new (es ++ (id, key) ∷ []) × (requests_of_entries new (es ++ (id, key) ∷ []) ≡ requests_of_entries slots es ++ request_at id o ∷ [])
unfolding requests_of_entries
added_last n slots new [] id key o kept none free up sized = ((subst (IsObject n) (sym up.changed) sized, refl, tt), rw up.changed refl)
added_last n slots new (e ∷ es) id key o kept none free up sized = by (eqb_tells id e.0) (λ further. added_last n slots new es id key o kept.2 further free up sized)
  where
    Goal : Type 0
    Goal = AreObjects n new (e ∷ (es ++ (id, key) ∷ [])) × (requests_of_entries new (e ∷ (es ++ (id, key) ∷ [])) ≡ requests_of_entries slots (e ∷ es) ++ request_at id o ∷ [])

    clash_none : Some e.1 ≡ None → ⊥
    clash_none h = cc

    clash : true ≡ false → ⊥
    clash h = cc

    taken : e.1 ≢ key
    taken is = subst (IsObject n) free (subst (λ k. IsObject n (get slots k)) is kept.0)

    off_key : Tells e.1 key → nat_eq e.1 key ≡ false
    off_key (inl same) = absurd (taken same.1)
    off_key (inr other) = other.0

    off_name : id ≢ e.0 → Tells e.0 id → nat_eq e.0 id ≡ false
    off_name differ (inl same) = absurd (differ (sym same.1))
    off_name differ (inr other) = other.0

    further : id ≢ e.0 → AreObjects n new (es ++ (id, key) ∷ []) × (requests_of_entries new (es ++ (id, key) ∷ []) ≡ requests_of_entries slots es ++ request_at id o ∷ []) → Goal
    further differ rest =
        let same : get new e.1 ≡ get slots e.1 = up.others e.1 taken in
        let before = first_in n slots e (requests_of_entries slots es) kept.0 in
        let apart : is_shared e (es ++ (id, key) ∷ []) ≡ false = list_any-append (λ x. nat_eq e.0 x.0 || nat_eq e.1 x.1) es ((id, key) ∷ [])
        ∙ or_from (is_shared e es) ((nat_eq e.0 id || nat_eq e.1 key) || false) kept.1 (or_from (nat_eq e.0 id || nat_eq e.1 key) false (or_from (nat_eq e.0 id) (nat_eq e.1 key) (off_name differ (eqb_tells e.0 id)) (off_key (eqb_tells e.1 key))) refl) in (
          (subst (IsObject n) (sym same) kept.0, apart, rest.0),
          ap₂ (λ x rs. cons_option (option_map (request_at e.0) x) rs) (same ∙ before.1) rest.1 ∙ ap (λ rs. rs ++ request_at id o ∷ []) (sym before.2),
        )

    by : Tells id e.0 → (lookup (nat_eq id) es ≡ None → AreObjects n new (es ++ (id, key) ∷ []) × (requests_of_entries new (es ++ (id, key) ∷ []) ≡ requests_of_entries slots es ++ request_at id o ∷ [])) → Goal
    by (inl same) rest = absurd (clash_none (rw same.0 at none))
    by (inr other) rest = further other.1 (rest (rw other.0 at none))

pub added : (n : ℕ) (slots new : Slab Object) (es : List (ℕ × ℕ)) (id key : ℕ) (o : Object) → AreObjects n slots es → lookup (nat_eq id) es ≡ None → get slots key ≡ None → Updates slots new key (Some o) → IsObject n (Some o)
    → AreObjects n new (insert_entry nat_eq es id key) × (requests_of_entries new (insert_entry nat_eq es id key) ≡ requests_of_entries slots es ++ request_at id o ∷ [])
added n slots new es id key o kept none free up sized =
    subst (λ more. AreObjects n new more × (requests_of_entries new more ≡ requests_of_entries slots es ++ request_at id o ∷ [])) (sym (insert_last es id key none)) (added_last n slots new es id key o kept none free up sized)

-- with an entry taken out, one that shares nothing with the others still shares nothing
unshared_without : (e : ℕ × ℕ) (es : List (ℕ × ℕ)) (id : ℕ) → is_shared e es ≡ false → is_shared e (remove_entry (nat_eq id) es) ≡ false
unshared_without e [] id apart = refl
unshared_without e (o ∷ es) id apart =
    let parts = or_parts (nat_eq e.0 o.0 || nat_eq e.1 o.1) (is_shared e es) apart in
    by (nat_eq id o.0) parts.0 parts.1 (unshared_without e es id parts.1)
  where
    by : (b : Bool) → (nat_eq e.0 o.0 || nat_eq e.1 o.1) ≡ false → is_shared e es ≡ false → is_shared e (remove_entry (nat_eq id) es) ≡ false → is_shared e (cond b es (o ∷ remove_entry (nat_eq id) es)) ≡ false
    by true first rest left = rest
    by false first rest left = or_from (nat_eq e.0 o.0 || nat_eq e.1 o.1) (is_shared e (remove_entry (nat_eq id) es)) first left

-- one object is taken out
pub removed : (n : ℕ) (slots new : Slab Object) (es : List (ℕ × ℕ)) (id key : ℕ) → AreObjects n slots es → lookup (nat_eq id) es ≡ Some key → Updates slots new key None
    → AreObjects n new (remove_entry (nat_eq id) es) × (requests_of_entries new (remove_entry (nat_eq id) es) ≡ without id (requests_of_entries slots es))
unfolding requests_of_entries
removed n slots new [] id key kept there up = cc
removed n slots new (e ∷ es) id key kept there up = by (eqb_tells id e.0) (λ further. removed n slots new es id key kept.2 further up)
  where
    Goal : List (ℕ × ℕ) → Type 0
    Goal left = AreObjects n new left × (requests_of_entries new left ≡ without id (requests_of_entries slots (e ∷ es)))

    some_same : (a b : ℕ) → Some a ≡ Some b → a ≡ b
    some_same a b h = cc

    here : id ≡ e.0 → e.1 ≡ key → Goal es
    here name is =
        let apart : is_shared (id, key) es ≡ false = subst (λ k. is_shared (id, k) es ≡ false) is (subst (λ i. is_shared (i, e.1) es ≡ false) (sym name) kept.1) in
        let rest = same_slots n slots new es id key None kept.2 apart up in
        let before = first_in n slots e (requests_of_entries slots es) kept.0 in
        let head : without id (request_at e.0 before.0 ∷ requests_of_entries slots es) ≡ without id (requests_of_entries slots es) = rw (eq-eqb id e.0 name) refl in
        (rest.1, rest.0 ∙ sym (untaken slots es id key apart) ∙ sym head ∙ ap (without id) (sym before.2))

    further : nat_eq id e.0 ≡ false → e.1 ≢ key → AreObjects n new (remove_entry (nat_eq id) es) × (requests_of_entries new (remove_entry (nat_eq id) es) ≡ without id (requests_of_entries slots es)) → Goal (e ∷ remove_entry (nat_eq id) es)
    further off apart rest =
        let same : get new e.1 ≡ get slots e.1 = up.others e.1 apart in
        let before = first_in n slots e (requests_of_entries slots es) kept.0 in
        let head : without id (request_at e.0 before.0 ∷ requests_of_entries slots es) ≡ request_at e.0 before.0 ∷ without id (requests_of_entries slots es) = rw off refl in (
          (subst (IsObject n) (sym same) kept.0, unshared_without e es id kept.1, rest.0),
          ap₂ (λ x rs. cons_option (option_map (request_at e.0) x) rs) (same ∙ before.1) rest.1 ∙ sym head ∙ ap (without id) (sym before.2),
        )

    by : Tells id e.0 → (lookup (nat_eq id) es ≡ Some key → AreObjects n new (remove_entry (nat_eq id) es) × (requests_of_entries new (remove_entry (nat_eq id) es) ≡ without id (requests_of_entries slots es))) → Goal (remove_entry (nat_eq id) (e ∷ es))
    by (inl same) rest = let left : remove_entry (nat_eq id) (e ∷ es) ≡ es = rw same.0 refl in subst Goal (sym left) (here same.1 (some_same e.1 key (rw same.0 at there)))
    by (inr other) rest =
        let there_2 : lookup (nat_eq id) es ≡ Some key = rw other.0 at there in
        let left : remove_entry (nat_eq id) (e ∷ es) ≡ e ∷ remove_entry (nat_eq id) es = rw other.0 refl in
        subst Goal (sym left) (further other.0 (other_key e es id key kept.1 there_2) (rest there_2))

-- an object that an id names has its room
pub object_of : (n : ℕ) (slots : Slab Object) (es : List (ℕ × ℕ)) (id key : ℕ) → AreObjects n slots es → lookup (nat_eq id) es ≡ Some key → IsObject n (get slots key)
object_of n slots [] id key kept there = cc
object_of n slots (e ∷ es) id key kept there = by (eqb_tells id e.0) (λ further. object_of n slots es id key kept.2 further)
  where
    some_same : (a b : ℕ) → Some a ≡ Some b → a ≡ b
    some_same a b h = cc

    by : Tells id e.0 → (lookup (nat_eq id) es ≡ Some key → IsObject n (get slots key)) → IsObject n (get slots key)
    by (inl same) rest = subst (λ k. IsObject n (get slots k)) (some_same e.1 key (rw same.0 at there)) kept.0
    by (inr other) rest = rest (rw other.0 at there)

-- an object is written over one that is found
pub written : (n : ℕ) (slots : Slab Object) (es : List (ℕ × ℕ)) (id key : ℕ) (before o : Object) (f : RequestData → RequestData) → AreObjects n slots es → Some key ≡ lookup (nat_eq id) es → Some before ≡ get slots key
    → (IsObject n (Some before) → IsObject n (Some o)) → request_at id o ≡ f (request_at id before)
    → AreObjects n (with_value slots key o) es × (requests_of_entries (with_value slots key o) es ≡ with_request id f (requests_of_entries slots es))
written n slots es id key before o f kept named there sized changes =
    changed_at n slots (with_value slots key o) es id key o f kept (sym named) (Updates-with_value slots key o (subst IsSome there some_there)) (sized (subst (IsObject n) (sym there) (object_of n slots es id key kept (sym named))))
    (λ x is. changes ∙ ap (λ y. f (request_at id y)) (same before x (there ∙ is)))
  where
    some_there : IsSome (Some before)
    some_there = refl

    same : (a b : Object) → Some a ≡ Some b → a ≡ b
    same a b h = cc

-- no request has the id
pub absent_change : (n : ℕ) (slots : Slab Object) (es : List (ℕ × ℕ)) (id : ℕ) (f : RequestData → RequestData) → AreObjects n slots es → None ≡ lookup (nat_eq id) es → requests_of_entries slots es ≡ with_request id f (requests_of_entries slots es)
unfolding requests_of_entries
absent_change n slots [] id f kept none = refl
absent_change n slots (e ∷ es) id f kept none = by (eqb_tells id e.0) (λ further. absent_change n slots es id f kept.2 further)
  where
    clash : None ≡ Some e.1 → ⊥
    clash h = cc

    by : Tells id e.0 → (None ≡ lookup (nat_eq id) es → requests_of_entries slots es ≡ with_request id f (requests_of_entries slots es)) → requests_of_entries slots (e ∷ es) ≡ with_request id f (requests_of_entries slots (e ∷ es))
    by (inl same) rest = absurd (clash (rw same.0 at none))
    by (inr other) rest =
        let before = first_in n slots e (requests_of_entries slots es) kept.0 in
        let head : with_request id f (request_at e.0 before.0 ∷ requests_of_entries slots es) ≡ request_at e.0 before.0 ∷ with_request id f (requests_of_entries slots es) = rw other.0 refl in
        before.2 ∙ ap (λ rs. request_at e.0 before.0 ∷ rs) (rest (rw other.0 at none)) ∙ sym head ∙ ap (with_request id f) (sym before.2)

pub absent_removal : (n : ℕ) (slots : Slab Object) (es : List (ℕ × ℕ)) (id : ℕ) → AreObjects n slots es → None ≡ lookup (nat_eq id) es → requests_of_entries slots es ≡ without id (requests_of_entries slots es)
unfolding requests_of_entries
absent_removal n slots [] id kept none = refl
absent_removal n slots (e ∷ es) id kept none = by (eqb_tells id e.0) (λ further. absent_removal n slots es id kept.2 further)
  where
    clash : None ≡ Some e.1 → ⊥
    clash h = cc

    by : Tells id e.0 → (None ≡ lookup (nat_eq id) es → requests_of_entries slots es ≡ without id (requests_of_entries slots es)) → requests_of_entries slots (e ∷ es) ≡ without id (requests_of_entries slots (e ∷ es))
    by (inl same) rest = absurd (clash (rw same.0 at none))
    by (inr other) rest =
        let before = first_in n slots e (requests_of_entries slots es) kept.0 in
        let head : without id (request_at e.0 before.0 ∷ requests_of_entries slots es) ≡ request_at e.0 before.0 ∷ without id (requests_of_entries slots es) = rw other.0 refl in
        before.2 ∙ ap (λ rs. request_at e.0 before.0 ∷ rs) (rest (rw other.0 at none)) ∙ sym head ∙ ap (without id) (sym before.2)

-- an id that names a key finds an object there
pub never_empty : (n : ℕ) (slots : Slab Object) (es : List (ℕ × ℕ)) (id key : ℕ) → AreObjects n slots es → Some key ≡ lookup (nat_eq id) es → None ≡ get slots key → ⊥
never_empty n slots es id key kept named empty = subst (IsObject n) (sym empty) (object_of n slots es id key kept (sym named))

-- what holds of an accepted call, which this one is
pub on_ok : {T F : Type 0} (r : Result T F) (P : Type 0) → IsOk r → OnOk r P → P
on_ok (Ok x) P ok h = h
on_ok (Err e) P ok h = cc

-- where no request has an id, no entry names it
pub unnamed : (n : ℕ) (slots : Slab Object) (es : List (ℕ × ℕ)) (id : ℕ) → AreObjects n slots es → find (requests_of_entries slots es) id ≡ None → lookup (nat_eq id) es ≡ None
unnamed n slots es id kept none = by (lookup (nat_eq id) es) refl
  where
    clash : {X : Type 0} (x : X) → Some x ≡ None → ⊥
    clash x h = cc

    empty : (key : ℕ) → lookup (nat_eq id) es ≡ Some key → (o : Option Object) → get slots key ≡ o → ⊥
    empty key named None is = never_empty n slots es id key kept (sym named) (sym is)
    empty key named (Some o) is =
        let there : find (requests_of_entries slots es) id ≡ Some (request_at id o) = found n slots es id kept ∙ ap (λ (k : Option ℕ). option_map (request_at id) (option_and_then (get slots) k)) named ∙ ap (option_map (request_at id)) is in
        clash (request_at id o) (sym there ∙ none)

    by : (k : Option ℕ) → lookup (nat_eq id) es ≡ k → lookup (nat_eq id) es ≡ None
    by None is = is
    by (Some key) is = absurd (empty key is (get slots key) refl)

-- slots that hold the same
pub same_get : (n : ℕ) (slots new : Slab Object) (es : List (ℕ × ℕ)) → ((key : ℕ) → get new key ≡ get slots key) → AreObjects n slots es → AreObjects n new es × (requests_of_entries new es ≡ requests_of_entries slots es)
unfolding requests_of_entries
same_get n slots new [] same kept = (tt, refl)
same_get n slots new (e ∷ es) same kept =
    let rest = same_get n slots new es same kept.2 in
    ((subst (IsObject n) (sym (same e.1)) kept.0, kept.1, rest.0), ap₂ (λ o rs. cons_option (option_map (request_at e.0) o) rs) (same e.1) rest.1)

-- an id that names a key names one with an object
pub is_there : (n : ℕ) (slots : Slab Object) (es : List (ℕ × ℕ)) (id key : ℕ) → AreObjects n slots es → Some key ≡ lookup (nat_eq id) es → IsSome (get slots key)
is_there n slots es id key kept named = by (get slots key) (object_of n slots es id key kept (sym named))
  where
    by : (o : Option Object) → IsObject n o → IsSome o
    by None there = absurd there
    by (Some o) there = refl

-- a new object is a new request
pub is_fresh : (id : ℕ) (o : Object) → o.state ≡ Idle → o.buffer ≡ None → o.pairs.items ≡ [] → o.applied.items ≡ [] → request_at id o ≡ new_request id
is_fresh id o state buffer pairs applied = rw (state, buffer, pairs, applied) refl

-- an object that is written over another leaves as many
same_count : (slots : Slab Object) (key : ℕ) (before o : Object) → Some before ≡ get slots key → slab_len (with_value slots key o) ≡ slab_len slots
same_count slots key before o there =
    let within : key < length slots.slots = ContainsKey-within slots key (subst IsSome there some_there) in
    let counted = sum_by-set (λ (x : Option Object). cond (is_some x) 1 0) slots.slots key (Some o) None within in
    omega (arith, counted, ap {B = ℕ} (λ (x : Option Object). cond (is_some x) 1 0) there)
  where
    some_there : IsSome (Some before)
    some_there = refl

-- an entry less, where an id is there
pub one_less : (es : List (ℕ × ℕ)) (id key : ℕ) → lookup (nat_eq id) es ≡ Some key → length (remove_entry (nat_eq id) es) + 1 ≡ length es
one_less [] id key there = cc
one_less (e ∷ es) id key there = by (nat_eq id e.0) there (one_less es id key)
  where
    by : (b : Bool) → cond b (Some e.1) (lookup (nat_eq id) es) ≡ Some key → (lookup (nat_eq id) es ≡ Some key → length (remove_entry (nat_eq id) es) + 1 ≡ length es)
        → length (cond b es (e ∷ remove_entry (nat_eq id) es)) + 1 ≡ length (e ∷ es)
    by true is rest = omega arith
    by false is rest = omega (arith, rest is)

-- an entry more, where an id is new
pub one_more : (es : List (ℕ × ℕ)) (id key : ℕ) → lookup (nat_eq id) es ≡ None → length (insert_entry nat_eq es id key) ≡ length es + 1
one_more es id key none = ap length (insert_last es id key none) ∙ omega (arith, length-append es ((id, key) ∷ []))

-- a request is changed, in a store that is seen as this
pub done : (n : ℕ) (slots : Slab Object) (es : List (ℕ × ℕ)) (now : RequestsData) (id key : ℕ) (before o : Object) (f : RequestData → RequestData) → ◌≡◌ {A = RequestsData} (record { controls = n; all = requests_of_entries slots es }) now
    → IsObjectTable n slots es → Some key ≡ lookup (nat_eq id) es → Some before ≡ get slots key → (IsObject n (Some before) → IsObject n (Some o)) → request_at id o ≡ f (request_at id before)
    → IsObjectTable n (with_value slots key o) es × (◌≡◌ {A = RequestsData} (record { controls = n; all = requests_of_entries (with_value slots key o) es }) (with_changed now id f))
done n slots es now id key before o f seen kept named there sized changes =
    let made = written n slots es id key before o f kept.named named there sized changes in
    (record { named = made.0; counted = same_count slots key before o there ∙ kept.counted }, ap (whole n) made.1 ∙ ap (λ (r : RequestsData). with_changed r id f) seen)
  where
    whole : ℕ → List RequestData → RequestsData
    whole n rs = record { controls = n; all = rs }

-- no request is, where none has the id
pub undone : (n : ℕ) (slots : Slab Object) (es : List (ℕ × ℕ)) (now : RequestsData) (id : ℕ) (f : RequestData → RequestData) → ◌≡◌ {A = RequestsData} (record { controls = n; all = requests_of_entries slots es }) now
    → AreObjects n slots es → None ≡ lookup (nat_eq id) es → now ≡ with_changed now id f
undone n slots es now id f seen kept none = sym seen ∙ ap (whole n) (absent_change n slots es id f kept none) ∙ ap (λ (r : RequestsData). with_changed r id f) seen
  where
    whole : ℕ → List RequestData → RequestsData
    whole n rs = record { controls = n; all = rs }

-- what is owed of a request holds of its object
pub owed : (n : ℕ) (slots : Slab Object) (es : List (ℕ × ℕ)) (now : RequestsData) (id key : ℕ) (before : Object) (P : RequestData → Type 0) → ◌≡◌ {A = RequestsData} (record { controls = n; all = requests_of_entries slots es }) now
    → AreObjects n slots es → Some key ≡ lookup (nat_eq id) es → Some before ≡ get slots key → IfSome (find now.all id) P → P (request_at id before)
owed n slots es now id key before P seen kept named there owes = subst (λ (o : Option RequestData). IfSome o P) is owes
  where
    is : find now.all id ≡ Some (request_at id before)
    is = ap (λ (r : RequestsData). find r.all id) (sym seen) ∙ found n slots es id kept ∙ ap (λ (k : Option ℕ). option_map (request_at id) (option_and_then (get slots) k)) (sym named) ∙ ap (option_map (request_at id)) (sym there)

-- one that waits or runs has its room
pub room_of : (n : ℕ) (state : RequestState) (applied : List (Option CtrlValue)) (values : List CtrlValue) → is_pending state ≡ true → HasFrameRoom n state applied values → (length applied ≡ n) × (length values ≡ n)
room_of n Idle applied values pending room = cc
room_of n Queued applied values pending room = room
room_of n Running applied values pending room = room
room_of n Complete applied values pending room = cc

-- the same of an object that is found
pub room_there : (n : ℕ) (slots : Slab Object) (es : List (ℕ × ℕ)) (id key : ℕ) (before : Object) → AreObjects n slots es → Some key ≡ lookup (nat_eq id) es → Some before ≡ get slots key → IsObject n (Some before)
room_there n slots es id key before kept named there = subst (IsObject n) (sym there) (object_of n slots es id key kept (sym named))

-- whether a number is held, by the objects and by the requests
pub held_among : (n : ℕ) (slots : Slab Object) (es : List (ℕ × ℕ)) (number : ℕ) → AreObjects n slots es → list_any (λ key. held_by number (get slots key)) (values_of es) ≡ is_number_held (requests_of_entries slots es) number
unfolding requests_of_entries
held_among n slots [] number kept = refl
held_among n slots (e ∷ es) number kept =
    let before = first_in n slots e (requests_of_entries slots es) kept.0 in
    ap₂ (λ o b. held_by number o || b) before.1 (held_among n slots es number kept.2) ∙ ap (λ rs. is_number_held rs number) (sym before.2)

-- changes that make the same of the request with an id are the same
pub same_change : (rs : List RequestData) (id : ℕ) (f g : RequestData → RequestData) (r : RequestData) → find rs id ≡ Some r → f r ≡ g r → with_request id f rs ≡ with_request id g rs
same_change [] id f g r there same = refl
same_change (q ∷ rs) id f g r there same = by (nat_eq id q.id) there (λ further. same_change rs id f g r further same)
  where
    some_same : (a b : RequestData) → Some a ≡ Some b → a ≡ b
    some_same a b h = cc

    by : (b : Bool) → cond b (Some q) (find rs id) ≡ Some r → (find rs id ≡ Some r → with_request id f rs ≡ with_request id g rs) → cond b (f q ∷ rs) (q ∷ with_request id f rs) ≡ cond b (g q ∷ rs) (q ∷ with_request id g rs)
    by true is rest = ap (λ x. x ∷ rs) (ap f (some_same q r is) ∙ same ∙ ap g (sym (some_same q r is)))
    by false is rest = ap (λ xs. q ∷ xs) (rest is)

-- where no request has the id, none is changed
pub no_change : (rs : List RequestData) (id : ℕ) (f : RequestData → RequestData) → find rs id ≡ None → rs ≡ with_request id f rs
no_change [] id f none = refl
no_change (q ∷ rs) id f none = by (nat_eq id q.id) none (λ further. no_change rs id f further)
  where
    by : (b : Bool) → cond b (Some q) (find rs id) ≡ None → (find rs id ≡ None → rs ≡ with_request id f rs) → q ∷ rs ≡ cond b (f q ∷ rs) (q ∷ with_request id f rs)
    by true is rest = cc
    by false is rest = ap (λ xs. q ∷ xs) (rest is)

-- an object that is lent has its room
pub room_lent : (n m : ℕ) (o : Option Object) (lent : Option (Bor Object)) → n ≡ m → option_copied lent ≡ o → IsObject n o → IfSome lent (λ x. HasFrameRoom m x.now.state x.now.applied.items x.now.values.items)
room_lent n m o None same is there = tt
room_lent n m o (Some b) same is there = subst (λ k. HasFrameRoom k b.now.state b.now.applied.items b.now.values.items) same (subst (IsObject n) (sym is) there)
