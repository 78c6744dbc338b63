-- When requests, and stores of them, are alike.
use Rattle.std.proofs.Common.{rules, arith, ◌≡◌, ◌∙◌, ◌<◌, ℕ, zero, suc, length, Bool, List, [], ◌∷◌, Option, Some, slice_get, map, nat_eq, ◌&&◌, refl, sym, ap}
use Rattle.std.specs.Bool.{Decides}
use Rattle.std.specs.Option.{option_eq, option_map, option_and_then}
use Rattle.std.specs.Cmp.Lexicographic.{pointwise}
use Rattle.std.proofs.lemmas.Bool.Decides.{Decides-and, Decides-eqb}
use Rattle.std.proofs.lemmas.Slice.Eq.{slice_eq-Decides}
use denote.Enum.Bare.{sameb}
use Rattle.ctrl_types.proofs.ValueLemmas.{eq_decides}
use Rattle.ctrl_types.specs.declared.value.CtrlValue.{CtrlValue}
use Rattle.ctrl_types.specs.declared.ids.Pair.{Pair}
use Rattle.ctrl_types.specs.contracts.ids.PairPartialEq.TheImpl.{eq-value as eq-pair}
use Rattle.ctrl_types.specs.contracts.value.CtrlValuePartialEq.TheImpl.{eq-value}
use Rattle.req_book.specs.contracts.state.RequestState.{the_type}
use Rattle.req_book.specs.declared.state.RequestState.{RequestState}
use Rattle.req_book.specs.declared.object.Object.{Object}
use Rattle.slab.specs.Slab.{Slab}
use Rattle.req_book.specs.Objects.{AreObjects, request_at, request_of_entry, requests_of_entries, snapshot_seen}
use Rattle.req_book.proofs.ObjectLemmas.{first_in}
use Rattle.req_book.specs.Requests.{RequestData, RequestsData}
use Rattle.req_book.specs.Alike.{AreLike, compared}
use Rattle.std.proofs.lemmas.List.{length-map}
use Rattle.std.proofs.lemmas.Option.{slice_get-map}

-- what `==` says of two states
pub states : (a b : RequestState) (r : Bool) → r ≡ sameb the_type a b → Decides r (a ≡ b)
states a b r is = search rules

-- of two numbers that may be missing
pub numbers : (a b : Option ℕ) (r : Bool) → r ≡ option_eq nat_eq a b → Decides r (a ≡ b)
numbers a b r is = search rules

-- of two pairs
pair_decides : (a b : Pair) → Decides (eq-pair.it a b) (a ≡ b)
pair_decides a b =
    let both = Decides-and _ _ (Decides-eqb a.control b.control) (eq_decides a.value b.value) in
    (λ e. λ i. record { control = (both.0 e).0 i; value = (both.0 e).1 i }, λ h. both.1 (ap (λ (p : Pair). p.control) h, ap (λ (p : Pair). p.value) h))

-- of pairs
pub pairs : (a b : List Pair) (r : Bool) → r ≡ pointwise eq-pair.it a b → Decides r (a ≡ b)
pairs = slice_eq-Decides pair_decides

-- of values
pub values : (a b : List CtrlValue) (r : Bool) → r ≡ pointwise eq-value.it a b → Decides r (a ≡ b)
values = slice_eq-Decides eq_decides

-- requests that are alike have the same parts
abbrev pub Same : Object → Object → Type 0
Same a b = (((a.state ≡ b.state) × (a.buffer ≡ b.buffer)) × (a.pairs.items ≡ b.pairs.items)) × (snapshot_seen a.state a.values.items ≡ snapshot_seen b.state b.values.items)

pub same_alike : (id : ℕ) (a b : Object) → Same a b → compared (request_at id a) ≡ compared (request_at id b)
same_alike id a b same = λ i. record { id = id; state = same.0.0.0 i; buffer = same.0.0.1 i; pairs = same.0.1 i; applied = []; snapshot = same.1 i }

pub alike_same : (id : ℕ) (a b : Object) → compared (request_at id a) ≡ compared (request_at id b) → Same a b
alike_same id a b is = (((ap (λ (r : RequestData). r.state) is, ap (λ (r : RequestData). r.buffer) is), ap (λ (r : RequestData). r.pairs) is), ap (λ (r : RequestData). r.snapshot) is)

-- whether two objects are alike, part by part
abbrev pub same_parts : Object → Object → Bool
same_parts a b = ((sameb the_type a.state b.state && option_eq nat_eq a.buffer b.buffer) && pointwise eq-pair.it a.pairs.items b.pairs.items) && pointwise eq-value.it (snapshot_seen a.state a.values.items) (snapshot_seen b.state b.values.items)

pub same_decides : (a b : Object) → Decides (same_parts a b) (Same a b)
same_decides a b =
    Decides-and _ _
    (Decides-and _ _ (Decides-and _ _ (states a.state b.state _ refl) (numbers a.buffer b.buffer _ refl)) (pairs a.pairs.items b.pairs.items _ refl))
    (values (snapshot_seen a.state a.values.items) (snapshot_seen b.state b.values.items) _ refl)

-- the request at a place is that of the entry there
pub at_place : (n : ℕ) (slots : Slab Object) (es : List (ℕ × ℕ)) (i : ℕ) → AreObjects n slots es → slice_get (requests_of_entries slots es) i ≡ option_and_then (request_of_entry slots) (slice_get es i)
unfolding requests_of_entries
at_place n slots [] i kept = refl
at_place n slots (e ∷ es) zero kept =
    let first = first_in n slots e (requests_of_entries slots es) kept.0 in
    ap (λ (rs : List RequestData). slice_get rs 0) first.2 ∙ sym (ap (option_map (request_at e.0)) first.1)
at_place n slots (e ∷ es) (suc i) kept =
    let first = first_in n slots e (requests_of_entries slots es) kept.0 in
    ap (λ (rs : List RequestData). slice_get rs (suc i)) first.2 ∙ at_place n slots es i kept.2

-- as many requests that are alike at each place
pub alike_lists : (xs ys : List RequestData) → length xs ≡ length ys → ((i : ℕ) → i < length xs → option_map compared (slice_get xs i) ≡ option_map compared (slice_get ys i)) → map compared xs ≡ map compared ys
alike_lists [] [] many each = refl
alike_lists [] (y ∷ ys) many each = absurd (omega (arith, many))
alike_lists (x ∷ xs) [] many each = absurd (omega (arith, many))
alike_lists (x ∷ xs) (y ∷ ys) many each =
    ap (λ (z : RequestData). z ∷ map compared xs) (same (compared x) (compared y) (each 0 (omega arith)))
    ∙ ap (λ (zs : List RequestData). compared y ∷ zs) (alike_lists xs ys (omega (arith, many)) (λ i within. each (suc i) (omega (arith, within))))
  where
    same : (a b : RequestData) → Some a ≡ Some b → a ≡ b
    same a b h = cc

-- stores for as many controls, with as many requests that are alike at each place, are alike
pub alike_stores : (a b : RequestsData) → a.controls ≡ b.controls → length a.all ≡ length b.all
    → ((place : ℕ) → place < length a.all → option_map compared (slice_get a.all place) ≡ option_map compared (slice_get b.all place)) → AreLike a b
alike_stores a b controls many each = record { controls = controls; requests = alike_lists a.all b.all many each }

-- and what is alike at a place, where the stores are
pub alike_at : (a b : RequestsData) (place : ℕ) → AreLike a b → option_map compared (slice_get a.all place) ≡ option_map compared (slice_get b.all place)
alike_at a b place alike = sym (slice_get-map compared a.all place) ∙ ap (λ (rs : List RequestData). slice_get rs place) alike.requests ∙ slice_get-map compared b.all place

-- there are as many then
pub alike_many : (a b : RequestsData) → AreLike a b → length a.all ≡ length b.all
alike_many a b alike = sym (length-map a.all compared) ∙ ap length alike.requests ∙ length-map b.all compared
