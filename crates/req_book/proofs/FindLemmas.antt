-- Which request an id finds once requests were added, changed or let go.
use Rattle.std.proofs.Common.{◌≡◌, ℕ, ◌∙◌, Bool, true, false, cond, inl, inr, List, [], ◌∷◌, ◌++◌, Option, None, Some, nat_eq, refl, sym, ap, if◌then◌else◌}
use Rattle.std.specs.Option.{option_map, option_or}
use Rattle.std.proofs.lemmas.Bool.Decides.{eqb_tells}
use Rattle.req_book.specs.Requests.{RequestData, find, with_request, without}
use Rattle.req_book.proofs.ObjectLemmas.{Tells}

-- a request that was added is found where none had its id
pub find_added : (rs : List RequestData) (r : RequestData) (j : ℕ) → find (rs ++ r ∷ []) j ≡ option_or (find rs j) (if nat_eq j r.id then Some r else None)
find_added [] r j = refl
find_added (q ∷ rs) r j = by (nat_eq j q.id) (find_added rs r j)
  where
    by : (b : Bool) → find (rs ++ r ∷ []) j ≡ option_or (find rs j) (if nat_eq j r.id then Some r else None)
        → cond b (Some q) (find (rs ++ r ∷ []) j) ≡ option_or (cond b (Some q) (find rs j)) (if nat_eq j r.id then Some r else None)
    by true rest = refl
    by false rest = rest

-- the changed request is found changed, every other as it was; a change keeps the id
pub find_changed : (rs : List RequestData) (id : ℕ) (f : RequestData → RequestData) (j : ℕ) → ((r : RequestData) → (f r).id ≡ r.id)
    → find (with_request id f rs) j ≡ (if nat_eq id j then option_map f (find rs j) else find rs j)
find_changed [] id f j keeps = by (nat_eq id j)
  where
    by : (b : Bool) → ◌≡◌ {A = Option RequestData} None (cond b (option_map f None) None)
    by true = refl
    by false = refl
find_changed (q ∷ rs) id f j keeps = by (eqb_tells id q.id) (eqb_tells j q.id) (eqb_tells id j) (find_changed rs id f j keeps)
  where
    by : Tells id q.id → Tells j q.id → Tells id j → find (with_request id f rs) j ≡ cond (nat_eq id j) (option_map f (find rs j)) (find rs j)
        → find (with_request id f (q ∷ rs)) j ≡ cond (nat_eq id j) (option_map f (find (q ∷ rs) j)) (find (q ∷ rs) j)
    by (inl own) (inl this) (inl same) rest = rw (own.0, same.0, ap (nat_eq j) (keeps q), this.0) refl
    by (inl own) (inl this) (inr other) rest = absurd (other.1 (own.1 ∙ sym this.1))
    by (inl own) (inr off) (inl same) rest = absurd (off.1 (sym same.1 ∙ own.1))
    by (inl own) (inr off) (inr other) rest = rw (own.0, other.0, ap (nat_eq j) (keeps q), off.0) refl
    by (inr apart) (inl this) (inl same) rest = absurd (apart.1 (same.1 ∙ this.1))
    by (inr apart) (inl this) (inr other) rest = rw (apart.0, this.0, other.0) refl
    by (inr apart) (inr off) (inl same) rest = rw (apart.0, off.0) rest
    by (inr apart) (inr off) (inr other) rest = rw (apart.0, off.0) rest

-- the request that was let go isn't found, every other as it was
pub find_without : (rs : List RequestData) (id j : ℕ) → find (without id rs) j ≡ (if nat_eq id j then None else find rs j)
find_without [] id j = by (nat_eq id j)
  where
    by : (b : Bool) → ◌≡◌ {A = Option RequestData} None (cond b None None)
    by true = refl
    by false = refl
find_without (q ∷ rs) id j = by (eqb_tells id q.id) (eqb_tells j q.id) (eqb_tells id j) (find_without rs id j)
  where
    by : Tells id q.id → Tells j q.id → Tells id j → find (without id rs) j ≡ cond (nat_eq id j) None (find rs j) → find (without id (q ∷ rs)) j ≡ cond (nat_eq id j) None (find (q ∷ rs) j)
    by (inl own) (inl this) (inl same) rest = rw (own.0, same.0) (rw same.0 at rest)
    by (inl own) (inl this) (inr other) rest = absurd (other.1 (own.1 ∙ sym this.1))
    by (inl own) (inr off) (inl same) rest = absurd (off.1 (sym same.1 ∙ own.1))
    by (inl own) (inr off) (inr other) rest = rw (own.0, off.0) rest
    by (inr apart) (inl this) (inl same) rest = absurd (apart.1 (same.1 ∙ this.1))
    by (inr apart) (inl this) (inr other) rest = rw (apart.0, this.0, other.0) refl
    by (inr apart) (inr off) (inl same) rest = rw (apart.0, off.0) rest
    by (inr apart) (inr off) (inr other) rest = rw (apart.0, off.0) rest
