-- The same value is tested so.
use Rattle.std.proofs.Common.{sym, ◌≡◌, ◌∙◌, ◌-◌, length, take, replicate, ℕ, Bool, true, false, ◌&&◌, nat_eq, List, [], ◌∷◌, refl, ap}
use Rattle.std.specs.Bool.{Decides}
use Rattle.std.proofs.lemmas.Slice.Eq.{slice_eq-Decides}
use Rattle.std.proofs.Math.Seq.{take-append_seam}
use Rattle.std.proofs.lemmas.Bool.Decides.{Decides-eqb, Decides-int_eq, Decides-and}
use Rattle.ctrl_types.specs.Bytes.{cells_of}
use Rattle.ctrl_types.specs.contracts.bytes.ByteRowPartialEq.TheImpl.{eq-value as eq-bytes}
use Rattle.ctrl_types.specs.contracts.value.CtrlValuePartialEq.TheImpl.{eq-value}
use Rattle.ctrl_types.specs.Values.{are_bytes, is_same}
use Rattle.ctrl_types.specs.declared.value.CtrlValue.{CtrlValue}
use Rattle.ctrl_types.specs.declared.value.CtrlValue.TheVariants.{Number, Bytes}

Decides-bytes : (row other : List ℕ) → Decides (are_bytes row other) (row ≡ other)
Decides-bytes [] [] = (λ e. refl, λ h. refl)
Decides-bytes [] (b ∷ other) = (λ e. absurd (cc), λ h. absurd (cc))
Decides-bytes (a ∷ row) [] = (λ e. absurd (cc), λ h. absurd (cc))
Decides-bytes (a ∷ row) (b ∷ other) =
    let both = Decides-and (nat_eq a b) (are_bytes row other) (Decides-eqb a b) (Decides-bytes row other) in
    (λ e. (λ i. (both.0 e).0 i ∷ (both.0 e).1 i), λ h. both.1 (cc, cc))

pub Decides-same : (v w : CtrlValue) → Decides (is_same v w) (v ≡ w)
Decides-same (Number v) (Number w) = (λ e. ap Number ((Decides-int_eq v w).0 e), λ h. (Decides-int_eq v w).1 (cc))
Decides-same (Bytes row) (Bytes other) = (λ e. ap Bytes ((Decides-bytes row other).0 e), λ h. (Decides-bytes row other).1 (cc))
Decides-same (Number v) (Bytes row) = (λ e. absurd (cc), λ h. absurd (cc))
Decides-same (Bytes row) (Number v) = (λ e. absurd (cc), λ h. absurd (cc))

-- a value is the same as itself
pub same_self : (v : CtrlValue) → is_same v v ≡ true
same_self v = (Decides-same v v).1 refl

-- two tests of the same are the same
agree : {P : Type 0} (a b : Bool) → (a ≡ true → P) → (P → a ≡ true) → (b ≡ true → P) → (P → b ≡ true) → a ≡ b
agree true true from to from_b to_b = refl
agree false false from to from_b to_b = refl
agree true false from to from_b to_b = sym (to_b (from refl))
agree false true from to from_b to_b = to (from_b refl)

-- what `==` says of two rows of bytes: it compares the cells, and how many are in use
bytes_decide : (a b : List ℕ) → Decides (eq-bytes.it a b) (a ≡ b)
bytes_decide a b =
    let both = Decides-and _ _ (slice_eq-Decides Decides-eqb (cells_of a).cells (cells_of b).cells _ refl) (Decides-eqb (length a) (length b)) in
    (λ e. whole (both.0 e).0 (both.0 e).1, λ h. both.1 (ap (λ (x : List ℕ). (cells_of x).cells) h, ap length h))
  where
    whole : (cells_of a).cells ≡ (cells_of b).cells → length a ≡ length b → a ≡ b
    whole cells many =
        sym (take-append_seam a (replicate (32 - length a) 0)) ∙ ap (take (length a)) cells
        ∙ ap (λ (n : ℕ). take n (cells_of b).cells) many ∙ take-append_seam b (replicate (32 - length b) 0)

-- what `==` says of two values
pub eq_decides : (v w : CtrlValue) → Decides (eq-value.it v w) (v ≡ w)
eq_decides (Number v) (Number w) = (λ e. ap Number ((Decides-int_eq v w).0 e), λ h. (Decides-int_eq v w).1 (cc))
eq_decides (Bytes row) (Bytes other) = (λ e. ap Bytes ((bytes_decide row other).0 e), λ h. (bytes_decide row other).1 (cc))
eq_decides (Number v) (Bytes row) = (λ e. absurd (cc), λ h. absurd (cc))
eq_decides (Bytes row) (Number v) = (λ e. absurd (cc), λ h. absurd (cc))

-- `==` is the test of the definitions
pub same_test : (v w : CtrlValue) → eq-value.it v w ≡ is_same v w
same_test v w = agree (eq-value.it v w) (is_same v w) (eq_decides v w).0 (eq_decides v w).1 (Decides-same v w).0 (Decides-same v w).1
