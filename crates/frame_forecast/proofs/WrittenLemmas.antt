-- Values that a frame gives, as they are written into others from the last to the first.
use Rattle.std.proofs.Common.{◌≡◌, ◌≢◌, ◌∙◌, ◌<◌, ◌≤◌, ◌+◌, ◌==◌, ◌⊎◌, ℕ, Bool, true, false, cond, List, drop, [], ◌∷◌, length, get_or, Option, None, Some, unwrap_or, inl, inr, slice_set, get_or-set_same, length-set, ext_get_or, refl, sym, ap, subst, arith}
use Rattle.std.specs.List.{position, position_from}
use Rattle.std.specs.Option.{option_map}
use Rattle.std.proofs.lemmas.Bool.Decides.{eqb_tells}
use Rattle.std.proofs.lemmas.Iterator.Adapters.{position_from-zero}
use Rattle.std.proofs.lemmas.List.{drop_all, drop_more, get_or-set_other}
use Rattle.ctrl_types.specs.Values.{zero_value}
use Rattle.ctrl_types.specs.declared.value.CtrlValue.{CtrlValue}
use Rattle.ctrl_clusters.specs.Rows.{Values, value_at}
use Rattle.frame_forecast.specs.Sparse.{SparseFrame, linked}
use Rattle.frame_forecast.proofs.SparseLemmas.{length_linked, linked_at}

-- the value that a control is given from a place on, or its own
abbrev pub given_from : List ℕ → Values → Values → ℕ → ℕ → CtrlValue
given_from moved given values left c = unwrap_or (option_map (value_at given) (position_from (λ k. k == c) left (drop left moved))) (value_at values c)

-- Values in which those from a place on are written.
pub record AreWritten (moved : List ℕ) (given old new : Values) (left : ℕ) : Type 0 where
  pub long : length new ≡ length old
  pub each : (c : ℕ) → c < length old → value_at new c ≡ given_from moved given old left c

pub written_none : (moved : List ℕ) (given old : Values) (left : ℕ) → length moved ≤ left → AreWritten moved given old old left
written_none moved given old left all = record { long = refl; each = λ c lt. sym (ap (λ (l : List ℕ). unwrap_or (option_map (value_at given) (position_from (λ k. k == c) left l)) (value_at old c)) (drop_all left moved all)) }

pub written_next : (moved : List ℕ) (given old new next : Values) (left after : ℕ) → after + 1 ≡ left → after < length moved → AreWritten moved given old new left → next ≡ slice_set new (get_or moved after 0) (value_at given after)
    → AreWritten moved given old next after
written_next moved given old new next left after one lt so made = record {
  long = ap (λ (v : Values). length v) made ∙ length-set new (get_or moved after 0) (value_at given after) ∙ so.long;
  each = λ c less. ap (λ (v : Values). value_at v c) made ∙ by c less (eqb_tells (get_or moved after 0) c) ∙ sym (here c);
}
  where
    here : (c : ℕ) → given_from moved given old after c ≡ unwrap_or (option_map (value_at given) (cond (get_or moved after 0 == c) (Some after) (position_from (λ k. k == c) left (drop left moved)))) (value_at old c)
    here c =
        ap (λ (l : List ℕ). unwrap_or (option_map (value_at given) (position_from (λ k. k == c) after l)) (value_at old c)) (drop_more moved after 0 lt)
        ∙ ap (λ (n : ℕ). unwrap_or (option_map (value_at given) (cond (get_or moved after 0 == c) (Some after) (position_from (λ k. k == c) n (drop n moved)))) (value_at old c)) one

    by : (c : ℕ) → c < length old → ((get_or moved after 0 == c) ≡ true × (get_or moved after 0 ≡ c)) ⊎ ((get_or moved after 0 == c) ≡ false × (get_or moved after 0 ≢ c))
        → value_at (slice_set new (get_or moved after 0) (value_at given after)) c ≡ unwrap_or (option_map (value_at given) (cond (get_or moved after 0 == c) (Some after) (position_from (λ k. k == c) left (drop left moved)))) (value_at old c)
    by c less (inl same) =
        subst (λ (x : ℕ). value_at (slice_set new x (value_at given after)) c ≡ value_at given after) (sym same.1) (get_or-set_same new c (value_at given after) zero_value (omega (arith, less, so.long)))
        ∙ sym (ap (λ (b : Bool). unwrap_or (option_map (value_at given) (cond b (Some after) (position_from (λ k. k == c) left (drop left moved)))) (value_at old c)) same.0)
    by c less (inr other) =
        get_or-set_other new (get_or moved after 0) c (value_at given after) zero_value (λ e. other.1 (sym e))
        ∙ so.each c less
        ∙ sym (ap (λ (b : Bool). unwrap_or (option_map (value_at given) (cond b (Some after) (position_from (λ k. k == c) left (drop left moved)))) (value_at old c)) other.0)

pub written_all : (moved : List ℕ) (given old new : Values) (left : ℕ) → left ≤ 0 → AreWritten moved given old new left → (c : ℕ) → c < length old → value_at new c ≡ unwrap_or (option_map (value_at given) (position (λ k. k == c) moved)) (value_at old c)
written_all moved given old new left none so c lt =
    let zero : left ≡ 0 = omega (arith, none) in
    so.each c lt
    ∙ ap (λ (n : ℕ). given_from moved given old n c) zero
    ∙ sym (ap (λ (o : Option ℕ). unwrap_or (option_map (value_at given) o) (value_at old c)) (position_from-zero (λ k. k == c) moved))

-- Once all are, the values are those that the frame gives in the place of others.
pub written_linked : (frame : SparseFrame) (old new : Values) → length new ≡ length old → ((c : ℕ) → c < length old → value_at new c ≡ unwrap_or (option_map (value_at frame.given) (position (λ k. k == c) frame.moved)) (value_at old c))
    → new ≡ linked frame old
written_linked frame old new long each =
    ext_get_or zero_value new (linked frame old) (long ∙ sym (length_linked frame old)) (λ c lt. each c (omega (arith, lt, long)) ∙ sym (linked_at frame old c (omega (arith, lt, long))))
