-- What a frame gives a control once another value, or a row, is given.
use Rattle.std.proofs.Common.{◌≡◌, ◌≢◌, ◌∙◌, ◌<◌, ◌==◌, ◌⊎◌, ℕ, nat_eq, Bool, true, false, if◌then◌else◌, List, [], ◌∷◌, length, get_or, Option, None, Some, unwrap_or, inl, inr, refl, sym, ap, subst, arith}
use Rattle.std.specs.List.{list_any, position}
use Rattle.std.specs.Option.{option_map}
use Rattle.std.proofs.lemmas.Bool.{eq-eqb, eqb-true, true≢false}
use Rattle.std.proofs.lemmas.Bool.Decides.{eqb_tells}
use Rattle.std.proofs.lemmas.List.{get_or-set_other, get_or-set_same, length-set}
use Rattle.std.proofs.lemmas.List.Quantifiers.{position-Some}
use Rattle.ctrl_types.specs.Values.{zero_value}
use Rattle.ctrl_types.specs.declared.value.CtrlValue.{CtrlValue}
use Rattle.ctrl_handlers.specs.Plan.{names_twice}
use Rattle.ctrl_handlers.proofs.ClusterLemmas.{or_false, or_false_right}
use Rattle.ctrl_clusters.specs.Rows.{Values, member_value, value_at}
use Rattle.frame_forecast.specs.Kept.{IsPaired}
use Rattle.frame_forecast.specs.Sparse.{SparseFrame, set_where, value_given, with_given, with_row_given}

paired_set : (values : Values) (o : Option ℕ) (v : CtrlValue) → length (set_where values o v) ≡ length values
paired_set values None v = refl
paired_set values (Some i) v = length-set values i v

pub paired_next : (frame : SparseFrame) (c : ℕ) (v : CtrlValue) → IsPaired frame → IsPaired (with_given frame c v)
unfolding IsPaired
paired_next frame c v is = paired_set frame.given (position (λ k. k == c) frame.moved) v ∙ is

-- the place of a control is one of its own
at_place : (cs : List ℕ) (c i : ℕ) → position (λ k. k == c) cs ≡ Some i → (i < length cs) × (get_or cs i 0 ≡ c)
at_place cs c i is = let found = position-Some (λ k. k == c) cs i 0 is in (found.0, eqb-true (get_or cs i 0) c found.1)

-- the control itself is given the value
pub given_own : (frame : SparseFrame) (c : ℕ) (v : CtrlValue) → IsPaired frame → value_given (with_given frame c v) c ≡ option_map (λ w. v) (value_given frame c)
unfolding IsPaired
given_own frame c v is = by (position (λ k. k == c) frame.moved) refl
  where
    by : (o : Option ℕ) → position (λ k. k == c) frame.moved ≡ o
        → option_map (value_at (set_where frame.given o v)) o ≡ option_map (λ w. v) (option_map (value_at frame.given) o)
    by None none = refl
    by (Some i) some =
        let place = at_place frame.moved c i some in
        ap (λ (x : CtrlValue). Some x) (get_or-set_same frame.given i v zero_value (omega (arith, place.0, is)))

-- another one keeps its own
pub given_other : (frame : SparseFrame) (c d : ℕ) (v : CtrlValue) → d ≢ c → value_given (with_given frame c v) d ≡ value_given frame d
given_other frame c d v apart = by (position (λ k. k == c) frame.moved) (position (λ k. k == d) frame.moved) refl refl
  where
    by : (o e : Option ℕ) → position (λ k. k == c) frame.moved ≡ o → position (λ k. k == d) frame.moved ≡ e → option_map (value_at (set_where frame.given o v)) e ≡ option_map (value_at frame.given) e
    by o None some none = refl
    by None (Some j) none some = refl
    by (Some i) (Some j) first second =
        ap (λ (x : CtrlValue). Some x)
        (get_or-set_other frame.given i j v zero_value (λ same. apart (sym (at_place frame.moved d j second).1 ∙ ap (λ (k : ℕ). get_or frame.moved k 0) same ∙ (at_place frame.moved c i first).1)))

-- a row gives none to what isn't among its members
pub none_named : (cs : List ℕ) (row : List CtrlValue) (c : ℕ) → list_any (nat_eq c) cs ≡ false → member_value cs row c ≡ None
none_named [] row c h = refl
none_named (m ∷ ms) [] c h = refl
none_named (m ∷ ms) (v ∷ vs) c h = by (none_named ms vs c (or_false_right (nat_eq c m) (list_any (nat_eq c) ms) h)) (eqb_tells m c)
  where
    by : member_value ms vs c ≡ None → ((m == c) ≡ true × (m ≡ c)) ⊎ ((m == c) ≡ false × (m ≢ c)) → (if m == c then Some v else member_value ms vs c) ≡ None
    by rest (inl same) = absurd (true≢false (sym (eq-eqb c m (sym same.1)) ∙ or_false (nat_eq c m) (list_any (nat_eq c) ms) h))
    by rest (inr other) = ap (λ (b : Bool). if b then Some v else member_value ms vs c) other.0 ∙ rest

-- Of a row each member is given its value, and no other control is.
pub given_row : (frame : SparseFrame) (cs : List ℕ) (row : List CtrlValue) (d : ℕ) → IsPaired frame → names_twice cs ≡ false → value_given (with_row_given frame cs row) d ≡ option_map (λ w. unwrap_or (member_value cs row d) w) (value_given frame d)
given_row frame [] row d is once = same (value_given frame d)
  where
    same : (o : Option CtrlValue) → o ≡ option_map (λ w. unwrap_or (member_value [] row d) w) o
    same None = refl
    same (Some w) = refl
given_row frame (c ∷ cs) [] d is once = same (value_given frame d)
  where
    same : (o : Option CtrlValue) → o ≡ option_map (λ w. unwrap_or (member_value (c ∷ cs) [] d) w) o
    same None = refl
    same (Some w) = refl
given_row frame (c ∷ cs) (v ∷ row) d is once =
    let rest = given_row (with_given frame c v) cs row d (paired_next frame c v is) (or_false_right (list_any (nat_eq c) cs) (names_twice cs) once) in
    rest ∙ by (eqb_tells c d)
  where
    alone : (cs : List ℕ) (row : List CtrlValue) → list_any (nat_eq c) cs ≡ false → member_value cs row c ≡ None
    alone cs row h = none_named cs row c h

    by : ((c == d) ≡ true × (c ≡ d)) ⊎ ((c == d) ≡ false × (c ≢ d))
        → option_map (λ w. unwrap_or (member_value cs row d) w) (value_given (with_given frame c v) d) ≡ option_map (λ w. unwrap_or (if c == d then Some v else member_value cs row d) w) (value_given frame d)
    by (inl same) =
        subst (λ (x : ℕ). option_map (λ w. unwrap_or (member_value cs row x) w) (value_given (with_given frame c v) x) ≡ option_map (λ w. unwrap_or (if c == d then Some v else member_value cs row x) w) (value_given frame x)) same.1
        (ap (λ (o : Option CtrlValue). option_map (λ w. unwrap_or o w) (value_given (with_given frame c v) c)) (alone cs row (or_false (list_any (nat_eq c) cs) (names_twice cs) once))
        ∙ ap (λ (o : Option CtrlValue). option_map (λ w. w) o) (given_own frame c v is)
        ∙ last (value_given frame c)
        ∙ ap (λ (b : Bool). option_map (λ w. unwrap_or (if b then Some v else member_value cs row c) w) (value_given frame c)) (sym same.0))
      where
        last : (o : Option CtrlValue) → option_map (λ w. w) (option_map (λ w. v) o) ≡ option_map (λ w. unwrap_or (Some v) w) o
        last None = refl
        last (Some w) = refl
    by (inr other) =
        ap (option_map (λ w. unwrap_or (member_value cs row d) w)) (given_other frame c d v (λ e. other.1 (sym e)))
        ∙ ap (λ (b : Bool). option_map (λ w. unwrap_or (if b then Some v else member_value cs row d) w) (value_given frame d)) (sym other.0)
