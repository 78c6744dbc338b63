-- Frames that give controls other values.
use Rattle.std.proofs.Common.{◌≡◌, ◌∙◌, ◌<◌, ◌+◌, ℕ, Bool, true, false, cond, List, [], ◌∷◌, drop, length, get_or, slice_set, refl, sym, ap, arith}
use Rattle.std.proofs.Math.Seq.{drop-length}
use Rattle.std.proofs.lemmas.List.{drop_more, get_or-set_same, length-map, length-set, set-set, set-get_or}
use Rattle.ctrl_types.specs.Values.{zero_value}
use Rattle.ctrl_types.specs.declared.value.CtrlValue.{CtrlValue}
use Rattle.ctrl_clusters.specs.Rows.{Values, row_of, value_at}
use Rattle.frame_forecast.specs.Sparse.{SparseFrame, no_sparse_frame, sparse_at, values_upto, with_given, with_row_given}
use Rattle.frame_forecast.proofs.SparseLemmas.{upto_set}

-- While a row is given, the frame at a place is the one of before where some more members are to be given theirs, and the others are as they were.
pub record IsGiving (values : Values) (old frames : List SparseFrame) (place : ℕ) (members : List ℕ) (row : List CtrlValue) (count : ℕ) : Type 0 where
  pub rest : with_row_given (sparse_at frames place) (drop count members) (drop count row) ≡ with_row_given (sparse_at old place) members row
  pub others : slice_set old place (sparse_at frames place) ≡ frames
  pub base : values_upto values frames place ≡ values_upto values old place

pub giving_first : (values : Values) (old : List SparseFrame) (place : ℕ) (members : List ℕ) (row : List CtrlValue) → IsGiving values old old place members row 0
giving_first values old place members row = record { rest = refl; others = set-get_or old place no_sparse_frame; base = refl }

pub giving_next : (values : Values) (old frames : List SparseFrame) (place : ℕ) (members : List ℕ) (row : List CtrlValue) (count : ℕ) → place < length old → count < length members → length row ≡ length members
    → IsGiving values old frames place members row count
    → IsGiving values old (slice_set frames place (with_given (sparse_at frames place) (get_or members count 0) (get_or row count zero_value))) place members row (count + 1)
giving_next values old frames place members row count there within long is = record {
  rest =
      ap (λ (f : SparseFrame). with_row_given f (drop (count + 1) members) (drop (count + 1) row)) (get_or-set_same frames place next no_sparse_frame many)
      ∙ sym (ap (λ (l : List ℕ). with_row_given (sparse_at frames place) l (drop count row)) (drop_more members count 0 within)
      ∙ ap (λ (l : List CtrlValue). with_row_given (sparse_at frames place) (get_or members count 0 ∷ drop (count + 1) members) l) (drop_more row count zero_value (omega (arith, within, long))))
      ∙ is.rest;
  others =
      ap (slice_set old place) (get_or-set_same frames place next no_sparse_frame many)
      ∙ sym (ap (λ (l : List SparseFrame). slice_set l place next) (sym is.others) ∙ set-set old place (sparse_at frames place) next);
  base = upto_set values frames place next place (omega arith) ∙ is.base;
}
  where
    next : SparseFrame
    next = with_given (sparse_at frames place) (get_or members count 0) (get_or row count zero_value)

    many : place < length frames
    many = omega (arith, there, ap length (sym is.others) ∙ length-set old place (sparse_at frames place))

-- once all are given theirs
pub giving_last : (values : Values) (old frames : List SparseFrame) (place : ℕ) (members : List ℕ) (row : List CtrlValue) (count : ℕ) → count ≡ length members
    → IsGiving values old frames place members row count → frames ≡ slice_set old place (with_row_given (sparse_at old place) members row)
giving_last values old frames place members row count all is =
    sym is.others
    ∙ ap (slice_set old place) (sym (ap (λ (l : List ℕ). with_row_given (sparse_at frames place) l (drop count row)) (ap (λ (n : ℕ). drop n members) all ∙ drop-length members)) ∙ is.rest)

pub row_long : (is_settled : Bool) (row : List CtrlValue) (base : Values) (members : List ℕ) → length row ≡ length members → length (cond is_settled row (row_of base members)) ≡ length members
row_long true row base members long = long
row_long false row base members long = length-map members (value_at base)

-- a row that is given leaves what the frame names and refuses
pub given_named : (frame : SparseFrame) (cs : List ℕ) (row : List CtrlValue) → (with_row_given frame cs row).named ≡ frame.named
given_named frame [] row = refl
given_named frame (c ∷ cs) [] = refl
given_named frame (c ∷ cs) (v ∷ row) = given_named (with_given frame c v) cs row

pub given_refused : (frame : SparseFrame) (cs : List ℕ) (row : List CtrlValue) → (with_row_given frame cs row).refused ≡ frame.refused
given_refused frame [] row = refl
given_refused frame (c ∷ cs) [] = refl
given_refused frame (c ∷ cs) (v ∷ row) = given_refused (with_given frame c v) cs row

pub given_asked : (frame : SparseFrame) (cs : List ℕ) (row : List CtrlValue) → (with_row_given frame cs row).asked ≡ frame.asked
given_asked frame [] row = refl
given_asked frame (c ∷ cs) [] = refl
given_asked frame (c ∷ cs) (v ∷ row) = given_asked (with_given frame c v) cs row

pub given_moved : (frame : SparseFrame) (cs : List ℕ) (row : List CtrlValue) → (with_row_given frame cs row).moved ≡ frame.moved
given_moved frame [] row = refl
given_moved frame (c ∷ cs) [] = refl
given_moved frame (c ∷ cs) (v ∷ row) = given_moved (with_given frame c v) cs row
