-- Frames in which clusters are judged, one after another.
use Rattle.std.proofs.Common.{cond, ◌≡◌, ◌≢◌, ◌∙◌, ◌<◌, ◌≤◌, ◌+◌, ◌==◌, ◌⊎◌, if◌then◌else◌, not, nat_eq, inl, inr, Ok, Err, Bool, false, ℕ, true, List, drop, length, get_or, is_err, slice_set, refl, sym, ap, subst, arith}
use Rattle.std.specs.List.{list_any}
use Rattle.std.proofs.Math.Seq.{drop-length}
use Rattle.std.proofs.lemmas.Bool.{true≢false}
use Rattle.std.proofs.lemmas.Bool.Decides.{eqb_tells}
use Rattle.std.proofs.lemmas.List.Sums.{sum_by-drop_more}
use Rattle.std.proofs.lemmas.List.{drop_more, get_or-set_same, length-set, set-set, set-get_or}
use Rattle.ctrl_types.specs.declared.errno.Errno.TheVariants.{EBUSY}
use Rattle.ctrl_types.specs.declared.ids.Pair.{Pair}
use Rattle.ctrl_types.specs.declared.value.CtrlValue.{CtrlValue}
use Rattle.ctrl_calls.specs.Meanings.{Verdicts}
use Rattle.ctrl_settle.specs.Control.{Control}
use Rattle.ctrl_handlers.specs.Plan.{PlanData, members}
use Rattle.ctrl_clusters.specs.Judging.{validated_row}
use Rattle.ctrl_clusters.specs.Overlay.{is_touched, names_grabbed, row_after}
use Rattle.ctrl_clusters.proofs.RisingLemmas.{among_passing, marked_passing, passing, passing_below, with_at}
use Rattle.ctrl_clusters.specs.Rows.{Grabs, Values, row_of}
use Rattle.ctrl_forecast.specs.Boards.{named_clusters}
use Rattle.ctrl_clusters.specs.Rising.{with_or_without}
use Rattle.frame_forecast.specs.Sparse.{row_or, IsNaming, SparseFrame, judged_all, judged_frame, no_sparse_frame, sparse_at, touched_among, values_upto}
use Rattle.frame_forecast.proofs.GivenLemmas.{given_asked, given_named}
use Rattle.ctrl_clusters.proofs.RisingLemmas.{marked_among, marked_rising}
use Rattle.frame_forecast.proofs.SparseLemmas.{upto_set}

-- a cluster that is refused has a member among the pairs
refused_touched : (verdicts : Verdicts) (plan : PlanData) (controls : List Control) (grabs : Grabs) (base : Values) (pairs : List Pair) (k : ℕ) → is_err (row_after verdicts plan controls base grabs pairs k) ≡ true → is_touched pairs (members plan k) ≡ true
refused_touched verdicts plan controls grabs base pairs k fails = by (is_touched pairs (members plan k)) fails
  where
    by : (b : Bool) → is_err (if not b then Ok (row_of base (members plan k)) else if names_grabbed grabs pairs (members plan k) then Err EBUSY else validated_row verdicts plan controls base pairs k) ≡ true → b ≡ true
    by true e = refl
    by false e = absurd (true≢false (sym e))

-- once one more is judged, too
marked_touched : (verdicts : Verdicts) (plan : PlanData) (controls : List Control) (grabs : Grabs) (base : Values) (k j : ℕ) (frame : SparseFrame) → IsNaming plan frame → k < length plan.clusters → j < length plan.clusters
    → list_any (nat_eq j) (with_or_without k (is_err (row_after verdicts plan controls base grabs frame.asked k)) frame.refused) ≡ true → is_touched frame.asked (members plan j) ≡ true
marked_touched verdicts plan controls grabs base k j frame is lt less among = by (eqb_tells k j) (sym (marked_among (length plan.clusters) k j fails frame.refused is.rising lt less) ∙ among)
  where
    fails : Bool
    fails = is_err (row_after verdicts plan controls base grabs frame.asked k)

    by : ((k == j) ≡ true × (k ≡ j)) ⊎ ((k == j) ≡ false × (k ≢ j)) → cond (nat_eq k j) fails (list_any (nat_eq j) frame.refused) ≡ true → is_touched frame.asked (members plan j) ≡ true
    by (inl e) h =
        subst (λ (x : ℕ). is_touched frame.asked (members plan x) ≡ true) e.1
        (refused_touched verdicts plan controls grabs base frame.asked k (sym (ap (λ (b : Bool). cond b fails (list_any (nat_eq j) frame.refused)) e.0) ∙ h))
    by (inr e) h = is.touched j less (sym (ap (λ (b : Bool). cond b fails (list_any (nat_eq j) frame.refused)) e.0) ∙ h)

-- there is room for a cluster among the refused ones
pub naming_room : (verdicts : Verdicts) (plan : PlanData) (controls : List Control) (grabs : Grabs) (base : Values) (k : ℕ) (frame : SparseFrame) → length base ≡ length plan.controls → IsNaming plan frame → k < length plan.clusters
    → length (with_or_without k (is_err (row_after verdicts plan controls base grabs frame.asked k)) frame.refused) ≤ length frame.named
naming_room verdicts plan controls grabs base k frame long is lt =
    let n : ℕ = length plan.clusters in
    let b : Bool = is_err (row_after verdicts plan controls base grabs frame.asked k) in
    let p : ℕ → Bool = is.rising.0 in
    let same : with_or_without k b frame.refused ≡ passing (with_at p k b) n = ap (with_or_without k b) is.rising.1 ∙ marked_passing p k n b lt in
    let fewer : length (passing (with_at p k b) n) ≤ length (named_clusters plan frame.asked) =
    passing_below (with_at p k b) (λ j. is_touched frame.asked (members plan j)) n
    (λ j less passes. marked_touched verdicts plan controls grabs base k j frame is lt less (ap (list_any (nat_eq j)) same ∙ among_passing (with_at p k b) n j less ∙ passes)) in
    omega (arith, fewer, ap length same, ap length is.names)

-- and once it is judged the frame names as before
pub naming_next : (verdicts : Verdicts) (plan : PlanData) (controls : List Control) (grabs : Grabs) (base : Values) (k : ℕ) (frame : SparseFrame) → length base ≡ length plan.controls → IsNaming plan frame → k < length plan.clusters
    → IsNaming plan (judged_frame verdicts plan controls grabs base k frame)
naming_next verdicts plan controls grabs base k frame long is lt = record {
  rising = marked_rising (length plan.clusters) k (is_err (row_after verdicts plan controls base grabs frame.asked k)) frame.refused is.rising lt;
  names = given_named frame (members plan k) row ∙ is.names ∙ ap (named_clusters plan) (sym (given_asked frame (members plan k) row));
  touched =
      λ j less among.
      subst (λ (pairs : List Pair). is_touched pairs (members plan j) ≡ true) (sym (given_asked frame (members plan k) row)) (marked_touched verdicts plan controls grabs base k j frame is lt less among);
}
  where
    row : List CtrlValue
    row = row_or (row_of base (members plan k)) (row_after verdicts plan controls base grabs frame.asked k)

-- While clusters are judged, the frame at a place is the one of before where some more are to be judged, and the others are as they were.
pub record IsJudging (verdicts : Verdicts) (plan : PlanData) (controls : List Control) (grabs : Grabs) (base values : Values) (old frames : List SparseFrame) (place : ℕ) (clusters : List ℕ) (count : ℕ) : Type 0 where
  pub rest : judged_all verdicts plan controls grabs base (drop count clusters) (sparse_at frames place) ≡ judged_all verdicts plan controls grabs base clusters (sparse_at old place)
  pub others : slice_set old place (sparse_at frames place) ≡ frames
  pub upto : values_upto values frames place ≡ values_upto values old place
  pub naming : IsNaming plan (sparse_at frames place)
  pub asks : (sparse_at frames place).asked ≡ (sparse_at old place).asked

pub judging_first : (verdicts : Verdicts) (plan : PlanData) (controls : List Control) (grabs : Grabs) (base values : Values) (old : List SparseFrame) (place : ℕ) (clusters : List ℕ) → IsNaming plan (sparse_at old place)
    → IsJudging verdicts plan controls grabs base values old old place clusters 0
judging_first verdicts plan controls grabs base values old place clusters naming = record { rest = refl; others = set-get_or old place no_sparse_frame; upto = refl; naming = naming; asks = refl }

pub judging_next : (verdicts : Verdicts) (plan : PlanData) (controls : List Control) (grabs : Grabs) (base values : Values) (old frames : List SparseFrame) (place : ℕ) (clusters : List ℕ) (count : ℕ) → place < length old
    → length base ≡ length plan.controls → count < length clusters → get_or clusters count 0 < length plan.clusters → IsJudging verdicts plan controls grabs base values old frames place clusters count
    → IsJudging verdicts plan controls grabs base values old (slice_set frames place (judged_frame verdicts plan controls grabs base (get_or clusters count 0) (sparse_at frames place))) place clusters (count + 1)
judging_next verdicts plan controls grabs base values old frames place clusters count there long within known is = record {
  rest =
      ap (judged_all verdicts plan controls grabs base (drop (count + 1) clusters)) same
      ∙ sym (ap (λ (l : List ℕ). judged_all verdicts plan controls grabs base l (sparse_at frames place)) (drop_more clusters count 0 within))
      ∙ is.rest;
  others = ap (slice_set old place) same ∙ sym (ap (λ (l : List SparseFrame). slice_set l place next) (sym is.others) ∙ set-set old place (sparse_at frames place) next);
  upto = upto_set values frames place next place (omega arith) ∙ is.upto;
  naming = subst (IsNaming plan) (sym same) (naming_next verdicts plan controls grabs base (get_or clusters count 0) (sparse_at frames place) long is.naming known);
  asks =
      ap (λ (f : SparseFrame). f.asked) same
      ∙ given_asked (sparse_at frames place) (members plan (get_or clusters count 0)) (row_or (row_of base (members plan (get_or clusters count 0))) (row_after verdicts plan controls base grabs (sparse_at frames place).asked (get_or clusters count 0)))
      ∙ is.asks;
}
  where
    next : SparseFrame
    next = judged_frame verdicts plan controls grabs base (get_or clusters count 0) (sparse_at frames place)

    many : place < length frames
    many = omega (arith, there, ap length (sym is.others) ∙ length-set old place (sparse_at frames place))

    same : sparse_at (slice_set frames place next) place ≡ next
    same = get_or-set_same frames place next no_sparse_frame many

pub judging_last : (verdicts : Verdicts) (plan : PlanData) (controls : List Control) (grabs : Grabs) (base values : Values) (old frames : List SparseFrame) (place : ℕ) (clusters : List ℕ) (count : ℕ) → count ≡ length clusters
    → IsJudging verdicts plan controls grabs base values old frames place clusters count → frames ≡ slice_set old place (judged_all verdicts plan controls grabs base clusters (sparse_at old place))
judging_last verdicts plan controls grabs base values old frames place clusters count all is =
    sym is.others
    ∙ ap (slice_set old place) (sym (ap (λ (l : List ℕ). judged_all verdicts plan controls grabs base l (sparse_at frames place)) (ap (λ (n : ℕ). drop n clusters) all ∙ drop-length clusters)) ∙ is.rest)

-- What validators were asked so far, and what those behind can be asked, is at most what all can be.
pub asked_next : (plan : PlanData) (pairs own : List Pair) (clusters : List ℕ) (count old before after : ℕ) → count < length clusters → own ≡ pairs → before + touched_among plan pairs (drop count clusters) ≤ old
    → after ≤ before + cond (is_touched own (members plan (get_or clusters count 0))) 1 0 → after + touched_among plan pairs (drop (count + 1) clusters) ≤ old
asked_next plan pairs own clusters count old before after lt same so_far most =
    omega (arith, so_far, most, sum_by-drop_more (λ k. cond (is_touched pairs (members plan k)) 1 0) clusters count 0 lt, ap {B = ℕ} (λ (ps : List Pair). cond (is_touched ps (members plan (get_or clusters count 0))) 1 0) same)
