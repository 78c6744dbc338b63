-- Frames in which controls are settled by ranges that follow, one after another.
use Rattle.std.proofs.Common.{◌≡◌, ◌∙◌, ◌<◌, ◌+◌, ◌==◌, ℕ, suc, Bool, true, false, if◌then◌else◌, List, [], ◌∷◌, drop, length, get_or, Option, None, Some, is_some, unwrap_or, slice_set, refl, sym, ap, arith}
use Rattle.std.specs.List.{position}
use Rattle.std.specs.Option.{option_map}
use Rattle.std.proofs.Math.Seq.{drop-length}
use Rattle.std.proofs.lemmas.Bool.{true≢false}
use Rattle.std.proofs.lemmas.List.{drop_more, get_or-set_same, length-set, set-set, set-get_or}
use Rattle.ctrl_types.specs.Values.{zero_value}
use Rattle.ctrl_types.specs.declared.value.CtrlValue.{CtrlValue}
use Rattle.ctrl_settle.specs.Control.{Control}
use Rattle.ctrl_settle.specs.Settle.{settled_anew}
use Rattle.range_followers.specs.Wanted.{follower_of}
use Rattle.ctrl_handlers.specs.Plan.{PlanData, IsPlan, IsFollowing, members}
use Rattle.ctrl_clusters.specs.Following.{range_under}
use Rattle.ctrl_clusters.specs.Rows.{Values, value_at}
use Rattle.ctrl_clusters.proofs.FollowingLemmas.{agreed_range, found_follows, none_by}
use Rattle.frame_forecast.specs.Sparse.{SparseFrame, followed_clusters, followed_given, followed_members, linked, no_sparse_frame, set_where, sparse_at, value_given, values_upto, with_given}
use Rattle.frame_forecast.proofs.PlaceLemmas.{given_other}
use Rattle.frame_forecast.proofs.SparseLemmas.{length_upto, linked_at, upto_set}

-- two lists of values agree on what follows nothing
pub record AgreeOnStill (plan : PlanData) (first second : Values) : Type 0 where
  pub still : (s : ℕ) → s < length plan.controls → follower_of plan.followers s ≡ None → value_at first s ≡ value_at second s

-- so they give each control the same range
pub same_range : (plan : PlanData) (controls : List Control) (first second : Values) (c : ℕ) → IsPlan plan → AgreeOnStill plan first second → range_under plan.followers controls first c ≡ range_under plan.followers controls second c
same_range plan controls first second c is agree =
    agreed_range plan controls first second c
    (λ f s found follows.
    let both = found_follows (IsFollowing plan.controls plan.followers) plan.followers c f is.follow.each found in
    agree.still s (omega (arith, both.1.lower s follows, both.1.known)) (none_by (follower_of plan.followers s) (both.1.still s follows)))

pub same_given : (plan : PlanData) (controls : List Control) (first second : Values) (c : ℕ) (frame : SparseFrame) → IsPlan plan → AgreeOnStill plan first second
    → followed_given plan controls first c frame ≡ followed_given plan controls second c frame
same_given plan controls first second c frame is agree =
    ap (λ (r : Control). if is_some (follower_of plan.followers c) then with_given frame c (settled_anew r (unwrap_or (value_given frame c) zero_value)) else frame) (same_range plan controls first second c is agree)

pub same_members : (plan : PlanData) (controls : List Control) (first second : Values) (cs : List ℕ) (frame : SparseFrame) → IsPlan plan → AgreeOnStill plan first second
    → followed_members plan controls first cs frame ≡ followed_members plan controls second cs frame
same_members plan controls first second [] frame is agree = refl
same_members plan controls first second (c ∷ cs) frame is agree =
    ap (followed_members plan controls first cs) (same_given plan controls first second c frame is agree) ∙ same_members plan controls first second cs (followed_given plan controls second c frame) is agree

-- what follows nothing is given what it was
pub given_still : (plan : PlanData) (controls : List Control) (mid : Values) (c s : ℕ) (frame : SparseFrame) → follower_of plan.followers s ≡ None → value_given (followed_given plan controls mid c frame) s ≡ value_given frame s
given_still plan controls mid c s frame none = by (is_some (follower_of plan.followers c)) refl
  where
    by : (b : Bool) → is_some (follower_of plan.followers c) ≡ b
        → value_given (if b then with_given frame c (settled_anew (range_under plan.followers controls mid c) (unwrap_or (value_given frame c) zero_value)) else frame) s ≡ value_given frame s
    by true follows =
        given_other frame c s (settled_anew (range_under plan.followers controls mid c) (unwrap_or (value_given frame c) zero_value))
        (λ same. true≢false (sym follows ∙ ap (λ (x : ℕ). is_some (follower_of plan.followers x)) (sym same) ∙ ap is_some none))
    by false follows = refl

pub members_still : (plan : PlanData) (controls : List Control) (mid : Values) (cs : List ℕ) (s : ℕ) (frame : SparseFrame) → follower_of plan.followers s ≡ None → value_given (followed_members plan controls mid cs frame) s ≡ value_given frame s
members_still plan controls mid [] s frame none = refl
members_still plan controls mid (c ∷ cs) s frame none = members_still plan controls mid cs s (followed_given plan controls mid c frame) none ∙ given_still plan controls mid c s frame none

-- a frame that gives a control nothing gives it nothing else
pub given_none : (frame : SparseFrame) (c : ℕ) (v : CtrlValue) → value_given frame c ≡ None → with_given frame c v ≡ frame
given_none frame c v none = by (position (λ k. k == c) frame.moved) refl
  where
    by : (o : Option ℕ) → position (λ k. k == c) frame.moved ≡ o → with_given frame c v ≡ frame
    by None h = ap (λ (o : Option ℕ). record frame { given = set_where frame.given o v }) h
    by (Some i) h = absurd (true≢false (sym (ap (λ (o : Option ℕ). is_some (option_map (value_at frame.given) o)) h) ∙ ap is_some none))

-- The values behind a frame at a place that takes another's agree on what follows nothing, where the two give that the same.
pub still_behind : (plan : PlanData) (values : Values) (frames : List SparseFrame) (place : ℕ) (next : SparseFrame) (mid : Values) → place < length frames → length values ≡ length plan.controls
    → ((s : ℕ) → follower_of plan.followers s ≡ None → value_given next s ≡ value_given (sparse_at frames place) s) → AgreeOnStill plan (values_upto values frames (suc place)) mid
    → AgreeOnStill plan (values_upto values (slice_set frames place next) (suc place)) mid
still_behind plan values frames place next mid there long same agree = record {
  still =
      λ s lt none.
      ap (λ (f : SparseFrame). value_at (linked f (values_upto values (slice_set frames place next) place)) s) (get_or-set_same frames place next no_sparse_frame there)
      ∙ ap (λ (v : Values). value_at (linked next v) s) (upto_set values frames place next place (omega arith))
      ∙ linked_at next (values_upto values frames place) s (omega (arith, lt, long, length_upto values frames place))
      ∙ ap (λ (o : Option CtrlValue). unwrap_or o (value_at (values_upto values frames place) s)) (same s none)
      ∙ sym (linked_at (sparse_at frames place) (values_upto values frames place) s (omega (arith, lt, long, length_upto values frames place)))
      ∙ agree.still s lt none;
}

-- While members are settled, the frame at a place is the one of before where some more are to be, and the others are as they were.
pub record IsSettling (plan : PlanData) (controls : List Control) (values : Values) (old frames : List SparseFrame) (place : ℕ) (members : List ℕ) (count : ℕ) : Type 0 where
  pub rest : followed_members plan controls (values_upto values old (suc place)) (drop count members) (sparse_at frames place) ≡ followed_members plan controls (values_upto values old (suc place)) members (sparse_at old place)
  pub others : slice_set old place (sparse_at frames place) ≡ frames
  pub agree : AgreeOnStill plan (values_upto values frames (suc place)) (values_upto values old (suc place))

pub settling_first : (plan : PlanData) (controls : List Control) (values : Values) (old : List SparseFrame) (place : ℕ) (members : List ℕ) → IsSettling plan controls values old old place members 0
settling_first plan controls values old place members = record { rest = refl; others = set-get_or old place no_sparse_frame; agree = record { still = λ s lt none. refl } }

pub settling_next : (plan : PlanData) (controls : List Control) (values : Values) (old frames : List SparseFrame) (place : ℕ) (members : List ℕ) (count : ℕ) → IsPlan plan → place < length old → length values ≡ length plan.controls
    → count < length members → IsSettling plan controls values old frames place members count
    → IsSettling plan controls values old (slice_set frames place (followed_given plan controls (values_upto values frames (suc place)) (get_or members count 0) (sparse_at frames place))) place members (count + 1)
settling_next plan controls values old frames place members count is there long within so = record {
  rest =
      ap (followed_members plan controls mid (drop (count + 1) members)) (same ∙ same_given plan controls (values_upto values frames (suc place)) mid (get_or members count 0) (sparse_at frames place) is so.agree)
      ∙ sym (ap (λ (l : List ℕ). followed_members plan controls mid l (sparse_at frames place)) (drop_more members count 0 within))
      ∙ so.rest;
  others = ap (slice_set old place) same ∙ sym (ap (λ (l : List SparseFrame). slice_set l place next) (sym so.others) ∙ set-set old place (sparse_at frames place) next);
  agree = still_behind plan values frames place next mid many long (λ s none. given_still plan controls (values_upto values frames (suc place)) (get_or members count 0) s (sparse_at frames place) none) so.agree;
}
  where
    mid : Values
    mid = values_upto values old (suc place)

    next : SparseFrame
    next = followed_given plan controls (values_upto values frames (suc place)) (get_or members count 0) (sparse_at frames place)

    many : place < length frames
    many = omega (arith, there, ap length (sym so.others) ∙ length-set old place (sparse_at frames place))

    same : sparse_at (slice_set frames place next) place ≡ next
    same = get_or-set_same frames place next no_sparse_frame many

pub settling_last : (plan : PlanData) (controls : List Control) (values : Values) (old frames : List SparseFrame) (place : ℕ) (members : List ℕ) (count : ℕ) → count ≡ length members
    → IsSettling plan controls values old frames place members count → frames ≡ slice_set old place (followed_members plan controls (values_upto values old (suc place)) members (sparse_at old place))
settling_last plan controls values old frames place members count all so =
    sym so.others
    ∙ ap (slice_set old place)
    (sym (ap (λ (l : List ℕ). followed_members plan controls (values_upto values old (suc place)) l (sparse_at frames place)) (ap (λ (n : ℕ). drop n members) all ∙ drop-length members)) ∙ so.rest)

-- While the members of clusters are settled, cluster by cluster.
pub record IsSettlingAll (plan : PlanData) (controls : List Control) (values : Values) (old frames : List SparseFrame) (place : ℕ) (clusters : List ℕ) (count : ℕ) : Type 0 where
  pub rest : followed_clusters plan controls (values_upto values old (suc place)) (drop count clusters) (sparse_at frames place) ≡ followed_clusters plan controls (values_upto values old (suc place)) clusters (sparse_at old place)
  pub others : slice_set old place (sparse_at frames place) ≡ frames
  pub agree : AgreeOnStill plan (values_upto values frames (suc place)) (values_upto values old (suc place))

pub settling_all_first : (plan : PlanData) (controls : List Control) (values : Values) (old : List SparseFrame) (place : ℕ) (clusters : List ℕ) → IsSettlingAll plan controls values old old place clusters 0
settling_all_first plan controls values old place clusters = record { rest = refl; others = set-get_or old place no_sparse_frame; agree = record { still = λ s lt none. refl } }

pub settling_all_next : (plan : PlanData) (controls : List Control) (values : Values) (old frames : List SparseFrame) (place : ℕ) (clusters : List ℕ) (count : ℕ) → IsPlan plan → place < length old → length values ≡ length plan.controls
    → count < length clusters → IsSettlingAll plan controls values old frames place clusters count
    → IsSettlingAll plan controls values old (slice_set frames place (followed_members plan controls (values_upto values frames (suc place)) (members plan (get_or clusters count 0)) (sparse_at frames place))) place clusters (count + 1)
settling_all_next plan controls values old frames place clusters count is there long within so = record {
  rest =
      ap (followed_clusters plan controls mid (drop (count + 1) clusters)) (same ∙ same_members plan controls (values_upto values frames (suc place)) mid (members plan (get_or clusters count 0)) (sparse_at frames place) is so.agree)
      ∙ sym (ap (λ (l : List ℕ). followed_clusters plan controls mid l (sparse_at frames place)) (drop_more clusters count 0 within))
      ∙ so.rest;
  others = ap (slice_set old place) same ∙ sym (ap (λ (l : List SparseFrame). slice_set l place next) (sym so.others) ∙ set-set old place (sparse_at frames place) next);
  agree = still_behind plan values frames place next mid many long (λ s none. members_still plan controls (values_upto values frames (suc place)) (members plan (get_or clusters count 0)) s (sparse_at frames place) none) so.agree;
}
  where
    mid : Values
    mid = values_upto values old (suc place)

    next : SparseFrame
    next = followed_members plan controls (values_upto values frames (suc place)) (members plan (get_or clusters count 0)) (sparse_at frames place)

    many : place < length frames
    many = omega (arith, there, ap length (sym so.others) ∙ length-set old place (sparse_at frames place))

    same : sparse_at (slice_set frames place next) place ≡ next
    same = get_or-set_same frames place next no_sparse_frame many

pub settling_all_last : (plan : PlanData) (controls : List Control) (values : Values) (old frames : List SparseFrame) (place : ℕ) (clusters : List ℕ) (count : ℕ) → count ≡ length clusters
    → IsSettlingAll plan controls values old frames place clusters count → frames ≡ slice_set old place (followed_clusters plan controls (values_upto values old (suc place)) clusters (sparse_at old place))
settling_all_last plan controls values old frames place clusters count all so =
    sym so.others
    ∙ ap (slice_set old place)
    (sym (ap (λ (l : List ℕ). followed_clusters plan controls (values_upto values old (suc place)) l (sparse_at frames place)) (ap (λ (n : ℕ). drop n clusters) all ∙ drop-length clusters)) ∙ so.rest)
