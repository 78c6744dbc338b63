-- A cluster is renewed frame after frame, up to the first that comes out as it was.
use Rattle.std.proofs.Common.{◌≡◌, ◌≢◌, ◌∙◌, ◌<◌, ◌≤◌, ◌+◌, ◌==◌, ◌⊎◌, ℕ, zero, suc, nat_eq, Bool, true, false, not, cond, List, length, Option, None, Some, unwrap_or, is_err, inl, inr, refl, sym, ap, subst, arith}
use Rattle.std.specs.List.{list_any}
use Rattle.std.specs.Option.{option_and_then}
use Rattle.std.proofs.lemmas.Bool.{cases_lt}
use Rattle.std.proofs.lemmas.Bool.Decides.{eqb_tells}
use Rattle.std.proofs.lemmas.List.{length-set}
use Rattle.ctrl_types.specs.declared.value.CtrlValue.{CtrlValue}
use Rattle.ctrl_handlers.specs.Plan.{PlanData, IsPlan, cluster_of, members}
use Rattle.ctrl_clusters.specs.Rows.{Values, value_at, member_value, row_of}
use Rattle.ctrl_clusters.specs.NewRows.{one_row, value_among, written}
use Rattle.ctrl_clusters.proofs.NewRowLemmas.{same_values, length_written, written_at}
use Rattle.ctrl_clusters.proofs.OverlayLemmas.{value_own}
use Rattle.ctrl_forecast.specs.Unchanged.{is_same_outcome}
use Rattle.ctrl_clusters.specs.Rising.{AreRisingBelow, with_or_without}
use Rattle.ctrl_forecast.specs.Frames.{FrameData, frame_at, Setting, row_result, row_over, values_before, base_at, with_row_result, renewed, renewed_at, IsKeptFrame, AreKeptFrames, IsRightAt, IsAlikeIn, IsClusterRenewed}
use Rattle.ctrl_clusters.proofs.RisingLemmas.{with_at, among_passing, marked_passing, passing_same}
use Rattle.ctrl_forecast.proofs.RightLemmas.{right_moves}
use Rattle.ctrl_forecast.proofs.RenewLemmas.{ranges_agree, grabs_agree, step_at, step_else, step_rows, step_refused, renewed_next}
use Rattle.ctrl_forecast.proofs.UnchangedLemmas.{same_outcome}

-- values stay where a cluster gets the row that it has
written_own : (plan : PlanData) (values : Values) (k : ℕ) (row : List CtrlValue) → row_of values (members plan k) ≡ row → written plan values (one_row k row) ≡ values
written_own plan values k row same =
    same_values (written plan values (one_row k row)) values (length_written plan values (one_row k row))
    (λ c lt. written_at plan values (one_row k row) c (omega (arith, lt, length_written plan values (one_row k row))) ∙ own c (cluster_of plan c))
  where
    by : (c j : ℕ) → ((k == j) ≡ true × (k ≡ j)) ⊎ ((k == j) ≡ false × (k ≢ j))
        → unwrap_or (option_and_then (λ (r : List CtrlValue). member_value (members plan j) r c) (cond (nat_eq k j) (Some row) None)) (value_at values c) ≡ value_at values c
    by c j (inl e) =
        ap (λ (b : Bool). unwrap_or (option_and_then (λ (r : List CtrlValue). member_value (members plan j) r c) (cond b (Some row) None)) (value_at values c)) e.0
        ∙ ap (λ (r : List CtrlValue). unwrap_or (member_value (members plan j) r c) (value_at values c)) (sym same ∙ ap (λ (x : ℕ). row_of values (members plan x)) e.1)
        ∙ value_own values (members plan j) c
    by c j (inr e) = ap (λ (b : Bool). unwrap_or (option_and_then (λ (r : List CtrlValue). member_value (members plan j) r c) (cond b (Some row) None)) (value_at values c)) e.0

    own : (c : ℕ) (o : Option ℕ) → unwrap_or (value_among plan (one_row k row) o c) (value_at values c) ≡ value_at values c
    own c None = refl
    own c (Some j) = by c j (eqb_tells k j)

-- and refused clusters do where it is put among them or taken out as it was
marked_own : (n k : ℕ) (b : Bool) (ks : List ℕ) → AreRisingBelow n ks → k < n → list_any (nat_eq k) ks ≡ b → with_or_without k b ks ≡ ks
marked_own n k b ks rising lt is =
    ap (with_or_without k b) rising.1 ∙ marked_passing rising.0 k n b lt ∙ passing_same (with_at rising.0 k b) rising.0 n (λ j less. by j (eqb_tells k j)) ∙ sym rising.1
  where
    own : rising.0 k ≡ b
    own = sym (ap (list_any (nat_eq k)) rising.1 ∙ among_passing rising.0 n k lt) ∙ is

    by : (j : ℕ) → ((k == j) ≡ true × (k ≡ j)) ⊎ ((k == j) ≡ false × (k ≢ j)) → cond (nat_eq k j) b (rising.0 j) ≡ rising.0 j
    by j (inl e) = ap (λ (c : Bool). cond c b (rising.0 j)) e.0 ∙ sym own ∙ ap rising.0 e.1
    by j (inr e) = ap (λ (c : Bool). cond c b (rising.0 j)) e.0

-- so a frame of which a cluster comes out as it was is as it was
pub frame_own : (plan : PlanData) (k : ℕ) (row : List CtrlValue) (b : Bool) (frame : FrameData) → IsKeptFrame plan frame → k < length plan.clusters
    → is_same_outcome (row_of frame.values (members plan k)) (list_any (nat_eq k) frame.refused) row b ≡ true → with_row_result plan k row b frame ≡ frame
frame_own plan k row b frame is lt same = λ i. record frame { values = written_own plan frame.values k row both.0 i; refused = marked_own (length plan.clusters) k b frame.refused is.rising lt both.1 i }
  where
    both : (row_of frame.values (members plan k) ≡ row) × (list_any (nat_eq k) frame.refused ≡ b)
    both = same_outcome (row_of frame.values (members plan k)) (list_any (nat_eq k) frame.refused) row b same

-- a frame that is written only where the cluster comes out otherwise has the outcome
pub frame_replaced : (plan : PlanData) (k : ℕ) (row : List CtrlValue) (b : Bool) (frame : FrameData) → IsKeptFrame plan frame → k < length plan.clusters
    → cond (not (is_same_outcome (row_of frame.values (members plan k)) (list_any (nat_eq k) frame.refused) row b)) (with_row_result plan k row b frame) frame ≡ with_row_result plan k row b frame
frame_replaced plan k row b frame is lt = by (is_same_outcome (row_of frame.values (members plan k)) (list_any (nat_eq k) frame.refused) row b) refl
  where
    by : (t : Bool) → is_same_outcome (row_of frame.values (members plan k)) (list_any (nat_eq k) frame.refused) row b ≡ t → cond (not t) (with_row_result plan k row b frame) frame ≡ with_row_result plan k row b frame
    by true h = sym (frame_own plan k row b frame is lt h)
    by false h = refl

-- one frame more is renewed: the other clusters stay
pub alike_next : (s : Setting) (k p j : ℕ) (old fs : List FrameData) → IsPlan s.plan → AreKeptFrames s.plan fs → p < length fs → k < length s.plan.clusters → j < length s.plan.clusters → j ≢ k
    → IsAlikeIn s.plan j old fs → IsAlikeIn s.plan j old (renewed_at s k p fs)
alike_next s k p j old fs is are less lt within other so_far = record {
  rows = λ i. step_rows s k p j i fs is are less within (λ e. other (sym e)) ∙ so_far.rows i;
  refused = λ i. step_refused s k p j i fs are less lt within (λ e. other (sym e)) ∙ so_far.refused i;
}

-- and the frames behind it do
pub later_next : (s : Setting) (k p : ℕ) (old fs : List FrameData) → ((i : ℕ) → p ≤ i → frame_at fs i ≡ frame_at old i) → (i : ℕ) → p + 1 ≤ i → frame_at (renewed_at s k p fs) i ≡ frame_at old i
later_next s k p old fs later i le = step_else s k p i fs (λ e. absurd (omega (arith, le, e))) ∙ later i (omega (arith, le))

-- The frame at a place comes out as it was: the frames behind it stand over the same row, and the cluster is renewed in all frames.
pub walk_stops : (s : Setting) (k from p : ℕ) (old fs : List FrameData) → IsPlan s.plan → k < length s.plan.clusters → from ≤ p → p < length fs → length fs ≡ length old
    → ((i : ℕ) → i ≢ from → i < length old → IsRightAt s old k i) → ((i : ℕ) → p ≤ i → frame_at fs i ≡ frame_at old i)
    → is_same_outcome (row_of (frame_at fs p).values (members s.plan k)) (list_any (nat_eq k) (frame_at fs p).refused) (row_over s (base_at s fs p) (frame_at fs p).asked k) (is_err (row_result s (base_at s fs p) (frame_at fs p).asked k)) ≡ true
    → IsClusterRenewed s k p old fs → IsClusterRenewed s k (length (renewed_at s k p fs)) old (renewed_at s k p fs)
unfolding AreKeptFrames
walk_stops s k from p old fs is lt first less long elsewhere later same so_far = record {
  frames_ok = next.frames_ok;
  queued = next.queued;
  here = λ i below within. at i (cases_lt i (p + 1)) within;
  stay = next.stay;
}
  where
    gs : List FrameData
    gs = renewed_at s k p fs

    next : IsClusterRenewed s k (p + 1) old gs
    next = renewed_next s k p old fs is lt less so_far

    many : length gs ≡ length old
    many = length-set fs p (renewed s (base_at s fs p) k (frame_at fs p)) ∙ long

    by : (i : ℕ) → ((i == p) ≡ true × (i ≡ p)) ⊎ ((i == p) ≡ false × (i ≢ p)) → frame_at gs i ≡ frame_at fs i
    by i (inl e) =
        subst (λ (x : ℕ). frame_at gs x ≡ frame_at fs x) (sym e.1)
        (step_at s k p fs less ∙ frame_own s.plan k (row_over s (base_at s fs p) (frame_at fs p).asked k) (is_err (row_result s (base_at s fs p) (frame_at fs p).asked k)) (frame_at fs p) (so_far.frames_ok p less) lt same)
    by i (inr e) = step_else s k p i fs e.1

    own : (i : ℕ) → p ≤ i → frame_at old i ≡ frame_at gs i
    own i le = sym (by i (eqb_tells i p) ∙ later i le)

    based : (i : ℕ) → p + 1 ≤ i → values_before s.values old i ≡ values_before s.values gs i
    based zero le = absurd (omega (arith, le))
    based (suc i) le = ap (λ (f : FrameData). f.values) (own i (omega (arith, le)))

    at : (i : ℕ) → (i < p + 1) ⊎ (p + 1 ≤ i) → i < length gs → IsRightAt s gs k i
    at i (inl early) within = next.here i early within
    at i (inr le) within =
        right_moves s.verdicts s.plan s.controls s.controls s.grabs s.grabs s.values s.values old gs k i i
        (ap (λ (v : Values). row_of v (members s.plan k)) (based i le)) (ranges_agree s (members s.plan k)) (grabs_agree s (members s.plan k))
        (ap (λ (f : FrameData). row_of f.values (members s.plan k)) (own i (omega (arith, le)))) (ap (λ (f : FrameData). f.asked) (own i (omega (arith, le))))
        (ap (λ (f : FrameData). list_any (nat_eq k) f.refused) (own i (omega (arith, le))))
        (elsewhere i (λ e. absurd (omega (arith, le, first, e))) (omega (arith, within, many)))

-- what a step that doesn't change the frame says of the outcome
pub stopped : (changed same : Bool) → changed ≡ false → changed ≡ not same → same ≡ true
stopped changed true stops is = refl
stopped true false stops is = cc
stopped false false stops is = cc
