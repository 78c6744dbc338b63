-- One cluster is renewed in frames, one frame after another.
use Rattle.std.proofs.Common.{◌≡◌, ◌≢◌, ◌∙◌, ◌<◌, ◌≤◌, ◌+◌, ◌==◌, ◌⊎◌, ℕ, zero, suc, eq-eqb, nat_eq, Bool, true, false, cond, List, [], ◌∷◌, length, is_err, inl, inr, refl, sym, ap, subst, arith, get_or-set_same, get_or-set_other}
use Rattle.std.specs.List.{All, list_any}
use Rattle.std.proofs.Math.Seq.{map-set_same}
use Rattle.std.proofs.lemmas.Bool.Decides.{eqb_tells}
use Rattle.std.proofs.lemmas.List.{length-set}
use Rattle.std.proofs.lemmas.List.Elements.{All-from_get_or}
use Rattle.ctrl_types.specs.declared.ids.Pair.{Pair}
use Rattle.ctrl_handlers.specs.Plan.{PlanData, IsPlan, members, control_in}
use Rattle.ctrl_clusters.specs.Rows.{Values, row_of, is_grabbed}
use Rattle.ctrl_clusters.specs.Overlay.{is_touched}
use Rattle.ctrl_clusters.proofs.NewRowLemmas.{not_equal, length_written}
use Rattle.ctrl_forecast.specs.Boards.{named_clusters}
use Rattle.ctrl_clusters.specs.Rising.{AreRisingBelow, with_or_without}
use Rattle.ctrl_forecast.specs.Frames.{FrameData, no_frame, frame_at, queued_of, Setting, row_result, row_over, values_before, base_at, renewed, renewed_at, IsKeptFrame, AreKeptFrames, IsRightAt, IsClusterRenewed}
use Rattle.ctrl_clusters.proofs.RisingLemmas.{passing, with_at, among_passing, marked_among, marked_passing, marked_rising, passing_below}
use Rattle.ctrl_forecast.proofs.RightLemmas.{right_moves, over_long, refused_touched, written_row, written_apart}

-- the values before a frame are as many as the controls
pub base_long : (plan : PlanData) (values : Values) (fs : List FrameData) (i : ℕ) → length values ≡ length plan.controls → AreKeptFrames plan fs → i < length fs → length (values_before values fs i) ≡ length plan.controls
unfolding AreKeptFrames
base_long plan values fs zero many are lt = many
base_long plan values fs (suc i) many are lt = (are i (omega (arith, lt))).long

-- a refused cluster has a member among the pairs, after the outcome of one is written
marked_touched : (s : Setting) (base : Values) (k j : ℕ) (frame : FrameData) → IsKeptFrame s.plan frame → k < length s.plan.clusters → j < length s.plan.clusters
    → list_any (nat_eq j) (with_or_without k (is_err (row_result s base frame.asked k)) frame.refused) ≡ true → is_touched frame.asked (members s.plan j) ≡ true
marked_touched s base k j frame is lt less among = by (eqb_tells k j) (sym (marked_among (length s.plan.clusters) k j fails frame.refused is.rising lt less) ∙ among)
  where
    fails : Bool
    fails = is_err (row_result s base frame.asked k)

    by : ((k == j) ≡ true × (k ≡ j)) ⊎ ((k == j) ≡ false × (k ≢ j)) → cond (nat_eq k j) fails (list_any (nat_eq j) frame.refused) ≡ true → is_touched frame.asked (members s.plan j) ≡ true
    by (inl e) h =
        subst (λ (x : ℕ). is_touched frame.asked (members s.plan x) ≡ true) e.1
        (refused_touched s base frame.asked k (sym (ap (λ (b : Bool). cond b fails (list_any (nat_eq j) frame.refused)) e.0) ∙ h))
    by (inr e) h = is.touched j less (sym (ap (λ (b : Bool). cond b fails (list_any (nat_eq j) frame.refused)) e.0) ∙ h)

-- a renewed frame is one
pub renewed_frame : (s : Setting) (base : Values) (k : ℕ) (frame : FrameData) → IsKeptFrame s.plan frame → k < length s.plan.clusters → IsKeptFrame s.plan (renewed s base k frame)
renewed_frame s base k frame is lt = record {
  long = length_written s.plan frame.values (record { cluster = k; row = row_over s base frame.asked k } ∷ []) ∙ is.long;
  rising = marked_rising (length s.plan.clusters) k (is_err (row_result s base frame.asked k)) frame.refused is.rising lt;
  names = is.names;
  touched = λ j less among. marked_touched s base k j frame is lt less among;
}

-- there is room for the cluster among the refused ones
pub marked_room : (s : Setting) (base : Values) (k : ℕ) (frame : FrameData) → IsKeptFrame s.plan frame → k < length s.plan.clusters
    → length (with_or_without k (is_err (row_result s base frame.asked k)) frame.refused) ≤ length frame.named
marked_room s base k frame is lt =
    let n : ℕ = length s.plan.clusters in
    let b : Bool = is_err (row_result s base frame.asked k) in
    let p : ℕ → Bool = is.rising.0 in
    let same : with_or_without k b frame.refused ≡ passing (with_at p k b) n = ap (with_or_without k b) is.rising.1 ∙ marked_passing p k n b lt in
    let fewer : length (passing (with_at p k b) n) ≤ length (named_clusters s.plan frame.asked) =
    passing_below (with_at p k b) (λ j. is_touched frame.asked (members s.plan j)) n
    (λ j less passes. marked_touched s base k j frame is lt less (ap (list_any (nat_eq j)) same ∙ among_passing (with_at p k b) n j less ∙ passes)) in
    omega (arith, fewer, ap length same, ap length is.names)

-- The frame at a place is renewed: the others stay, and of this one the other clusters do.
pub step_at : (s : Setting) (k p : ℕ) (fs : List FrameData) → p < length fs → frame_at (renewed_at s k p fs) p ≡ renewed s (base_at s fs p) k (frame_at fs p)
step_at s k p fs lt = get_or-set_same fs p (renewed s (base_at s fs p) k (frame_at fs p)) no_frame lt

pub step_else : (s : Setting) (k p i : ℕ) (fs : List FrameData) → i ≢ p → frame_at (renewed_at s k p fs) i ≡ frame_at fs i
step_else s k p i fs other = get_or-set_other fs p i (renewed s (base_at s fs p) k (frame_at fs p)) no_frame other

step_asked : (s : Setting) (k p i : ℕ) (fs : List FrameData) → p < length fs → (frame_at (renewed_at s k p fs) i).asked ≡ (frame_at fs i).asked
step_asked s k p i fs lt = by (eqb_tells i p)
  where
    by : ((i == p) ≡ true × (i ≡ p)) ⊎ ((i == p) ≡ false × (i ≢ p)) → (frame_at (renewed_at s k p fs) i).asked ≡ (frame_at fs i).asked
    by (inl e) = subst (λ (x : ℕ). (frame_at (renewed_at s k p fs) x).asked ≡ (frame_at fs x).asked) (sym e.1) (ap (λ (f : FrameData). f.asked) (step_at s k p fs lt))
    by (inr e) = ap (λ (f : FrameData). f.asked) (step_else s k p i fs e.1)

pub step_rows : (s : Setting) (k p j i : ℕ) (fs : List FrameData) → IsPlan s.plan → AreKeptFrames s.plan fs → p < length fs → j < length s.plan.clusters → k ≢ j
    → row_of (frame_at (renewed_at s k p fs) i).values (members s.plan j) ≡ row_of (frame_at fs i).values (members s.plan j)
unfolding AreKeptFrames
step_rows s k p j i fs is are lt less other = by (eqb_tells i p)
  where
    by : ((i == p) ≡ true × (i ≡ p)) ⊎ ((i == p) ≡ false × (i ≢ p)) → row_of (frame_at (renewed_at s k p fs) i).values (members s.plan j) ≡ row_of (frame_at fs i).values (members s.plan j)
    by (inl e) =
        subst (λ (x : ℕ). row_of (frame_at (renewed_at s k p fs) x).values (members s.plan j) ≡ row_of (frame_at fs x).values (members s.plan j)) (sym e.1)
        (ap (λ (f : FrameData). row_of f.values (members s.plan j)) (step_at s k p fs lt)
        ∙ written_apart s.plan (frame_at fs p).values k j (row_over s (base_at s fs p) (frame_at fs p).asked k) is (are p lt).long less other)
    by (inr e) = ap (λ (f : FrameData). row_of f.values (members s.plan j)) (step_else s k p i fs e.1)

pub step_refused : (s : Setting) (k p j i : ℕ) (fs : List FrameData) → AreKeptFrames s.plan fs → p < length fs → k < length s.plan.clusters → j < length s.plan.clusters → k ≢ j
    → list_any (nat_eq j) (frame_at (renewed_at s k p fs) i).refused ≡ list_any (nat_eq j) (frame_at fs i).refused
unfolding AreKeptFrames
step_refused s k p j i fs are lt within less other = by (eqb_tells i p)
  where
    by : ((i == p) ≡ true × (i ≡ p)) ⊎ ((i == p) ≡ false × (i ≢ p)) → list_any (nat_eq j) (frame_at (renewed_at s k p fs) i).refused ≡ list_any (nat_eq j) (frame_at fs i).refused
    by (inl e) =
        subst (λ (x : ℕ). list_any (nat_eq j) (frame_at (renewed_at s k p fs) x).refused ≡ list_any (nat_eq j) (frame_at fs x).refused) (sym e.1)
        (ap (λ (f : FrameData). list_any (nat_eq j) f.refused) (step_at s k p fs lt)
        ∙ marked_among (length s.plan.clusters) k j (is_err (row_result s (base_at s fs p) (frame_at fs p).asked k)) (frame_at fs p).refused (are p lt).rising within less
        ∙ ap (λ (b : Bool). cond b (is_err (row_result s (base_at s fs p) (frame_at fs p).asked k)) (list_any (nat_eq j) (frame_at fs p).refused)) (not_equal k j other))
    by (inr e) = ap (λ (f : FrameData). list_any (nat_eq j) f.refused) (step_else s k p i fs e.1)

-- the values before each frame stay, in the other clusters
step_base : (s : Setting) (k p j i : ℕ) (fs : List FrameData) → IsPlan s.plan → AreKeptFrames s.plan fs → p < length fs → j < length s.plan.clusters → k ≢ j
    → row_of (base_at s (renewed_at s k p fs) i) (members s.plan j) ≡ row_of (base_at s fs i) (members s.plan j)
step_base s k p j zero fs is are lt less other = refl
step_base s k p j (suc i) fs is are lt less other = step_rows s k p j i fs is are lt less other

-- and up to the place in all
step_early : (s : Setting) (k p i : ℕ) (fs : List FrameData) → i ≤ p → base_at s (renewed_at s k p fs) i ≡ base_at s fs i
step_early s k p zero fs le = refl
step_early s k p (suc i) fs le = ap (λ (f : FrameData). f.values) (step_else s k p i fs (λ e. absurd (omega (arith, le, e))))

-- the same grabs agree
pub ranges_agree : (s : Setting) (cs : List ℕ) → All (λ c. control_in s.controls c ≡ control_in s.controls c) cs
ranges_agree s cs = All-from_get_or (λ c. control_in s.controls c ≡ control_in s.controls c) cs 0 (λ i lt. refl)

pub grabs_agree : (s : Setting) (cs : List ℕ) → All (λ c. is_grabbed s.grabs c ≡ is_grabbed s.grabs c) cs
grabs_agree s cs = All-from_get_or (λ c. is_grabbed s.grabs c ≡ is_grabbed s.grabs c) cs 0 (λ i lt. refl)

step_frames : (s : Setting) (k p : ℕ) (fs : List FrameData) → AreKeptFrames s.plan fs → p < length fs → k < length s.plan.clusters → AreKeptFrames s.plan (renewed_at s k p fs)
unfolding AreKeptFrames
step_frames s k p fs are lt within i less = by (eqb_tells i p)
  where
    by : ((i == p) ≡ true × (i ≡ p)) ⊎ ((i == p) ≡ false × (i ≢ p)) → IsKeptFrame s.plan (frame_at (renewed_at s k p fs) i)
    by (inl e) =
        subst (λ (x : ℕ). IsKeptFrame s.plan (frame_at (renewed_at s k p fs) x)) (sym e.1)
        (subst (IsKeptFrame s.plan) (sym (step_at s k p fs lt)) (renewed_frame s (base_at s fs p) k (frame_at fs p) (are p lt) within))
    by (inr e) = subst (IsKeptFrame s.plan) (sym (step_else s k p i fs e.1)) (are i (omega (arith, less, length-set fs p (renewed s (base_at s fs p) k (frame_at fs p)))))

-- the cluster is right at the place
step_here : (s : Setting) (k p : ℕ) (fs : List FrameData) → IsPlan s.plan → AreKeptFrames s.plan fs → p < length fs → k < length s.plan.clusters → IsRightAt s (renewed_at s k p fs) k p
unfolding AreKeptFrames
step_here s k p fs is are lt within = record {
  row =
      ap (λ (f : FrameData). row_of f.values (members s.plan k)) (step_at s k p fs lt)
      ∙ written_row s.plan (frame_at fs p).values k (row_over s base asked k) is (are p lt).long within (over_long s base asked k)
      ∙ sym (ap (λ (b : Values). row_over s b (frame_at (renewed_at s k p fs) p).asked k) (step_early s k p p fs (omega arith)) ∙ ap (λ (pairs : List Pair). row_over s base pairs k) (step_asked s k p p fs lt));
  refused =
      ap (λ (f : FrameData). list_any (nat_eq k) f.refused) (step_at s k p fs lt)
      ∙ marked_among (length s.plan.clusters) k k (is_err (row_result s base asked k)) (frame_at fs p).refused (are p lt).rising within within
      ∙ ap (λ (b : Bool). cond b (is_err (row_result s base asked k)) (list_any (nat_eq k) (frame_at fs p).refused)) (eq-eqb k k refl)
      ∙ sym (ap (λ (b : Values). is_err (row_result s b (frame_at (renewed_at s k p fs) p).asked k)) (step_early s k p p fs (omega arith)) ∙ ap (λ (pairs : List Pair). is_err (row_result s base pairs k)) (step_asked s k p p fs lt));
}
  where
    base : Values
    base = base_at s fs p

    asked : List Pair
    asked = (frame_at fs p).asked

-- nothing is renewed yet
pub renewed_none : (s : Setting) (k below : ℕ) (fs : List FrameData) → AreKeptFrames s.plan fs → ((i : ℕ) → i < below → i < length fs → IsRightAt s fs k i) → IsClusterRenewed s k below fs fs
renewed_none s k below fs are right = record { frames_ok = are; queued = refl; here = right; stay = λ j i less other lt h. h }

-- one more frame is
pub renewed_next : (s : Setting) (k p : ℕ) (old fs : List FrameData) → IsPlan s.plan → k < length s.plan.clusters → p < length fs → IsClusterRenewed s k p old fs → IsClusterRenewed s k (p + 1) old (renewed_at s k p fs)
renewed_next s k p old fs is within lt so_far = record {
  frames_ok = step_frames s k p fs so_far.frames_ok lt within;
  queued = map-set_same queued_of fs p (renewed s (base_at s fs p) k (frame_at fs p)) no_frame refl ∙ so_far.queued;
  here = λ i below less. at i (eqb_tells i p) below (omega (arith, less, long));
  stay = λ j i less other lte h.
      right_moves s.verdicts s.plan s.controls s.controls s.grabs s.grabs s.values s.values fs (renewed_at s k p fs) j i i
      (sym (step_base s k p j i fs is so_far.frames_ok lt less (λ e. other (sym e)))) (ranges_agree s (members s.plan j)) (grabs_agree s (members s.plan j)) (sym (step_rows s k p j i fs is so_far.frames_ok lt less (λ e. other (sym e))))
      (sym (step_asked s k p i fs lt)) (sym (step_refused s k p j i fs so_far.frames_ok lt within less (λ e. other (sym e))))
      (so_far.stay j i less other (omega (arith, lte, long)) h);
}
  where
    long : length (renewed_at s k p fs) ≡ length fs
    long = length-set fs p (renewed s (base_at s fs p) k (frame_at fs p))

    at : (i : ℕ) → ((i == p) ≡ true × (i ≡ p)) ⊎ ((i == p) ≡ false × (i ≢ p)) → i < p + 1 → i < length fs → IsRightAt s (renewed_at s k p fs) k i
    at i (inl e) below less = subst (IsRightAt s (renewed_at s k p fs) k) (sym e.1) (step_here s k p fs is so_far.frames_ok lt within)
    at i (inr e) below less =
        right_moves s.verdicts s.plan s.controls s.controls s.grabs s.grabs s.values s.values fs (renewed_at s k p fs) k i i
        (ap (λ (b : Values). row_of b (members s.plan k)) (sym (step_early s k p i fs (omega (arith, below))))) (ranges_agree s (members s.plan k)) (grabs_agree s (members s.plan k))
        (ap (λ (f : FrameData). row_of f.values (members s.plan k)) (sym (step_else s k p i fs e.1))) (sym (step_asked s k p i fs lt))
        (ap (λ (f : FrameData). list_any (nat_eq k) f.refused) (sym (step_else s k p i fs e.1)))
        (so_far.here i (omega (arith, below, e.1)) less)
