-- What is kept of queued frames, frame by frame and cluster by cluster.
use Rattle.std.proofs.Common.{◌≡◌, ◌≢◌, ◌∙◌, ◌<◌, ◌==◌, ◌⊎◌, ◌||◌, ℕ, zero, suc, nat_eq, Bool, true, false, List, [], ◌∷◌, length, map, drop, get_or, is_err, inl, inr, refl, sym, ap, subst, arith}
use Rattle.std.specs.List.{list_any}
use Rattle.std.proofs.lemmas.Bool.Decides.{eqb_tells}
use Rattle.std.proofs.lemmas.List.{length-map}
use Rattle.ctrl_calls.specs.Meanings.{Verdicts}
use Rattle.ctrl_settle.specs.Control.{Control}
use Rattle.ctrl_handlers.specs.Plan.{PlanData, IsPlan, IsFinished, members}
use Rattle.ctrl_clusters.specs.Rows.{Values, row_of, Grabs}
use Rattle.ctrl_clusters.specs.Overlay.{row_after, overlay, refused_clusters}
use Rattle.ctrl_clusters.proofs.OverlayLemmas.{length_overlay, refused_are}
use Rattle.ctrl_forecast.specs.declared.board.Forecast.{Forecast}
use Rattle.ctrl_forecast.specs.Forecasts.{QueuedData, forecasts}
use Rattle.ctrl_forecast.specs.Boards.{board_of, named_clusters}
use Rattle.ctrl_forecast.specs.Frames.{FrameData, no_frame, queued_of, forecast_of, board_seen, Setting, setting, IsKeptFrame, AreKeptFrames, IsRightAt, AreReady, IsClusterRenewed}
use Rattle.ctrl_clusters.proofs.RisingLemmas.{among_passing, passing_same}
use Rattle.ctrl_forecast.proofs.RightLemmas.{overlay_row, overlay_of_rows, refused_touched}

-- what is right behind a frame is so over the values that it leaves
pub right_behind : (verdicts : Verdicts) (plan : PlanData) (controls : List Control) (grabs : Grabs) (values : Values) (f : FrameData) (fs : List FrameData) (k i : ℕ)
    → IsRightAt (setting verdicts plan controls f.values grabs) fs k i → IsRightAt (setting verdicts plan controls values grabs) (f ∷ fs) k (suc i)
right_behind verdicts plan controls grabs values f fs k zero right = record { row = right.row; refused = right.refused }
right_behind verdicts plan controls grabs values f fs k (suc i) right = record { row = right.row; refused = right.refused }

pub right_ahead : (verdicts : Verdicts) (plan : PlanData) (controls : List Control) (grabs : Grabs) (values : Values) (f : FrameData) (fs : List FrameData) (k i : ℕ)
    → IsRightAt (setting verdicts plan controls values grabs) (f ∷ fs) k (suc i) → IsRightAt (setting verdicts plan controls f.values grabs) fs k i
right_ahead verdicts plan controls grabs values f fs k zero right = record { row = right.row; refused = right.refused }
right_ahead verdicts plan controls grabs values f fs k (suc i) right = record { row = right.row; refused = right.refused }

-- the first row of some
first_row : List Forecast → Forecast
first_row rows = get_or rows 0 (forecast_of no_frame)

-- the first frame has what its pairs make of the values
head_values : (verdicts : Verdicts) (plan : PlanData) (controls : List Control) (grabs : Grabs) (values : Values) (f : FrameData) (fs : List FrameData)
    → map forecast_of (f ∷ fs) ≡ forecasts verdicts plan controls values grabs (map queued_of (f ∷ fs)) → f.values ≡ overlay verdicts plan controls values grabs f.asked
unfolding forecasts first_row
head_values verdicts plan controls grabs values f fs is = ap (λ (rows : List Forecast). (first_row rows).values) is

head_refused : (verdicts : Verdicts) (plan : PlanData) (controls : List Control) (grabs : Grabs) (values : Values) (f : FrameData) (fs : List FrameData)
    → map forecast_of (f ∷ fs) ≡ forecasts verdicts plan controls values grabs (map queued_of (f ∷ fs)) → f.refused ≡ refused_clusters verdicts plan controls values grabs f.asked
unfolding forecasts first_row
head_refused verdicts plan controls grabs values f fs is = ap (λ (rows : List Forecast). (first_row rows).refused) is

-- and the others have what theirs make of what it leaves
tail_rows : (verdicts : Verdicts) (plan : PlanData) (controls : List Control) (grabs : Grabs) (values : Values) (f : FrameData) (fs : List FrameData)
    → map forecast_of (f ∷ fs) ≡ forecasts verdicts plan controls values grabs (map queued_of (f ∷ fs)) → map forecast_of fs ≡ forecasts verdicts plan controls f.values grabs (map queued_of fs)
unfolding forecasts
tail_rows verdicts plan controls grabs values f fs is =
    let rest : map forecast_of fs ≡ forecasts verdicts plan controls (overlay verdicts plan controls values grabs f.asked) grabs (map queued_of fs) = ap (drop 1) is in
    rest ∙ ap (λ (v : Values). forecasts verdicts plan controls v grabs (map queued_of fs)) (sym (head_values verdicts plan controls grabs values f fs is))

-- every cluster of kept frames is right
pub rows_right : (verdicts : Verdicts) (plan : PlanData) (controls : List Control) (grabs : Grabs) (values : Values) (fs : List FrameData) → IsPlan plan → length values ≡ length plan.controls
    → map forecast_of fs ≡ forecasts verdicts plan controls values grabs (map queued_of fs) → (k i : ℕ) → k < length plan.clusters → i < length fs → IsRightAt (setting verdicts plan controls values grabs) fs k i
rows_right verdicts plan controls grabs values [] ok many is k i lt less = absurd (omega (arith, less))
rows_right verdicts plan controls grabs values (f ∷ fs) ok many is k zero lt less =
    let own : f.values ≡ overlay verdicts plan controls values grabs f.asked = head_values verdicts plan controls grabs values f fs is in
    let gone : f.refused ≡ refused_clusters verdicts plan controls values grabs f.asked = head_refused verdicts plan controls grabs values f fs is in
    record {
      row = ap (λ (v : Values). row_of v (members plan k)) own ∙ overlay_row (setting verdicts plan controls values grabs) values f.asked k ok many lt;
      refused = ap (list_any (nat_eq k)) gone ∙ refused_are verdicts plan controls values grabs f.asked k lt;
    }
rows_right verdicts plan controls grabs values (f ∷ fs) ok many is k (suc i) lt less =
    right_behind verdicts plan controls grabs values f fs k i
    (rows_right verdicts plan controls grabs f.values fs ok (ap length (head_values verdicts plan controls grabs values f fs is) ∙ length_overlay verdicts plan controls values grabs f.asked ∙ many)
    (tail_rows verdicts plan controls grabs values f fs is) k i lt (omega (arith, less)))

-- the clusters that a frame's pairs name
abbrev names_of : PlanData → List FrameData → Type 0
names_of plan fs = map (λ (f : FrameData). f.named) fs ≡ map (λ (q : QueuedData). named_clusters plan q.asked) (map queued_of fs)

-- a first frame and others
pub frames_cons : (plan : PlanData) (f : FrameData) (fs : List FrameData) → IsKeptFrame plan f → AreKeptFrames plan fs → AreKeptFrames plan (f ∷ fs)
unfolding AreKeptFrames
frames_cons plan f fs is are zero lt = is
frames_cons plan f fs is are (suc i) lt = are i (omega (arith, lt))

pub frames_tail : (plan : PlanData) (f : FrameData) (fs : List FrameData) → AreKeptFrames plan (f ∷ fs) → AreKeptFrames plan fs
unfolding AreKeptFrames
frames_tail plan f fs are i lt = are (suc i) (omega (arith, lt))

pub frames_head : (plan : PlanData) (f : FrameData) (fs : List FrameData) → AreKeptFrames plan (f ∷ fs) → IsKeptFrame plan f
unfolding AreKeptFrames
frames_head plan f fs are = are 0 (omega arith)

-- kept frames are frames
pub rows_frames : (verdicts : Verdicts) (plan : PlanData) (controls : List Control) (grabs : Grabs) (values : Values) (fs : List FrameData) → length values ≡ length plan.controls
    → names_of plan fs → map forecast_of fs ≡ forecasts verdicts plan controls values grabs (map queued_of fs) → AreKeptFrames plan fs
unfolding AreKeptFrames refused_clusters
rows_frames verdicts plan controls grabs values [] many names is = λ i lt. absurd (omega (arith, lt))
rows_frames verdicts plan controls grabs values (f ∷ fs) many names is = frames_cons plan f fs first (rows_frames verdicts plan controls grabs f.values fs long (ap (drop 1) names) (tail_rows verdicts plan controls grabs values f fs is))
  where
    gone : f.refused ≡ refused_clusters verdicts plan controls values grabs f.asked
    gone = head_refused verdicts plan controls grabs values f fs is

    long : length f.values ≡ length plan.controls
    long = ap length (head_values verdicts plan controls grabs values f fs is) ∙ length_overlay verdicts plan controls values grabs f.asked ∙ many

    first : IsKeptFrame plan f
    first = record {
      long = long;
      rising = (λ k. is_err (row_after verdicts plan controls values grabs f.asked k), gone);
      names = ap (λ (ks : List (List ℕ)). get_or ks 0 []) names;
      touched = λ k lt among. refused_touched (setting verdicts plan controls values grabs) values f.asked k (sym (refused_are verdicts plan controls values grabs f.asked k lt) ∙ ap (list_any (nat_eq k)) (sym gone) ∙ among);
    }

-- frames of which each cluster is right are kept as they should be
pub right_rows : (verdicts : Verdicts) (plan : PlanData) (controls : List Control) (grabs : Grabs) (values : Values) (fs : List FrameData) → IsFinished plan → length values ≡ length plan.controls → AreKeptFrames plan fs
    → ((k i : ℕ) → k < length plan.clusters → i < length fs → IsRightAt (setting verdicts plan controls values grabs) fs k i) → map forecast_of fs ≡ forecasts verdicts plan controls values grabs (map queued_of fs)
unfolding forecasts refused_clusters
right_rows verdicts plan controls grabs values [] done many are right = refl
right_rows verdicts plan controls grabs values (f ∷ fs) done many are right =
    row_on
    (right_rows verdicts plan controls grabs f.values fs done first.long (frames_tail plan f fs are) (λ k i lt less. right_ahead verdicts plan controls grabs values f fs k i (right k (suc i) lt (omega (arith, less))))
    ∙ ap (λ (v : Values). forecasts verdicts plan controls v grabs (map queued_of fs)) own)
  where
    first : IsKeptFrame plan f
    first = frames_head plan f fs are

    own : f.values ≡ overlay verdicts plan controls values grabs f.asked
    own = overlay_of_rows (setting verdicts plan controls values grabs) values f.values f.asked done many first.long (λ k lt. (right k 0 lt (omega arith)).row)

    fails : ℕ → Bool
    fails k = is_err (row_after verdicts plan controls values grabs f.asked k)

    gone : f.refused ≡ refused_clusters verdicts plan controls values grabs f.asked
    gone =
        first.rising.1
        ∙ passing_same first.rising.0 fails (length plan.clusters)
        (λ k lt. sym (among_passing first.rising.0 (length plan.clusters) k lt) ∙ ap (list_any (nat_eq k)) (sym first.rising.1) ∙ (right k 0 lt (omega arith)).refused)

    row_on : map forecast_of fs ≡ forecasts verdicts plan controls (overlay verdicts plan controls values grabs f.asked) grabs (map queued_of fs)
        → map forecast_of (f ∷ fs) ≡ forecasts verdicts plan controls values grabs (map queued_of (f ∷ fs))
    row_on rest = λ i. (record { request = f.request; buffer = f.buffer; values = own i; refused = gone i }) ∷ rest i

right_names : (plan : PlanData) (fs : List FrameData) → AreKeptFrames plan fs → names_of plan fs
right_names plan [] are = refl
right_names plan (f ∷ fs) are = λ i. (frames_head plan f fs are).names i ∷ right_names plan fs (frames_tail plan f fs are) i

-- frames that are right but for no cluster are kept as they should be
pub ready_kept : (verdicts : Verdicts) (plan : PlanData) (controls : List Control) (grabs : Grabs) (values : Values) (from : ℕ) (fs : List FrameData) → IsFinished plan → length values ≡ length plan.controls
    → AreReady (setting verdicts plan controls values grabs) from [] fs → board_seen fs ≡ board_of verdicts plan controls values grabs (map queued_of fs)
ready_kept verdicts plan controls grabs values from fs done many ready =
    λ i. record {
      queued = map queued_of fs;
      named = right_names plan fs ready.frames_ok i;
      forecasts = right_rows verdicts plan controls grabs values fs done many ready.frames_ok (λ k j lt less. ready.apart k j lt refl less) i;
    }

-- one cluster fewer has to be renewed
pub ready_next : (s : Setting) (from c : ℕ) (left : List ℕ) (fs gs : List FrameData) → AreReady s from (c ∷ left) fs → IsClusterRenewed s c (length gs) fs gs → AreReady s from left gs
ready_next s from c left fs gs ready done = record {
  frames_ok = done.frames_ok;
  before = λ k i lt early less. by k (eqb_tells k c) i lt less (λ other. ready.before k i lt early (omega (arith, less, long)));
  apart = λ k i lt none less. by k (eqb_tells k c) i lt less (λ other. ready.apart k i lt (out k other none) (omega (arith, less, long)));
}
  where
    long : length gs ≡ length fs
    long = sym (length-map gs queued_of) ∙ ap length done.queued ∙ length-map fs queued_of

    out : (k : ℕ) → nat_eq k c ≡ false → list_any (nat_eq k) left ≡ false → list_any (nat_eq k) (c ∷ left) ≡ false
    out k other none = ap (λ (b : Bool). b || list_any (nat_eq k) left) other ∙ none

    by : (k : ℕ) → ((k == c) ≡ true × (k ≡ c)) ⊎ ((k == c) ≡ false × (k ≢ c)) → (i : ℕ) → k < length s.plan.clusters → i < length gs → (nat_eq k c ≡ false → IsRightAt s fs k i) → IsRightAt s gs k i
    by k (inl e) i lt less h = subst (λ (x : ℕ). IsRightAt s gs x i) (sym e.1) (done.here i less less)
    by k (inr e) i lt less h = done.stay k i lt e.1 less (h e.0)
