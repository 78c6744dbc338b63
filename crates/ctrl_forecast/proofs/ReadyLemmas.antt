-- What has to be renewed in kept frames, once ranges, values or grabs were changed in some clusters, and once a frame is taken out.
use Rattle.std.proofs.Common.{◌≡◌, ◌≢◌, ◌∙◌, ◌<◌, ◌≤◌, ◌+◌, ◌==◌, ◌⊎◌, ◌++◌, ℕ, zero, suc, add-one, eq-eqb, nat_eq, true, false, List, [], ◌∷◌, length, map, take, drop, get_or, inl, inr, refl, sym, ap, subst, arith}
use Rattle.std.specs.List.{All, list_any, remove, range_with_len}
use Rattle.std.proofs.lemmas.Bool.{cases_lt}
use Rattle.std.proofs.lemmas.Bool.Decides.{eqb_tells}
use Rattle.std.proofs.lemmas.List.{map-append, take-map, drop-map}
use Rattle.std.proofs.lemmas.List.Edits.{length-remove, get_or-remove_below, get_or-remove_above}
use Rattle.std.proofs.lemmas.List.Elements.{All-from_get_or, All-filter}
use Rattle.std.proofs.lemmas.List.FromFn.{get_or-range_with_len, length-range_with_len}
use Rattle.ctrl_types.specs.declared.ids.Pair.{Pair}
use Rattle.ctrl_calls.specs.Meanings.{Verdicts}
use Rattle.ctrl_settle.specs.Control.{Control}
use Rattle.ctrl_handlers.specs.Plan.{PlanData, IsPlan, cluster_of, members, control_in}
use Rattle.ctrl_clusters.specs.Rows.{Values, value_at, row_of, Grabs, is_grabbed}
use Rattle.ctrl_clusters.specs.Overlay.{is_touched}
use Rattle.ctrl_clusters.proofs.OverlayLemmas.{or_true, or_true_right, same_each}
use Rattle.ctrl_forecast.specs.Forecasts.{QueuedData, forecasts}
use Rattle.ctrl_clusters.specs.ControlsData.{is_in_one_of}
use Rattle.ctrl_forecast.specs.Boards.{BoardData, DifferOnlyIn, board_of, named_clusters}
use Rattle.ctrl_forecast.specs.Frames.{FrameData, no_frame, frame_at, queued_of, forecast_of, board_seen, setting, values_before, IsKeptFrame, AreKeptFrames, IsRightAt, AreReady}
use Rattle.ctrl_clusters.proofs.RisingLemmas.{among_passing}
use Rattle.ctrl_forecast.proofs.RightLemmas.{right_moves, untouched_row}
use Rattle.ctrl_forecast.proofs.RenewLemmas.{ranges_agree, grabs_agree}
use Rattle.ctrl_forecast.proofs.KeptLemmas.{rows_right, rows_frames}

-- a number at a place is among them
among_at : (cs : List ℕ) (i : ℕ) → i < length cs → list_any (nat_eq (get_or cs i 0)) cs ≡ true
among_at [] i lt = absurd (omega (arith, lt))
among_at (c ∷ cs) zero lt = or_true (nat_eq c c) (list_any (nat_eq c) cs) (eq-eqb c c refl)
among_at (c ∷ cs) (suc i) lt = or_true_right (nat_eq (get_or cs i 0) c) (list_any (nat_eq (get_or cs i 0)) cs) (among_at cs i (omega (arith, lt)))

-- what holds of each of some numbers
pub all_each : (P : ℕ → Type 0) (cs : List ℕ) → ((c : ℕ) → list_any (nat_eq c) cs ≡ true → P c) → All P cs
all_each P cs each = All-from_get_or P cs 0 (λ i lt. each (get_or cs i 0) (among_at cs i lt))

-- kept frames, of which some clusters' ranges, values or grabs were changed
pub ready_changed : (verdicts : Verdicts) (plan : PlanData) (earlier controls : List Control) (held grabs : Grabs) (before values : Values) (clusters : List ℕ) (fs : List FrameData)
    → IsPlan plan → length values ≡ length plan.controls → DifferOnlyIn plan clusters earlier before held controls values grabs
    → board_seen fs ≡ board_of verdicts plan earlier before held (map queued_of fs) → AreReady (setting verdicts plan controls values grabs) 0 clusters fs
ready_changed verdicts plan earlier controls held grabs before values clusters fs is many differ kept = record {
  frames_ok = rows_frames verdicts plan earlier held before fs (differ.many ∙ many) (ap (λ (b : BoardData). b.named) kept) rows;
  before = λ k i lt early less. absurd (omega (arith, early));
  apart = λ k i lt none less.
      right_moves verdicts plan earlier controls held grabs before values fs fs k i i (based k lt none i)
      (all_each (λ c. control_in earlier c ≡ control_in controls c) (members plan k) (λ c among. differ.ranges_stay c (outside k c lt none among)))
      (all_each (λ c. is_grabbed held c ≡ is_grabbed grabs c) (members plan k) (λ c among. differ.grabs_stay c (outside k c lt none among)))
      refl refl refl (rows_right verdicts plan earlier held before fs is (differ.many ∙ many) rows k i lt less);
}
  where
    rows : map forecast_of fs ≡ forecasts verdicts plan earlier before held (map queued_of fs)
    rows = ap (λ (b : BoardData). b.forecasts) kept

    outside : (k c : ℕ) → k < length plan.clusters → list_any (nat_eq k) clusters ≡ false → list_any (nat_eq c) (members plan k) ≡ true → is_in_one_of clusters (cluster_of plan c) ≡ false
    outside k c lt none among = ap (is_in_one_of clusters) (is.members_apart k c lt among) ∙ none

    based : (k : ℕ) → k < length plan.clusters → list_any (nat_eq k) clusters ≡ false → (i : ℕ) → row_of (values_before before fs i) (members plan k) ≡ row_of (values_before values fs i) (members plan k)
    based k lt none zero = same_each (value_at before) (value_at values) (members plan k) (λ c among. differ.values_stay c (outside k c lt none among))
    based k lt none (suc i) = refl

-- frames without one are queued as they were, without it
pub removed_queued : (fs : List FrameData) (p : ℕ) → map queued_of (remove fs p) ≡ remove (map queued_of fs) p
removed_queued fs p = map-append queued_of (take p fs) (drop (suc p) fs) ∙ ap (λ (qs : List QueuedData). qs ++ map queued_of (drop (suc p) fs)) (sym (take-map queued_of p fs)) ∙ ap (λ (qs : List QueuedData). take p (map queued_of fs) ++ qs) (sym (drop-map queued_of (suc p) fs))

-- the values before a frame, up to the place of one that is taken out
removed_early : (values : Values) (fs : List FrameData) (p i : ℕ) → p < length fs → i ≤ p → values_before values (remove fs p) i ≡ values_before values fs i
removed_early values fs p zero lt le = refl
removed_early values fs p (suc i) lt le = ap (λ (f : FrameData). f.values) (get_or-remove_below fs p no_frame i (omega (arith, le)) lt)

-- and behind it, where the cluster of the one that is taken out has the row that it had before
removed_late : (plan : PlanData) (values : Values) (fs : List FrameData) (p k i : ℕ) → p < length fs → p ≤ i
    → row_of (frame_at fs p).values (members plan k) ≡ row_of (values_before values fs p) (members plan k)
    → row_of (values_before values fs (suc i)) (members plan k) ≡ row_of (values_before values (remove fs p) i) (members plan k)
removed_late plan values fs p k zero lt le same =
    let first : p ≡ 0 = omega (arith, le) in
    subst (λ (x : ℕ). row_of (frame_at fs x).values (members plan k) ≡ row_of (values_before values fs x) (members plan k)) first same
removed_late plan values fs p k (suc i) lt le same = by (eqb_tells p (suc i))
  where
    by : ((p == suc i) ≡ true × (p ≡ suc i)) ⊎ ((p == suc i) ≡ false × (p ≢ suc i)) → row_of (values_before values fs (suc (suc i))) (members plan k) ≡ row_of (values_before values (remove fs p) (suc i)) (members plan k)
    by (inl e) =
        subst (λ (x : ℕ). row_of (frame_at fs x).values (members plan k) ≡ row_of (values_before values fs x) (members plan k)) e.1 same
        ∙ ap (λ (f : FrameData). row_of f.values (members plan k)) (sym (get_or-remove_below fs p no_frame i (omega (arith, e.1)) lt))
    by (inr e) =
        let later : p ≤ i = omega (arith, le, e.1) in
        ap (λ (f : FrameData). row_of f.values (members plan k)) (sym (get_or-remove_above fs p no_frame i later lt ∙ ap (frame_at fs) (add-one i)))

-- kept frames, of which one is taken out
pub ready_removed : (verdicts : Verdicts) (plan : PlanData) (controls : List Control) (grabs : Grabs) (values : Values) (p : ℕ) (fs : List FrameData) → IsPlan plan → length values ≡ length plan.controls → p < length fs
    → board_seen fs ≡ board_of verdicts plan controls values grabs (map queued_of fs) → AreReady (setting verdicts plan controls values grabs) p (frame_at fs p).named (remove fs p)
unfolding AreKeptFrames
ready_removed verdicts plan controls grabs values p fs is many lt kept = record {
  frames_ok = λ i less. by_frame i (split i) less;
  before = λ k i within early less. below k i within early less;
  apart = λ k i within none less. by_right k i within none less (split i);
}
  where
    rows : map forecast_of fs ≡ forecasts verdicts plan controls values grabs (map queued_of fs)
    rows = ap (λ (b : BoardData). b.forecasts) kept

    are : AreKeptFrames plan fs
    are = rows_frames verdicts plan controls grabs values fs many (ap (λ (b : BoardData). b.named) kept) rows

    right : (k i : ℕ) → k < length plan.clusters → i < length fs → IsRightAt (setting verdicts plan controls values grabs) fs k i
    right = rows_right verdicts plan controls grabs values fs is many rows

    long : length (remove fs p) + 1 ≡ length fs
    long = length-remove fs p lt

    split : (i : ℕ) → (i < p) ⊎ (p ≤ i)
    split i = cases_lt i p

    late : (i : ℕ) → p ≤ i → frame_at (remove fs p) i ≡ frame_at fs (suc i)
    late i le = get_or-remove_above fs p no_frame i le lt ∙ ap (frame_at fs) (add-one i)

    by_frame : (i : ℕ) → (i < p) ⊎ (p ≤ i) → i < length (remove fs p) → IsKeptFrame plan (frame_at (remove fs p) i)
    by_frame i (inl early) less = subst (IsKeptFrame plan) (sym (get_or-remove_below fs p no_frame i early lt)) (are i (omega (arith, less, long)))
    by_frame i (inr le) less = subst (IsKeptFrame plan) (sym (late i le)) (are (suc i) (omega (arith, less, long)))

    below : (k i : ℕ) → k < length plan.clusters → i < p → i < length (remove fs p) → IsRightAt (setting verdicts plan controls values grabs) (remove fs p) k i
    below k i within early less =
        let same : frame_at fs i ≡ frame_at (remove fs p) i = sym (get_or-remove_below fs p no_frame i early lt) in
        right_moves verdicts plan controls controls grabs grabs values values fs (remove fs p) k i i
        (ap (λ (v : Values). row_of v (members plan k)) (sym (removed_early values fs p i lt (omega (arith, early))))) (ranges_agree (setting verdicts plan controls values grabs) (members plan k)) (grabs_agree (setting verdicts plan controls values grabs) (members plan k))
        (ap (λ (f : FrameData). row_of f.values (members plan k)) same) (ap (λ (f : FrameData). f.asked) same) (ap (λ (f : FrameData). list_any (nat_eq k) f.refused) same)
        (right k i within (omega (arith, less, long)))

    unnamed : (k : ℕ) → k < length plan.clusters → list_any (nat_eq k) (frame_at fs p).named ≡ false → is_touched (frame_at fs p).asked (members plan k) ≡ false
    unnamed k within none =
        sym (ap (list_any (nat_eq k)) (are p lt).names ∙ among_passing (λ j. is_touched (frame_at fs p).asked (members plan j)) (length plan.clusters) k within) ∙ none

    passes : (k : ℕ) → k < length plan.clusters → list_any (nat_eq k) (frame_at fs p).named ≡ false → row_of (frame_at fs p).values (members plan k) ≡ row_of (values_before values fs p) (members plan k)
    passes k within none = (right k p within lt).row ∙ untouched_row (setting verdicts plan controls values grabs) (values_before values fs p) (frame_at fs p).asked k (unnamed k within none)

    by_right : (k i : ℕ) → k < length plan.clusters → list_any (nat_eq k) (frame_at fs p).named ≡ false → i < length (remove fs p) → (i < p) ⊎ (p ≤ i)
        → IsRightAt (setting verdicts plan controls values grabs) (remove fs p) k i
    by_right k i within none less (inl early) = below k i within early less
    by_right k i within none less (inr le) =
        let same : frame_at fs (suc i) ≡ frame_at (remove fs p) i = sym (late i le) in
        right_moves verdicts plan controls controls grabs grabs values values fs (remove fs p) k (suc i) i
        (removed_late plan values fs p k i lt le (passes k within none)) (ranges_agree (setting verdicts plan controls values grabs) (members plan k)) (grabs_agree (setting verdicts plan controls values grabs) (members plan k))
        (ap (λ (f : FrameData). row_of f.values (members plan k)) same) (ap (λ (f : FrameData). f.asked) same) (ap (λ (f : FrameData). list_any (nat_eq k) f.refused) same)
        (right k (suc i) within (omega (arith, less, long)))

-- the clusters that pairs name are clusters of the plan
pub named_within : (plan : PlanData) (pairs : List Pair) → All (λ k. k < length plan.clusters) (named_clusters plan pairs)
named_within plan pairs =
    All-filter (λ k. is_touched pairs (members plan k)) (λ k. k < length plan.clusters) (range_with_len 0 (length plan.clusters))
    (All-from_get_or (λ k. k < length plan.clusters) (range_with_len 0 (length plan.clusters)) 0
    (λ i lt. let less : i < length plan.clusters = omega (arith, lt, length-range_with_len 0 (length plan.clusters)) in omega (arith, less, get_or-range_with_len 0 (length plan.clusters) i 0 less)))

-- what a kept frame names is what its pairs do
pub kept_named : (verdicts : Verdicts) (plan : PlanData) (controls : List Control) (grabs : Grabs) (values : Values) (fs : List FrameData) (p : ℕ) → length values ≡ length plan.controls → p < length fs
    → (qs : List QueuedData) → board_seen fs ≡ board_of verdicts plan controls values grabs qs → (frame_at fs p).named ≡ named_clusters plan (frame_at fs p).asked
unfolding AreKeptFrames
kept_named verdicts plan controls grabs values fs p many lt qs kept =
    (rows_frames verdicts plan controls grabs values fs many (ap (λ (b : BoardData). b.named) whole) (ap (λ (b : BoardData). b.forecasts) whole) p lt).names
  where
    whole : board_seen fs ≡ board_of verdicts plan controls values grabs (map queued_of fs)
    whole = kept ∙ ap (board_of verdicts plan controls values grabs) (sym (ap (λ (b : BoardData). b.queued) kept))
