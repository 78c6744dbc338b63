-- Clusters are renewed one after another, each up to the first frame that comes out as it was.
use Rattle.std.proofs.Common.{◌≡◌, ◌≢◌, ◌∙◌, ◌<◌, ◌≤◌, ◌+◌, ◌==◌, ◌⊎◌, ◌||◌, ◌++◌, ℕ, zero, suc, nat_eq, Bool, true, false, List, [], ◌∷◌, length, map, inl, inr, refl, sym, ap, subst, arith}
use Rattle.std.specs.List.{list_any, remove}
use Rattle.std.proofs.lemmas.Bool.{cases_Bool, cases_lt}
use Rattle.std.proofs.lemmas.Bool.Decides.{eqb_tells}
use Rattle.std.proofs.lemmas.List.{length-map}
use Rattle.std.proofs.lemmas.List.Edits.{length-remove, get_or-remove_above}
use Rattle.std.proofs.lemmas.List.Folds.{list_any-append}
use Rattle.ctrl_calls.specs.Meanings.{Verdicts}
use Rattle.ctrl_settle.specs.Control.{Control}
use Rattle.ctrl_handlers.specs.Plan.{PlanData, IsPlan, IsFinished, members}
use Rattle.ctrl_clusters.specs.Rows.{Values, row_of, Grabs}
use Rattle.ctrl_forecast.specs.Forecasts.{QueuedData, forecasts}
use Rattle.ctrl_forecast.specs.Boards.{BoardData, DifferOnlyIn, ValuesDifferOnlyIn, asked_at, board_of}
use Rattle.ctrl_forecast.specs.Frames.{FrameData, no_frame, frame_at, queued_of, forecast_of, board_seen, Setting, setting, values_before, IsRightAt, AreReady, AreReadyAt, IsAlikeIn, AreRenewed, IsClusterRenewed}
use Rattle.ctrl_forecast.proofs.RightLemmas.{right_moves}
use Rattle.ctrl_forecast.proofs.RenewLemmas.{ranges_agree, grabs_agree}
use Rattle.ctrl_forecast.proofs.AskingLemmas.{kept_asked}
use Rattle.ctrl_forecast.proofs.KeptLemmas.{rows_right, ready_kept}
use Rattle.ctrl_forecast.proofs.ReadyLemmas.{ready_changed, ready_removed}

-- frames that are queued alike are as many
as_many : (old new : List FrameData) → map queued_of new ≡ map queued_of old → length new ≡ length old
as_many old new queued = sym (length-map new queued_of) ∙ ap length queued ∙ length-map old queued_of

-- a cluster that has its rows still is right where it was
alike_right : (s : Setting) (k i : ℕ) (old new : List FrameData) → map queued_of new ≡ map queued_of old → IsAlikeIn s.plan k old new → i < length new → IsRightAt s old k i → IsRightAt s new k i
alike_right s k i old new queued alike less right =
    right_moves s.verdicts s.plan s.controls s.controls s.grabs s.grabs s.values s.values old new k i i (based i) (ranges_agree s (members s.plan k)) (grabs_agree s (members s.plan k))
    (sym (alike.rows i))
    (kept_asked old i (omega (arith, less, as_many old new queued)) ∙ ap (λ (qs : List QueuedData). asked_at qs i) (sym queued) ∙ sym (kept_asked new i less))
    (sym (alike.refused i)) right
  where
    based : (i : ℕ) → row_of (values_before s.values old i) (members s.plan k) ≡ row_of (values_before s.values new i) (members s.plan k)
    based zero = refl
    based (suc i) = sym (alike.rows i)

-- the clusters that aren't renewed yet are right but at the place
pub still_ready : (s : Setting) (place : ℕ) (left done : List ℕ) (old fs : List FrameData) → AreReadyAt s place left old → AreRenewed s done old fs
    → (k i : ℕ) → k < length s.plan.clusters → i ≢ place → i < length fs → IsRightAt s fs k i
still_ready s place left done old fs ready so_far k i lt other less = by (cases_Bool (list_any (nat_eq k) done))
  where
    by : (list_any (nat_eq k) done ≡ true) ⊎ (list_any (nat_eq k) done ≡ false) → IsRightAt s fs k i
    by (inl among) = so_far.right k i lt among less
    by (inr apart) = alike_right s k i old fs so_far.queued (so_far.stay k lt apart) less (ready.elsewhere k i lt other (omega (arith, less, as_many old fs so_far.queued)))

-- one cluster more is
pub turns_next : (s : Setting) (k : ℕ) (done : List ℕ) (old fs gs : List FrameData) → AreRenewed s done old fs → IsClusterRenewed s k (length gs) fs gs
    → ((j : ℕ) → j < length s.plan.clusters → j ≢ k → IsAlikeIn s.plan j fs gs) → AreRenewed s (done ++ k ∷ []) old gs
turns_next s k done old fs gs so_far one apart = record {
  frames_ok = one.frames_ok;
  queued = one.queued ∙ so_far.queued;
  right = λ j i lt among less. right_by j i lt (sym (split j) ∙ among) less (eqb_tells j k);
  stay = λ j lt none. stay_by j lt (sym (split j) ∙ none) (eqb_tells j k);
}
  where
    split : (j : ℕ) → list_any (nat_eq j) (done ++ k ∷ []) ≡ (list_any (nat_eq j) done || list_any (nat_eq j) (k ∷ []))
    split j = list_any-append (nat_eq j) done (k ∷ [])

    first : (a b : Bool) → b ≡ false → (a || (b || false)) ≡ true → a ≡ true
    first true b e h = refl
    first false true e h = cc
    first false false e h = cc

    neither : (a b : Bool) → (a || (b || false)) ≡ false → (a ≡ false) × (b ≡ false)
    neither true b h = absurd (cc)
    neither false true h = absurd (cc)
    neither false false h = (refl, refl)

    clash : true ≡ false → ⊥
    clash h = cc

    right_by : (j i : ℕ) → j < length s.plan.clusters → (list_any (nat_eq j) done || list_any (nat_eq j) (k ∷ [])) ≡ true → i < length gs
        → ((j == k) ≡ true × (j ≡ k)) ⊎ ((j == k) ≡ false × (j ≢ k)) → IsRightAt s gs j i
    right_by j i lt among less (inl e) = subst (λ (x : ℕ). IsRightAt s gs x i) (sym e.1) (one.here i less less)
    right_by j i lt among less (inr e) =
        one.stay j i lt e.1 less (so_far.right j i lt (first (list_any (nat_eq j) done) (nat_eq j k) e.0 among) (omega (arith, less, as_many fs gs one.queued)))

    stay_by : (j : ℕ) → j < length s.plan.clusters → (list_any (nat_eq j) done || list_any (nat_eq j) (k ∷ [])) ≡ false → ((j == k) ≡ true × (j ≡ k)) ⊎ ((j == k) ≡ false × (j ≢ k)) → IsAlikeIn s.plan j old gs
    stay_by j lt none (inl e) = absurd (clash (sym e.0 ∙ (neither (list_any (nat_eq j) done) (nat_eq j k) none).1))
    stay_by j lt none (inr e) =
        let was : IsAlikeIn s.plan j old fs = so_far.stay j lt (neither (list_any (nat_eq j) done) (nat_eq j k) none).0 in
        let now : IsAlikeIn s.plan j fs gs = apart j lt e.1 in
        record { rows = λ i. now.rows i ∙ was.rows i; refused = λ i. now.refused i ∙ was.refused i }

-- once all are, what is kept is as it should be
pub turns_kept : (s : Setting) (place : ℕ) (clusters : List ℕ) (old fs : List FrameData) → IsFinished s.plan → length s.values ≡ length s.plan.controls → AreReadyAt s place clusters old → AreRenewed s clusters old fs
    → board_seen fs ≡ board_of s.verdicts s.plan s.controls s.values s.grabs (map queued_of old)
turns_kept s place clusters old fs done many ready all =
    ready_kept s.verdicts s.plan s.controls s.grabs s.values 0 fs done many
    (record { frames_ok = all.frames_ok; before = λ k i lt early less. absurd (omega (arith, early)); apart = λ k i lt none less. right k i lt less (cases_Bool (list_any (nat_eq k) clusters)) })
    ∙ ap (board_of s.verdicts s.plan s.controls s.values s.grabs) all.queued
  where
    right : (k i : ℕ) → k < length s.plan.clusters → i < length fs → (list_any (nat_eq k) clusters ≡ true) ⊎ (list_any (nat_eq k) clusters ≡ false) → IsRightAt s fs k i
    right k i lt less (inl among) = all.right k i lt among less
    right k i lt less (inr apart) = alike_right s k i old fs all.queued (all.stay k lt apart) less (ready.apart k i lt apart (omega (arith, less, as_many old fs all.queued)))

-- kept frames, where the values before them were changed in some clusters
pub ready_values : (verdicts : Verdicts) (plan : PlanData) (controls : List Control) (grabs : Grabs) (before values : Values) (clusters : List ℕ) (fs : List FrameData) → IsPlan plan → length values ≡ length plan.controls
    → ValuesDifferOnlyIn plan clusters before values → board_seen fs ≡ board_of verdicts plan controls before grabs (map queued_of fs) → AreReadyAt (setting verdicts plan controls values grabs) 0 clusters fs
ready_values verdicts plan controls grabs before values clusters fs is many differ kept = record {
  frames_ok = ready.frames_ok;
  elsewhere = λ k i lt other less. right k i lt other less;
  apart = ready.apart;
}
  where
    all : DifferOnlyIn plan clusters controls before grabs controls values grabs
    all = record { many = differ.many; ranges_stay = λ c out. refl; values_stay = differ.values_stay; grabs_stay = λ c out. refl }

    ready : AreReady (setting verdicts plan controls values grabs) 0 clusters fs
    ready = ready_changed verdicts plan controls controls grabs grabs before values clusters fs is many all kept

    rows : map forecast_of fs ≡ forecasts verdicts plan controls before grabs (map queued_of fs)
    rows = ap (λ (b : BoardData). b.forecasts) kept

    right : (k i : ℕ) → k < length plan.clusters → i ≢ 0 → i < length fs → IsRightAt (setting verdicts plan controls values grabs) fs k i
    right k zero lt other less = absurd (other refl)
    right k (suc i) lt other less =
        let was : IsRightAt (setting verdicts plan controls before grabs) fs k (suc i) = rows_right verdicts plan controls grabs before fs is (differ.many ∙ many) rows k (suc i) lt less in
        record { row = was.row; refused = was.refused }

-- kept frames, of which the one at a place is taken out
pub ready_without : (verdicts : Verdicts) (plan : PlanData) (controls : List Control) (grabs : Grabs) (values : Values) (p : ℕ) (fs : List FrameData) → IsPlan plan → length values ≡ length plan.controls → p < length fs
    → board_seen fs ≡ board_of verdicts plan controls values grabs (map queued_of fs) → AreReadyAt (setting verdicts plan controls values grabs) p (frame_at fs p).named (remove fs p)
ready_without verdicts plan controls grabs values p fs is many lt kept = record {
  frames_ok = ready.frames_ok;
  elsewhere = λ k i within other less. by k i within other less (cases_lt i p);
  apart = ready.apart;
}
  where
    s : Setting
    s = setting verdicts plan controls values grabs

    ready : AreReady s p (frame_at fs p).named (remove fs p)
    ready = ready_removed verdicts plan controls grabs values p fs is many lt kept

    long : length (remove fs p) + 1 ≡ length fs
    long = length-remove fs p lt

    late : (i : ℕ) → p ≤ i → frame_at fs (suc i) ≡ frame_at (remove fs p) i
    late i le = sym (get_or-remove_above fs p no_frame i le lt ∙ ap (frame_at fs) (omega arith))

    based : (i : ℕ) → p < i → values_before values fs (suc i) ≡ values_before values (remove fs p) i
    based zero further = absurd (omega (arith, further))
    based (suc i) further = ap (λ (f : FrameData). f.values) (late i (omega (arith, further)))

    by : (k i : ℕ) → k < length plan.clusters → i ≢ p → i < length (remove fs p) → (i < p) ⊎ (p ≤ i) → IsRightAt s (remove fs p) k i
    by k i within other less (inl early) = ready.before k i within early less
    by k i within other less (inr le) =
        right_moves verdicts plan controls controls grabs grabs values values fs (remove fs p) k (suc i) i
        (ap (λ (v : Values). row_of v (members plan k)) (based i (omega (arith, le, other)))) (ranges_agree s (members plan k)) (grabs_agree s (members plan k))
        (ap (λ (f : FrameData). row_of f.values (members plan k)) (late i le)) (ap (λ (f : FrameData). f.asked) (late i le)) (ap (λ (f : FrameData). list_any (nat_eq k) f.refused) (late i le))
        (rows_right verdicts plan controls grabs values fs is many (ap (λ (b : BoardData). b.forecasts) kept) k (suc i) within (omega (arith, less, long)))
