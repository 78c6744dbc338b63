-- A frame that is taken out of those that are queued.
use Rattle.std.proofs.Common.{◌≡◌, ℕ, suc, ◌+◌, Bool, true, false, not, cond, nat_eq, List, [], ◌∷◌, map, filter, drop, None, Some, refl, ap, sym, subst, ◌∙◌, arith}
use Rattle.std.specs.List.{list_any, position_from, remove}
use Rattle.std.proofs.lemmas.Bool.Decides.{nat_tests}
use Rattle.ctrl_handlers.specs.Plan.{PlanData}
use Rattle.ctrl_handlers.proofs.ClusterLemmas.{or_false, or_false_right}
use Rattle.ctrl_forecast.specs.Boards.{asked_at, named_clusters}
use Rattle.ctrl_forecast.specs.Forecasts.{QueuedData, named_by_frames}
use Rattle.frame_queue.specs.Frames.{AreOnce}
use Rattle.device_parts.specs.QueuedFrames.{named_behind}

-- the frames of other requests
abbrev pub without : ℕ → List QueuedData → List QueuedData
without r queued = filter (λ q. not (nat_eq r q.request.0)) queued

-- numbers that are equal
same_of : (r k : ℕ) → nat_eq r k ≡ true → r ≡ k
same_of r k h = grind (arith, nat_tests, h)

-- a request without a frame has none taken
pub none_taken : (r : ℕ) (queued : List QueuedData) → list_any (nat_eq r) (map (λ q. q.request.0) queued) ≡ false → without r queued ≡ queued
none_taken r [] none = refl
none_taken r (q ∷ queued) none =
    let other : nat_eq r q.request.0 ≡ false = or_false (nat_eq r q.request.0) (list_any (nat_eq r) (map (λ q. q.request.0) queued)) none in
    rw other (ap (λ (qs : List QueuedData). q ∷ qs) (none_taken r queued (or_false_right (nat_eq r q.request.0) (list_any (nat_eq r) (map (λ q. q.request.0) queued)) none)))

pub none_found : (r i : ℕ) (queued : List QueuedData) → position_from (λ q. nat_eq r q.request.0) i queued ≡ None → without r queued ≡ queued
none_found r i [] none = refl
none_found r i (q ∷ queued) none = by (nat_eq r q.request.0) refl none (none_found r (i + 1) queued)
  where
    by : (b : Bool) → nat_eq r q.request.0 ≡ b → cond b (Some i) (position_from (λ q. nat_eq r q.request.0) (i + 1) queued) ≡ None
        → (position_from (λ q. nat_eq r q.request.0) (i + 1) queued ≡ None → without r queued ≡ queued) → without r (q ∷ queued) ≡ q ∷ queued
    by true is h rest = cc
    by false is h rest = rw is (ap (λ (qs : List QueuedData). q ∷ qs) (rest h))

-- The frame at the place that was found is taken, and no other; and how often those behind it name its clusters.
pub one_found : (plan : PlanData) (r i p : ℕ) (queued : List QueuedData) → AreOnce (map (λ q. q.request.0) queued) → position_from (λ q. nat_eq r q.request.0) i queued ≡ Some p
    → (n : ℕ) × (p ≡ i + n) × (remove queued n ≡ without r queued) × (named_behind plan r queued ≡ named_by_frames plan (drop (n + 1) queued) (named_clusters plan (asked_at queued n)))
one_found plan r i p [] once found = cc
one_found plan r i p (q ∷ queued) once found = by (nat_eq r q.request.0) refl found (one_found plan r (i + 1) p queued once.1)
  where
    first : (a b : ℕ) → Some a ≡ Some b → a ≡ b
    first a b h = cc

    by : (b : Bool) → nat_eq r q.request.0 ≡ b → cond b (Some i) (position_from (λ q. nat_eq r q.request.0) (i + 1) queued) ≡ Some p
        → (position_from (λ q. nat_eq r q.request.0) (i + 1) queued ≡ Some p
        → (n : ℕ) × (p ≡ i + 1 + n) × (remove queued n ≡ without r queued) × (named_behind plan r queued ≡ named_by_frames plan (drop (n + 1) queued) (named_clusters plan (asked_at queued n))))
        → (n : ℕ) × (p ≡ i + n) × (remove (q ∷ queued) n ≡ without r (q ∷ queued)) × (named_behind plan r (q ∷ queued) ≡ named_by_frames plan (drop (n + 1) (q ∷ queued)) (named_clusters plan (asked_at (q ∷ queued) n)))
    by true is h rest =
        let same : q.request.0 ≡ r = sym (same_of r q.request.0 is) in
        let none : list_any (nat_eq r) (map (λ q. q.request.0) queued) ≡ false = subst (λ (k : ℕ). list_any (nat_eq k) (map (λ q. q.request.0) queued) ≡ false) same once.0 in
        (0, omega (arith, first i p h), sym (rw is (none_taken r queued none)), rw is refl)
    by false is h rest =
        let behind = rest h in
        let next : suc (behind.0 + 1) ≡ suc behind.0 + 1 = omega arith in
        (suc behind.0, omega (arith, behind.1), rw is (ap (λ (qs : List QueuedData). q ∷ qs) behind.2), rw is (behind.3 ∙ ap (λ (n : ℕ). named_by_frames plan (drop n (q ∷ queued)) (named_clusters plan (asked_at queued behind.0))) next))
