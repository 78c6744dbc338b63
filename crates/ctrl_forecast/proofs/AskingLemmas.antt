-- How many validators are asked at most, frame after frame and cluster after cluster.
use Rattle.std.proofs.Common.{◌≡◌, ◌∙◌, ◌<◌, ◌≤◌, ◌+◌, ◌++◌, ℕ, suc, add-one, cond, List, [], length, map, take, drop, get_or, sym, ap, arith}
use Rattle.std.specs.List.{remove}
use Rattle.std.proofs.lemmas.List.{take_all, drop_more, get_or-map, length-map, length-take-le, drop-append-le, drop_all}
use Rattle.std.proofs.lemmas.List.Sums.{sum_by-cons, sum_by_more}
use Rattle.ctrl_types.specs.declared.ids.Pair.{Pair}
use Rattle.ctrl_handlers.specs.Plan.{PlanData, members}
use Rattle.ctrl_clusters.specs.Overlay.{is_touched}
use Rattle.ctrl_forecast.specs.Forecasts.{QueuedData, naming_count, named_by_frames}
use Rattle.ctrl_forecast.specs.Boards.{asked_at}
use Rattle.ctrl_forecast.specs.Frames.{FrameData, no_frame, frame_at, queued_of}

-- what a frame asks for, as it is kept and as it was queued
pub kept_asked : (fs : List FrameData) (p : ℕ) → p < length fs → (frame_at fs p).asked ≡ asked_at (map queued_of fs) p
kept_asked fs p lt = ap (λ (q : QueuedData). q.asked) (sym (get_or-map queued_of fs p no_frame (queued_of no_frame) lt))

-- of the frames from a place on, the first names a cluster, or doesn't
pub naming_next : (plan : PlanData) (k p : ℕ) (old fs : List FrameData) → p < length fs → map queued_of fs ≡ map queued_of old
    → naming_count plan (drop p (map queued_of old)) k ≡ cond (is_touched (frame_at fs p).asked (members plan k)) 1 0 + naming_count plan (drop (p + 1) (map queued_of old)) k
naming_next plan k p old fs lt same =
    ap (λ (l : List QueuedData). naming_count plan l k) (drop_more qs p d (omega (arith, lt, ap length same, length-map fs queued_of)))
    ∙ sum_by-cons (λ (q : QueuedData). cond (is_touched q.asked (members plan k)) 1 0) (get_or qs p d) (drop (p + 1) qs)
    ∙ ap (λ (pairs : List Pair). cond (is_touched pairs (members plan k)) 1 0 + naming_count plan (drop (p + 1) qs) k) (sym (kept_asked fs p lt ∙ ap (λ (l : List QueuedData). asked_at l p) same))
  where
    qs : List QueuedData
    qs = map queued_of old

    d : QueuedData
    d = record { request = record { 0 = 0 }; buffer = 0; asked = [] }

-- one cluster more is renewed
pub named_next : (plan : PlanData) (from i count asked new : ℕ) (ks : List ℕ) (now old : List QueuedData) → i < length ks → now ≡ old → asked ≤ count + named_by_frames plan (drop from old) (take i ks)
    → new ≤ asked + naming_count plan (drop from now) (get_or ks i 0) → new ≤ count + named_by_frames plan (drop from old) (take (i + 1) ks)
named_next plan from i count asked new ks now old lt same so_far more =
    omega (arith, so_far, more, ap (λ (qs : List QueuedData). naming_count plan (drop from qs) (get_or ks i 0)) same, sum_by_more (naming_count plan (drop from old)) ks i 0 lt)

-- and all are
pub named_all : (plan : PlanData) (qs : List QueuedData) (i count asked : ℕ) (ks : List ℕ) → length ks ≤ i → asked ≤ count + named_by_frames plan qs (take i ks) → asked ≤ count + named_by_frames plan qs ks
named_all plan qs i count asked ks all most = omega (arith, most, ap (named_by_frames plan qs) (take_all i ks all))

-- the frames behind one that is taken out
pub behind_removed : (qs : List QueuedData) (p : ℕ) → p < length qs → drop p (remove qs p) ≡ drop (p + 1) qs
behind_removed qs p lt =
    let long : length (take p qs) ≡ p = length-take-le p qs (omega (arith, lt)) in
    drop-append-le p (take p qs) (drop (suc p) qs) (omega (arith, long)) ∙ ap (λ (l : List QueuedData). l ++ drop (suc p) qs) (drop_all p (take p qs) (omega (arith, long))) ∙ ap (λ (n : ℕ). drop n qs) (sym (add-one p))
