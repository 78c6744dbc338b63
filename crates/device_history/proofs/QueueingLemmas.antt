-- The requests that were ever queued, after one more entry: a queueing puts its request last.
use Rattle.std.proofs.Common.{◌≡◌, ℕ, suc, Bool, true, false, not, ◌||◌, cond, List, [], ◌∷◌, ◌++◌, length, map, filter, Option, None, Some, nat_eq, refl, ap, arith, append-nil, ◌∙◌}
use Rattle.std.proofs.Math.Path.{ap₂}
use Rattle.std.proofs.lemmas.List.{map-append}
use Rattle.std.proofs.lemmas.List.Elements.{filter-append}
use Rattle.history.specs.declared.entry.Entry.{Entry}
use Rattle.device_history.specs.declared.ask.Step.{Step}
use Rattle.device_history.specs.declared.ask.Step.TheVariants as steps
use Rattle.device_history.specs.Steps.{Past}
use Rattle.device_history.specs.Frames.{queueing, queueings, queues, is_queued_again, ever_queued, all_but}
use Rattle.device_history.proofs.PastLemmas.{AreBelow, below_append, below_more, behind_more, behind_last, filter_alike, filter_both}

-- the request that a step queues
abbrev pub queued_by : Step → Option ℕ
queued_by (steps.Queue r) = Some r.0
queued_by _ = None

-- numbers, with one put last, where there is one
abbrev pub with_last : Option ℕ → List ℕ → List ℕ
with_last None ids = ids
with_last (Some r) ids = all_but r ids ++ r ∷ []

queueing_below : (n : ℕ) (step : Step) → AreBelow (suc n) (queueing n step)
unfolding AreBelow
queueing_below n (steps.Queue r) = (omega arith, tt)
queueing_below n _ = tt

-- a queueing's number is that of a step that was made
queueings_below : (past : Past) → AreBelow (length past) (queueings past)
unfolding queueings AreBelow
queueings_below [] = tt
queueings_below (e ∷ older) =
    below_append (suc (length older)) (queueings older) (queueing (length older) e.step)
    (below_more (length older) (suc (length older)) (queueings older) (omega arith) (queueings_below older)) (queueing_below (length older) e.step)

-- what one more entry leaves of the queueings before it
older_last : (e : Entry Step) (older : Past) (step : Step) → e.step ≡ step
    → filter (λ q. not (is_queued_again (e ∷ older) q)) (queueings older) ≡ filter (λ q. not (queues q.1 step || is_queued_again older q)) (queueings older)
older_last e older step is =
    filter_alike (length older) _ _ (queueings older)
    (λ q lt. ap not (behind_more (queues q.1) e older q.0 lt ∙ ap (λ (s : Step). queues q.1 s || is_queued_again older q) is)) (queueings_below older)

-- the requests of queueings without those of one
requests_but : (r : ℕ) (qs : List (ℕ × ℕ)) → map (λ q. q.1) (filter (λ q. not (nat_eq r q.1)) qs) ≡ all_but r (map (λ q. q.1) qs)
requests_but r [] = refl
requests_but r (q ∷ qs) = by (nat_eq r q.1) (requests_but r qs)
  where
    by : (b : Bool) → map (λ q. q.1) (filter (λ q. not (nat_eq r q.1)) qs) ≡ all_but r (map (λ q. q.1) qs)
        → map (λ q. q.1) (cond (not b) (q ∷ filter (λ q. not (nat_eq r q.1)) qs) (filter (λ q. not (nat_eq r q.1)) qs)) ≡ cond (not b) (q.1 ∷ all_but r (map (λ q. q.1) qs)) (all_but r (map (λ q. q.1) qs))
    by true rest = rest
    by false rest = ap (λ ids. q.1 ∷ ids) rest

-- the requests that were ever queued, before the first entry
pub ever_queued_start : ever_queued [] ≡ []
unfolding ever_queued queueings
ever_queued_start = refl

-- and after one more
pub ever_queued_more : (e : Entry Step) (older : Past) → ever_queued (e ∷ older) ≡ with_last (queued_by e.step) (ever_queued older)
unfolding ever_queued queueings
ever_queued_more e older = by e.step refl
  where
    left : List (ℕ × ℕ)
    left = filter (λ q. not (is_queued_again older q)) (queueings older)

    by : (step : Step) → e.step ≡ step
        → map (λ q. q.1) (filter (λ q. not (is_queued_again (e ∷ older) q)) (queueings older ++ queueing (length older) step)) ≡ with_last (queued_by step) (map (λ q. q.1) left)
    by (steps.Queue r) is =
        let rest : filter (λ q. not (is_queued_again (e ∷ older) q)) (queueings older) ≡ filter (λ q. not (nat_eq r.0 q.1)) left = older_last e older _ is ∙ filter_both (λ q. nat_eq r.0 q.1) (λ q. is_queued_again older q) (queueings older) in
        ap (map (λ q. q.1)) (filter-append _ (queueings older) ((length older, r.0) ∷ []) ∙ ap₂ (λ qs b. qs ++ cond (not b) ((length older, r.0) ∷ []) []) rest (behind_last (queues r.0) e older))
        ∙ map-append (λ q. q.1) (filter (λ q. not (nat_eq r.0 q.1)) left) ((length older, r.0) ∷ []) ∙ ap (λ ids. ids ++ r.0 ∷ []) (requests_but r.0 left)
    by _ is = ap (map (λ q. q.1)) (filter-append _ (queueings older) [] ∙ append-nil _ ∙ older_last e older _ is)
