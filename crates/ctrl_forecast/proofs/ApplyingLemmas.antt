-- The pairs that come into force, pair after pair.
use Rattle.std.proofs.Common.{◌≡◌, ◌∙◌, ◌<◌, ◌+◌, ◌++◌, ℕ, Bool, true, false, not, cond, List, [], ◌∷◌, length, map, filter, take, get_or, refl, sym, ap}
use Rattle.std.proofs.lemmas.List.{map-append}
use Rattle.std.proofs.lemmas.List.Elements.{filter_more}
use Rattle.ctrl_types.specs.declared.ids.Pair.{Pair}
use Rattle.ctrl_handlers.specs.Plan.{PlanData, cluster_of}
use Rattle.ctrl_clusters.specs.Rows.{Values, value_at}
use Rattle.ctrl_forecast.specs.Applied.{is_refused_in, applied_pairs}

-- a pair with the value that its control has afterwards
abbrev pub pair_after : Values → Pair → Pair
pair_after after p = record { control = p.control; value = value_at after p.control }

-- one more pair is applied, or isn't
next_at : (plan : PlanData) (after : Values) (refused : List ℕ) (pairs : List Pair) (i : ℕ) (d : Pair) (b : Bool) (old new : List Pair) → i < length pairs → old ≡ applied_pairs plan after refused (take i pairs)
    → b ≡ is_refused_in refused (cluster_of plan (get_or pairs i d).control) → new ≡ old ++ cond (not b) (pair_after after (get_or pairs i d) ∷ []) [] → new ≡ applied_pairs plan after refused (take (i + 1) pairs)
next_at plan after refused pairs i d b old new lt so_far is more =
    more ∙ ap (λ (ps : List Pair). ps ++ cond (not b) (pair_after after p ∷ []) []) so_far
    ∙ ap (λ (t : Bool). applied_pairs plan after refused (take i pairs) ++ cond (not t) (pair_after after p ∷ []) []) is
    ∙ sym (ap (map (pair_after after)) (filter_more passes pairs i d lt) ∙ map-append (pair_after after) (filter passes (take i pairs)) (cond (passes p) (p ∷ []) []) ∙ ap (λ (ps : List Pair). map (pair_after after) (filter passes (take i pairs)) ++ ps) (by (passes p)))
  where
    p : Pair
    p = get_or pairs i d

    passes : Pair → Bool
    passes q = not (is_refused_in refused (cluster_of plan q.control))

    by : (t : Bool) → map (pair_after after) (cond t (p ∷ []) []) ≡ cond t (pair_after after p ∷ []) []
    by true = refl
    by false = refl

-- the same, of the pair that stands there
pub applied_next : (plan : PlanData) (after : Values) (refused : List ℕ) (pairs : List Pair) (i : ℕ) (p : Pair) (b : Bool) (old new : List Pair) → i < length pairs → p ≡ get_or pairs i p
    → old ≡ applied_pairs plan after refused (take i pairs) → b ≡ is_refused_in refused (cluster_of plan p.control) → new ≡ old ++ cond (not b) (pair_after after p ∷ []) []
    → new ≡ applied_pairs plan after refused (take (i + 1) pairs)
applied_next plan after refused pairs i p b old new lt at so_far is more =
    next_at plan after refused pairs i p b old new lt so_far (is ∙ ap (λ (q : Pair). is_refused_in refused (cluster_of plan q.control)) at)
    (more ∙ ap (λ (q : Pair). old ++ cond (not b) (pair_after after q ∷ []) []) at)
