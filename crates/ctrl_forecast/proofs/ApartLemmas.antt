-- What pairs that are laid over values leave as it is: the clusters that they don't name.
use Rattle.std.proofs.Common.{◌≡◌, ◌∙◌, ◌<◌, ◌==◌, ℕ, Bool, true, false, not, cond, nat_eq, List, [], ◌∷◌, length, map, filter, refl, sym}
use Rattle.std.specs.List.{list_any}
use Rattle.ctrl_types.specs.declared.ids.Pair.{Pair}
use Rattle.ctrl_handlers.specs.Plan.{PlanData, cluster_of, members}
use Rattle.ctrl_handlers.proofs.ClusterLemmas.{or_false, or_false_right}
use Rattle.ctrl_clusters.specs.Overlay.{is_among, is_touched}
use Rattle.ctrl_clusters.specs.Rows.{Values, value_at}
use Rattle.ctrl_forecast.specs.Applied.{applied_pairs, is_refused_in}
use Rattle.ctrl_forecast.specs.Boards.{named_clusters}
use Rattle.ctrl_clusters.proofs.RisingLemmas.{among_passing}

-- a cluster that pairs don't name has no member among them
pub not_named : (plan : PlanData) (pairs : List Pair) (k : ℕ) → k < length plan.clusters → list_any (nat_eq k) (named_clusters plan pairs) ≡ false → is_touched pairs (members plan k) ≡ false
not_named plan pairs k within none = sym (among_passing (λ j. is_touched pairs (members plan j)) (length plan.clusters) k within) ∙ none

-- what is applied of pairs is of controls that are among them
applied_among : (plan : PlanData) (after : Values) (refused : List ℕ) (pairs : List Pair) (c : ℕ) → is_among pairs c ≡ false → is_among (applied_pairs plan after refused pairs) c ≡ false
applied_among plan after refused [] c none = refl
applied_among plan after refused (p ∷ ps) c none = by (not (is_refused_in refused (cluster_of plan p.control))) (applied_among plan after refused ps c (or_false_right (p.control == c) (is_among ps c) none))
  where
    passed : List Pair
    passed = filter (λ q. not (is_refused_in refused (cluster_of plan q.control))) ps

    given : List Pair → List Pair
    given qs = map (λ q. record { control = q.control; value = value_at after q.control }) qs

    by : (b : Bool) → is_among (given passed) c ≡ false → is_among (given (cond b (p ∷ passed) passed)) c ≡ false
    by false rest = rest
    by true rest = rw (or_false (p.control == c) (is_among ps c) none) rest

-- so it touches no cluster that the pairs don't
pub applied_apart : (plan : PlanData) (after : Values) (refused : List ℕ) (pairs : List Pair) (cs : List ℕ) → is_touched pairs cs ≡ false → is_touched (applied_pairs plan after refused pairs) cs ≡ false
applied_apart plan after refused pairs [] free = refl
applied_apart plan after refused pairs (c ∷ cs) free =
    rw (applied_among plan after refused pairs c (or_false (is_among pairs c) (is_touched pairs cs) free)) (applied_apart plan after refused pairs cs (or_false_right (is_among pairs c) (is_touched pairs cs) free))
