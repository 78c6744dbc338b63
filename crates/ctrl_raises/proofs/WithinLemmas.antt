-- Where some clusters alone were touched, nothing is raised of a control of another.
use Rattle.std.proofs.Common.{arith, ◌≡◌, ◌∙◌, ◌<◌, ◌≤◌, ◌||◌, ◌&&◌, ℕ, Bool, true, false, not, nat_eq, List, length, Option, None, Some, is_some, refl, sym, ap}
use Rattle.std.specs.List.{list_any, range_with_len}
use Rattle.std.proofs.lemmas.Bool.{false≢true}
use Rattle.ctrl_types.proofs.ValueLemmas.{same_self}
use Rattle.ctrl_types.specs.Values.{is_same}
use Rattle.ctrl_types.specs.Events.{is_nothing}
use Rattle.ctrl_types.specs.Flags.{contains}
use Rattle.ctrl_types.specs.declared.ids.Pair.{Pair}
use Rattle.ctrl_types.specs.declared.flags.TheConstants.Flags.{EXECUTE_ON_WRITE}
use Rattle.ctrl_clusters.specs.AutoClusters.{inactive, inactive_at}
use Rattle.ctrl_clusters.specs.Changes.{is_changed}
use Rattle.ctrl_clusters.specs.ControlsData.{ControlsData, is_in_one_of}
use Rattle.ctrl_clusters.specs.Overlay.{is_among}
use Rattle.ctrl_clusters.proofs.OverlayLemmas.{any_of}
use Rattle.ctrl_clusters.specs.PresentFlags.{flags_under}
use Rattle.ctrl_clusters.specs.Rows.{value_at}
use Rattle.ctrl_events.specs.Events.{FileEvents}
use Rattle.ctrl_handlers.specs.Plan.{PlanData, IsPlan, IsFinished, control, control_in, cluster_of, cluster_at, members, master_of}
use Rattle.ctrl_handlers.proofs.ClusterLemmas.{cluster_of_within, cluster_of_member, master_in}
use Rattle.ctrl_raises.specs.Raises.{changed_between, differ, payload_at, raised_all, range_differs}
use Rattle.ctrl_raises.specs.Within.{DifferWithin}
use Rattle.ctrl_raises.proofs.RangeLemmas.{raised_past, same_flags, same_range}

-- a control of another cluster is inactive as before, since its master is in that cluster, too
inactive_stays : (plan : PlanData) (clusters : List ℕ) (before after : ControlsData) (pairs : List Pair) (c : ℕ) → IsPlan plan → DifferWithin plan clusters before after pairs
    → is_in_one_of clusters (cluster_of plan c) ≡ false → inactive plan before.values c ≡ inactive plan after.values c
unfolding inactive
inactive_stays plan clusters before after pairs c is within outside = by (cluster_of plan c) refl
  where
    by : (o : Option ℕ) → cluster_of plan c ≡ o → inactive_at plan before.values c o ≡ inactive_at plan after.values c o
    by None own = refl
    by (Some k) own =
        let led : cluster_of plan (master_of (cluster_at plan k)) ≡ Some k = master_in plan k is (cluster_of_within plan c k own) in
        let apart : is_in_one_of clusters (cluster_of plan (master_of (cluster_at plan k))) ≡ false = ap (is_in_one_of clusters) (led ∙ sym own) ∙ outside in
        rw (within.values_stay (master_of (cluster_at plan k)) apart) refl

-- a value that stays doesn't change its control, where that isn't among the pairs
unchanged : (same acts among : Bool) → same ≡ true → among ≡ false → (not same || (acts && among)) ≡ false
unchanged true true false is not_among = refl
unchanged true false false is not_among = refl
unchanged true acts true is not_among = absurd (false≢true (sym not_among))
unchanged false acts among is not_among = absurd (false≢true is)

-- nothing changes of a control of another cluster
nothing_of : (plan : PlanData) (clusters : List ℕ) (before after : ControlsData) (pairs : List Pair) (c k : ℕ) → IsPlan plan → DifferWithin plan clusters before after pairs
    → cluster_of plan c ≡ Some k → list_any (nat_eq k) clusters ≡ false → is_nothing (changed_between plan before after pairs c) ≡ true
nothing_of plan clusters before after pairs c k is within own apart =
    let outside : is_in_one_of clusters (cluster_of plan c) ≡ false = ap (is_in_one_of clusters) own ∙ apart in
    let value : is_changed plan before.values pairs c (value_at after.values c) ≡ false =
    unchanged (is_same (value_at before.values c) (value_at after.values c)) (contains (control plan c).flags EXECUTE_ON_WRITE) (is_among pairs c)
    (rw (within.values_stay c outside) (same_self (value_at after.values c))) (unasked (is_among pairs c) refl) in
    let flags : differ (flags_under plan before.values before.grabs c) (flags_under plan after.values after.grabs c) ≡ false =
    rw (inactive_stays plan clusters before after pairs c is within outside, within.grabs_stay c outside) (same_flags (flags_under plan after.values after.grabs c)) in
    let range : range_differs (control_in before.ranges c) (control_in after.ranges c) ≡ false = rw (within.ranges_stay c outside) (same_range (control_in after.ranges c)) in
    rw (value, flags, range) refl
  where
    unasked : (b : Bool) → is_among pairs c ≡ b → b ≡ false
    unasked false is_not = refl
    unasked true among = absurd (false≢true (sym (within.unasked k (cluster_of_within plan c k own) apart) ∙ any_of (is_among pairs) (members plan k) c (cluster_of_member plan c k own) among))

-- a control that is a member of none of the clusters is in another one
pub nothing_apart : (plan : PlanData) (clusters : List ℕ) (before after : ControlsData) (pairs : List Pair) (c : ℕ) → IsFinished plan → DifferWithin plan clusters before after pairs → c < length plan.controls
    → ((k : ℕ) → list_any (nat_eq k) clusters ≡ true → list_any (nat_eq c) (members plan k) ≡ false) → is_nothing (changed_between plan before after pairs c) ≡ true
nothing_apart plan clusters before after pairs c is within there apart = by (cluster_of plan c) refl
  where
    in_one : (k : ℕ) (b : Bool) → cluster_of plan c ≡ Some k → list_any (nat_eq k) clusters ≡ b → b ≡ false
    in_one k true own inside = absurd (false≢true (sym (apart k inside) ∙ cluster_of_member plan c k own))
    in_one k false own outside = refl

    by : (o : Option ℕ) → cluster_of plan c ≡ o → is_nothing (changed_between plan before after pairs c) ≡ true
    by None own = absurd (false≢true (sym (ap is_some own) ∙ is.clustered c there))
    by (Some k) own = nothing_of plan clusters before after pairs c k is.is_plan within own (in_one k (list_any (nat_eq k) clusters) own refl)

-- The events that are raised of the controls below a number are those of the controls below a further one, where no member of the clusters lies between.
pub raised_beyond : (plan : PlanData) (clusters : List ℕ) (before after : ControlsData) (pairs : List Pair) (from : ℕ → Option ℕ) (a b fh : ℕ) (old seen : FileEvents) → IsFinished plan
    → DifferWithin plan clusters before after pairs → a ≤ b → b ≤ length plan.controls → ((c k : ℕ) → a ≤ c → c < b → list_any (nat_eq k) clusters ≡ true → list_any (nat_eq c) (members plan k) ≡ false)
    → seen ≡ raised_all (changed_between plan before after pairs) (payload_at plan after) from fh (range_with_len 0 a) old
    → seen ≡ raised_all (changed_between plan before after pairs) (payload_at plan after) from fh (range_with_len 0 b) old
raised_beyond plan clusters before after pairs from a b fh old seen is within order ends apart so_far =
    raised_past (changed_between plan before after pairs) (payload_at plan after) from fh a b old seen order
    (λ c no_less below. nothing_apart plan clusters before after pairs c is within (omega (arith, below, ends)) (λ k inside. apart c k no_less below inside)) so_far
