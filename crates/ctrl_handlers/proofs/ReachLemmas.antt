-- The links of followers, and the table of clusters by which they are made.
use Rattle.std.proofs.Common.{◌≡◌, ◌∙◌, ◌<◌, ℕ, Bool, true, List, [], ◌∷◌, ◌++◌, length, get_or, map, take, Option, None, Some, unwrap_or, nat_lt, refl, sym, ap, subst, arith}
use Rattle.std.specs.List.{All, range_with_len}
use Rattle.std.proofs.lemmas.Bool.{ltb-true, lt-ltb}
use Rattle.std.proofs.lemmas.List.{get_or_default, take_at}
use Rattle.std.proofs.lemmas.List.Elements.{All-append, All-head, All-nil, All-push, All-tail}
use Rattle.std.proofs.lemmas.List.FromFn.{fill_by_all}
use Rattle.range_followers.specs.declared.follower.Follower.{Follower}
use Rattle.range_followers.specs.declared.follower.Source.{Source}
use Rattle.range_followers.specs.Followed.{is_followed_by, passes, source_of}
use Rattle.range_followers.proofs.FollowedLemmas.{each_from}
use Rattle.reach_table.specs.Reached.{AreBelow}
use Rattle.ctrl_handlers.specs.ClusterData.{ClusterData}
use Rattle.ctrl_handlers.specs.Plan.{PlanData, IsPlan, alone, finished, in_none, IsAmong, AreAmong, HasClusterTable, cluster_of, cluster_table, link_from, links, links_of}
use Rattle.ctrl_handlers.proofs.ClusterLemmas.{cluster_of_within}
use Rattle.std.proofs.lemmas.Bool.{and_parts}

-- a link leads from a cluster to a cluster
link_below : (count : ℕ) (places : List ℕ) (c : ℕ) (o : Option Source) → All (λ k. k < count) places → c < length places → passes (λ s. nat_lt s (length places)) o ≡ true → AreBelow count (link_from places c o)
link_below count places c None below within known = All-nil (λ (link : ℕ × ℕ). (link.0 < count) × (link.1 < count))
link_below count places c (Some source) below within known =
    All-push (λ (link : ℕ × ℕ). (link.0 < count) × (link.1 < count)) [] (get_or places source.control 0, get_or places c 0) (All-nil (λ (link : ℕ × ℕ). (link.0 < count) × (link.1 < count)))
    (below source.control 0 (ltb-true source.control (length places) known), below c 0 within)

pub links_below : (count : ℕ) (places : List ℕ) (followers : List Follower) → All (λ k. k < count) places → AreAmong (length places) followers → AreBelow count (links places followers)
links_below count places [] below among = All-nil (λ (link : ℕ × ℕ). (link.0 < count) × (link.1 < count))
links_below count places (f ∷ fs) below among =
    let own = All-head (IsAmong (length places)) f fs among in
    let first = and_parts (passes (λ s. nat_lt s (length places)) f.minimum) _ own.1 in
    let rest = and_parts (passes (λ s. nat_lt s (length places)) f.maximum) (passes (λ s. nat_lt s (length places)) (source_of f.default_value)) first.1 in
    All-append (λ (link : ℕ × ℕ). (link.0 < count) × (link.1 < count)) (links_of places f) (links places fs)
    (All-append (λ (link : ℕ × ℕ). (link.0 < count) × (link.1 < count)) (link_from places f.control f.minimum) (link_from places f.control f.maximum ++ link_from places f.control (source_of f.default_value))
    (link_below count places f.control f.minimum below own.0 first.0)
    (All-append (λ (link : ℕ × ℕ). (link.0 < count) × (link.1 < count)) (link_from places f.control f.maximum) (link_from places f.control (source_of f.default_value))
    (link_below count places f.control f.maximum below own.0 rest.0) (link_below count places f.control (source_of f.default_value) below own.0 rest.1)))
    (links_below count places fs below (All-tail (IsAmong (length places)) f fs among))

-- a table of clusters is the table of the clusters
pub same_table : (plan : PlanData) (places : List ℕ) → HasClusterTable plan places → places ≡ cluster_table plan
same_table plan places is =
    fill_by_all (λ c. unwrap_or (cluster_of plan c) 0) places (length plan.controls) 0 is.0 (λ c within. sym (ap (λ (o : Option ℕ). unwrap_or o 0) (is.1 c within)))

-- and has numbers of clusters
pub table_below : (plan : PlanData) (places : List ℕ) → HasClusterTable plan places → All (λ k. k < length plan.clusters) places
table_below plan places is = λ c d within.
    let there : c < length plan.controls = omega (arith, within, is.0) in
    subst (λ (k : ℕ). k < length plan.clusters) (get_or_default places c 0 d within) (cluster_of_within plan c (get_or places c 0) (is.1 c there))

-- what follows is among the controls
pub among_controls : (plan : PlanData) (n : ℕ) → IsPlan plan → n ≡ length plan.controls → AreAmong n plan.followers
among_controls plan n is long = λ k d lt.
    let own = is.follow.each k d lt in
    (omega (arith, own.known, long), each_from (λ s. nat_lt s n) (get_or plan.followers k d) (λ s here. lt-ltb s n (omega (arith, own.lower s here, own.known, long))))

-- a finished plan without the clusters that no call named
pub left : (plan : PlanData) → record (finished plan) { clusters = take (length plan.clusters) (finished plan).clusters } ≡ plan
left plan = ap (λ (clusters : List ClusterData). record plan { clusters = clusters }) (take_at plan.clusters (map alone (in_none plan.clusters (length plan.controls))) (length plan.clusters) refl)
