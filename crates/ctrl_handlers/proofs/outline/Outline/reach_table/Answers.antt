use Rattle.std.proofs.Common.{◌≡◌, ◌∙◌, ◌<◌, ℕ, List, [], length, slice_index_or, ap, sym, subst}
use Rattle.std.specs.List.{All}
use Rattle.std.proofs.lemmas.Result.{IfOk-weaker}
use Rattle.range_followers.specs.declared.follower.Follower.{Follower}
use Rattle.reach_table.specs.Reached.{others_reached}
use Rattle.ctrl_handlers.specs.Plan.{PlanData, AreAmong, HasReach, cluster_table, links}
use Rattle.ctrl_handlers.proofs.ReachLemmas.{among_controls, same_table, table_below}
use Rattle.ctrl_handlers.proofs.outline.Outline.reach_table.Goals as goal

-- what follows is among the controls
pub reach_table-requires-clause-followers : goal.reach_table-requires-clause-followers
reach_table-requires-clause-followers c =
    subst (AreAmong (length c.args.places.now)) (sym (c.as_slice.ensures.value ∙ ap (λ (p : PlanData). p.followers) c.self.view_is))
    (among_controls c.args.self.now (length c.args.places.now) c.requires.finished.is_plan c.requires.places.0)

-- and each is in a cluster
pub reach_table-requires-clause-places : goal.reach_table-requires-clause-places
reach_table-requires-clause-places c =
    subst (λ (n : ℕ). All (λ k. k < n) c.args.places.now) (sym c.cluster_count.ensures.count) (table_below c.args.self.now c.args.places.now c.requires.places)

pub returns : goal.returns
returns c =
    let count : c.cluster_count.result ≡ length c.args.self.now.clusters = c.cluster_count.ensures.count in
    let followers : c.as_slice.result.now ≡ c.args.self.now.followers = c.as_slice.ensures.value ∙ ap (λ (p : PlanData). p.followers) c.self.view_is in
    IfOk-weaker c.reach_table.result
    (λ table. (k : ℕ) → k < c.cluster_count.result → slice_index_or table k [] ≡ others_reached c.cluster_count.result (links c.args.places.now c.as_slice.result.now) k) (HasReach c.args.self.now)
    (λ table has k lt.
    has k (subst (λ (n : ℕ). k < n) (sym count) lt)
    ∙ ap (λ (n : ℕ). others_reached n (links c.args.places.now c.as_slice.result.now) k) count
    ∙ ap (λ (places : List ℕ). others_reached (length c.args.self.now.clusters) (links places c.as_slice.result.now) k) (same_table c.args.self.now c.args.places.now c.requires.places)
    ∙ ap (λ (all : List Follower). others_reached (length c.args.self.now.clusters) (links (cluster_table c.args.self.now) all) k) followers)
    c.reach_table.ensures
