use Rattle.std.proofs.Common.{◌≡◌, ◌∙◌, ◌<◌, ℕ, List, [], ap, sym, subst, slice_index_or, take_all, arith}
use Rattle.std.specs.Result.{IfOk}
use Rattle.reach_table.specs.Reached.{AreBelow, others_reached}
use Rattle.ctrl_handlers.specs.Plan.{links}
use Rattle.ctrl_handlers.proofs.ReachLemmas.{links_below}
use Rattle.ctrl_handlers.proofs.reaching.reach_table.Goals as goal

-- both ends of each link are clusters
pub build-requires : goal.build-requires
build-requires c =
    subst (AreBelow c.args.count)
    (sym (c.as_slice.ensures.value ∙ c.loop-follower.invariant ∙ ap (links c.args.places.now) (take_all c.loop-follower.follower-index c.args.followers.now (omega (arith, c.loop-follower-test.false)))))
    (links_below c.args.count c.args.places.now c.args.followers.now c.requires.places c.requires.followers)

-- and the links are those of all followers
pub returns : goal.returns
returns c =
    subst (λ (all : List (ℕ × ℕ)). IfOk c.build.result (λ table. (k : ℕ) → k < c.args.count → slice_index_or table k [] ≡ others_reached c.args.count all k))
    (c.as_slice.ensures.value ∙ c.loop-follower.invariant ∙ ap (links c.args.places.now) (take_all c.loop-follower.follower-index c.args.followers.now (omega (arith, c.loop-follower-test.false))))
    c.build.ensures
