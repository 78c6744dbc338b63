use Rattle.std.proofs.Common.{◌≡◌, ◌∙◌, ◌<◌, ap, length, filter, List, subst, sym, arith}
use Rattle.std.specs.List.{All, range_with_len}
use Rattle.ctrl_types.specs.declared.ids.Pair.{Pair}
use Rattle.ctrl_clusters.specs.Following.{reached_clusters}
use Rattle.ctrl_forecast.specs.Boards.{named_clusters}
use Rattle.ctrl_forecast.proofs.ReadyLemmas.{named_within}
use Rattle.frame_forecast.specs.Sparse.{can_move}
use Rattle.frame_forecast.proofs.BoardLemmas.{made_kept}
use Rattle.frame_forecast.proofs.sparse.SparseFrame.new.Goals as goal

-- the clusters that pairs name are clusters of the plan
pub reach-requires : goal.reach-requires
reach-requires g c =
    subst (All (λ k. k < length c.args.plan.now.clusters)) (sym (c.as_slice.ensures.value ∙ c.in_ok-named.ensures)) (named_within c.args.plan.now c.queued.inside.asked.now)

pub returns-clause-kept : goal.returns-clause-kept
returns-clause-kept g c =
    made_kept c.args.plan.now
    (record {
      request = c.queued.inside.request;
      buffer = c.queued.inside.buffer;
      asked = c.in_ok-asked.asked.items;
      named = c.in_ok-named.named.items;
      reached = c.reach.new.reached.items;
      moved = c.in_ok-moved.moved.items;
      given = c.in_ok-given.given.items;
      refused = c.reserve.new.self.items;
    })
    (c.in_ok-named.ensures ∙ ap (named_clusters c.args.plan.now) (sym c.in_ok-asked.ensures.items)) (c.in_ok-reach.ensures ∙ ap (reached_clusters c.args.plan.now) c.as_slice.ensures.value)
    (c.in_ok-moved.ensures ∙ ap (λ (pairs : List Pair). filter (can_move c.args.plan.now pairs) (range_with_len 0 (length c.args.plan.now.controls))) (sym c.in_ok-asked.ensures.items))
    (omega (arith, c.in_ok-given.ensures.len, c.len-2.ensures)) (c.in_ok-reserve.ensures.items ∙ c.new-refused.ensures.items)
