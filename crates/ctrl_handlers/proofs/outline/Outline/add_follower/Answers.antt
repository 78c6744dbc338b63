use Rattle.std.proofs.Common.{◌≡◌, ◌∙◌, List, None, map, ap, sym, subst}
use Rattle.ctrl_settle.specs.Control.{Control, default_of}
use Rattle.range_followers.proofs.FollowedLemmas.{IsWanted}
use Rattle.ctrl_handlers.specs.Plan.{PlanData, control_in, wanted_at_start}
use Rattle.ctrl_handlers.proofs.FollowLemmas.{may_follow_where, wanted_start, is_plan_follow}
use Rattle.ctrl_handlers.proofs.outline.Outline.add_follower.Goals as goal

-- one more follower, whose control has the range that is wanted
pub invariant_of-self-2 : goal.invariant_of-self-2
invariant_of-self-2 c =
    let controls : List Control = c.self.inside.controls.items in
    let plan : PlanData = record {
      controls = controls;
      handlers = c.self.inside.handlers.items;
      items = c.self.inside.items.entries;
      clusters = c.self.inside.clusters.items;
      followers = c.self.inside.followers.items;
    } in
    let f = c.args.follower.now in
    let may = may_follow_where plan f (rw (← c.self.view_is) at c.requires) in
    let is : c.in_ok-wanted.wanted ≡ wanted_at_start controls f = c.in_ok-wanted.ensures.range ∙ ap (λ (all : List Control). wanted_at_start all f) c.as_slice.ensures.value in
    rw (c.push_reserved.ensures.items, c.reserve.ensures.items)
    (is_plan_follow plan f c.in_ok-wanted.wanted c.self.invariant may
    (subst (IsWanted (control_in controls f.control) (map default_of controls) f) (sym is) (wanted_start controls f may.follows)) c.in_ok-wanted.ensures.well_formed)
