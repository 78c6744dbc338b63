-- Ranges that follow values, and what a change leaves once they do (of this project; the driver of a sensor does so by `v4l2_ctrl_modify_range`, Linux driver API).
use Rattle.std.specs.Prelude.{◌≡◌, ◌<◌, ℕ, Bool, true, false, nat_eq, if◌then◌else◌, List, length, map, Option, None, Some, is_some, unwrap_or}
use Rattle.std.specs.List.{All, filter, list_any, range_with_len}
use Rattle.ctrl_types.specs.declared.ids.Pair.{Pair}
use Rattle.ctrl_types.specs.declared.value.CtrlValue.{CtrlValue}
use Rattle.ctrl_calls.specs.Meanings.{Verdicts}
use Rattle.ctrl_settle.specs.Control.{Control}
use Rattle.ctrl_settle.specs.Faults.{IsWellFormed}
use Rattle.ctrl_settle.specs.Settle.{settled_anew}
use Rattle.range_followers.specs.declared.follower.Follower.{Follower}
use Rattle.range_followers.specs.Followed.{is_followed_by}
use Rattle.range_followers.specs.Wanted.{follower_of, wanted_range}
use Rattle.reach_table.specs.Reached.{is_reached}
use Rattle.ctrl_handlers.specs.Plan.{PlanData, cluster_of, cluster_table, control_in, links, members, names_twice}
use Rattle.ctrl_clusters.specs.ControlsData.{ControlsData, as_one, is_in_one_of}
use Rattle.ctrl_clusters.specs.Overlay.{is_touched, overlay}
use Rattle.ctrl_clusters.specs.Rows.{AreControlsOf, Grabs, Values, is_grabbed, value_at}

-- a control with the range that values give it: the one that it is wanted to have, where it follows; else its own
abbrev pub range_under : List Follower → List Control → Values → ℕ → Control
range_under followers controls values c = unwrap_or (wanted_range followers c (control_in controls c) values) (control_in controls c)

-- the ranges that values give
unfoldable pub ranges_under : List Follower → List Control → Values → List Control
ranges_under followers controls values = map (range_under followers controls values) (range_with_len 0 (length controls))

-- the value of a control once its range follows these values: where it does it is settled by that range, and no validator is asked
abbrev pub value_under : List Follower → List Control → Values → ℕ → CtrlValue
value_under followers controls values c =
    if is_some (follower_of followers c) then settled_anew (range_under followers controls values c) (value_at values c) else value_at values c

-- the values then
unfoldable pub values_under : List Follower → List Control → Values → Values
values_under followers controls values = map (value_under followers controls values) (range_with_len 0 (length values))

-- What ranges, values and grabs are once each range that follows is the one that is wanted for the values, and its value is settled by it.
abbrev pub followed : PlanData → ControlsData → ControlsData
followed plan c = as_one (ranges_under plan.followers c.ranges c.values) (values_under plan.followers c.ranges c.values) c.grabs

-- Pairs laid over values, by the ranges of before, and then followed: what a set, a begin and each queued frame make.
abbrev pub laid_over : Verdicts → PlanData → ControlsData → List Pair → ControlsData
laid_over verdicts plan c pairs = followed plan (record c { values = overlay verdicts plan c.ranges c.values c.grabs pairs })

-- the cluster of a control has a member among pairs
abbrev pub is_touched_in : PlanData → List Pair → Option ℕ → Bool
is_touched_in plan pairs None = false
is_touched_in plan pairs (Some k) = is_touched pairs (members plan k)

-- Some controls hold the members of each cluster together, and with what is followed what follows it: so what doesn't belong to them follows nothing that does.
pub record IsClosed (plan : PlanData) (inside : ℕ → Bool) : Type 0 where
  pub clusters : (k c d : ℕ) → list_any (nat_eq c) (members plan k) ≡ true → list_any (nat_eq d) (members plan k) ≡ true → inside c ≡ false → inside d ≡ false
  pub follows : (f : Follower) (c s : ℕ) → follower_of plan.followers c ≡ Some f → is_followed_by f s ≡ true → inside c ≡ false → inside s ≡ false

-- two moments agree on all other controls
pub record AgreeOutside (plan : PlanData) (inside : ℕ → Bool) (before after : ControlsData) : Type 0 where
  pub ranges : (c : ℕ) → inside c ≡ false → c < length plan.controls → control_in before.ranges c ≡ control_in after.ranges c
  pub values : (c : ℕ) → inside c ≡ false → c < length plan.controls → value_at before.values c ≡ value_at after.values c
  pub grabs : (c : ℕ) → inside c ≡ false → c < length plan.controls → is_grabbed before.grabs c ≡ is_grabbed after.grabs c

-- Ranges, values and grabs where these values stand: the ranges that follow are those that the values give.
abbrev pub under_values : PlanData → List Control → Grabs → Values → ControlsData
under_values plan controls grabs values = as_one (ranges_under plan.followers controls values) values grabs

-- The clusters that a change of some can change, rising: these, and on and on each with a member that follows a member of one of them.
abbrev pub reached_clusters : PlanData → List ℕ → List ℕ
reached_clusters plan ks = filter (λ k. list_any (λ j. is_reached (links (cluster_table plan) plan.followers) j k) ks) (range_with_len 0 (length plan.clusters))

-- the controls of some clusters
abbrev pub inside_of : PlanData → List ℕ → ℕ → Bool
inside_of plan ks c = is_in_one_of ks (cluster_of plan c)

-- Some clusters of a plan, each once, that hold all that a change of them reaches.
pub record IsReach (plan : PlanData) (ks : List ℕ) : Type 0 where
  pub known : All (λ k. k < length plan.clusters) ks
  pub once : names_twice ks ≡ false
  pub closed : IsClosed plan (inside_of plan ks)

-- Outside of some clusters each range that follows is the one that these values give, and its value is settled by it.
pub record HaveFollowed (plan : PlanData) (ks : List ℕ) (controls : List Control) (given : Values) : Type 0 where
  pub ranges : (c : ℕ) → c < length plan.controls → inside_of plan ks c ≡ false → range_under plan.followers controls given c ≡ control_in controls c
  pub values : (c : ℕ) → c < length plan.controls → inside_of plan ks c ≡ false → value_under plan.followers controls given c ≡ value_at given c

-- Ranges and values once the ranges of some controls follow: each of these has the range and the value that the ranges and the values of before give it, and every other its own.
pub record HaveFollowedAt (followers : List Follower) (these : ℕ → Bool) (controls : List Control) (given : Values) (controls_then : List Control) (given_then : Values) : Type 0 where
  pub ranges : (c : ℕ) → control_in controls_then c ≡ (if these c then range_under followers controls given c else control_in controls c)
  pub values : (c : ℕ) → value_at given_then c ≡ (if these c then value_under followers controls given c else value_at given c)
  pub many : length controls_then ≡ length controls
  pub long : length given_then ≡ length given

-- Ranges, values and grabs as a device has them at any moment: of the plan's controls, with nothing wrong in them, a value and a grab for each, and each range that follows is the one wanted for the
-- values, by which its value is settled.
pub record AreAtRest (plan : PlanData) (c : ControlsData) : Type 0 where
  pub ranged : AreControlsOf plan c.ranges
  pub valued : length c.values ≡ length plan.controls
  pub held : length c.grabs ≡ length plan.controls
  pub sound : (k : ℕ) → k < length c.ranges → IsWellFormed (control_in c.ranges k)
  pub settled : followed plan c ≡ c
