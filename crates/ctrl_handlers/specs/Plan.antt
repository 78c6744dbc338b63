-- What a plan holds, as plain data, and what each call of a builder adds to it (Linux driver API, "V4L2 Controls", "Control
-- Clusters").
use Rattle.std.specs.Prelude.{◌≡◌, ℕ, ℤ, pos, Bool, false, true, not, ◌==◌, ◌&&◌, ◌||◌, ◌<◌, ◌≤◌, List, [], ◌∷◌, ◌++◌, length, Option, None, Some, is_some, map, nat_eq, nat_lt, position, if◌then◌else◌, slice_index, slice_index_or, slice_set, unwrap_or}
use Rattle.std.specs.List.{All, list_any, filter, flat_map, range_with_len}
use Rattle.std.specs.Map.{lookup}
use Rattle.indexmap.specs.IndexMap.{insert_entry}
use Rattle.ctrl_types.specs.declared.kind.Kind.TheVariants.{Integer}
use Rattle.ctrl_types.specs.Flags.{union}
use Rattle.ctrl_types.specs.declared.flags.Flags.{Flags}
use Rattle.ctrl_types.specs.declared.flags.TheConstants.Flags.{UPDATE}
use Rattle.ctrl_calls.specs.declared.relation.Relations.{Relations}
use Rattle.ctrl_calls.specs.declared.row.TheConstants.{MAX_MEMBERS}
use Rattle.ctrl_settle.specs.Control.{Control, default_of, is_array}
use Rattle.ctrl_settle.specs.Faults.{IsWellFormed}
use Rattle.menu_items.specs.Places.{takes}
use Rattle.range_followers.specs.declared.follower.Follower.{Follower}
use Rattle.range_followers.specs.declared.follower.Source.{Source}
use Rattle.range_followers.specs.Followed.{each_followed, is_followed_by, source_of}
use Rattle.reach_table.specs.Reached.{others_reached}
use Rattle.range_followers.specs.Wanted.{can_follow, follower_of, unless_there, wanted_by}
use Rattle.ctrl_handlers.specs.HandlerData.{HandlerData}
use Rattle.ctrl_handlers.specs.ClusterData.{ClusterData}
use Rattle.ctrl_handlers.specs.declared.limits.TheConstants.{MAX_CONTROLS, MAX_HANDLERS}
use Rattle.menu_items.specs.declared.item.MenuItem.{MenuItem}

-- The controls by number, the handlers by number, the items of menus by control and index, the clusters by number, and how ranges follow other controls.
pub record PlanData : Type 0 where
  pub controls : List Control
  pub handlers : List HandlerData
  pub items : List ((ℕ × ℕ) × MenuItem)
  pub clusters : List ClusterData
  pub followers : List Follower

-- what stands for a number that names no control
abbrev pub no_control : Control
no_control = record { id = record { 0 = 0 }; kind = Integer; minimum = pos 0; maximum = pos 0; step = 1; default_value = pos 0; skip = 0; flags = record { 0 = 0 }; is_private = false; elems = None }

-- the control with a number, among these
abbrev pub control_in : List Control → ℕ → Control
control_in controls c = slice_index_or controls c no_control

-- the control with a number
abbrev pub control : PlanData → ℕ → Control
control plan c = control_in plan.controls c

-- a handler of nothing
abbrev pub no_handler : HandlerData
no_handler = record { own = []; added = [] }

-- the handler with a number
abbrev pub handler_at : PlanData → ℕ → HandlerData
handler_at plan h = slice_index_or plan.handlers h no_handler

-- a handler's own controls, in the order of their declaration
abbrev pub own : PlanData → ℕ → List ℕ
own plan h = (handler_at plan h).own

-- the handlers that a handler adds, in the order of adding
abbrev pub added : PlanData → ℕ → List ℕ
added plan h = (handler_at plan h).added

-- the same control and index
abbrev pub same_place : ℕ × ℕ → ℕ × ℕ → Bool
same_place p q = p.0 == q.0 && p.1 == q.1

-- the item of a menu at an index, where one was given
abbrev pub menu_item : PlanData → ℕ → ℕ → Option MenuItem
menu_item plan c index = lookup (same_place (c, index)) plan.items

-- a control is one of a cluster's members
abbrev pub has_member : ℕ → ClusterData → Bool
has_member c cluster = list_any (nat_eq c) cluster.members

-- the cluster that a control is in
abbrev pub cluster_of : PlanData → ℕ → Option ℕ
cluster_of plan c = position (has_member c) plan.clusters

-- a table of clusters: at the number of each control, the cluster that it is in
abbrev pub HasClusterTable : PlanData → List ℕ → Type 0
HasClusterTable plan places = (length places ≡ length plan.controls) × ((c : ℕ) → c < length plan.controls → cluster_of plan c ≡ Some (slice_index places c))

-- no closures
abbrev pub no_calls : Relations
no_calls = record { validator = None; notifier = None }

-- what stands for a number that names no cluster
abbrev pub no_cluster : ClusterData
no_cluster = record { members = []; manual = None; calls = no_calls }

-- the cluster with a number
abbrev pub cluster_at : PlanData → ℕ → ClusterData
cluster_at plan k = slice_index_or plan.clusters k no_cluster

-- a cluster's members, in the order in which they were named
abbrev pub members : PlanData → ℕ → List ℕ
members plan k = (cluster_at plan k).members

-- the first member of a cluster; each cluster that is there has one
abbrev pub master_of : ClusterData → ℕ
master_of cluster = slice_index cluster.members 0

-- the relations of a cluster's closures
abbrev pub calls_of : PlanData → ℕ → Relations
calls_of plan k = (cluster_at plan k).calls

-- the relations of the clusters' closures, in the order of the clusters
abbrev pub all_calls : PlanData → List Relations
all_calls plan = map (λ (k : ClusterData). k.calls) plan.clusters

-- closures that answer by the relations of the clusters; a cluster past them has none
abbrev pub HasCalls : PlanData → List Relations → Type 0
HasCalls plan calls = (k : ℕ) → slice_index_or calls k no_calls ≡ calls_of plan k

-- whether a cluster is an auto cluster with this master
abbrev pub leads : ℕ → ClusterData → Bool
leads c cluster = is_some cluster.manual && master_of cluster == c

-- the flags that a plan gives a control: its own, and UPDATE where it is the master of an auto cluster
abbrev pub plan_flags : PlanData → ℕ → Flags
plan_flags plan c = if list_any (leads c) plan.clusters then union (control plan c).flags UPDATE else (control plan c).flags

-- some control is named twice
abbrev pub names_twice : List ℕ → Bool
names_twice [] = false
names_twice (c ∷ cs) = list_any (nat_eq c) cs || names_twice cs

-- an array is beside other members, or in an auto cluster
abbrev pub crowds_array : PlanData → List ℕ → Option ℤ → Bool
crowds_array plan members manual = (is_some manual || nat_lt 1 (length members)) && list_any (λ c. is_array (control plan c)) members

-- What holds of each follower among others: its control is there and of a kind that can follow; what it follows is of such a kind, too, has a lower number, and
-- follows nothing itself; and its control has the range that is wanted under the defaults.
pub record IsFollowing (controls : List Control) (followers : List Follower) (f : Follower) : Type 0 where
  pub known : f.control < length controls
  pub follows : can_follow (control_in controls f.control).kind ≡ true
  pub lower : (s : ℕ) → is_followed_by f s ≡ true → s < f.control
  pub followed : (s : ℕ) → is_followed_by f s ≡ true → can_follow (control_in controls s).kind ≡ true
  pub still : (s : ℕ) → is_followed_by f s ≡ true → is_some (follower_of followers s) ≡ false
  pub wanted : is_some (unless_there (control_in controls f.control) (wanted_by (control_in controls f.control) (map default_of controls) f)) ≡ false

-- the controls that follow, in the order of the calls
abbrev pub following : List Follower → List ℕ
following followers = map (λ f. f.control) followers

-- What holds of all followers: this, and that no control follows twice.
pub record AreFollowing (controls : List Control) (followers : List Follower) : Type 0 where
  pub each : All (IsFollowing controls followers) followers
  pub once : names_twice (following followers) ≡ false

-- the ids of some controls
abbrev pub ids_of : List Control → List ℕ → List ℕ
ids_of controls numbers = map (λ c. (control_in controls c).id.0) numbers

-- What holds of every plan: the limits, that nothing is wrong with a control, that an item stands only where its control takes it, that a
-- cluster has members, not too many, that they are there and differ, that a control is in one cluster at most, that an array is alone in its
-- cluster, which is no auto cluster, that each handler's own controls are there and their ids differ, that it adds only handlers with
-- smaller numbers, and that what follows may.
pub record IsPlan (plan : PlanData) : Type 0 where
  pub few_controls : length plan.controls ≤ MAX_CONTROLS
  pub few_handlers : length plan.handlers ≤ MAX_HANDLERS
  pub well_formed : All IsWellFormed plan.controls
  pub items_known : (c index : ℕ) (item : MenuItem) → menu_item plan c index ≡ Some item → c < length plan.controls
  pub items_taken : (c index : ℕ) (item : MenuItem) → menu_item plan c index ≡ Some item → takes item (control plan c) index ≡ true
  pub some_members : (k : ℕ) → k < length plan.clusters → 0 < length (members plan k)
  pub few_members : (k : ℕ) → length (members plan k) ≤ MAX_MEMBERS
  pub members_known : (k : ℕ) → All (λ c. c < length plan.controls) (members plan k)
  pub members_differ : (k : ℕ) → names_twice (members plan k) ≡ false
  pub members_apart : (k c : ℕ) → k < length plan.clusters → list_any (nat_eq c) (members plan k) ≡ true → cluster_of plan c ≡ Some k
  pub lone_arrays : (k : ℕ) → crowds_array plan (members plan k) (cluster_at plan k).manual ≡ false
  pub own_known : (h : ℕ) → All (λ c. c < length plan.controls) (own plan h)
  pub own_differ : (h : ℕ) → names_twice (ids_of plan.controls (own plan h)) ≡ false
  pub added_before : (h : ℕ) → All (λ a. a < h) (added plan h)
  pub follow : AreFollowing plan.controls plan.followers

-- What holds of a plan that is finished, besides: each control is in a cluster.
pub record IsFinished (plan : PlanData) : Type 0 where
  pub is_plan : IsPlan plan
  pub clustered : (c : ℕ) → c < length plan.controls → is_some (cluster_of plan c) ≡ true

-- a plan of nothing
abbrev pub no_plan : PlanData
no_plan = record { controls = []; handlers = []; items = []; clusters = []; followers = [] }

-- the plan with one more handler, which shows nothing yet
abbrev pub with_handler : PlanData → PlanData
with_handler plan = record plan { handlers = plan.handlers ++ no_handler ∷ [] }

-- a handler with one more control of its own, the last
unfoldable pub owning : HandlerData → ℕ → HandlerData
owning handler c = record handler { own = handler.own ++ c ∷ [] }

-- the plan with one more control, the last of its handler's own
abbrev pub with_control : PlanData → ℕ → Control → PlanData
with_control plan h ctrl = record plan {
  controls = plan.controls ++ ctrl ∷ [];
  handlers = slice_set plan.handlers h (owning (handler_at plan h) (length plan.controls));
}

-- a handler that adds another, the last; adding again does nothing
unfoldable pub adding : HandlerData → ℕ → HandlerData
adding handler a = if list_any (nat_eq a) handler.added then handler else record handler { added = handler.added ++ a ∷ [] }

-- the plan where a handler adds another
abbrev pub with_added : PlanData → ℕ → ℕ → PlanData
with_added plan h a = record plan { handlers = slice_set plan.handlers h (adding (handler_at plan h) a) }

-- the plan with an item of a menu, in the place of the one that its index had
abbrev pub with_item : PlanData → ℕ → ℕ → MenuItem → PlanData
with_item plan c index item = record plan { items = insert_entry same_place plan.items (c, index) item }

-- the plan with one more cluster, which is an auto cluster where it has a manual value
abbrev pub with_cluster : PlanData → List ℕ → Option ℤ → Relations → PlanData
with_cluster plan members manual calls = record plan { clusters = plan.clusters ++ record { members = members; manual = manual; calls = calls } ∷ [] }

-- the cluster of each control, in their order
abbrev pub cluster_table : PlanData → List ℕ
cluster_table plan = map (λ c. unwrap_or (cluster_of plan c) 0) (range_with_len 0 (length plan.controls))

-- a change reaches on from the cluster of what is followed to that of what follows it, by a table of the clusters
abbrev pub link_from : List ℕ → ℕ → Option Source → List (ℕ × ℕ)
link_from places c None = []
link_from places c (Some source) = (slice_index places source.control, slice_index places c) ∷ []

abbrev pub links_of : List ℕ → Follower → List (ℕ × ℕ)
links_of places f = link_from places f.control f.minimum ++ (link_from places f.control f.maximum ++ link_from places f.control (source_of f.default_value))

abbrev pub links : List ℕ → List Follower → List (ℕ × ℕ)
links places followers = flat_map (links_of places) followers

-- the control of a follower is among so many, and each that it follows
abbrev pub IsAmong : ℕ → Follower → Type 0
IsAmong count f = (f.control < count) × (each_followed (λ s. nat_lt s count) f ≡ true)

abbrev pub AreAmong : ℕ → List Follower → Type 0
AreAmong count followers = All (IsAmong count) followers

-- The other clusters that a change reaches from a cluster: on and on, each with a member that follows a member of the cluster, or of one that is reached.
abbrev pub reached_from : PlanData → ℕ → List ℕ
reached_from plan k = others_reached (length plan.clusters) (links (cluster_table plan) plan.followers) k

-- a table of these
abbrev pub HasReach : PlanData → List (List ℕ) → Type 0
HasReach plan table = (k : ℕ) → k < length plan.clusters → slice_index_or table k [] ≡ reached_from plan k

-- a control with the range that it is wanted to have under the defaults of all
abbrev pub wanted_at_start : List Control → Follower → Control
wanted_at_start controls f = unwrap_or (wanted_by (control_in controls f.control) (map default_of controls) f) (control_in controls f.control)

-- the plan where one control more follows others; it has the range that is wanted under the defaults
abbrev pub with_follower : PlanData → Follower → PlanData
with_follower plan f = record plan { controls = slice_set plan.controls f.control (wanted_at_start plan.controls f); followers = plan.followers ++ f ∷ [] }

-- a cluster of one control, without closures
abbrev pub alone : ℕ → ClusterData
alone c = record { members = c ∷ []; manual = None; calls = no_calls }

-- the controls below a number that are in none of these clusters, in rising order
abbrev pub in_none : List ClusterData → ℕ → List ℕ
in_none clusters n = filter (λ c. not (list_any (has_member c) clusters)) (range_with_len 0 n)

-- The plan once it is finished: each control that no cluster call named is a cluster of its own, without closures. These come after
-- the others, in the order of the controls.
abbrev pub finished : PlanData → PlanData
finished plan = record plan { clusters = plan.clusters ++ map alone (in_none plan.clusters (length plan.controls)) }
