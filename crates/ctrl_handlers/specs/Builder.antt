-- When the calls of a plan builder refuse (of this project).
use Rattle.std.specs.Prelude.{◌≡◌, ℕ, ℤ, Bool, not, ◌&&◌, ◌||◌, List, nat_eq, nat_le, nat_lt, if◌then◌else◌, length, Option, None, Some, is_some}
use Rattle.std.specs.List.{list_any, list_all}
use Rattle.ctrl_settle.specs.Control.{Control}
use Rattle.menu_items.specs.Places.{takes_name, takes_number}
use Rattle.range_followers.specs.declared.follower.Follower.{Follower}
use Rattle.range_followers.specs.Followed.{each_followed, follows_any, is_followed_by}
use Rattle.range_followers.specs.Wanted.{can_follow, follower_of}
use Rattle.menu_items.specs.declared.name.TheConstants.{MAX_MENU_NAME}
use Rattle.ctrl_handlers.specs.declared.fault.PlanFault.{PlanFault}
use Rattle.ctrl_handlers.specs.declared.fault.PlanFault.TheVariants.{DuplicateId, InCluster, ClusterSize, LaterHandler, UnknownNumber, Limit, Memory, ArrayAlone, CannotFollow}
use Rattle.ctrl_handlers.specs.declared.limits.TheConstants.{MAX_CONTROLS, MAX_HANDLERS}
use Rattle.ctrl_calls.specs.declared.row.TheConstants.{MAX_MEMBERS}
use Rattle.ctrl_handlers.specs.Plan.{PlanData, own, control, control_in, cluster_of, names_twice, crowds_array}
use Rattle.ctrl_handlers.specs.Visible.{first_with_id}

-- Why a further handler is refused: there are as many as there can be.
abbrev pub handler_refusal : PlanData → Option PlanFault
handler_refusal plan = if nat_le MAX_HANDLERS (length plan.handlers) then Some Limit else None

-- Why a further control is refused: there is no such handler; there are as many controls as there can be; one of the handler's
-- own has this id.
abbrev pub control_refusal : PlanData → ℕ → Control → Option PlanFault
control_refusal plan handler ctrl =
    if nat_le (length plan.handlers) handler then Some UnknownNumber
    else if nat_le MAX_CONTROLS (length plan.controls) then Some Limit
    else if is_some (first_with_id plan.controls (own plan handler) ctrl.id) then Some DuplicateId
    else None

-- Why a handler doesn't add another: one of the two isn't there; the other hasn't a smaller number.
abbrev pub adding_refusal : PlanData → ℕ → ℕ → Option PlanFault
adding_refusal plan to added =
    if nat_le (length plan.handlers) to then Some UnknownNumber
    else if nat_le (length plan.handlers) added then Some UnknownNumber
    else if nat_le to added then Some LaterHandler
    else None

-- Why a name is refused: there is no such control; it isn't a menu of names that takes the index; the name is too long.
abbrev pub name_refusal : PlanData → ℕ → ℕ → List ℕ → Option PlanFault
name_refusal plan c index name =
    if nat_le (length plan.controls) c then Some UnknownNumber
    else if not (takes_name (control plan c) index) then Some UnknownNumber
    else if nat_lt MAX_MENU_NAME (length name) then Some Limit
    else None

-- Why a menu's number is refused: there is no such control; it isn't a menu of numbers that takes the index.
abbrev pub number_refusal : PlanData → ℕ → ℕ → Option PlanFault
number_refusal plan c index =
    if nat_le (length plan.controls) c then Some UnknownNumber
    else if not (takes_number (control plan c) index) then Some UnknownNumber
    else None

-- some control is in a cluster already
abbrev pub some_clustered : PlanData → List ℕ → Bool
some_clustered plan members = list_any (λ c. is_some (cluster_of plan c)) members

-- there are none, or more than a cluster can have
abbrev pub misfits : List ℕ → Bool
misfits members = nat_eq (length members) 0 || nat_lt MAX_MEMBERS (length members)

-- Why a cluster, which is an auto cluster where it has a manual value, is refused: it has no member or more than 8; some control isn't there; one is in a cluster already
-- or is named twice; an array isn't alone, or in an auto cluster.
abbrev pub cluster_refusal : PlanData → List ℕ → Option ℤ → Option PlanFault
cluster_refusal plan members manual =
    if misfits members then Some ClusterSize
    else if not (list_all (λ c. nat_lt c (length plan.controls)) members) then Some UnknownNumber
    else if some_clustered plan members || names_twice members then Some InCluster
    else if crowds_array plan members manual then Some ArrayAlone
    else None

-- the control that is to follow is among so many, and those that it is to follow are
abbrev pub is_known : ℕ → Follower → Bool
is_known count f = nat_lt f.control count && each_followed (λ s. nat_lt s count) f

-- whether a control may be followed by another: it has a lower number, is of a kind that can be followed, and follows nothing itself
abbrev pub may_be_followed : List Control → List Follower → ℕ → ℕ → Bool
may_be_followed controls followers c s = nat_lt s c && (can_follow (control_in controls s).kind && not (is_some (follower_of followers s)))

-- whether a control neither follows nor is followed
abbrev pub is_free : List Follower → ℕ → Bool
is_free followers c = not (is_some (follower_of followers c)) && not (list_any (λ g. is_followed_by g c) followers)

-- Whether a control may follow so: it follows any at all, it is of a kind that can, each that it follows may be followed, and it neither follows already nor is followed.
abbrev pub may_follow : List Control → List Follower → Follower → Bool
may_follow controls followers f =
    follows_any f && (can_follow (control_in controls f.control).kind && (each_followed (may_be_followed controls followers f.control) f && is_free followers f.control))

-- Why a follower is refused: a control isn't there; it may not follow so.
abbrev pub follow_refusal : PlanData → Follower → Option PlanFault
follow_refusal plan f =
    if not (is_known (length plan.controls) f) then Some UnknownNumber
    else if not (may_follow plan.controls plan.followers f) then Some CannotFollow
    else None

-- A call answers its refusal where it has one; where it has none it can only want memory.
abbrev pub IsRefusedBy : Option PlanFault → PlanFault → Type 0
IsRefusedBy (Some refusal) fault = fault ≡ refusal
IsRefusedBy None fault = fault ≡ Memory

-- a fault's number
abbrev pub plan_fault_number : PlanFault → ℕ
plan_fault_number DuplicateId = 1
plan_fault_number InCluster = 2
plan_fault_number ClusterSize = 3
plan_fault_number LaterHandler = 4
plan_fault_number UnknownNumber = 5
plan_fault_number Limit = 6
plan_fault_number Memory = 7
plan_fault_number ArrayAlone = 8
plan_fault_number CannotFollow = 9
