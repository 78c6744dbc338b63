-- Queued frames that keep the values of what they change alone (of this project).
use Rattle.std.specs.Prelude.{◌≡◌, ◌<◌, if◌then◌else◌, cond, ℕ, zero, suc, Bool, true, false, not, nat_eq, ◌||◌, List, [], ◌∷◌, length, map, Option, None, Some, is_some, ◌==◌, unwrap_or, Result, Ok, Err, is_err, slice_index_or, slice_set}
use Rattle.std.specs.List.{list_all, list_any, position, range_with_len, sum_by}
use Rattle.std.specs.Option.{option_map}
use Rattle.ctrl_types.specs.declared.ids.Pair.{Pair}
use Rattle.ctrl_types.specs.declared.ids.RequestId.{RequestId}
use Rattle.ctrl_types.specs.declared.errno.Errno.{Errno}
use Rattle.ctrl_types.specs.declared.value.CtrlValue.{CtrlValue}
use Rattle.ctrl_types.specs.Values.{is_same, zero_value}
use Rattle.ctrl_calls.specs.Meanings.{Verdicts}
use Rattle.ctrl_settle.specs.Control.{Control}
use Rattle.ctrl_settle.specs.Settle.{settled_anew}
use Rattle.range_followers.specs.declared.follower.Follower.{Follower}
use Rattle.range_followers.specs.Followed.{each_followed}
use Rattle.range_followers.specs.Wanted.{follower_of}
use Rattle.ctrl_handlers.specs.Plan.{PlanData, cluster_of, control_in, members}
use Rattle.ctrl_clusters.specs.ControlsData.{ControlsData}
use Rattle.ctrl_clusters.specs.Following.{is_touched_in, laid_over, reached_clusters, range_under, ranges_under, under_values}
use Rattle.ctrl_clusters.specs.Overlay.{is_touched, refused_clusters, row_after}
use Rattle.ctrl_clusters.specs.Rows.{Grabs, Values, row_of, value_at}
use Rattle.ctrl_forecast.specs.Forecasts.{QueuedData}
use Rattle.ctrl_clusters.specs.Rising.{AreRisingBelow, with_or_without}
use Rattle.ctrl_forecast.specs.Boards.{named_clusters}

-- a queued frame: what it asks for, the clusters with a member among that, those that this can change, the controls that this can move, the value of each of them, and the clusters that are refused
pub record SparseFrame : Type 0 where
  pub request : RequestId
  pub buffer : ℕ
  pub asked : List Pair
  pub named : List ℕ
  pub reached : List ℕ
  pub moved : List ℕ
  pub given : List CtrlValue
  pub refused : List ℕ

-- the value that a frame gives a control, where it gives one; of two places of one control the first counts
abbrev pub value_given : SparseFrame → ℕ → Option CtrlValue
value_given frame c = option_map (value_at frame.given) (position (λ k. k == c) frame.moved)

-- values, where those that a frame gives stand in the place of others
unfoldable pub linked : SparseFrame → Values → Values
linked frame values = map (λ c. unwrap_or (value_given frame c) (value_at values c)) (range_with_len 0 (length values))

-- what stands for a place where no frame is
abbrev pub no_sparse_frame : SparseFrame
no_sparse_frame = record { request = record { 0 = 0 }; buffer = 0; asked = []; named = []; reached = []; moved = []; given = []; refused = [] }

abbrev pub sparse_at : List SparseFrame → ℕ → SparseFrame
sparse_at frames i = slice_index_or frames i no_sparse_frame

-- the values before the frame at a place, where these stand before the first
abbrev pub values_upto : Values → List SparseFrame → ℕ → Values
values_upto values frames zero = values
values_upto values frames (suc i) = linked (sparse_at frames i) (values_upto values frames i)

-- whether a control that follows so follows one whose cluster has a member among pairs
abbrev pub follows_touched : PlanData → List Pair → Option Follower → Bool
follows_touched plan pairs None = false
follows_touched plan pairs (Some f) = not (each_followed (λ s. not (is_touched_in plan pairs (cluster_of plan s))) f)

-- Whether pairs can move a control: its cluster has a member among them, or it follows one whose cluster has.
abbrev pub can_move : PlanData → List Pair → ℕ → Bool
can_move plan pairs c = is_touched_in plan pairs (cluster_of plan c) || follows_touched plan pairs (follower_of plan.followers c)

-- A frame gives values to just the controls that its pairs can move.
pub record HasLinks (plan : PlanData) (frame : SparseFrame) : Type 0 where
  pub there : (c : ℕ) → c < length plan.controls → is_some (value_given frame c) ≡ can_move plan frame.asked c

-- The values and the refused clusters of a frame are those of its pairs, laid over values whose ranges follow them, and followed.
pub record IsRightOver (verdicts : Verdicts) (plan : PlanData) (controls : List Control) (grabs : Grabs) (values : Values) (frame : SparseFrame) : Type 0 where
  pub values_right : linked frame values ≡ (laid_over verdicts plan (under_values plan controls grabs values) frame.asked).values
  pub refused_right : frame.refused ≡ refused_clusters verdicts plan (ranges_under plan.followers controls values) values grabs frame.asked

-- the frame as it was queued
abbrev pub queued_sparse : SparseFrame → QueuedData
queued_sparse frame = record { request = frame.request; buffer = frame.buffer; asked = frame.asked }

-- Among other values and ranges a control stands as it does under these.
pub record IsLoaded (followers : List Follower) (controls : List Control) (base values : Values) (ranges : List Control) (c : ℕ) : Type 0 where
  pub value : value_at values c ≡ value_at base c
  pub range : control_in ranges c ≡ range_under followers controls base c

-- values with another one at a place, where there is a place
abbrev pub set_where : Values → Option ℕ → CtrlValue → Values
set_where values None v = values
set_where values (Some i) v = slice_set values i v

-- a frame that gives a control another value, where it gives it one
abbrev pub with_given : SparseFrame → ℕ → CtrlValue → SparseFrame
with_given frame c v = record frame { given = set_where frame.given (position (λ k. k == c) frame.moved) v }

-- one that gives some controls those of a row
abbrev pub with_row_given : SparseFrame → List ℕ → List CtrlValue → SparseFrame
with_row_given frame [] row = frame
with_row_given frame (c ∷ cs) [] = frame
with_row_given frame (c ∷ cs) (v ∷ row) = with_row_given (with_given frame c v) cs row

-- the row that comes of a cluster's pairs; a refused cluster keeps its own
abbrev pub row_or : List CtrlValue → Result (List CtrlValue) Errno → List CtrlValue
row_or own (Ok row) = row
row_or own (Err errno) = own

-- One where a cluster is judged over values under these ranges: it gives its members the row that comes of that, or that of the values, and is refused or isn't.
abbrev pub judged_frame : Verdicts → PlanData → List Control → Grabs → Values → ℕ → SparseFrame → SparseFrame
judged_frame verdicts plan controls grabs base k frame = record (with_row_given frame (members plan k) (row_or (row_of base (members plan k)) (row_after verdicts plan controls base grabs frame.asked k))) {
  refused = with_or_without k (is_err (row_after verdicts plan controls base grabs frame.asked k)) frame.refused;
}

-- and so some clusters, one after another
abbrev pub judged_all : Verdicts → PlanData → List Control → Grabs → Values → List ℕ → SparseFrame → SparseFrame
judged_all verdicts plan controls grabs base [] frame = frame
judged_all verdicts plan controls grabs base (k ∷ ks) frame = judged_all verdicts plan controls grabs base ks (judged_frame verdicts plan controls grabs base k frame)

-- What holds of each frame, whatever it gives: it names the clusters with a member among its pairs, and each refused one is among these.
pub record IsNaming (plan : PlanData) (frame : SparseFrame) : Type 0 where
  pub rising : AreRisingBelow (length plan.clusters) frame.refused
  pub names : frame.named ≡ named_clusters plan frame.asked
  pub touched : (k : ℕ) → k < length plan.clusters → list_any (nat_eq k) frame.refused ≡ true → is_touched frame.asked (members plan k) ≡ true

-- One where the value of a control whose range follows is settled by the range that values give it.
abbrev pub followed_given : PlanData → List Control → Values → ℕ → SparseFrame → SparseFrame
followed_given plan controls mid c frame =
    if is_some (follower_of plan.followers c) then with_given frame c (settled_anew (range_under plan.followers controls mid c) (unwrap_or (value_given frame c) zero_value)) else frame

-- and so those of some controls, one after another, and of all members of some clusters
abbrev pub followed_members : PlanData → List Control → Values → List ℕ → SparseFrame → SparseFrame
followed_members plan controls mid [] frame = frame
followed_members plan controls mid (c ∷ cs) frame = followed_members plan controls mid cs (followed_given plan controls mid c frame)

abbrev pub followed_clusters : PlanData → List Control → Values → List ℕ → SparseFrame → SparseFrame
followed_clusters plan controls mid [] frame = frame
followed_clusters plan controls mid (k ∷ ks) frame = followed_clusters plan controls mid ks (followed_members plan controls mid (members plan k) frame)

-- What a frame becomes where some clusters are renewed over values: they are judged, by the ranges that these give, and then followed.
abbrev pub renewed_sparse : Verdicts → PlanData → List Control → Grabs → Values → List ℕ → SparseFrame → SparseFrame
renewed_sparse verdicts plan controls grabs base clusters frame =
    followed_clusters plan controls (linked (judged_all verdicts plan (ranges_under plan.followers controls base) grabs base clusters frame) base) clusters
    (judged_all verdicts plan (ranges_under plan.followers controls base) grabs base clusters frame)

-- A frame that is worked out over values: all that its pairs can change is renewed in it.
abbrev pub worked_out : Verdicts → PlanData → ControlsData → Values → SparseFrame → SparseFrame
worked_out verdicts plan c base frame = record (renewed_sparse verdicts plan c.ranges c.grabs base frame.reached (record frame { reached = [] })) { reached = frame.reached }

-- whether a frame gives some member of some clusters a value
abbrev pub gives_any : SparseFrame → List ℕ → Bool
gives_any frame cs = list_any (λ c. is_some (value_given frame c)) cs

abbrev pub gives_inside : PlanData → List ℕ → SparseFrame → Bool
gives_inside plan ks frame = list_any (λ k. gives_any frame (members plan k)) ks

-- how many of some clusters have a member among pairs
abbrev pub touched_among : PlanData → List Pair → List ℕ → ℕ
touched_among plan pairs ks = sum_by (λ k. cond (is_touched pairs (members plan k)) 1 0) ks

-- values where those that a frame gives some controls stand in the place of others, and those that it gives the members of some clusters
abbrev pub with_given_values : SparseFrame → List ℕ → Values → Values
with_given_values frame [] values = values
with_given_values frame (c ∷ cs) values = with_given_values frame cs (slice_set values c (unwrap_or (value_given frame c) (value_at values c)))

abbrev pub with_reached_values : PlanData → SparseFrame → List ℕ → Values → Values
with_reached_values plan frame [] values = values
with_reached_values plan frame (k ∷ ks) values = with_reached_values plan frame ks (with_given_values frame (members plan k) values)

-- values where those of others stand in the place of those of some controls, and of the members of some clusters
abbrev pub with_values_of : Values → List ℕ → Values → Values
with_values_of base [] values = values
with_values_of base (c ∷ cs) values = with_values_of base cs (slice_set values c (value_at base c))

abbrev pub with_rows_of : PlanData → Values → List ℕ → Values → Values
with_rows_of plan base [] values = values
with_rows_of plan base (k ∷ ks) values = with_rows_of plan base ks (with_values_of base (members plan k) values)

-- whether some controls have the same value among two lists, and the members of some clusters
abbrev pub are_same_on : Values → Values → List ℕ → Bool
are_same_on values others cs = list_all (λ c. is_same (value_at values c) (value_at others c)) cs

abbrev pub are_same_reached : PlanData → Values → Values → List ℕ → Bool
are_same_reached plan values others ks = list_all (λ k. are_same_on values others (members plan k)) ks
