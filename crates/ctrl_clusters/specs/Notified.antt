-- The words that clusters' notifiers said, and which clusters are notified (Linux driver API, "V4L2 Controls", "Adding Notify Callbacks"; that a
-- word is answered and kept is of this project).
use Rattle.std.specs.Prelude.{◌≡◌, ℕ, Bool, true, false, ◌&&◌, ◌<◌, List, length, Option, None, Some, is_some, slice_index, count_by}
use Rattle.std.specs.List.{range_with_len}
use Rattle.ctrl_types.specs.declared.value.CtrlValue.{CtrlValue}
use Rattle.ctrl_calls.specs.Counts.{one_more}
use Rattle.ctrl_calls.specs.Meanings.{Words}
use Rattle.ctrl_calls.specs.declared.relation.Relation.{Relation}
use Rattle.ctrl_handlers.specs.Plan.{PlanData, calls_of, members}
use Rattle.ctrl_clusters.specs.Rows.{Values, row_of}

-- a word that a notifier of this relation may say of a row; without a notifier it is 0
abbrev pub MaySay : Words → Option Relation → List CtrlValue → ℕ → Type 0
MaySay says None row word = word ≡ 0
MaySay says (Some relation) row word = says relation row word

-- the word of a cluster is one that its notifier may say of its row of these values
abbrev pub HasWord : Words → PlanData → Values → List ℕ → ℕ → Type 0
HasWord says plan values words k = MaySay says (calls_of plan k).notifier (row_of values (members plan k)) (slice_index words k)

-- each cluster has a word, which is one that its notifier may say of its row
pub record HaveWords (says : Words) (plan : PlanData) (values : Values) (words : List ℕ) : Type 0 where
  pub each : length words ≡ length plan.clusters
  pub allowed : (k : ℕ) → k < length plan.clusters → HasWord says plan values words k

-- What the words are once each changed cluster was notified of its new row: its word is one that the notifier may say of that row, and every
-- other word stays.
pub record AreNotified (says : Words) (plan : PlanData) (changed : ℕ → Bool) (rows : ℕ → List CtrlValue) (old new : List ℕ) : Type 0 where
  pub each : length new ≡ length old
  pub own : (k : ℕ) → k < length plan.clusters → changed k ≡ true → MaySay says (calls_of plan k).notifier (rows k) (slice_index new k)
  pub others : (k : ℕ) → (k < length plan.clusters → changed k ≡ false) → slice_index new k ≡ slice_index old k

-- how many clusters have a notifier and are changed
abbrev pub notified_count : PlanData → (ℕ → Bool) → ℕ
notified_count plan changed = count_by (λ k. is_some (calls_of plan k).notifier && changed k) (range_with_len 0 (length plan.clusters))

-- how many clusters have a notifier
abbrev pub notifier_count : PlanData → ℕ
notifier_count plan = notified_count plan (λ k. true)

-- What the words are after one cluster got a row, where it changed or not: a changed cluster has a word that its notifier may say of the row,
-- and every other word stays.
pub record IsNotified (says : Words) (plan : PlanData) (k : ℕ) (changed : Bool) (row : List CtrlValue) (old new : List ℕ) : Type 0 where
  pub each : length new ≡ length old
  pub own : changed ≡ true → MaySay says (calls_of plan k).notifier row (slice_index new k)
  pub others : (j : ℕ) → (j ≡ k → changed ≡ false) → slice_index new j ≡ slice_index old j

-- how many notifiers were called once a cluster was notified: one more where it has one
abbrev pub after_notifying : Option Relation → ℕ → ℕ
after_notifying None count = count
after_notifying (Some relation) count = one_more count

-- the same, where a changed cluster alone is notified
abbrev pub after_change : PlanData → ℕ → Bool → ℕ → ℕ
after_change plan k true count = after_notifying (calls_of plan k).notifier count
after_change plan k false count = count
