-- Clusters that have the same rows were told the same words, where notifiers say one word of a row.
use Rattle.std.proofs.Common.{◌≡◌, ◌∙◌, ◌<◌, ℕ, List, length, Option, None, Some, sym, subst, slice_index}
use Rattle.history.specs.Past.{past}
use Rattle.ctrl_types.specs.declared.value.CtrlValue.{CtrlValue}
use Rattle.ctrl_calls.specs.Meanings.{Verdicts, Words}
use Rattle.ctrl_calls.specs.declared.relation.Relation.{Relation}
use Rattle.ctrl_handlers.specs.Plan.{PlanData, calls_of, members}
use Rattle.ctrl_clusters.specs.Notified.{HaveWords, MaySay}
use Rattle.ctrl_clusters.specs.Rows.{Values, row_of}
use Rattle.device_history.specs.Values.{now}
use Rattle.device_state.specs.Device.{DeviceData}
use Rattle.device_renewal.specs.Alike.{StandAlike}
use Rattle.device_renewal.specs.Words.{SayOne}

-- of one row one word is said
same_said : (says : Words) (notifier : Option Relation) (row : List CtrlValue) (word other : ℕ) → SayOne says → MaySay says notifier row word → MaySay says notifier row other → word ≡ other
same_said says None row word other one said said_too = said ∙ sym said_too
same_said says (Some relation) row word other one said said_too = one relation row word other said said_too

pub same_words : (verdicts : Verdicts) (says : Words) (one other : DeviceData) (k : ℕ) → SayOne says → one.plan ≡ other.plan → StandAlike verdicts one other
    → HaveWords says one.plan (now verdicts one.plan (past one.steps)) one.words → HaveWords says other.plan (now verdicts other.plan (past other.steps)) other.words
    → k < length one.plan.clusters → slice_index one.words k ≡ slice_index other.words k
same_words verdicts says one other k says_one plans alike words others within =
    let there : k < length other.plan.clusters = subst (λ (plan : PlanData). k < length plan.clusters) plans within in
    let own : MaySay says (calls_of one.plan k).notifier (row_of (now verdicts other.plan (past other.steps)) (members one.plan k)) (slice_index other.words k) =
    subst (λ (plan : PlanData). MaySay says (calls_of plan k).notifier (row_of (now verdicts other.plan (past other.steps)) (members plan k)) (slice_index other.words k)) (sym plans) (others.allowed k there) in
    let same : MaySay says (calls_of one.plan k).notifier (row_of (now verdicts one.plan (past one.steps)) (members one.plan k)) (slice_index other.words k) =
    subst (λ (values : Values). MaySay says (calls_of one.plan k).notifier (row_of values (members one.plan k)) (slice_index other.words k)) (sym alike.values) own in
    same_said says (calls_of one.plan k).notifier (row_of (now verdicts one.plan (past one.steps)) (members one.plan k)) (slice_index one.words k) (slice_index other.words k) says_one (words.allowed k within) same
