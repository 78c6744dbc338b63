-- Queries: what a control is like, the next id, the items of a menu, and the word that a cluster was told last (Linux userspace
-- API, "ioctls VIDIOC_QUERYCTRL, VIDIOC_QUERY_EXT_CTRL and VIDIOC_QUERYMENU"; words are of this project).
use Rattle.std.specs.Prelude.{ℕ, pos, int_le, Bool, ◌&&◌, cond, nat_le, if◌then◌else◌, List, length, Option, None, Some, is_some, slice_index, Result, Ok, Err}
use Rattle.std.specs.Option.{ok_or}
use Rattle.ctrl_types.specs.declared.check.Check.{Check}
use Rattle.ctrl_types.specs.declared.check.Check.TheVariants.{HandleNotOpen, IdNotShown, NoGreaterId, ItemMissing, ClusterMissing}
use Rattle.ctrl_types.specs.declared.flags.Flags.{Flags}
use Rattle.ctrl_types.specs.declared.ids.CtrlId.{CtrlId}
use Rattle.ctrl_types.specs.declared.ids.FhId.{FhId}
use Rattle.ctrl_settle.specs.Control.{Control, elems_of}
use Rattle.device_history.specs.declared.info.CtrlInfo.{CtrlInfo}
use Rattle.device_history.specs.declared.ask.Reply.TheVariants.{Info, Id, Item, Word}
use Rattle.menu_items.specs.declared.item.MenuItem.{MenuItem}
use Rattle.ctrl_handlers.specs.Plan.{PlanData, control_in, menu_item}
use Rattle.ctrl_handlers.specs.Visible.{next_id}
use Rattle.ctrl_calls.specs.Meanings.{Verdicts}
use Rattle.device_history.specs.Steps.{Past}
use Rattle.device_history.specs.Refusals.{Answer, replied_with}
use Rattle.device_history.specs.Ranges.{ranges_now}
use Rattle.device_history.specs.Handles.{handler_of, shown}
use Rattle.device_history.specs.Flags.{flags_now}

-- a control with its range and its flags of the moment; which items a menu leaves out, and whether it is private, isn't told
abbrev pub info_of : Control → Flags → CtrlInfo
info_of ctrl flags = record {
  id = ctrl.id;
  kind = ctrl.kind;
  minimum = ctrl.minimum;
  maximum = ctrl.maximum;
  step = ctrl.step;
  default_value = ctrl.default_value;
  flags = flags;
  elems = elems_of ctrl;
}

-- The control that is shown to a file handle under an id: there is none where the file handle isn't open, or the id isn't shown to it.
abbrev pub control_shown : PlanData → Past → FhId → CtrlId → Result ℕ Check
control_shown plan past fh id = if is_some (handler_of past fh) then ok_or (shown plan past fh id) IdNotShown else Err HandleNotOpen

-- A query: what the control is like, also where it is DISABLED.
abbrev pub query_answer : Verdicts → PlanData → Past → FhId → CtrlId → Answer
query_answer verdicts plan past fh id =
    replied_with (λ c. Info (info_of (control_in (ranges_now plan past) c) (flags_now verdicts plan past c))) (control_shown plan past fh id)

-- the next id of what a handler shows, where there is a handler
abbrev pub next_shown : PlanData → CtrlId → Option ℕ → Result CtrlId Check
next_shown plan id None = Err HandleNotOpen
next_shown plan id (Some handler) = ok_or (next_id plan handler id) NoGreaterId

-- The least id behind another one that is shown to a file handle: there is none where the file handle isn't open, or no greater id is shown to it.
abbrev pub id_behind : PlanData → Past → FhId → CtrlId → Result CtrlId Check
id_behind plan past fh id = next_shown plan id (handler_of past fh)

-- the answer to an ask for the next id
abbrev pub next_answer : PlanData → Past → FhId → CtrlId → Answer
next_answer plan past fh id = replied_with (λ next. Id next) (id_behind plan past fh id)

-- whether an index lies within the range of a menu
abbrev pub has_index : Control → ℕ → Bool
has_index ctrl index = int_le ctrl.minimum (pos index) && int_le (pos index) ctrl.maximum

-- the item at an index of a menu, where the index lies within its range of the moment, isn't skipped, and was given a name or a number
abbrev pub item_now : PlanData → Past → ℕ → ℕ → Option MenuItem
item_now plan past c index = cond (has_index (control_in (ranges_now plan past) c) index) (menu_item plan c index) None

-- the item of a control, where there is a control
abbrev pub item_of : PlanData → Past → ℕ → Result ℕ Check → Result MenuItem Check
item_of plan past index (Ok c) = ok_or (item_now plan past c index) ItemMissing
item_of plan past index (Err check) = Err check

-- The item of a menu that is shown to a file handle: there is none where the file handle isn't open, the id isn't shown to it, or the control has no item at the index.
abbrev pub item_found : PlanData → Past → FhId → CtrlId → ℕ → Result MenuItem Check
item_found plan past fh id index = item_of plan past index (control_shown plan past fh id)

-- the answer to an ask for an item
abbrev pub item_answer : PlanData → Past → FhId → CtrlId → ℕ → Answer
item_answer plan past fh id index = replied_with (λ item. Item item) (item_found plan past fh id index)

-- The word that a cluster was told last: there is none where there is no such cluster. A cluster without a notifier was told 0.
abbrev pub word_of : PlanData → List ℕ → ℕ → Result ℕ Check
word_of plan words cluster = if nat_le (length plan.clusters) cluster then Err ClusterMissing else Ok (slice_index words cluster)

-- the answer to an ask for it
abbrev pub told_answer : PlanData → List ℕ → ℕ → Answer
told_answer plan words cluster = replied_with (λ word. Word word) (word_of plan words cluster)
