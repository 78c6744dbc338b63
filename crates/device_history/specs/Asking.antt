-- The ask that decides whether a step may follow a history: one that is made of the step (of this project).
use Rattle.std.specs.Prelude.{ℕ, Bool, suc, map, length, List, Option, None, Some, unwrap_or}
use Rattle.std.specs.List.{find as first_that, list_all, range_with_len}
use Rattle.std.specs.Option.{is_none}
use Rattle.ctrl_types.specs.declared.ids.ExtControl.{ExtControl}
use Rattle.ctrl_types.specs.declared.ids.CtrlId.{CtrlId}
use Rattle.ctrl_types.specs.declared.ids.FhId.{FhId}
use Rattle.ctrl_types.specs.declared.ids.Pair.{Pair}
use Rattle.ctrl_types.specs.declared.which.Which.TheVariants.{Current}
use Rattle.req_book.specs.Requests.{is_number}
use Rattle.ctrl_handlers.specs.Plan.{PlanData, control}
use Rattle.ctrl_handlers.specs.Visible.{find, visible}
use Rattle.ctrl_lists.specs.View.{named}
use Rattle.device_history.specs.declared.ask.Ask.{Ask}
use Rattle.device_history.specs.declared.ask.Ask.TheVariants as asks
use Rattle.device_history.specs.declared.ask.Step.{Step}
use Rattle.device_history.specs.declared.ask.Step.TheVariants as steps
use Rattle.device_history.specs.Steps.{Past}
use Rattle.device_history.specs.Handles.{handler_of, opened}
use Rattle.device_history.specs.Lists.{handler_or}

-- the entry of a pair: its control under its id, with the value as it was given
abbrev pub entry_of : PlanData → Pair → ExtControl
entry_of plan p = record { id = (control plan p.control).id; value = p.value }

-- the entries of some pairs, in their order
abbrev pub entries_of : PlanData → List Pair → List ExtControl
entries_of plan pairs = map (entry_of plan) pairs

-- A handler shows the control of a pair under its own id, and a list can name it: it isn't DISABLED, and what the id names is this control.
abbrev pub shows_pair : PlanData → ℕ → Pair → Bool
shows_pair plan handler p = is_number (named plan handler Current (control plan p.control).id) p.control

-- the same of each of some pairs
abbrev pub shows_pairs : PlanData → ℕ → List Pair → Bool
shows_pairs plan handler pairs = list_all (shows_pair plan handler) pairs

-- the id of an open file handle, where there is one; else the id that no file handle ever has
abbrev pub fh_or_none : Option (ℕ × ℕ) → FhId
fh_or_none (Some handle) = record { 0 = handle.0 }
fh_or_none None = record { 0 = 0xffffffff }

-- the first of some open file handles whose handler shows some pairs
abbrev pub first_storer : PlanData → List Pair → List (ℕ × ℕ) → Option (ℕ × ℕ)
first_storer plan pairs handles = first_that (λ h. shows_pairs plan h.1 pairs) handles

-- A file handle through which pairs can be stored: the first open one whose handler shows them.
abbrev pub storer : PlanData → Past → List Pair → FhId
storer plan past pairs = fh_or_none (first_storer plan pairs (opened past))

-- an id that a handler doesn't show: the first such number, which is at most the number of controls that it shows
abbrev pub free_id : PlanData → ℕ → CtrlId
free_id plan handler = record { 0 = unwrap_or (first_that (λ n. is_none (find plan handler (record { 0 = n }))) (range_with_len 0 (suc (length (visible plan handler))))) 0 }

-- the id of a control, where there is one; else one that the handler doesn't show
abbrev pub id_or_free : PlanData → ℕ → Option ℕ → CtrlId
id_or_free plan handler (Some c) = (control plan c).id
id_or_free plan handler None = free_id plan handler

-- The ask that decides on a step, as the law `deciding_asks` says. A set speaks of the present values of all controls, whatever the list was
-- about that made it. A store doesn't tell the file handle that it was asked through, so one is taken whose
-- handler shows its pairs; the end of a subscription to what isn't shown doesn't tell the id, so one is taken that isn't shown.
abbrev pub ask_by : PlanData → Past → Step → Ask
ask_by plan past (steps.OpenFh handler) = asks.OpenFh handler
ask_by plan past (steps.CloseFh fh) = asks.CloseFh fh
ask_by plan past (steps.Set fh pairs) = asks.SetCtrls fh 0 None (entries_of plan pairs)
ask_by plan past (steps.Grab c on) = asks.Grab c on
ask_by plan past (steps.ModifyRange c low high apart default_value) = asks.ModifyRange c low high apart default_value
ask_by plan past steps.Alloc = asks.Alloc
ask_by plan past (steps.Store r pairs) = asks.SetCtrls (storer plan past pairs) 0x0f010000 (Some r) (entries_of plan pairs)
ask_by plan past (steps.Buffer r number) = asks.AddBuffer r number
ask_by plan past (steps.Queue r) = asks.Queue r
ask_by plan past (steps.Begin r) = asks.Begin
ask_by plan past (steps.Complete r) = asks.Complete
ask_by plan past (steps.Cancel r) = asks.Cancel r
ask_by plan past steps.StreamOff = asks.StreamOff
ask_by plan past (steps.Reinit r) = asks.Reinit r
ask_by plan past (steps.Free r) = asks.Free r
ask_by plan past (steps.Subscribe fh c flags) = asks.Subscribe fh (control plan c).id flags
ask_by plan past (steps.Unsubscribe fh c) = asks.Unsubscribe fh (id_or_free plan (handler_or (handler_of past fh)) c)
ask_by plan past (steps.Take fh c) = asks.Take fh
