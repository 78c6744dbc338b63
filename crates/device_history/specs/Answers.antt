-- What each ask is answered after a history, and the step that it adds (of this project; the rules stand with each family of asks).
use Rattle.std.specs.Prelude.{◌≡◌, ℕ, Bool, true, false, List, [], length, Option, None, Some, is_some, Ok, Err, IsOk, ◌⊎◌}
use Rattle.std.specs.Option.{option_map}
use Rattle.ctrl_types.specs.declared.check.Check.TheVariants.{MemoryRefused}
use Rattle.ctrl_types.specs.Checks.{errno_of}
use Rattle.ctrl_types.specs.declared.errno.Fault.{Fault}
use Rattle.ctrl_types.specs.declared.ids.ExtControl.{ExtControl}
use Rattle.device_history.specs.declared.ask.Ask.{Ask}
use Rattle.device_history.specs.declared.ask.Ask.TheVariants as asks
use Rattle.device_history.specs.declared.ask.Step.{Step}
use Rattle.device_history.specs.declared.ask.Step.TheVariants as steps
use Rattle.ctrl_handlers.specs.Plan.{PlanData}
use Rattle.ctrl_calls.specs.Meanings.{Verdicts}
use Rattle.device_history.specs.Steps.{Past}
use Rattle.device_history.specs.Refusals.{Answer, fault_of}
use Rattle.device_history.specs.Handles.{open_answer, close_answer, shown}
use Rattle.device_history.specs.Grabs.{grab_answer}
use Rattle.device_history.specs.Ranges.{range_answer}
use Rattle.device_history.specs.Frames.{queue, running, first_of}
use Rattle.device_history.specs.RequestAnswers.{alloc_answer, add_buffer_answer, queue_answer, begin_frame_answer, complete_answer, cancel_answer, off_answer, clear_answer, state_answer}
use Rattle.device_history.specs.EventAnswers.{subscribe_answer, subscribe_step, unsubscribe_answer, take_answer, take_step}
use Rattle.device_history.specs.Forecasts.{forecast_answer}
use Rattle.device_history.specs.Lists.{get_list_answer, set_list_answer, try_list_answer, list_step, MayLackList, MayLackSet}
use Rattle.device_history.specs.Queries.{query_answer, next_answer, item_answer, told_answer}

-- the answer where memory suffices, where these words were told
abbrev pub answer_of : Verdicts → PlanData → Past → List ℕ → Ask → Answer
answer_of verdicts plan past words (asks.OpenFh handler) = open_answer plan past handler
answer_of verdicts plan past words (asks.CloseFh fh) = close_answer past fh
answer_of verdicts plan past words (asks.GetCtrls fh which request list) = get_list_answer verdicts plan past fh which request list
answer_of verdicts plan past words (asks.SetCtrls fh which request list) = set_list_answer verdicts plan past fh which request list
answer_of verdicts plan past words (asks.TryCtrls fh which request list) = try_list_answer verdicts plan past fh which request list
answer_of verdicts plan past words (asks.Grab c on) = grab_answer plan past c
answer_of verdicts plan past words (asks.ModifyRange c low high apart default_value) = range_answer plan past c low high apart default_value
answer_of verdicts plan past words asks.Alloc = alloc_answer verdicts plan past
answer_of verdicts plan past words (asks.AddBuffer r number) = add_buffer_answer verdicts plan past r number
answer_of verdicts plan past words (asks.Queue r) = queue_answer verdicts plan past r
answer_of verdicts plan past words asks.Begin = begin_frame_answer verdicts plan past
answer_of verdicts plan past words asks.Complete = complete_answer verdicts plan past
answer_of verdicts plan past words (asks.Cancel r) = cancel_answer verdicts plan past r
answer_of verdicts plan past words asks.StreamOff = off_answer past
answer_of verdicts plan past words (asks.Reinit r) = clear_answer verdicts plan past r
answer_of verdicts plan past words (asks.Free r) = clear_answer verdicts plan past r
answer_of verdicts plan past words (asks.StateOf r) = state_answer past r
answer_of verdicts plan past words (asks.Forecast place) = forecast_answer verdicts plan past place
answer_of verdicts plan past words (asks.Subscribe fh id flags) = subscribe_answer plan past fh id
answer_of verdicts plan past words (asks.Unsubscribe fh id) = unsubscribe_answer past fh
answer_of verdicts plan past words (asks.Take fh) = take_answer verdicts plan past fh
answer_of verdicts plan past words (asks.Query fh id) = query_answer verdicts plan past fh id
answer_of verdicts plan past words (asks.NextId fh id) = next_answer plan past fh id
answer_of verdicts plan past words (asks.MenuItem fh id index) = item_answer plan past fh id index
answer_of verdicts plan past words (asks.Told cluster) = told_answer plan words cluster

-- Why an ask is refused where memory suffices; none where nothing refuses it. As the law `refusals` says, the words that were told
-- don't matter to it.
abbrev pub refusal : Verdicts → PlanData → Past → Ask → Option Fault
refusal verdicts plan past ask = fault_of (answer_of verdicts plan past [] ask)

-- Want of memory may take the place of every accepted answer, but for a state, a query, a next id and a word, which take no memory; of a get
-- and a try without entries, which take none either, it may not; for a list with entries, and not too many, it may take the place of
-- every answer after the first checks.
abbrev pub MayLackMemory : Verdicts → PlanData → Past → Ask → Type 0
MayLackMemory verdicts plan past (asks.GetCtrls fh which request list) = MayLackList verdicts plan past fh which request false list
MayLackMemory verdicts plan past (asks.SetCtrls fh which request list) = MayLackSet verdicts plan past fh which request list (set_list_answer verdicts plan past fh which request list)
MayLackMemory verdicts plan past (asks.TryCtrls fh which request list) = MayLackList verdicts plan past fh which request true list
MayLackMemory verdicts plan past (asks.StateOf r) = ⊥
MayLackMemory verdicts plan past (asks.Query fh id) = ⊥
MayLackMemory verdicts plan past (asks.NextId fh id) = ⊥
MayLackMemory verdicts plan past (asks.Told cluster) = ⊥
MayLackMemory verdicts plan past ask = IsOk (answer_of verdicts plan past [] ask)

-- the entries of an ask that is one about a list
abbrev pub list_of : Ask → Option (List ExtControl)
list_of (asks.GetCtrls fh which request list) = Some list
list_of (asks.SetCtrls fh which request list) = Some list
list_of (asks.TryCtrls fh which request list) = Some list
list_of _ = None

-- whether it is one
abbrev pub is_list : Ask → Bool
is_list ask = is_some (list_of ask)

-- want of memory, with the number of entries as the index of a list
abbrev pub no_memory : Ask → Answer
no_memory ask = Err (record { errno = errno_of MemoryRefused; index = option_map length (list_of ask) })

-- an answer that the ask may get after this past
abbrev pub MayAnswer : Verdicts → PlanData → Past → List ℕ → Ask → Answer → Type 0
MayAnswer verdicts plan past words ask answer =
    (answer ≡ answer_of verdicts plan past words ask) ⊎ (MayLackMemory verdicts plan past ask × (answer ≡ no_memory ask))

-- the step that an ask adds where it is accepted
abbrev pub step_of : Verdicts → PlanData → Past → Ask → Option Step
step_of verdicts plan past (asks.OpenFh handler) = Some (steps.OpenFh handler)
step_of verdicts plan past (asks.CloseFh fh) = Some (steps.CloseFh fh)
step_of verdicts plan past (asks.SetCtrls fh which request list) = Some (list_step plan past fh which request list)
step_of verdicts plan past (asks.Grab c on) = Some (steps.Grab c on)
step_of verdicts plan past (asks.ModifyRange c low high apart default_value) = Some (steps.ModifyRange c low high apart default_value)
step_of verdicts plan past asks.Alloc = Some steps.Alloc
step_of verdicts plan past (asks.AddBuffer r number) = Some (steps.Buffer r number)
step_of verdicts plan past (asks.Queue r) = Some (steps.Queue r)
step_of verdicts plan past asks.Begin = option_map (λ r. steps.Begin (record { 0 = r })) (first_of (queue past))
step_of verdicts plan past asks.Complete = option_map (λ r. steps.Complete (record { 0 = r })) (running past)
step_of verdicts plan past (asks.Cancel r) = Some (steps.Cancel r)
step_of verdicts plan past asks.StreamOff = Some steps.StreamOff
step_of verdicts plan past (asks.Reinit r) = Some (steps.Reinit r)
step_of verdicts plan past (asks.Free r) = Some (steps.Free r)
step_of verdicts plan past (asks.Subscribe fh id flags) = subscribe_step plan past fh id flags
step_of verdicts plan past (asks.Unsubscribe fh id) = Some (steps.Unsubscribe fh (shown plan past fh id))
step_of verdicts plan past (asks.Take fh) = take_step verdicts plan past fh
step_of verdicts plan past _ = None

-- the step that it adds where this is its answer
abbrev pub taken : Verdicts → PlanData → Past → Ask → Answer → Option Step
taken verdicts plan past ask (Ok reply) = step_of verdicts plan past ask
taken verdicts plan past ask (Err fault) = None
