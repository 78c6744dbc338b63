-- A refusal has an index exactly where the ask is one about a list.
use Rattle.std.proofs.Common.{◌≡◌, ℕ, Bool, true, false, List, length, Option, None, Some, Result, Ok, Err, is_some, refl, sym, subst, inl, inr}
use Rattle.ctrl_types.specs.declared.check.Check.{Check}
use Rattle.ctrl_types.specs.declared.check.Check.TheVariants.{MemoryRefused}
use Rattle.ctrl_types.specs.declared.errno.Fault.{Fault}
use Rattle.ctrl_types.specs.declared.ids.ExtControl.{ExtControl}
use Rattle.ctrl_calls.specs.Meanings.{Verdicts}
use Rattle.device_history.specs.declared.ask.Ask.{Ask}
use Rattle.device_history.specs.declared.ask.Ask.TheVariants as asks
use Rattle.device_history.specs.declared.ask.Reply.{Reply}
use Rattle.ctrl_handlers.specs.Plan.{PlanData}
use Rattle.ctrl_types.specs.declared.refusal.Refusal.{Refusal}
use Rattle.ctrl_lists.specs.Answers.{answered}
use Rattle.ctrl_types.specs.Refusals.{fault_at_count, fault_at_entry}
use Rattle.device_history.specs.Steps.{Past}
use Rattle.device_history.specs.Refusals.{Answer, refused, refused_at, step_check, stepped, stepped_with, replied_with, unless_refused}
use Rattle.device_history.specs.Answers.{answer_of, is_list, no_memory, MayAnswer}
use Rattle.device_history.specs.Lists.{controls_of}
use Rattle.device_history.specs.Forecasts.{forecast_at}
use Rattle.device_history.specs.EventAnswers.{first_event}
use Rattle.device_history.specs.Snapshots.{frames}
use Rattle.device_history.specs.RequestAnswers.{state_found}
use Rattle.frame_queue.specs.Frames.{next_frame}
use Rattle.device_history.specs.Queries.{control_shown, id_behind, item_found, word_of}

-- where the answer is a refusal, whether it has an index is b
HasIndex : Bool → Answer → Type 0
HasIndex b (Ok reply) = Unit {0}
HasIndex b (Err fault) = is_some fault.index ≡ b

accepted : (b : Bool) (reply : Reply) → HasIndex b (Ok reply)
unfolding HasIndex
accepted b reply = tt

plain : (check : Check) → HasIndex false (refused check)
unfolding HasIndex
plain check = refl

at : (check : Check) (index : ℕ) → HasIndex true (refused_at check index)
unfolding HasIndex
at check index = refl

faulty : (fault : Refusal → Fault) (o : Option Refusal) (entries : List ExtControl) → ((r : Refusal) → HasIndex true (Err (fault r))) → HasIndex true (controls_of (answered fault o entries))
faulty fault None entries h = accepted true _
faulty fault (Some r) entries h = h r

at_count : (count : ℕ) (r : Refusal) → HasIndex true (Err (fault_at_count count r))
unfolding HasIndex
at_count count r = refl

at_entry : (count : ℕ) (r : Refusal) → HasIndex true (Err (fault_at_entry count r))
unfolding HasIndex
at_entry count r = refl

unless_so : (check : Option Check) (reply : Reply) → HasIndex false (unless_refused check reply)
unless_so None reply = accepted false reply
unless_so (Some check) reply = plain check

stepped_so : (check : Option Check) (past : Past) (reply : Reply) → HasIndex false (stepped check past reply)
stepped_so check past reply = unless_so (step_check past check) reply

told_so : {X : Type 0} (reply : X → Reply) (found : Result X Check) → HasIndex false (replied_with reply found)
told_so reply (Ok x) = accepted false (reply x)
told_so reply (Err check) = plain check

found_so : {X : Type 0} (reply : X → Reply) (found : Result X Check) (past : Past) → HasIndex false (stepped_with reply found past)
found_so reply (Ok x) past = stepped_so None past (reply x)
found_so reply (Err check) past = plain check

answer_so : (verdicts : Verdicts) (plan : PlanData) (past : Past) (words : List ℕ) (ask : Ask) → HasIndex (is_list ask) (answer_of verdicts plan past words ask)
answer_so verdicts plan past words (asks.GetCtrls fh which request list) = faulty (fault_at_count (length list)) _ _ (at_count (length list))
answer_so verdicts plan past words (asks.SetCtrls fh which request list) = faulty (fault_at_count (length list)) _ _ (at_count (length list))
answer_so verdicts plan past words (asks.TryCtrls fh which request list) = faulty (fault_at_entry (length list)) _ _ (at_entry (length list))
answer_so verdicts plan past words asks.Begin = found_so _ (next_frame (frames verdicts plan past)) past
answer_so verdicts plan past words asks.StreamOff = stepped_so None past _
answer_so verdicts plan past words (asks.StateOf r) = told_so _ (state_found past r)
answer_so verdicts plan past words (asks.Forecast place) = told_so _ (forecast_at verdicts plan past place)
answer_so verdicts plan past words (asks.Query fh id) = told_so _ (control_shown plan past fh id)
answer_so verdicts plan past words (asks.NextId fh id) = told_so _ (id_behind plan past fh id)
answer_so verdicts plan past words (asks.MenuItem fh id index) = told_so _ (item_found plan past fh id index)
answer_so verdicts plan past words (asks.Told cluster) = told_so _ (word_of plan words cluster)
answer_so verdicts plan past words (asks.Take fh) = found_so _ (first_event verdicts plan past fh) past
answer_so verdicts plan past words _ = stepped_so _ past _

lacking : (ask : Ask) → HasIndex (is_list ask) (no_memory ask)
lacking (asks.GetCtrls fh which request list) = at MemoryRefused _
lacking (asks.SetCtrls fh which request list) = at MemoryRefused _
lacking (asks.TryCtrls fh which request list) = at MemoryRefused _
lacking _ = plain MemoryRefused

pub index_of_lists : (verdicts : Verdicts) (plan : PlanData) (past : Past) (words : List ℕ) (ask : Ask) (fault : Fault) → MayAnswer verdicts plan past words ask (Err fault) → is_some fault.index ≡ is_list ask
unfolding HasIndex
index_of_lists verdicts plan past words ask fault (inl is) = subst (HasIndex (is_list ask)) (sym is) (answer_so verdicts plan past words ask)
index_of_lists verdicts plan past words ask fault (inr lack) = subst (HasIndex (is_list ask)) (sym lack.1) (lacking ask)
