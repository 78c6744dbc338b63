-- What a step makes of the events of a file handle, in the words of their store (of this project).
use Rattle.std.specs.Prelude.{◌≡◌, ℕ, nat_eq, cond, List, ◌∷◌, length, Option, None, Some}
use Rattle.std.specs.List.{range_with_len}
use Rattle.history.specs.declared.entry.Entry.{Entry}
use Rattle.ctrl_types.specs.declared.ids.FhId.{FhId}
use Rattle.ctrl_calls.specs.Meanings.{Verdicts}
use Rattle.ctrl_clusters.specs.ControlsData.{ControlsData}
use Rattle.ctrl_events.specs.Events.{FileEvents, no_events, flags_in, after_subscribe, after_unsubscribe, after_take}
use Rattle.ctrl_handlers.specs.Plan.{PlanData, control}
use Rattle.ctrl_raises.specs.Raises.{initial_changes, raised_all}
use Rattle.device_history.specs.declared.ask.Step.{Step}
use Rattle.device_history.specs.declared.ask.Step.TheVariants as steps
use Rattle.device_history.specs.Steps.{Past}
use Rattle.device_history.specs.Controls.{controls_now}
use Rattle.device_history.specs.Subscriptions.{subscribed}
use Rattle.device_history.specs.Events.{changed, from_of, next_sequence, payload, pending}

-- What is kept of a file handle is what the history makes of it: its subscriptions, the events that wait, and the number of the next raise.
pub record AreEvents (verdicts : Verdicts) (plan : PlanData) (past : Past) (fh : FhId) (f : FileEvents) : Type 0 where
  pub subscribed : (c : ℕ) → flags_in f.subscribed c ≡ subscribed past fh c
  pub waiting : f.waiting ≡ pending verdicts plan past fh
  pub next : f.next ≡ next_sequence verdicts plan past fh

-- what an entry changes of some controls is raised, one after another
abbrev pub raised_by : Verdicts → PlanData → Entry Step → Past → FhId → List ℕ → FileEvents → FileEvents
raised_by verdicts plan e older fh cs f = raised_all (changed verdicts plan e older) (payload verdicts plan (e ∷ older)) (λ c. from_of e.step (changed verdicts plan e older c) c) fh.0 cs f

-- Two moments are those before and after an entry.
pub record AreAround (verdicts : Verdicts) (plan : PlanData) (e : Entry Step) (older : Past) (before after : ControlsData) : Type 0 where
  pub old : before ≡ controls_now verdicts plan older
  pub new : after ≡ controls_now verdicts plan (e ∷ older)

-- where it is this file handle's, what is made of it
abbrev pub where_own : FhId → FhId → FileEvents → FileEvents → FileEvents
where_own from fh new old = cond (nat_eq from.0 fh.0) new old

-- the end of a subscription, where a control is named
abbrev pub unsubscribed_if_named : Option ℕ → FileEvents → FileEvents
unsubscribed_if_named None f = f
unsubscribed_if_named (Some c) f = after_unsubscribe c f

-- What an entry makes of the events of a file handle: a set, a begin, a grab and a range change raise what they change, in the order of control numbers.
abbrev pub events_by : Verdicts → PlanData → Entry Step → Past → FhId → Step → FileEvents → FileEvents
events_by verdicts plan e older fh (steps.CloseFh from) f = where_own from fh no_events f
events_by verdicts plan e older fh (steps.Set from pairs) f = raised_by verdicts plan e older fh (range_with_len 0 (length plan.controls)) f
events_by verdicts plan e older fh (steps.Grab c on) f = raised_by verdicts plan e older fh (range_with_len 0 (length plan.controls)) f
events_by verdicts plan e older fh (steps.ModifyRange c low high apart default_value) f = raised_by verdicts plan e older fh (range_with_len 0 (length plan.controls)) f
events_by verdicts plan e older fh (steps.Begin r) f = raised_by verdicts plan e older fh (range_with_len 0 (length plan.controls)) f
events_by verdicts plan e older fh (steps.Subscribe from c flags) f =
    where_own from fh (after_subscribe c flags (initial_changes (control plan c).flags) (payload verdicts plan (e ∷ older) c) f) f
events_by verdicts plan e older fh (steps.Unsubscribe from c) f = where_own from fh (unsubscribed_if_named c f) f
events_by verdicts plan e older fh (steps.Take from c) f = where_own from fh (after_take f) f
events_by verdicts plan e older fh _ f = f

abbrev pub events_after : Verdicts → PlanData → Entry Step → Past → FhId → FileEvents → FileEvents
events_after verdicts plan e older fh f = events_by verdicts plan e older fh e.step f
