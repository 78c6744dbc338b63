-- Behind an ask that is no accepted change nothing is asked for.
use Rattle.std.proofs.Common.{◌≡◌, ℕ, Bool, true, false, not, ◌&&◌, if◌then◌else◌, List, [], ◌∷◌, ◌++◌, append-nil, map, Option, None, Some, is_none, Result, Ok, Err, is_err, refl, ap, sym, ◌∙◌}
use Rattle.std.specs.List.{list_any}
use Rattle.std.specs.Option.{option_map}
use Rattle.history.specs.Past.{past, entered}
use Rattle.ctrl_types.specs.Classes.{which_of}
use Rattle.ctrl_types.specs.declared.ids.FhId.{FhId}
use Rattle.ctrl_types.specs.declared.refusal.Refusal.{Refusal}
use Rattle.ctrl_types.specs.declared.ids.RequestId.{RequestId}
use Rattle.ctrl_types.specs.declared.ids.Pair.{Pair}
use Rattle.ctrl_types.proofs.ValueLemmas.{same_self}
use Rattle.ctrl_calls.specs.Meanings.{Verdicts}
use Rattle.ctrl_clusters.specs.Rows.{Values}
use Rattle.ctrl_handlers.specs.Plan.{PlanData}
use Rattle.device_history.specs.declared.ask.Ask.{Ask}
use Rattle.device_history.specs.declared.ask.Ask.TheVariants as asks
use Rattle.device_history.specs.declared.ask.Reply.{Reply}
use Rattle.device_history.specs.declared.ask.Step.{Step}
use Rattle.device_history.specs.declared.ask.Step.TheVariants as steps
use Rattle.device_history.specs.Answers.{step_of, taken}
use Rattle.device_history.specs.AskChecks.{published}
use Rattle.device_history.specs.EventAnswers.{first_control}
use Rattle.device_history.specs.Events.{pending}
use Rattle.device_history.specs.Frames.{running}
use Rattle.device_history.specs.Handles.{shown}
use Rattle.device_history.specs.Lists.{list_pairs, meant, pairs_step, which_or}
use Rattle.device_history.specs.Refusals.{Answer}
use Rattle.device_history.specs.Steps.{History, Past}
use Rattle.device_history.specs.Values.{now, values_after}
use Rattle.device_history.proofs.PastLemmas.{now_add}
use Rattle.device_state.specs.Device.{DeviceData, Handles}
use Rattle.range_followers.specs.declared.follower.DefaultSource.{DefaultSource}
use Rattle.range_followers.specs.declared.follower.DefaultSource.TheVariants.{Number, Value}
use Rattle.range_followers.specs.declared.follower.Follower.{Follower}
use Rattle.range_followers.specs.declared.follower.Source.{Source}
use Rattle.range_followers.specs.Wanted.{default_moved, has_moved, have_moved, source_moved, value_at, value_moved}
use Rattle.following_ranges.specs.declared.asking.RangeAsk.{RangeAsk}
use Rattle.following_ranges.specs.Following.{HandlesAndFollows, are_asked, asks_behind, is_accepted_change, is_change, is_refused, range_for, ranges_due}
use Rattle.following_ranges.proofs.FollowLemmas.{run_nothing}

-- whether a step can move a value: a set of present values, the begin of a frame, and a range change
abbrev can_move : Step → Bool
can_move (steps.Set fh pairs) = true
can_move (steps.Begin r) = true
can_move (steps.ModifyRange c low high apart default_value) = true
can_move _ = false

-- whether an ask that takes a step can move one; one without a step, as a try and one that is refused, can't
abbrev moves : Option Step → Bool
moves None = false
moves (Some step) = can_move step

-- values that stay haven't moved
value_stays : (values : Values) (source : Source) → value_moved values values source ≡ false
value_stays values source = ap not (same_self (value_at values source.control))

source_stays : (values : Values) (source : Option Source) → source_moved values values source ≡ false
source_stays values None = refl
source_stays values (Some source) = value_stays values source

default_stays : (values : Values) (source : DefaultSource) → default_moved values values source ≡ false
default_stays values (Number number) = refl
default_stays values (Value source) = value_stays values source

follower_stays : (values : Values) (f : Follower) → has_moved values values f ≡ false
follower_stays values f = rw (source_stays values f.minimum, source_stays values f.maximum, default_stays values f.default_value) refl

all_stay : (values : Values) (followers : List Follower) → have_moved followers values values ≡ false
all_stay values [] = refl
all_stay values (f ∷ followers) = rw (follower_stays values f) (all_stay values followers)

-- a step that can't move a value leaves them
values_stay : (verdicts : Verdicts) (plan : PlanData) (older : Past) (step : Step) (values : Values) → can_move step ≡ false → values_after verdicts plan older step values ≡ values
values_stay verdicts plan older (steps.Set fh pairs) values e = absurd (cc)
values_stay verdicts plan older (steps.Begin r) values e = absurd (cc)
values_stay verdicts plan older (steps.ModifyRange c low high apart default_value) values e = absurd (cc)
values_stay verdicts plan older _ values e = refl

-- the values behind an ask that moves none
now_stays : (verdicts : Verdicts) (plan : PlanData) (before : History) (seat : ℕ) (took : Option Step) → moves took ≡ false → now verdicts plan (past (before ++ entered seat took)) ≡ now verdicts plan (past before)
now_stays verdicts plan before seat None e = ap (λ (s : History). now verdicts plan (past s)) (append-nil before)
now_stays verdicts plan before seat (Some step) e =
    now_add verdicts plan before (record { seat = seat; step = step }) ∙ values_stay verdicts plan (past before) step (now verdicts plan (past before)) e

-- a step that may be none, where there is one of a control
mapped_stays : {X : Type 0} (make : X → Step) (found : Option X) → ((x : X) → can_move (make x) ≡ false) → moves (option_map make found) ≡ false
mapped_stays make None stays = refl
mapped_stays make (Some x) stays = stays x

pairs_stay : (request : Option RequestId) (fh : FhId) (pairs : List Pair) → is_none request ≡ false → can_move (pairs_step request fh pairs) ≡ false
pairs_stay None fh pairs e = absurd (cc)
pairs_stay (Some r) fh pairs e = refl

-- the step of an ask that is no change can't move a value
step_stays : (verdicts : Verdicts) (plan : PlanData) (older : Past) (ask : Ask) → is_change ask ≡ false → moves (step_of verdicts plan older ask) ≡ false
step_stays verdicts plan older (asks.SetCtrls fh which request list) e = pairs_stay (meant (which_or (which_of which)) request) fh (list_pairs plan older fh which list) e
step_stays verdicts plan older asks.Begin e = absurd (cc)
step_stays verdicts plan older (asks.ModifyRange c low high apart default_value) e = absurd (cc)
step_stays verdicts plan older asks.Complete e = mapped_stays (λ r. steps.Complete (record { 0 = r })) (running older) (λ r. refl)
step_stays verdicts plan older (asks.Subscribe fh id flags) e = mapped_stays (λ c. steps.Subscribe fh c flags) (shown plan older fh id) (λ c. refl)
step_stays verdicts plan older (asks.Take fh) e = mapped_stays (λ c. steps.Take fh c) (first_control (pending verdicts plan older fh)) (λ c. refl)
step_stays verdicts plan older _ e = refl

-- the step that an ask takes that is no accepted change, if any
taken_stays : (verdicts : Verdicts) (plan : PlanData) (older : Past) (ask : Ask) (answer : Answer) → is_accepted_change ask answer ≡ false → moves (taken verdicts plan older ask answer) ≡ false
taken_stays verdicts plan older ask (Ok reply) e = step_stays verdicts plan older ask e
taken_stays verdicts plan older ask (Err fault) e = refl

none_follows : (followers : List Follower) (before after : Values) (owed changed : Bool) → after ≡ before → changed ≡ false → are_asked followers before after owed changed ≡ false
none_follows followers before after owed changed same unchanged =
    let still : have_moved followers before after ≡ false = ap (have_moved followers before) same ∙ all_stay before followers in
    rw (still, unchanged) (nothing owed)
  where
    nothing : (b : Bool) → (b && false) ≡ false
    nothing true = refl
    nothing false = refl

-- behind an ask that is no accepted change no range is asked for
unasked : (verdicts : Verdicts) (followers : List Follower) (old behind : DeviceData) (owed : Bool) (seat : ℕ) (ask : Ask) (answer : Answer) → Handles verdicts old behind seat ask answer
    → is_accepted_change ask answer ≡ false → asks_behind verdicts followers old behind owed ask answer ≡ false
unasked verdicts followers old behind owed seat ask answer does unchanged =
    let same : now verdicts old.plan (past behind.steps) ≡ now verdicts old.plan (past old.steps) =
    ap (λ (s : History). now verdicts old.plan (past s)) does.steps ∙ now_stays verdicts old.plan old.steps seat (taken verdicts old.plan (past old.steps) ask answer) (taken_stays verdicts old.plan (past old.steps) ask answer unchanged) in
    none_follows followers (now verdicts old.plan (past old.steps)) (now verdicts old.plan (past behind.steps)) owed (is_accepted_change ask answer) same unchanged

no_items : (asked : List RangeAsk) → map range_for asked ≡ [] → asked ≡ []
no_items [] e = refl
no_items (one ∷ asked) e = absurd (cc)

pub quiet : (verdicts : Verdicts) (followers : List Follower) (old new : DeviceData) (owed owed_then : Bool) (seat : ℕ) (ask : Ask) (answer : Answer) (asked : List RangeAsk)
    → HandlesAndFollows verdicts followers old new owed owed_then seat ask answer asked → is_accepted_change ask answer ≡ false → (asked ≡ []) × (owed_then ≡ owed)
quiet verdicts followers old new owed owed_then seat ask answer asked does unchanged =
    let none = unasked verdicts followers old does.behind owed seat ask answer does.answered unchanged in (
      no_items asked (does.exactly ∙ ap (λ (b : Bool). if b then ranges_due verdicts followers old.plan (past does.behind.steps) else []) none),
      does.owes ∙ ap (λ (b : Bool). if b then list_any is_refused asked else owed) none,
    )

-- so an ask that is no change is handled alone
not_accepted : (ask : Ask) (answer : Answer) → is_change ask ≡ false → is_accepted_change ask answer ≡ false
not_accepted ask (Ok reply) e = e
not_accepted ask (Err fault) e = refl

left_alone : (verdicts : Verdicts) (followers : List Follower) (old new : DeviceData) (owed : Bool) (seat : ℕ) (ask : Ask) (answer : Answer) (asked : List RangeAsk) → Handles verdicts old new seat ask answer
    → is_accepted_change ask answer ≡ false → asked ≡ [] → HandlesAndFollows verdicts followers old new owed owed seat ask answer asked
left_alone verdicts followers old new owed seat ask answer asked does unchanged nothing =
    let none = unasked verdicts followers old new owed seat ask answer does unchanged in
    record {
      behind = new;
      answered = does;
      exactly = ap (map range_for) nothing ∙ sym (ap (λ (b : Bool). if b then ranges_due verdicts followers old.plan (past new.steps) else []) none);
      one_by_one = run_nothing verdicts new seat asked nothing;
      owes = sym (ap (λ (b : Bool). if b then list_any is_refused asked else owed) none);
    }

pub alone : (verdicts : Verdicts) (followers : List Follower) (old new : DeviceData) (owed : Bool) (seat : ℕ) (ask : Ask) (answer : Answer) (asked : List RangeAsk) → Handles verdicts old new seat ask answer
    → is_change ask ≡ false → asked ≡ [] → HandlesAndFollows verdicts followers old new owed owed seat ask answer asked
alone verdicts followers old new owed seat ask answer asked does unchanged nothing =
    left_alone verdicts followers old new owed seat ask answer asked does (not_accepted ask answer unchanged) nothing

-- nor behind one that is refused
not_refused : (ask : Ask) (answer : Answer) → is_err answer ≡ true → is_accepted_change ask answer ≡ false
not_refused ask (Ok reply) e = absurd (cc)
not_refused ask (Err fault) e = refl

pub refused_alone : (verdicts : Verdicts) (followers : List Follower) (old new : DeviceData) (owed : Bool) (seat : ℕ) (ask : Ask) (answer : Answer) (asked : List RangeAsk) → Handles verdicts old new seat ask answer
    → is_err answer ≡ true → asked ≡ [] → HandlesAndFollows verdicts followers old new owed owed seat ask answer asked
refused_alone verdicts followers old new owed seat ask answer asked does refused nothing =
    left_alone verdicts followers old new owed seat ask answer asked does (not_refused ask answer refused) nothing

-- an answer is a refusal as it is published where it is one
pub err_published : (ask : Ask) (answer : Result Reply Refusal) → is_err (published ask answer) ≡ is_err answer
err_published ask (Ok reply) = refl
err_published ask (Err refusal) = refl
