-- What an ask and those behind it make together.
use Rattle.std.proofs.Common.{◌≡◌, ℕ, Bool, true, false, if◌then◌else◌, List, [], map, Ok, Err, is_err, is_ok, refl, ap, sym, ◌∙◌}
use Rattle.std.specs.List.{list_any}
use Rattle.history.specs.Past.{past}
use Rattle.ctrl_calls.specs.Meanings.{Verdicts}
use Rattle.ctrl_handlers.specs.Plan.{PlanData}
use Rattle.ctrl_clusters.specs.Rows.{Values}
use Rattle.device_history.specs.declared.ask.Ask.{Ask}
use Rattle.device_history.specs.Refusals.{Answer}
use Rattle.device_history.specs.Values.{now}
use Rattle.device_state.specs.Device.{DeviceData, Handles}
use Rattle.device_state.specs.Runs.{IsRun}
use Rattle.range_followers.specs.declared.follower.Follower.{Follower}
use Rattle.following_ranges.specs.declared.asking.RangeAsk.{RangeAsk}
use Rattle.following_ranges.specs.Following.{HandlesAndFollows, are_asked, are_asked_now, asks_behind, is_accepted_change, is_change, is_refused, range_call, range_for, ranges_due, ranges_due_now}

-- an accepted ask that can be a change is an accepted change
accepted : (ask : Ask) (answer : Answer) → is_change ask ≡ true → is_ok answer ≡ is_accepted_change ask answer
accepted ask (Ok reply) e = sym e
accepted ask (Err fault) e = refl

-- whether ranges are asked for, where the values of before and whether the ask was accepted were read
are_asked_so : (verdicts : Verdicts) (followers : List Follower) (old behind : DeviceData) (before : Values) (owed changed : Bool) (ask : Ask) (answer : Answer) → behind.plan ≡ old.plan → is_change ask ≡ true
    → before ≡ now verdicts old.plan (past old.steps) → changed ≡ is_ok answer → are_asked_now verdicts followers before behind owed changed ≡ asks_behind verdicts followers old behind owed ask answer
are_asked_so verdicts followers old behind before owed changed ask answer plan can was is =
    ap (λ (values : Values). are_asked followers values (now verdicts behind.plan (past behind.steps)) owed changed) was
    ∙ ap (λ (p : PlanData). are_asked followers (now verdicts old.plan (past old.steps)) (now verdicts p (past behind.steps)) owed changed) plan
    ∙ ap (λ (b : Bool). are_asked followers (now verdicts old.plan (past old.steps)) (now verdicts old.plan (past behind.steps)) owed b) (is ∙ accepted ask answer can)

-- what is asked behind a change
followed : (verdicts : Verdicts) (followers : List Follower) (old behind new : DeviceData) (before : Values) (owed owed_then changed : Bool) (seat : ℕ) (ask : Ask) (answer : Answer) (asked : List RangeAsk)
    → Handles verdicts old behind seat ask answer → is_change ask ≡ true → before ≡ now verdicts old.plan (past old.steps) → changed ≡ is_ok answer
    → map range_for asked ≡ (if are_asked_now verdicts followers before behind owed changed then ranges_due_now verdicts followers behind else [])
    → IsRun verdicts behind (map (range_call seat) asked) new
    → owed_then ≡ (if are_asked_now verdicts followers before behind owed changed then list_any is_refused asked else owed)
    → HandlesAndFollows verdicts followers old new owed owed_then seat ask answer asked
followed verdicts followers old behind new before owed owed_then changed seat ask answer asked does can was is due run owes =
    let asks = are_asked_so verdicts followers old behind before owed changed ask answer does.plan can was is in
    record {
      behind = behind;
      answered = does;
      exactly = due ∙ ap (λ (b : Bool). if b then ranges_due_now verdicts followers behind else []) asks
          ∙ ap (λ (p : PlanData). if asks_behind verdicts followers old behind owed ask answer then ranges_due verdicts followers p (past behind.steps) else []) does.plan;
      one_by_one = run;
      owes = owes ∙ ap (λ (b : Bool). if b then list_any is_refused asked else owed) asks;
    }

-- an answer that is no refusal
accepts : (answer : Answer) → is_err answer ≡ false → true ≡ is_ok answer
accepts (Ok reply) e = refl
accepts (Err fault) e = absurd (cc)

pub followed_accepted : (verdicts : Verdicts) (followers : List Follower) (old behind new : DeviceData) (before : Values) (owed owed_then : Bool) (seat : ℕ) (ask : Ask) (answer : Answer) (asked : List RangeAsk)
    → Handles verdicts old behind seat ask answer → is_change ask ≡ true → before ≡ now verdicts old.plan (past old.steps) → is_err answer ≡ false
    → map range_for asked ≡ (if are_asked_now verdicts followers before behind owed true then ranges_due_now verdicts followers behind else [])
    → IsRun verdicts behind (map (range_call seat) asked) new
    → owed_then ≡ (if are_asked_now verdicts followers before behind owed true then list_any is_refused asked else owed)
    → HandlesAndFollows verdicts followers old new owed owed_then seat ask answer asked
followed_accepted verdicts followers old behind new before owed owed_then seat ask answer asked does can was accepts_it due run owes =
    followed verdicts followers old behind new before owed owed_then true seat ask answer asked does can was (accepts answer accepts_it) due run owes
