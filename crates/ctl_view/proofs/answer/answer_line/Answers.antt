use Rattle.std.proofs.Common.{◌≡◌, ℕ, ◌++◌, Bool, List, map, Option, None, Some, IfSome, sym, subst}
use Rattle.ctrl_calls.specs.Meanings.{Verdicts}
use Rattle.ctrl_handlers.specs.Plan.{PlanData}
use Rattle.device_history.specs.declared.ask.Ask.{Ask}
use Rattle.device_history.specs.Refusals.{Answer}
use Rattle.device_history.specs.Steps.{History}
use Rattle.history_audit.specs.Replay.{IsProgressOf, ProgressData}
use Rattle.history_audit.proofs.MadeLemmas.{replay_longer}
use Rattle.device_state.specs.Device.{DeviceData}
use Rattle.device_state.proofs.RunLemmas.{run_plan, run_steps}
use Rattle.range_followers.specs.declared.follower.Follower.{Follower}
use Rattle.following_ranges.specs.declared.asking.RangeAsk.{RangeAsk}
use Rattle.following_ranges.specs.Following.{HandlesAndFollows, range_call}
use Rattle.ctl_view.proofs.answer.answer_line.Goals as goal

-- what was replayed of a device's steps was replayed of those that it has then
still_replayed : (verdicts : Verdicts) (old new : DeviceData) (more : History) (made : Option ProgressData) → new.plan ≡ old.plan → new.steps ≡ old.steps ++ more
    → IfSome made (IsProgressOf verdicts old.plan old.steps) → IfSome made (IsProgressOf verdicts new.plan new.steps)
still_replayed verdicts old new more None plan steps is = tt
still_replayed verdicts old new more (Some made) plan steps is =
    subst (λ (p : PlanData). IsProgressOf verdicts p new.steps made) (sym plan)
    (subst (λ (s : History). IsProgressOf verdicts old.plan s made) (sym steps) (replay_longer verdicts old.plan old.steps more made is))

-- so it is behind an ask, and behind the ranges that follow
followed : {verdicts : Verdicts} {followers : List Follower} {old new : DeviceData} {owed owed_then : Bool} {seat : ℕ} {ask : Ask} {answer : Answer} {asked : List RangeAsk} (made : Option ProgressData)
    → HandlesAndFollows verdicts followers old new owed owed_then seat ask answer asked → IfSome made (IsProgressOf verdicts old.plan old.steps) → IfSome made (IsProgressOf verdicts new.plan new.steps)
followed {verdicts} {followers} {old} {new} {owed} {owed_then} {seat} {ask} {answer} {asked} made does is =
    let calls = map (range_call seat) asked in
    let behind = does.behind in
    still_replayed verdicts behind new _ made (run_plan verdicts calls behind new does.one_by_one) (run_steps verdicts calls behind new does.one_by_one)
    (still_replayed verdicts old behind _ made does.answered.plan does.answered.steps is)

pub returns : goal.returns
returns g c = record { made = followed c.args.made.now c.in-Ok-handle_and_follow.ensures.ok c.requires.made }
