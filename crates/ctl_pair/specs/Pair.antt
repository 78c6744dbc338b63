-- What two scripts on two threads leave in a device, and what is printed then (of this project).
use Rattle.std.specs.Prelude.{◌≡◌, ◌≢◌, ◌<◌, ℕ, List, [], ◌++◌, All, length, Option, Some, None}
use Rattle.std.specs.List.{flat_map}
use Rattle.std.specs.Io.KnownBytes.{Appends}
use Rattle.history.specs.Past.{past, own}
use Rattle.ctrl_calls.specs.Meanings.{Verdicts, Words}
use Rattle.ctrl_handlers.specs.Plan.{PlanData}
use Rattle.ctrl_clusters.specs.Notified.{HaveWords}
use Rattle.device_history.specs.declared.ask.Ask.{Ask}
use Rattle.device_history.specs.Refusals.{Answer}
use Rattle.device_history.specs.Steps.{History}
use Rattle.device_history.specs.Values.{now}
use Rattle.device_history.specs.Answers.{MayAnswer, taken}
use Rattle.device_history.specs.Legal.{IsLegal}
use Rattle.turn_desk.specs.Runs.{HasServed}
use Rattle.script_lines.specs.declared.command.Command.{Command}
use Rattle.ctl_script.specs.Asks.{IsTranscript}
use Rattle.script_replies.specs.Replies.{numbered_line, answer_line, accepted_line, audit_line}
use Rattle.script_replies.specs.declared.audited.Audited.{Audited}
use Rattle.script_replies.specs.declared.audited.Audited.TheVariants.{Equal, Memory}

-- the reply line of a script's ask that was answered, behind the script's number
abbrev pub said_line : ℕ → Ask × Option Answer → List ℕ
said_line script (ask, Some answer) = numbered_line script (answer_line ask answer)
said_line script (ask, None) = []

-- the reply lines of both scripts, how many of the steps are each seat's, and the audit
abbrev pub pair_lines : List (Ask × Option Answer) → List (Ask × Option Answer) → History → Audited → List ℕ
pair_lines first second steps audited = flat_map (said_line 0) first ++ (flat_map (said_line 1) second
    ++ (accepted_line (length (own 0 steps)) (length (own 1 steps)) ++ audit_line audited))

-- a device of a plan may give this answer to the ask after these steps
abbrev pub may_answer : Verdicts → Words → PlanData → History → Ask → Answer → Type 0
may_answer verdicts tells plan steps ask answer = (words : List ℕ) × HaveWords tells plan (now verdicts plan (past steps)) words × MayAnswer verdicts plan (past steps) words ask answer

-- These two scripts have run on a device without steps, each at its own seat, and this was printed.
pub record HasPaired (verdicts : Verdicts) (tells : Words) (plan : PlanData) (scripts : List Command × List Command) (steps : History) (before after : Option (List ℕ)) : Type 0 where
  -- what each script asked, in order, and was answered
  pub first : List (Ask × Option Answer)
  pub second : List (Ask × Option Answer)
  -- each command once
  pub asks_of_first : IsTranscript scripts.0 first
  pub asks_of_second : IsTranscript scripts.1 second
  -- the steps of each seat are those of its script's accepted asks, in order
  pub at_first : HasServed (λ p s. IsLegal verdicts p (past s)) (may_answer verdicts tells) (λ p s. taken verdicts p (past s)) plan 0 [] first steps
  pub at_second : HasServed (λ p s. IsLegal verdicts p (past s)) (may_answer verdicts tells) (λ p s. taken verdicts p (past s)) plan 1 [] second steps
  -- and there are no others
  pub only : All (λ e. e.seat < 2) steps
  -- the audit agrees, where it finds memory
  pub audited : Audited
  pub agrees : audited ≢ Memory → audited ≡ Equal (length steps)
  pub printed : Appends before after (pair_lines first second steps audited)
