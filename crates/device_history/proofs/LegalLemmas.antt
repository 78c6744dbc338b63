-- What may follow a history.
use Rattle.std.proofs.Common.{◌≡◌, ℕ, Bool, true, false, cond, List, [], length, nat_le, slice_index, Some, None, Ok, Err, IsOk, refl, ap, sym, ◌∙◌, inl, inr}
use Rattle.ctrl_types.specs.declared.check.Check.TheVariants.{ClusterMissing}
use Rattle.ctrl_calls.specs.Meanings.{Verdicts}
use Rattle.ctrl_handlers.specs.Plan.{PlanData}
use Rattle.device_history.specs.declared.ask.Ask.{Ask}
use Rattle.device_history.specs.declared.ask.Ask.TheVariants as asks
use Rattle.device_history.specs.declared.ask.Reply.{Reply}
use Rattle.device_history.specs.declared.ask.Reply.TheVariants.{Word}
use Rattle.device_history.specs.declared.ask.Step.{Step}
use Rattle.device_history.specs.Steps.{Past}
use Rattle.device_history.specs.Refusals.{Answer, fault_of, replied_with}
use Rattle.device_history.specs.Answers.{MayAnswer, answer_of, no_memory, refusal, step_of}
use Rattle.device_history.specs.Legal.{MayFollow}

-- nothing refuses what is accepted
pub unrefused : (answer : Answer) → IsOk answer → fault_of answer ≡ None
unrefused (Ok reply) accepted = refl
unrefused (Err fault) accepted = cc

-- the words that were told don't matter to a refusal
pub refusal_of : (verdicts : Verdicts) (plan : PlanData) (past : Past) (words : List ℕ) (ask : Ask) → fault_of (answer_of verdicts plan past words ask) ≡ refusal verdicts plan past ask
refusal_of verdicts plan past words (asks.Told cluster) = by (nat_le (length plan.clusters) cluster)
  where
    by : (b : Bool) → fault_of (replied_with (λ word. Word word) (cond b (Err ClusterMissing) (Ok (slice_index words cluster)))) ≡ fault_of (replied_with (λ word. Word word) (cond b (Err ClusterMissing) (Ok (slice_index [] cluster))))
    by true = refl
    by false = refl
refusal_of verdicts plan past words _ = refl

-- the step that an ask adds where it is accepted may follow
pub taken_follows : (verdicts : Verdicts) (plan : PlanData) (past : Past) (words : List ℕ) (ask : Ask) (reply : Reply) (step : Step) → MayAnswer verdicts plan past words ask (Ok reply) → step_of verdicts plan past ask ≡ Some step
    → MayFollow verdicts plan past step
taken_follows verdicts plan past words ask reply step (inl is) adds = (ask, sym (refusal_of verdicts plan past words ask) ∙ ap fault_of (sym is), adds)
taken_follows verdicts plan past words ask reply step (inr lacks) adds = absurd (differ lacks.1)
  where
    differ : Ok reply ≡ no_memory ask → ⊥
    differ e = cc
