-- What the check of an ask that adds a step says of its answer.
use Rattle.std.proofs.Common.{◌≡◌, Bool, true, false, if◌then◌else◌, Option, None, Some, Ok, IsOk, refl, ap}
use Rattle.ctrl_types.specs.declared.check.Check.{Check}
use Rattle.ctrl_types.specs.declared.check.Check.TheVariants.{HistoryFull}
use Rattle.device_history.specs.declared.ask.Reply.{Reply}
use Rattle.device_history.specs.Steps.{Past}
use Rattle.device_history.specs.Refusals.{is_full, refused, step_check, stepped, unless_refused}

-- where nothing refuses it, its own check doesn't, and a further step is kept
pub step_passes : (older : Past) (own : Option Check) → step_check older own ≡ None → (own ≡ None) × (is_full older ≡ false)
step_passes older None h = (refl, by (is_full older) h)
  where
    by : (b : Bool) → (if b then Some HistoryFull else None) ≡ None → b ≡ false
    by true h = cc
    by false h = refl
step_passes older (Some check) h = cc

pub step_free : (older : Past) (own : Option Check) → own ≡ None → is_full older ≡ false → step_check older own ≡ None
step_free older None h room = ap (λ (b : Bool). if b then Some HistoryFull else None) room
step_free older (Some check) h room = cc

-- and it is answered the reply
pub step_answered : (older : Past) (own : Option Check) (reply : Reply) → step_check older own ≡ None → stepped own older reply ≡ Ok reply
step_answered older own reply free = ap (λ (o : Option Check). unless_refused o reply) free

pub step_accepted : (older : Past) (own : Option Check) (reply : Reply) → step_check older own ≡ None → IsOk (stepped own older reply)
step_accepted older own reply free = rw (step_answered older own reply free) refl

-- where a check refuses it, it is answered this
pub step_refused : (older : Past) (own : Option Check) (check : Check) (reply : Reply) → step_check older own ≡ Some check → stepped own older reply ≡ refused check
step_refused older own check reply refuses = ap (λ (o : Option Check). unless_refused o reply) refuses

pub own_refused : (older : Past) (own : Option Check) (check : Check) (reply : Reply) → own ≡ Some check → stepped own older reply ≡ refused check
own_refused older own check reply refuses = ap (λ (o : Option Check). stepped o older reply) refuses
