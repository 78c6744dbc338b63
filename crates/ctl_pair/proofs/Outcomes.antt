-- What the outcome that comes back says of the one that was to be told.
use Rattle.std.proofs.Common.{◌≡◌, ◌≢◌, ℕ, List, Option, Result, Ok, Err, IfOk, sym, subst, ◌∙◌}
use Rattle.script_lines.specs.ControlWords.{ControlWord}
use Rattle.script_replies.specs.declared.outcome.Outcome.{Outcome}
use Rattle.script_replies.specs.declared.outcome.Outcome.TheVariants.{Finished, WriteFault, Memory}
use Rattle.ctl_pair.specs.Scripts.{IsRefused}

finished_not_write : Finished ≡ WriteFault → ⊥
finished_not_write e = cc

memory_not_finished : Memory ≡ Finished → ⊥
memory_not_finished e = cc

module _ (result outcome : Outcome) (same : result ≢ WriteFault → result ≡ outcome) where
  was_finished : result ≡ Finished → outcome ≡ Finished
  was_finished f = sym (same (λ w. finished_not_write (sym f ∙ w))) ∙ f

  -- one of these isn't told as `Finished`
  pub refused_not_finished : (known : List ControlWord) (unread left : Option (List ℕ)) → IsRefused known unread left outcome → result ≢ Finished
  refused_not_finished known unread left refused f = subst (IsRefused known unread left) (was_finished f) refused

  pub short_not_finished : outcome ≡ Memory → result ≢ Finished
  short_not_finished memory f = memory_not_finished (sym memory ∙ was_finished f)

-- of two facts about what is given, if it is, each
module _ {X E : Type 0} (P Q : X → Type 0) where
  pub given_first : (r : Result X E) → IfOk r (λ x. P x × Q x) → IfOk r P
  given_first (Ok x) h = h.0
  given_first (Err e) h = tt

  pub given_second : (r : Result X E) → IfOk r (λ x. P x × Q x) → IfOk r Q
  given_second (Ok x) h = h.1
  given_second (Err e) h = tt
