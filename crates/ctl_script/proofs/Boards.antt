-- What a board does.
use Rattle.std.proofs.Common.{◌≡◌, ◌≢◌, ℕ, ◌+◌, ◌⊎◌, inl, inr, List, [], ◌++◌, Option, refl, sym, ◌∙◌, subst, append-nil}
use Rattle.std.specs.Io.KnownBytes.{Appends}
use Rattle.std.proofs.KnownBytes.{Appends-nil, Appends-trans}
use Rattle.history.specs.Past.{past}
use Rattle.ctrl_calls.specs.Meanings.{Verdicts, Words}
use Rattle.ctrl_handlers.specs.Plan.{PlanData}
use Rattle.device_history.specs.Steps.{Past}
use Rattle.device_state.specs.Device.{DeviceData}
use Rattle.script_lines.specs.ControlWords.{ControlWord}
use Rattle.script_replies.specs.Replies.{outcome_line}
use Rattle.script_replies.specs.declared.outcome.Outcome.{Outcome}
use Rattle.script_replies.specs.declared.outcome.Outcome.TheVariants.{Finished, BadLine, TooLong, ReadFault, WriteFault, NoSecond, Memory}
use Rattle.ctl_script.specs.Board.{HasBoard, IsSame, IsShown, queued_lines, board_lines}
use Rattle.ctl_script.specs.Run.{GrowsFrom, HasEnded, Said}
use Rattle.ctl_script.proofs.Runs.{onward}
use Rattle.ctl_script.proofs.Saying.{ended_as, goes_ended, is_write, one_script}

pub same_on : (old new : DeviceData) → IsSame old new → GrowsFrom old new
same_on old new same = record { plan = same.plan; steps = ([], same.steps ∙ sym (append-nil old.steps)) }

finished_not_write : Finished ≡ WriteFault → ⊥
finished_not_write e = cc

pub memory_not_finished : Memory ≡ Finished → ⊥
memory_not_finished e = cc

module _ (verdicts : Verdicts) (plan : PlanData) (older : Past) (before between after : Option (List ℕ)) where
  -- the line of the outcome is written at the end
  shown_line : (outcome : Outcome) → IsShown verdicts plan older outcome [] before between → Appends between after (outcome_line outcome) → IsShown verdicts plan older outcome (outcome_line outcome) before after
  shown_line Finished h line = subst (Appends before after) (append-nil (board_lines verdicts plan older ++ [])) (Appends-trans before between after (board_lines verdicts plan older ++ []) [] h line)
  shown_line Memory h line =
      let lines = queued_lines verdicts plan older h.0 in
      (h.0, h.1, Appends-trans before between after lines (outcome_line Memory) (subst (Appends before between) (append-nil lines) h.2) line)
  shown_line WriteFault h line = tt
  shown_line (BadLine number) h line = absurd h
  shown_line TooLong h line = absurd h
  shown_line ReadFault h line = absurd h
  shown_line NoSecond h line = absurd h

  pub shown_told : (outcome result : Outcome) → (result ≢ WriteFault → result ≡ outcome) → (result ≢ WriteFault → Appends between after (outcome_line outcome))
      → IsShown verdicts plan older outcome [] before between → IsShown verdicts plan older result (outcome_line result) before after
  shown_told outcome result same line h = by (is_write result)
    where
      by : (result ≡ WriteFault) ⊎ (result ≢ WriteFault) → IsShown verdicts plan older result (outcome_line result) before after
      by (inl e) = subst (λ o. IsShown verdicts plan older o (outcome_line o) before after) (sym e) tt
      by (inr other) = subst (λ o. IsShown verdicts plan older o (outcome_line o) before after) (sym (same other)) (shown_line outcome h (line other))

module _ (verdicts : Verdicts) (tells : Words) (known : List ControlWord) (unread left : Option (List ℕ)) (old new : DeviceData) where
  -- a script that has run whole, and the frames
  pub board_shown : (ran : DeviceData) (said : List Said) (outcome : Outcome) (before after : Option (List ℕ)) → HasEnded verdicts tells known unread left old ran said Finished → IsSame ran new
      → IsShown verdicts ran.plan (past ran.steps) outcome [] before after → HasBoard verdicts tells known unread left old new outcome [] before after
  board_shown ran said outcome before after ended same shown = (said, inr (ran, ended, same, shown))

  -- one that ended otherwise
  pub board_ended : (said : List Said) (outcome : Outcome) (written : Option (List ℕ)) → outcome ≢ Finished → HasEnded verdicts tells known unread left old new said outcome
      → HasBoard verdicts tells known unread left old new outcome [] written written
  board_ended said outcome written other ended = (said, inl (other, ended, λ _. Appends-nil written))

  -- and the line of the outcome
  pub board_told : (outcome result : Outcome) (before between after : Option (List ℕ)) → (result ≢ WriteFault → result ≡ outcome) → (result ≢ WriteFault → Appends between after (outcome_line outcome))
      → HasBoard verdicts tells known unread left old new outcome [] before between → HasBoard verdicts tells known unread left old new result (outcome_line result) before after
  board_told outcome result before between after same line (said, inl kept) = (
    said,
    inl (
      (λ e. kept.0 (sym (same (λ w. finished_not_write (sym e ∙ w))) ∙ e)),
      ended_as verdicts tells known unread left old new said outcome result same kept.1,
      (λ other. subst (λ o. Appends before after (outcome_line o)) (sym (same other))
          (Appends-trans before between after [] (outcome_line outcome) (kept.2 (λ w. other (same other ∙ w))) (line other))),
    ),
  )
  board_told outcome result before between after same line (said, inr shown) =
      (said, inr (shown.0, shown.1, shown.2, shown_told verdicts shown.0.plan (past shown.0.steps) before between after outcome result same line shown.3))

  -- the device goes on, and there is no second script
  pub goes_board : (outcome : Outcome) (line : List ℕ) (before after : Option (List ℕ)) → HasBoard verdicts tells known unread left old new outcome line before after → GrowsFrom old new
  goes_board outcome line before after (said, inl kept) = goes_ended verdicts tells known unread left old new said outcome kept.1
  goes_board outcome line before after (said, inr shown) =
      onward old shown.0 new (goes_ended verdicts tells known unread left old shown.0 said Finished shown.1) (same_on shown.0 new shown.2)

  one_board : (line : List ℕ) (before after : Option (List ℕ)) → HasBoard verdicts tells known unread left old new NoSecond line before after → ⊥
  one_board line before after (said, inl kept) = one_script verdicts tells known unread left old new said NoSecond kept.1 refl
  one_board line before after (said, inr shown) = shown.3

  pub single_board : (outcome : Outcome) (line : List ℕ) (before after : Option (List ℕ)) → HasBoard verdicts tells known unread left old new outcome line before after → outcome ≢ NoSecond
  single_board outcome line before after h e = one_board line before after (subst (λ o. HasBoard verdicts tells known unread left old new o line before after) e h)
