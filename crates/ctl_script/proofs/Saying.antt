-- How a script comes along, by one line at a time.
use Rattle.std.proofs.Common.{◌≡◌, ◌≢◌, ℕ, suc, ◌+◌, ◌⊎◌, inl, inr, List, [], ◌∷◌, ◌++◌, map, length, Option, None, Some, refl, sym, ap, ◌∙◌, subst, arith, append_assoc, append-nil}
use Rattle.std.specs.Io.KnownBytes.{Appends}
use Rattle.std.proofs.KnownBytes.{Appends-nil, Appends-trans}
use Rattle.std.proofs.lemmas.List.{map-append}
use Rattle.ctrl_calls.specs.Meanings.{Verdicts, Words}
use Rattle.device_history.specs.Refusals.{Answer}
use Rattle.device_state.specs.Device.{DeviceData}
use Rattle.script_lines.specs.ControlWords.{ControlWord}
use Rattle.script_lines.specs.Commands.{words, line_of}
use Rattle.script_lines.specs.declared.command.Command.{Command}
use Rattle.script_replies.specs.Replies.{outcome_line}
use Rattle.script_replies.specs.declared.outcome.Outcome.{Outcome}
use Rattle.script_replies.specs.declared.outcome.Outcome.TheVariants.{Finished, BadLine, TooLong, ReadFault, WriteFault, NoSecond, Memory}
use Rattle.ctl_script.specs.Asks.{bound_behind, all_bound}
use Rattle.ctl_script.specs.Bindings.{Bound, unbound}
use Rattle.ctl_script.specs.Run.{GrowsFrom, Script, script_in, read_before, Said, answer_in, reply_line, reply_lines, IsSaid, AreSaid, IsLine, HasSaid, IsUnread, HasEnded, HasPrinted, HasScript}
use Rattle.ctl_script.proofs.Runs.{still, onward, handled}

-- what names stand for behind one command more
pub bound_more : (bound : Bound) (done : List Command) (answers : List (Option Answer)) (command : Command) (answer : Option Answer) → length answers ≡ length done
    → all_bound bound (done ++ command ∷ []) (answers ++ answer ∷ []) ≡ bound_behind command answer (all_bound bound done answers)
bound_more bound [] [] command answer each = refl
bound_more bound [] (a ∷ others) command answer each = absurd (omega arith)
bound_more bound (c ∷ cs) [] command answer each = absurd (omega arith)
bound_more bound (c ∷ cs) (a ∷ others) command answer each = bound_more (bound_behind c a bound) cs others command answer (omega arith)

-- what isn't given is missing
pub none_of : {T : Type 0} (o : Option T) → ((x : T) → o ≡ Some x → ⊥) → o ≡ None
none_of None other = refl
none_of (Some x) other = absurd (other x refl)

-- a writer has failed, or not
pub is_write : (outcome : Outcome) → (outcome ≡ WriteFault) ⊎ (outcome ≢ WriteFault)
is_write WriteFault = inl refl
is_write Finished = inr (λ e. cc)
is_write (BadLine number) = inr (λ e. cc)
is_write TooLong = inr (λ e. cc)
is_write ReadFault = inr (λ e. cc)
is_write NoSecond = inr (λ e. cc)
is_write Memory = inr (λ e. cc)

-- the answers of commands
abbrev answers_in : List Said → List (Option Answer)
answers_in said = map answer_in said

length_answers : (said : List Said) → length (answers_in said) ≡ length said
length_answers [] = refl
length_answers (one ∷ said) = ap suc (length_answers said)

-- the reply lines with one more
lines_more : (said : List Said) (one : Said) → reply_lines (said ++ one ∷ []) ≡ reply_lines said ++ reply_line one
lines_more [] one = append-nil (reply_line one)
lines_more (s ∷ said) one = ap (λ l. reply_line s ++ l) (lines_more said one) ∙ sym (append_assoc (reply_line s) (reply_lines said) (reply_line one))

-- what was read of a script stands before the rest
abbrev pub behind : List Command → Script → Script
behind done script = (done ++ script.0, script.1)

behind_one : (done : List Command) (command : Command) (script : Script) → behind done (command ∷ script.0, script.1) ≡ behind (done ++ command ∷ []) script
behind_one done command script = ap (λ l. (l, script.1)) (sym (append_assoc done (command ∷ []) script.0))

module _ (verdicts : Verdicts) (tells : Words) (known : List ControlWord) where
  abbrev Each : Bound → List Command → List Said → DeviceData → DeviceData → Type 0
  Each = AreSaid verdicts tells

  -- there is one for each
  length_said : (bound : Bound) (done : List Command) (said : List Said) (old new : DeviceData) → Each bound done said old new → length said ≡ length done
  length_said bound [] [] old new each = refl
  length_said bound [] (one ∷ said) old new each = absurd each
  length_said bound (c ∷ cs) [] old new each = absurd each
  length_said bound (c ∷ cs) (one ∷ said) old new each = ap suc (length_said (bound_behind c (answer_in one) bound) cs said each.0 new each.2)

  -- one command more
  said_more : (bound : Bound) (done : List Command) (said : List Said) (command : Command) (one : Said) (old mid new : DeviceData)
      → Each bound done said old mid → IsSaid verdicts tells (all_bound bound done (answers_in said)) command one mid new → Each bound (done ++ command ∷ []) (said ++ one ∷ []) old new
  said_more bound [] [] command one old mid new each is = (new, subst (λ d. IsSaid verdicts tells bound command one d new) each is, refl)
  said_more bound [] (s ∷ said) command one old mid new each is = absurd each
  said_more bound (c ∷ cs) [] command one old mid new each is = absurd each
  said_more bound (c ∷ cs) (s ∷ said) command one old mid new each is =
      (each.0, each.1, said_more (bound_behind c (answer_in s) bound) cs said command one each.0 mid new each.2 is)

  -- the device goes on
  goes_one : (bound : Bound) (command : Command) (one : Said) (old new : DeviceData) → IsSaid verdicts tells bound command one old new → GrowsFrom old new
  goes_one bound command (inl said) old new is = handled verdicts old new 0 said.0 said.1 is.1
  goes_one bound command (inr audited) old new is = subst (GrowsFrom old) (sym is.1) (still old)

  goes_said : (bound : Bound) (done : List Command) (said : List Said) (old new : DeviceData) → Each bound done said old new → GrowsFrom old new
  goes_said bound [] [] old new each = subst (GrowsFrom old) (sym each) (still old)
  goes_said bound [] (one ∷ said) old new each = absurd each
  goes_said bound (c ∷ cs) [] old new each = absurd each
  goes_said bound (c ∷ cs) (one ∷ said) old new each =
      onward old each.0 new (goes_one bound c one old each.0 each.1) (goes_said (bound_behind c (answer_in one) bound) cs said each.0 new each.2)

  pub goes_ended : (unread left : Option (List ℕ)) (old new : DeviceData) (said : List Said) (outcome : Outcome) → HasEnded verdicts tells known unread left old new said outcome → GrowsFrom old new
  goes_ended unread left old new said outcome (inl ran) = goes_said unbound ran.2.asked said old new ran.2.each
  goes_ended unread left old new said outcome (inr none) = subst (GrowsFrom old) (sym none.1) (still old)

  -- Of a script that is still read: what came of its first lines. The next has this number.
  pub record HasGone (lines rest : List (List ℕ)) (number : ℕ) (bound : Bound) (old new : DeviceData) (before after : Option (List ℕ)) : Type 0 where
    pub done : List Command
    pub said : List Said
    pub split : script_in known 1 lines ≡ behind done (script_in known number rest)
    pub each : Each unbound done said old new
    pub bound_is : bound ≡ all_bound unbound done (answers_in said)
    pub printed : Appends before after (reply_lines said)

  -- at first nothing has come
  pub gone_new : (lines : List (List ℕ)) (bound : Bound) (device : DeviceData) (written : Option (List ℕ)) → bound ≡ unbound → HasGone lines lines 1 bound device device written written
  gone_new lines bound device written is = record { done = []; said = []; split = refl; each = refl; bound_is = is; printed = Appends-nil written }

  -- then one line more
  pub gone_line : (lines rest : List (List ℕ)) (line : List ℕ) (number : ℕ) (bound bound_after : Bound) (old mid new : DeviceData) (before between after : Option (List ℕ)) (read : Option (Option Command))
      → line_of known (words line) ≡ read → HasGone lines (line ∷ rest) number bound old mid before between → IsLine verdicts tells read bound bound_after mid new between after
      → HasGone lines rest (number + 1) bound_after old new before after
  gone_line lines rest line number bound bound_after old mid new before between after None reads h is = absurd is
  gone_line lines rest line number bound bound_after old mid new before between after (Some None) reads h is = record {
    done = h.done;
    said = h.said;
    split = h.split ∙ ap (λ r. behind h.done (read_before number r (script_in known (number + 1) rest))) reads;
    each = subst (Each unbound h.done h.said old) (sym is.1) h.each;
    bound_is = is.0 ∙ h.bound_is;
    printed = subst (λ w. Appends before w (reply_lines h.said)) (sym is.2) h.printed;
  }
  gone_line lines rest line number bound bound_after old mid new before between after (Some (Some command)) reads h is =
      let one = is.0 in
      let count : length (answers_in h.said) ≡ length h.done = length_answers h.said ∙ length_said unbound h.done h.said old mid h.each in
      record {
        done = h.done ++ command ∷ [];
        said = h.said ++ one ∷ [];
        split = h.split ∙ ap (λ r. behind h.done (read_before number r (script_in known (number + 1) rest))) reads ∙ behind_one h.done command (script_in known (number + 1) rest);
        each = said_more unbound h.done h.said command one old mid new h.each (subst (λ b. IsSaid verdicts tells b command one mid new) h.bound_is is.1);
        bound_is = is.2 ∙ ap (bound_behind command (answer_in one)) h.bound_is
            ∙ sym (bound_more unbound h.done (answers_in h.said) command (answer_in one) count) ∙ ap (all_bound unbound (h.done ++ command ∷ [])) (sym (map-append answer_in h.said (one ∷ [])));
        printed = subst (Appends before after) (sym (lines_more h.said one)) (Appends-trans before between after (reply_lines h.said) (reply_line one) h.printed is.3);
      }

  -- all lines were read
  pub all_said : (lines : List (List ℕ)) (number : ℕ) (bound : Bound) (old new : DeviceData) (before after : Option (List ℕ)) → HasGone lines [] number bound old new before after
      → HasSaid verdicts tells (script_in known 1 lines) old new Finished before after
  all_said lines number bound old new before after h =
      (h.said, record { asked = h.done; unasked = []; split = ap (λ s. s.0) h.split; each = h.each; end = (refl, ap (λ s. s.1) h.split) }, λ _. h.printed)

  -- one is no command
  pub bad_said : (lines rest : List (List ℕ)) (line : List ℕ) (number : ℕ) (bound : Bound) (old new : DeviceData) (before after : Option (List ℕ)) → HasGone lines (line ∷ rest) number bound old new before after
      → line_of known (words line) ≡ None → HasSaid verdicts tells (script_in known 1 lines) old new (BadLine number) before after
  bad_said lines rest line number bound old new before after h none =
      let ends : script_in known 1 lines ≡ behind h.done ([], Some number) = h.split ∙ ap (λ r. behind h.done (read_before number r (script_in known (number + 1) rest))) none in
      (h.said, record { asked = h.done; unasked = []; split = ap (λ s. s.0) ends; each = h.each; end = (refl, ap (λ s. s.1) ends) }, λ _. h.printed)

  -- no memory was left for one
  pub short_said : (lines rest : List (List ℕ)) (number : ℕ) (bound : Bound) (old new : DeviceData) (before after : Option (List ℕ)) → HasGone lines rest number bound old new before after
      → HasSaid verdicts tells (script_in known 1 lines) old new Memory before after
  short_said lines rest number bound old new before after h =
      (h.said, record { asked = h.done; unasked = (script_in known number rest).0; split = ap (λ s. s.0) h.split; each = h.each; end = tt }, λ _. h.printed)

  -- a reply wasn't written
  pub broken_said : (lines rest : List (List ℕ)) (line : List ℕ) (number : ℕ) (bound : Bound) (old mid new : DeviceData) (before between after : Option (List ℕ)) (command : Command) (one : Said)
      → HasGone lines (line ∷ rest) number bound old mid before between → line_of known (words line) ≡ Some (Some command) → IsSaid verdicts tells bound command one mid new
      → HasSaid verdicts tells (script_in known 1 lines) old new WriteFault before after
  broken_said lines rest line number bound old mid new before between after command one h reads is =
      let more = script_in known (number + 1) rest in
      let split = h.split ∙ ap (λ r. behind h.done (read_before number r more)) reads ∙ behind_one h.done command more in (
        h.said ++ one ∷ [],
        record {
          asked = h.done ++ command ∷ [];
          unasked = more.0;
          split = ap (λ s. s.0) split;
          each = said_more unbound h.done h.said command one old mid new h.each (subst (λ b. IsSaid verdicts tells b command one mid new) h.bound_is is);
          end = tt;
        },
        λ other. absurd (other refl),
      )

  -- A script that was read has ended so.
  pub ended_said : (unread left : Option (List ℕ)) (script : Script) (old new : DeviceData) (outcome : Outcome) (before after : Option (List ℕ)) → HasScript known unread left script
      → HasSaid verdicts tells script old new outcome before after → HasPrinted verdicts tells known unread left old new outcome [] before after
  ended_said unread left script old new outcome before after has h =
      (h.0, inl (script, has, h.1), λ other. subst (Appends before after) (sym (append-nil (reply_lines h.0))) (h.2 other))

  -- an input that isn't run
  pub ended_unread : (unread left : Option (List ℕ)) (device : DeviceData) (outcome : Outcome) (written : Option (List ℕ)) → IsUnread unread outcome
      → HasPrinted verdicts tells known unread left device device outcome [] written written
  ended_unread unread left device outcome written why = ([], inr (refl, refl, why), λ _. Appends-nil written)

  module _ (unread left : Option (List ℕ)) (old new : DeviceData) where
    abbrev Ended : List Said → Outcome → Type 0
    Ended said outcome = HasEnded verdicts tells known unread left old new said outcome

    -- a writer that fails may take the place of each outcome
    ended_broken : (said : List Said) (outcome : Outcome) → Ended said outcome → Ended said WriteFault
    ended_broken said outcome (inl ran) =
        inl (ran.0, ran.1, record { asked = ran.2.asked; unasked = ran.2.unasked; split = ran.2.split; each = ran.2.each; end = tt })
    ended_broken said outcome (inr none) = inr (none.0, none.1, tt)

    pub ended_as : (said : List Said) (outcome result : Outcome) → (result ≢ WriteFault → result ≡ outcome) → Ended said outcome → Ended said result
    ended_as said outcome result same h = by (is_write result)
      where
        by : (result ≡ WriteFault) ⊎ (result ≢ WriteFault) → Ended said result
        by (inl e) = subst (Ended said) (sym e) (ended_broken said outcome h)
        by (inr other) = subst (Ended said) (sym (same other)) h

    -- the line of the outcome is written behind the replies
    pub told_ended : (outcome result : Outcome) (before between after : Option (List ℕ)) → HasPrinted verdicts tells known unread left old new outcome [] before between
        → (result ≢ WriteFault → result ≡ outcome) → (result ≢ WriteFault → Appends between after (outcome_line outcome))
        → HasPrinted verdicts tells known unread left old new result (outcome_line result) before after
    told_ended outcome result before between after h same line = (
      h.0,
      ended_as h.0 outcome result same h.1,
      λ other.
          let is = same other in
          let replies = subst (Appends before between) (append-nil (reply_lines h.0)) (h.2 (λ e. other (is ∙ e))) in
          subst (λ o. Appends before after (reply_lines h.0 ++ outcome_line o)) (sym is) (Appends-trans before between after (reply_lines h.0) (outcome_line outcome) replies (line other)),
    )

    -- there is no second script
    never_second : (said : List Said) → Ended said NoSecond → ⊥
    never_second said (inl ran) = ran.2.end
    never_second said (inr none) = none.2

    pub one_script : (said : List Said) (outcome : Outcome) → Ended said outcome → outcome ≢ NoSecond
    one_script said outcome h e = never_second said (subst (Ended said) e h)
