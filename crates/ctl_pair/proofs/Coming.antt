-- How a script comes along, by one ask and one answer at a time.
use Rattle.std.proofs.Common.{◌≡◌, ℕ, suc, ◌+◌, true, List, [], ◌∷◌, ◌++◌, map, reverse, length, take, All, Option, None, Some, refl, sym, ap, ap₂, ◌∙◌, subst, arith, append_assoc, append-nil}
use Rattle.std.proofs.lemmas.List.{map-append, reverse-append, length-append}
use Rattle.std.proofs.lemmas.List.Elements.{All-pop, All-weaker}
use Rattle.device_history.specs.declared.ask.Ask.{Ask}
use Rattle.device_history.specs.Refusals.{Answer}
use Rattle.script_lines.specs.declared.command.Command.{Command}
use Rattle.ctl_script.specs.Asks.{asked_by, asked_in, bound_behind, all_bound, IsTranscript}
use Rattle.ctl_script.specs.Bindings.{Bound, binding_of, answer_bound, bound_names, is_entered, unbound}
use Rattle.ctl_script.specs.declared.binding.Binding.{Binding}
use Rattle.ctl_script.specs.declared.names.Bindings.{Bindings}
use Rattle.ctl_script.proofs.Saying.{bound_more}
use Rattle.ctl_pair.specs.Client.{last_binding, CanBeAsked, HasCome}

-- what one more command asks
asked_more : (bound : Bound) (done : List Command) (answers : List (Option Answer)) (command : Command) (answer : Option Answer) → length answers ≡ length done
    → asked_in bound (done ++ command ∷ []) (answers ++ answer ∷ []) ≡ asked_in bound done answers ++ asked_by (all_bound bound done answers) command ∷ []
asked_more bound [] [] command answer each = refl
asked_more bound [] (a ∷ others) command answer each = absurd (omega arith)
asked_more bound (c ∷ cs) [] command answer each = absurd (omega arith)
asked_more bound (c ∷ cs) (a ∷ others) command answer each = ap (λ l. asked_by bound c ∷ l) (asked_more (bound_behind c a bound) cs others command answer (omega arith))

last_more : (done : List Command) (command : Command) → last_binding (done ++ command ∷ []) ≡ binding_of command
last_more [] command = refl
last_more (c ∷ []) command = refl
last_more (c ∷ d ∷ cs) command = last_more (d ∷ cs) command

-- the last of some commands
last_split : (cs : List Command) (n : ℕ) → length cs ≡ n + 1 → (front : List Command) × (last : Command) × (cs ≡ front ++ last ∷ [])
last_split [] n e = absurd (omega arith)
last_split (c ∷ []) n e = ([], c, refl)
last_split (c ∷ d ∷ cs) n e = let r = last_split (d ∷ cs) (length cs) (omega arith) in (c ∷ r.0, r.1, ap (λ l. c ∷ l) r.2)

-- of each line the ask, and the answer
abbrev asks_said : List (Ask × Option Answer) → List (Option Ask)
asks_said said = map (λ line. Some line.0) said

abbrev heard : List (Ask × Option Answer) → List (Option Answer)
heard said = map (λ line. line.1) said

asks_more : (said : List (Ask × Option Answer)) (ask : Ask) (answer : Option Answer) → asks_said (said ++ (ask, answer) ∷ []) ≡ asks_said said ++ Some ask ∷ []
asks_more said ask answer = map-append (λ line. Some line.0) said ((ask, answer) ∷ [])

heard_more : (said : List (Ask × Option Answer)) (ask : Ask) (answer : Option Answer) → heard (said ++ (ask, answer) ∷ []) ≡ heard said ++ answer ∷ []
heard_more said ask answer = map-append (λ line. line.1) said ((ask, answer) ∷ [])

length_heard : (said : List (Ask × Option Answer)) → length (heard said) ≡ length said
length_heard [] = refl
length_heard (line ∷ lines) = ap suc (length_heard lines)

-- what was asked are the first commands
first_taken : {X : Type 0} (done rest : List X) (n : ℕ) → n ≡ length done → take n (done ++ rest) ≡ done
first_taken [] rest n e = ap (λ k. take k rest) e
first_taken (x ∷ xs) rest n e = ap (λ k. take k (x ∷ (xs ++ rest))) e ∙ ap (λ l. x ∷ l) (first_taken xs rest (length xs) refl)

module _ (script : List Command) where
  abbrev Come : List Command → List Command → Bindings → Binding → List (Ask × Option Answer) → Type 0
  Come done left names binding said = HasCome script done left names binding said

  -- a client's own fact, which has no list of what was asked
  abbrev pub IsCome : List Command → Bindings → Binding → List (Ask × Option Answer) → Type 0
  IsCome left names binding said = HasCome script (take (length said) script) left names binding said

  own_fact : (done left : List Command) (names : Bindings) (binding : Binding) (said : List (Ask × Option Answer)) → Come done left names binding said → IsCome left names binding said
  own_fact done left names binding said h =
      subst (λ d. Come d left names binding said) (sym (ap (take (length said)) h.split ∙ first_taken done (reverse left) (length said) h.each)) h

  -- at first nothing was asked
  pub come_new : (left : List Command) (names : Bindings) → script ≡ reverse left → bound_names names ≡ unbound → All (CanBeAsked names) left → IsCome left names (last_binding []) []
  come_new left names split bound ready = record {
    split = split;
    each = refl;
    asked = refl;
    bound = bound;
    binding_is = refl;
    entered = refl;
    ready = ready;
  }

  -- then the next is asked
  come_asked : (left rest : List Command) (names : Bindings) (binding : Binding) (said : List (Ask × Option Answer)) (command : Command) (ask : Ask)
      → left ≡ rest ++ command ∷ [] → IsCome left names binding said → asked_by (bound_names names) command ≡ Some ask → IsCome rest names (binding_of command) (said ++ (ask, None) ∷ [])
  come_asked left rest names binding said command ask is h asks =
      let done = take (length said) script in
      let each : length (heard said) ≡ length done = length_heard said ∙ h.each in
      let two = All-pop (CanBeAsked names) left rest (Some command) is h.ready in
      own_fact (done ++ command ∷ []) rest names (binding_of command) (said ++ (ask, None) ∷ []) (record {
        split = h.split ∙ ap (λ l. done ++ reverse l) is ∙ ap (λ l. done ++ l) (reverse-append rest (command ∷ [])) ∙ sym (append_assoc done (command ∷ []) (reverse rest));
        each = length-append said ((ask, None) ∷ []) ∙ ap (λ n. n + 1) h.each ∙ sym (length-append done (command ∷ []));
        asked = asks_more said ask None ∙ ap₂ (λ l o. l ++ o ∷ []) h.asked (sym asks ∙ ap (λ b. asked_by b command) h.bound)
            ∙ sym (asked_more unbound done (heard said) command None each) ∙ ap (asked_in unbound (done ++ command ∷ [])) (sym (heard_more said ask None));
        bound = h.bound ∙ sym (bound_more unbound done (heard said) command None each) ∙ ap (all_bound unbound (done ++ command ∷ [])) (sym (heard_more said ask None));
        binding_is = sym (last_more done command);
        entered = two.1.1;
        ready = two.0;
      })

  pub come_next : (left rest : List Command) (names : Bindings) (binding next : Binding) (said after : List (Ask × Option Answer)) (command : Command) (asks : Option Ask) (ask : Ask)
      → left ≡ rest ++ command ∷ [] → IsCome left names binding said → asks ≡ asked_by (bound_names names) command → asks ≡ Some ask → next ≡ binding_of command → after ≡ said ++ (ask, None) ∷ [] → IsCome rest names next after
  come_next left rest names binding next said after command asks ask is h by some binds last =
      subst (IsCome rest names next) (sym last) (subst (λ b. IsCome rest names b (said ++ (ask, None) ∷ [])) (sym binds) (come_asked left rest names binding said command ask is h (sym by ∙ some)))

  -- and its answer heard
  pub come_heard : (left : List Command) (names after : Bindings) (binding : Binding) (said before : List (Ask × Option Answer)) (ask : Ask) (answer : Answer)
      → IsCome left names binding said → said ≡ before ++ (ask, None) ∷ [] → bound_names after ≡ answer_bound binding answer (bound_names names)
      → ((other : Binding) → is_entered names other ≡ true → is_entered after other ≡ true) → IsCome left after binding (before ++ (ask, Some answer) ∷ [])
  come_heard left names after binding said before ask answer h last bound kept =
      let done = take (length said) script in
      let long : length done ≡ length before + 1 = sym h.each ∙ ap length last ∙ length-append before ((ask, None) ∷ []) in
      let cut = last_split done (length before) long in
      let front = cut.0 in
      let command = cut.1 in
      let each : length (heard before) ≡ length front =
      let more = length-append front (command ∷ []) in let same = ap length cut.2 in let all = length_heard before in omega arith in
      let done_heard : (a : Option Answer) → asked_in unbound done (heard (before ++ (ask, a) ∷ [])) ≡ asked_in unbound front (heard before) ++ asked_by (all_bound unbound front (heard before)) command ∷ [] =
      λ a. ap₂ (asked_in unbound) cut.2 (heard_more before ask a) ∙ asked_more unbound front (heard before) command a each in
      let bound_heard : (a : Option Answer) → all_bound unbound done (heard (before ++ (ask, a) ∷ [])) ≡ bound_behind command a (all_bound unbound front (heard before)) =
      λ a. ap₂ (all_bound unbound) cut.2 (heard_more before ask a) ∙ bound_more unbound front (heard before) command a each in
      own_fact done left after binding (before ++ (ask, Some answer) ∷ []) (record {
        split = h.split;
        each = length-append before ((ask, Some answer) ∷ []) ∙ sym long;
        asked = asks_more before ask (Some answer) ∙ sym (asks_more before ask None) ∙ ap asks_said (sym last) ∙ h.asked ∙ ap (λ s. asked_in unbound done (heard s)) last ∙ done_heard None ∙ sym (done_heard (Some answer));
        bound = bound ∙ ap₂ (λ b n. answer_bound b answer n) (h.binding_is ∙ ap last_binding cut.2 ∙ last_more front command) (h.bound ∙ ap (λ s. all_bound unbound done (heard s)) last ∙ bound_heard None) ∙ sym (bound_heard (Some answer));
        binding_is = h.binding_is;
        entered = kept binding h.entered;
        ready = All-weaker (CanBeAsked names) (CanBeAsked after) (λ c r. (r.0, kept (binding_of c) r.1)) left h.ready;
      })

  -- at last the transcript is the script's
  pub come_done : (left : List Command) (names : Bindings) (binding : Binding) (said : List (Ask × Option Answer)) → IsCome left names binding said → left ≡ [] → IsTranscript script said
  come_done left names binding said h none =
      let done = take (length said) script in
      let all : script ≡ done = h.split ∙ ap (λ l. done ++ reverse l) none ∙ append-nil done in
      record { each = h.each ∙ ap length (sym all); asked = h.asked ∙ ap (λ l. asked_in unbound l (heard said)) (sym all) }
