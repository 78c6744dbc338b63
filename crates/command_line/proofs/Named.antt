-- A command line of the tool names `run`, `pair` or `board`.
use Rattle.std.proofs.Common.{◌≡◌, ◌⊎◌, ◌∙◌, Bool, true, false, List, [], ◌∷◌, Option, None, Some, is_some, inl, inr, refl, sym, subst, ap, codes, option_map, ℕ}
use Rattle.std.specs.Prelude.{Box, IfSome, fold}
use Rattle.std.specs.Str.{bytes_eq}
use Rattle.std.proofs.lemmas.Slice.Eq.{bytes_eq-Decides}
use Rattle.clap.specs.Kinds.{Kinds, or_else}
use Rattle.clap.specs.Lexer.{long_of, short_of}
use Rattle.clap.specs.Walk.{Held, Names, Outcome, Row, Rule, Step, Text, Waiting, Walk, after_flag, after_step, arg_by_index, bundle, done, finished, idle, long_or_other, long_met, arg_by_long, next, nothing_held, option, plain, plain_word, positional, refused, short_or_plain, subcommand, subcommand_met, subcommand_or_other, to_positional, trailing, value, waits, walk, walk_from, walked}
use Rattle.clap.specs.Simple.{Shape, argument_words, built, entered, names_of}
use Rattle.clap.specs.Faults.{check_fault, entered_fault, other_fault, turn_fault, walk_fault}
use Rattle.clap.specs.Matches.{subcommand_name_of}
use Rattle.clap.specs.Simple.{subcommand_of, subcommand_rows, subcommand_rows_of}
use Rattle.clap.specs.declared.parser.matches.ArgMatches.{ArgMatches}
use Rattle.clap.specs.declared.parser.matches.ArgMatches.TheViews.{out-ArgMatches, out-SubCommand}
use Rattle.clap.specs.declared.parser.matches.SubCommand.{SubCommand}
use Rattle.std.specs.Borrow.{Bor}
use Rattle.std.specs.Box.{box_value}
use Rattle.clap.specs.declared.error.kind.ErrorKind.TheVariants as kind
use Rattle.command_line.specs.Modes.{IsCommandLine, subcommand_named, tool}

-- where neither of two steps fails
first_none : (a b : Kinds) → or_else a b ≡ [] → a ≡ []
first_none [] b e = refl
first_none (k ∷ ks) b e = cc

rest_none : (a b : Kinds) → or_else a b ≡ [] → b ≡ []
rest_none [] b e = e
rest_none (k ∷ ks) b e = cc

-- ---- no walk that passes stops at `help`

-- the word names a subcommand
abbrev is_entry : Step → Bool
is_entry (subcommand name) = true
is_entry _ = false

-- a walk that stopped did so at another subcommand than `help`
abbrev IsNotHelp : Option (Text × List Text) → Type 0
IsNotHelp stop = IfSome stop (λ p. bytes_eq p.0 (codes "help") ≡ false)

-- a word that names no subcommand leaves the walk going
module _ (c : List Rule) where
  plain_enters : (waiting : Waiting) (word : Text) (h : Held) → is_entry (plain_word c waiting word h).1 ≡ false
  plain_enters idle word h = refl
  plain_enters (option id) word h = refl
  plain_enters positional word h = refl

  flag_enters : (waiting : Waiting) (word : Text) (h : Held) (o : Outcome) → is_entry (after_flag c waiting word h o).1 ≡ false
  flag_enters waiting word h done = refl
  flag_enters waiting word h (waits id) = refl
  flag_enters waiting word h plain = plain_enters waiting word h
  flag_enters waiting word h refused = plain_enters waiting word h

  short_enters : (waiting : Waiting) (word : Text) (o : Option Text) (h : Held) → is_entry (short_or_plain c waiting word o h).1 ≡ false
  short_enters waiting word None h = plain_enters waiting word h
  short_enters waiting word (Some flags) h = flag_enters waiting word (bundle c flags h).0 (bundle c flags h).1

  other_enters : (waiting : Waiting) (word : Text) (o : Option (Text × Option Text)) (h : Held) → is_entry (long_or_other c waiting word o h).1 ≡ false
  other_enters waiting word None h = short_enters waiting word (short_of word) h
  other_enters waiting word (Some p) h = flag_enters waiting word (long_met c (arg_by_long c p.0) p.1 h).0 (long_met c (arg_by_long c p.0) p.1 h).1

  word_enters : (waiting : Waiting) (position : ℕ) (word : Text) (h : Held) → is_entry (subcommand_or_other c None waiting position word h).1 ≡ false
  word_enters waiting position word h = go (bytes_eq word (45 ∷ 45 ∷ [])) refl
    where
      go : (b : Bool) → bytes_eq word (45 ∷ 45 ∷ []) ≡ b → is_entry (subcommand_or_other c None waiting position word h).1 ≡ false
      go true t = rw t refl
      go false t = rw t (other_enters waiting word (long_of word) h)

  to_stays : (found : Option Rule) (word : Text) (w : Walk) (h : Held) → w.stopped ≡ None → (to_positional c found word w h).stopped ≡ None
  to_stays None word w h none = none
  to_stays (Some a) word w h none = refl

  step_stays : (word : Text) (w : Walk) (h : Held) (step : Step) → w.stopped ≡ None → is_entry step ≡ false → (after_step c word w h step).stopped ≡ None
  step_stays word w h (next waiting) none e = none
  step_stays word w h (trailing position) none e = none
  step_stays word w h (subcommand name) none e = cc
  step_stays word w h value none e = to_stays (arg_by_index c w.position) word w h none

module _ (s : Shape) (names : Names) (enabled : s.disable_help_subcommand ≡ false) where
  -- a word that passes leaves the walk going, or stops it at another subcommand than `help`
  word_leaves : (met : Option Text) (w : Walk) (word : Text) → w.stopped ≡ None → other_fault s met word w.held ≡ []
      → IsNotHelp (after_step s.rules word w (subcommand_or_other s.rules met w.waiting w.position word w.held).0 (subcommand_or_other s.rules met w.waiting w.position word w.held).1).stopped
  word_leaves (Some name) w word none e = go (bytes_eq name (codes "help")) refl
    where
      go : (b : Bool) → bytes_eq name (codes "help") ≡ b → bytes_eq name (codes "help") ≡ false
      go false t = t
      go true t =
          let bad : other_fault s (Some name) word w.held ≡ kind.DisplayHelp ∷ kind.InvalidSubcommand ∷ [] = rw (t, enabled) refl in
          let no : kind.DisplayHelp ∷ kind.InvalidSubcommand ∷ [] ≡ [] = sym bad ∙ e in
          cc
  word_leaves None w word none e =
      let met = subcommand_or_other s.rules None w.waiting w.position word w.held in
      subst IsNotHelp (sym (step_stays s.rules word w met.0 met.1 none (word_enters s.rules w.waiting w.position word w.held))) tt

  turn_leaves : (stopped : Option (Text × List Text)) (is_trailing : Bool) (w : Walk) (word : Text) → w.stopped ≡ stopped → w.is_trailing ≡ is_trailing
      → IsNotHelp w.stopped → turn_fault s names w word ≡ [] → IsNotHelp (walked s.rules names w word).stopped
  unfolding walked
  turn_leaves (Some p) is_trailing w word stops trails h e = rw stops (rw stops at h)
  turn_leaves None true w word stops trails h e = rw (stops, trails) (subst IsNotHelp (sym (to_stays s.rules (arg_by_index s.rules w.position) word (record w { is_trailing = true; stopped = None }) w.held refl)) tt)
  turn_leaves None false w word stops trails h e =
      let both : or_else (other_fault s (subcommand_met names w.waiting word) word w.held) _ ≡ [] = rw (stops, trails) at e in
      rw (stops, trails) (word_leaves (subcommand_met names w.waiting word) (record w { is_trailing = false; stopped = None }) word refl (first_none _ _ both))

  walk_leaves : (w : Walk) (words : List Text) → IsNotHelp w.stopped → walk_fault s names w words ≡ [] → IsNotHelp (fold (walked s.rules names) w words).stopped
  unfolding walk_fault
  walk_leaves w [] h e = h
  walk_leaves w (word ∷ rest) h e =
      walk_leaves (walked s.rules names w word) rest (turn_leaves w.stopped w.is_trailing w word refl refl h (first_none _ _ e)) (rest_none _ _ e)

-- ---- the tool

-- a subcommand has to be used
is_required : (rows : List Row) (has : Bool) → check_fault (built tool).top rows has ≡ [] → has ≡ true
is_required rows true e = refl
is_required rows false e = cc

-- it is one of the tool's subcommands
abbrev IsOne : Option Text → Type 0
IsOne name = (name ≡ Some (codes "run")) ⊎ ((name ≡ Some (codes "pair")) ⊎ (name ≡ Some (codes "board")))

abbrev NamesOne : Option (Text × List Row) → Type 0
NamesOne o = IsOne (option_map (λ p. p.0) o)

one_of_three : (stop : Option (Text × List Text)) → IsNotHelp stop → is_some (entered (built tool) stop) ≡ true → NamesOne (entered (built tool) stop)
one_of_three None h e = cc
one_of_three (Some p) h e = go (bytes_eq (codes "run") p.0) (bytes_eq (codes "pair") p.0) (bytes_eq (codes "board") p.0) (bytes_eq (codes "help") p.0) refl refl refl refl
  where
    go : (run pair board help : Bool) → bytes_eq (codes "run") p.0 ≡ run → bytes_eq (codes "pair") p.0 ≡ pair → bytes_eq (codes "board") p.0 ≡ board → bytes_eq (codes "help") p.0 ≡ help
        → NamesOne (entered (built tool) (Some p))
    go true pair board help r q b l = inl (rw r refl)
    go false true board help r q b l = inr (inl (rw (r, q) refl))
    go false false true help r q b l = inr (inr (rw (r, q, b) refl))
    go false false false true r q b l =
        let same : codes "help" ≡ p.0 = (bytes_eq-Decides _ _).0 l in
        let other : bytes_eq (codes "help") (codes "help") ≡ false = rw (← same) at h in
        cc
    go false false false false r q b l =
        let none : false ≡ true = rw (r, q, b, l) at e in
        cc

-- a command line of the tool names one of its subcommands
names_one : (words : List Text) → IsCommandLine words → IsOne (subcommand_named words)
names_one words e =
    let a = built tool in
    let start = walk_from nothing_held in
    let given = argument_words tool words in
    let end = walk a.top.rules (names_of a) nothing_held given in
    let walks = first_none (walk_fault a.top (names_of a) start given) _ e in
    let after = rest_none (entered_fault a end.stopped) _ (rest_none (walk_fault a.top (names_of a) start given) _ e) in
    let checks = rest_none _ _ (rest_none _ _ after) in
    one_of_three end.stopped (walk_leaves a.top (names_of a) refl start given tt walks) (is_required (finished a.top.rules end.held) _ checks)

-- the name of the subcommand that a parse met
module _ {Z : Type 0} where
  same_name : (o : Option (Box SubCommand Z)) → option_map (λ b. (out-SubCommand (box_value b)).name.now) o ≡ option_map (λ p. p.0) (subcommand_rows o)
  same_name None = refl
  same_name (Some b) = refl

-- what is neither `pair` nor `board` is `run`
pub run_named : (words : List Text) (m : ArgMatches) (name : Option (Bor Text)) → IsCommandLine words → subcommand_rows_of m ≡ subcommand_of tool words
    → option_map (λ s. s.now) name ≡ subcommand_name_of m → (option_map (λ s. s.now) name ≡ Some (codes "pair") → ⊥) → (option_map (λ s. s.now) name ≡ Some (codes "board") → ⊥)
    → subcommand_named words ≡ Some (codes "run")
run_named words m name e rows is no_pair no_board =
    let named = is ∙ same_name (out-ArgMatches m).subcommand ∙ ap (option_map (λ p. p.0)) rows in
    elim (names_one words e) [
      | inl h ↦ h
      | inr more ↦ elim more [
        | inl h ↦ absurd (no_pair (named ∙ h))
        | inr h ↦ absurd (no_board (named ∙ h))
      ]
    ]
