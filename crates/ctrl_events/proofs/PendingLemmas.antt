-- What waits after one more happening.
use Rattle.std.proofs.Common.{arith, ◌≡◌, ◌∙◌, ◌⊎◌, ◌<◌, ℕ, Bool, true, false, not, cond, inl, inr, List, [], ◌∷◌, ◌++◌, filter, filter_map, length, length-append, Option, None, Some, nat_eq, eq-eqb, ne_eqb, true≢false, refl, sym, ap, subst}
use Rattle.std.specs.List.{cons_option, AllByRecursion as Each}
use Rattle.std.proofs.lemmas.Bool.Decides.{eqb_tells}
use Rattle.std.proofs.lemmas.List.Elements.{filter_map-append}
use Rattle.ctrl_types.specs.Events.{joined, no_changes}
use Rattle.ctrl_types.specs.declared.changes.Changes.{Changes}
use Rattle.ctrl_types.specs.declared.sub_flags.SubFlags.{SubFlags}
use Rattle.ctrl_events.specs.declared.event.Payload.{Payload}
use Rattle.ctrl_events.specs.Events.{Waiting, FileEvents, no_events, other_events, changes_in, behind_first, raised, with_subscription, after_unsubscribe, after_take}
use Rattle.ctrl_events.specs.Pending.{Happening, raise, withdrawn, raises, AreNumbered, raise_of, since_withdrawn, raises_since, all_changes, waiting_of, pending, IsWhatHappened}

-- whether two numbers are the same, with what `==` says of them
abbrev Tells : ℕ → ℕ → Type 0
Tells a b = ((nat_eq a b ≡ true) × (a ≡ b)) ⊎ ((nat_eq a b ≡ false) × (a ≡ b → ⊥))

-- what holds of everything holds of each
every : (P : Waiting → Type 0) → ((w : Waiting) → P w) → (ws : List Waiting) → Each P ws
every P all [] = tt
every P all (w ∷ ws) = (all w, every P all ws)

weaker : (P Q : Waiting → Type 0) → ((w : Waiting) → P w → Q w) → (ws : List Waiting) → Each P ws → Each Q ws
weaker P Q so [] each = tt
weaker P Q so (w ∷ ws) each = (so w each.0, weaker P Q so ws each.1)

each_last : (P : Waiting → Type 0) (ws : List Waiting) (w : Waiting) → Each P ws → P w → Each P (ws ++ w ∷ [])
each_last P [] w each own = (own, tt)
each_last P (v ∷ ws) w each own = (each.0, each_last P ws w each.1 own)

-- the raises of a control once what waits of one is withdrawn
fresh_gone : (c d : ℕ) (hs : List Happening) → raises_since d (withdrawn c ∷ hs) ≡ cond (nat_eq c d) [] (raises_since d hs)
unfolding raises_since since_withdrawn
fresh_gone c d hs = by (nat_eq c d)
  where
    by : (b : Bool) → filter (λ (w : Waiting). nat_eq w.control d) (filter_map raise_of (cond b [] (withdrawn c ∷ since_withdrawn d hs)))
        ≡ cond b [] (filter (λ (w : Waiting). nat_eq w.control d) (filter_map raise_of (since_withdrawn d hs)))
    by true = refl
    by false = refl

-- the same, once one more is raised
fresh_raise : (w : Waiting) (d : ℕ) (hs : List Happening) → raises_since d (raise w ∷ hs) ≡ cond (nat_eq w.control d) (w ∷ raises_since d hs) (raises_since d hs)
unfolding raises_since since_withdrawn
fresh_raise w d hs = refl

-- a raise that isn't picked any longer where it is of a control
one_left : (c : ℕ) (w : Waiting) (own us vs : List Waiting) → us ≡ other_events c vs
    → cons_option (cond (nat_eq c w.control) None (waiting_of own w)) us ≡ other_events c (cons_option (waiting_of own w) vs)
one_left c w [] us vs is = by (nat_eq c w.control)
  where
    by : (b : Bool) → cons_option (cond b None None) us ≡ other_events c vs
    by true = is
    by false = is
one_left c w (last ∷ others) us vs is = by (nat_eq last.sequence w.sequence) (nat_eq c w.control) refl
  where
    by : (t b : Bool) → nat_eq c w.control ≡ b → cons_option (cond b None (cond t (Some (record w { changes = all_changes (last ∷ others) })) None)) us ≡ other_events c (cons_option (cond t (Some (record w { changes = all_changes (last ∷ others) })) None) vs)
    by false true e = is
    by false false e = is
    by true true e = rw e is
    by true false e = rw (e, is) refl

-- a choice that no longer picks the raises of a control, and else picks as before, leaves its event out
left_out : (c : ℕ) (g : ℕ → List Waiting) (f : Waiting → Option Waiting) (ws : List Waiting) → Each (λ w. f w ≡ cond (nat_eq c w.control) None (waiting_of (g w.control) w)) ws
    → filter_map f ws ≡ other_events c (filter_map (λ w. waiting_of (g w.control) w) ws)
left_out c g f [] each = refl
left_out c g f (w ∷ ws) each = ap (λ o. cons_option o (filter_map f ws)) each.0 ∙ one_left c w (g w.control) (filter_map f ws) (filter_map (λ v. waiting_of (g v.control) v) ws) (left_out c g f ws each.1)

-- what is withdrawn of a control waits no longer
pub pending_gone : (hs : List Happening) (c : ℕ) → pending (withdrawn c ∷ hs) ≡ other_events c (pending hs)
unfolding pending raises
pending_gone hs c = left_out c (λ d. raises_since d hs) (λ w. waiting_of (raises_since w.control (withdrawn c ∷ hs)) w) (raises hs) (every _ each (raises hs))
  where
    each : (w : Waiting) → waiting_of (raises_since w.control (withdrawn c ∷ hs)) w ≡ cond (nat_eq c w.control) None (waiting_of (raises_since w.control hs) w)
    each w = ap (λ own. waiting_of own w) (fresh_gone c w.control hs) ∙ by (nat_eq c w.control)
      where
        by : (b : Bool) → waiting_of (cond b [] (raises_since w.control hs)) w ≡ cond b None (waiting_of (raises_since w.control hs) w)
        by true = refl
        by false = refl

-- each number is below the next
below : (hs : List Happening) → AreNumbered hs → Each (λ w. w.sequence < length (raises hs)) (raises hs)
unfolding raises AreNumbered
below [] numbered = tt
below (withdrawn c ∷ hs) numbered = below hs numbered
below (raise w ∷ hs) numbered =
    each_last (λ v. v.sequence < length (raises hs ++ w ∷ [])) (raises hs) w
    (weaker (λ v. v.sequence < length (raises hs)) _ (λ v less. omega (arith, less, length-append (raises hs) (w ∷ []))) (raises hs) (below hs numbered.1))
    (omega (arith, numbered.0, length-append (raises hs) (w ∷ [])))

-- a raise takes the place of the others of its control, and is the last
raised_last : (hs : List Happening) (w : Waiting) → AreNumbered (raise w ∷ hs)
    → pending (raise w ∷ hs) ≡ other_events w.control (pending hs) ++ record w { changes = joined (all_changes (raises_since w.control hs)) w.changes } ∷ []
unfolding pending raises AreNumbered
raised_last hs w numbered =
    filter_map-append f (raises hs) (w ∷ [])
    ∙ ap (λ ws. ws ++ filter_map f (w ∷ [])) (left_out w.control (λ d. raises_since d hs) f (raises hs) (weaker _ _ each (raises hs) (below hs numbered.1)))
    ∙ ap (λ o. other_events w.control (pending hs) ++ cons_option o []) own
  where
    f : Waiting → Option Waiting
    f v = waiting_of (raises_since v.control (raise w ∷ hs)) v

    each : (v : Waiting) → v.sequence < length (raises hs) → f v ≡ cond (nat_eq w.control v.control) None (waiting_of (raises_since v.control hs) v)
    each v less = ap (λ own. waiting_of own v) (fresh_raise w v.control hs) ∙ by (nat_eq w.control v.control)
      where
        by : (b : Bool) → waiting_of (cond b (w ∷ raises_since v.control hs) (raises_since v.control hs)) v ≡ cond b None (waiting_of (raises_since v.control hs) v)
        by true = ap (λ b. cond b (Some (record v { changes = all_changes (w ∷ raises_since v.control hs) })) None) (ne_eqb w.sequence v.sequence (λ e. omega (arith, e, less, numbered.0)))
        by false = refl

    own : f w ≡ Some (record w { changes = joined (all_changes (raises_since w.control hs)) w.changes })
    own = ap (λ own. waiting_of own w) (fresh_raise w w.control hs)
        ∙ ap (λ b. waiting_of (cond b (w ∷ raises_since w.control hs) (raises_since w.control hs)) w) (eq-eqb w.control w.control refl)
        ∙ ap (λ b. cond b (Some (record w { changes = joined (all_changes (raises_since w.control hs)) w.changes })) None) (eq-eqb w.sequence w.sequence refl)

-- what waits of a control once what waits of one is left out
changes_left : (d c : ℕ) (ws : List Waiting) → changes_in (other_events d ws) c ≡ cond (nat_eq d c) no_changes (changes_in ws c)
changes_left d c [] = by (nat_eq d c)
  where
    by : (b : Bool) → no_changes ≡ cond b no_changes no_changes
    by true = refl
    by false = refl
changes_left d c (w ∷ ws) = by (eqb_tells d w.control) (eqb_tells c w.control) (eqb_tells d c) (changes_left d c ws)
  where
    by : Tells d w.control → Tells c w.control → Tells d c → changes_in (other_events d ws) c ≡ cond (nat_eq d c) no_changes (changes_in ws c)
        → changes_in (other_events d (w ∷ ws)) c ≡ cond (nat_eq d c) no_changes (changes_in (w ∷ ws) c)
    by (inl own) (inl this) (inl same) rest = rw (own.0, same.0) (rw same.0 at rest)
    by (inl own) (inl this) (inr other) rest = absurd (other.1 (own.1 ∙ sym this.1))
    by (inl own) (inr off) (inl same) rest = absurd (off.1 (sym same.1 ∙ own.1))
    by (inl own) (inr off) (inr other) rest = rw (own.0, off.0) rest
    by (inr apart) (inl this) (inl same) rest = absurd (apart.1 (same.1 ∙ this.1))
    by (inr apart) (inl this) (inr other) rest = rw (apart.0, this.0, other.0) refl
    by (inr apart) (inr off) (inl same) rest = rw (apart.0, off.0) rest
    by (inr apart) (inr off) (inr other) rest = rw (apart.0, off.0) rest

-- what waits of a control where another event takes the place of its own, the last
changes_behind : (ws : List Waiting) (v : Waiting) (c : ℕ) → changes_in (other_events v.control ws ++ v ∷ []) c ≡ cond (nat_eq v.control c) v.changes (changes_in ws c)
changes_behind [] v c = by (eqb_tells c v.control) (eqb_tells v.control c)
  where
    by : Tells c v.control → Tells v.control c → cond (nat_eq c v.control) v.changes no_changes ≡ cond (nat_eq v.control c) v.changes no_changes
    by (inl own) (inl same) = rw (own.0, same.0) refl
    by (inl own) (inr other) = absurd (other.1 (sym own.1))
    by (inr off) (inl same) = absurd (off.1 (sym same.1))
    by (inr off) (inr other) = rw (off.0, other.0) refl
changes_behind (w ∷ ws) v c = by (eqb_tells v.control w.control) (eqb_tells c w.control) (eqb_tells v.control c) (changes_behind ws v c)
  where
    by : Tells v.control w.control → Tells c w.control → Tells v.control c → changes_in (other_events v.control ws ++ v ∷ []) c ≡ cond (nat_eq v.control c) v.changes (changes_in ws c)
        → changes_in (other_events v.control (w ∷ ws) ++ v ∷ []) c ≡ cond (nat_eq v.control c) v.changes (changes_in (w ∷ ws) c)
    by (inl own) (inl this) (inl same) rest = rw (own.0, same.0) (rw same.0 at rest)
    by (inl own) (inl this) (inr other) rest = absurd (other.1 (own.1 ∙ sym this.1))
    by (inl own) (inr off) (inl same) rest = absurd (off.1 (sym same.1 ∙ own.1))
    by (inl own) (inr off) (inr other) rest = rw (own.0, off.0) rest
    by (inr apart) (inl this) (inl same) rest = absurd (apart.1 (same.1 ∙ this.1))
    by (inr apart) (inl this) (inr other) rest = rw (apart.0, this.0, other.0) refl
    by (inr apart) (inr off) (inl same) rest = rw (apart.0, off.0) rest
    by (inr apart) (inr off) (inr other) rest = rw (apart.0, off.0) rest

-- what waits of a control says what all its raises say that changed
none_changed : (d : ℕ) → changes_in (pending []) d ≡ all_changes (raises_since d [])
unfolding pending raises raises_since since_withdrawn
none_changed d = refl

changes_pending : (hs : List Happening) → AreNumbered hs → (c : ℕ) → changes_in (pending hs) c ≡ all_changes (raises_since c hs)
unfolding AreNumbered
changes_pending [] numbered c = none_changed c
changes_pending (withdrawn d ∷ hs) numbered c =
    ap (λ ws. changes_in ws c) (pending_gone hs d) ∙ changes_left d c (pending hs) ∙ by (nat_eq d c) (changes_pending hs numbered c) ∙ ap all_changes (sym (fresh_gone d c hs))
  where
    by : (b : Bool) → changes_in (pending hs) c ≡ all_changes (raises_since c hs) → cond b no_changes (changes_in (pending hs) c) ≡ all_changes (cond b [] (raises_since c hs))
    by true is = refl
    by false is = is
changes_pending (raise w ∷ hs) numbered c =
    ap (λ ws. changes_in ws c) (raised_last hs w numbered) ∙ changes_behind (pending hs) (record w { changes = joined (all_changes (raises_since w.control hs)) w.changes }) c
    ∙ by (eqb_tells w.control c) (changes_pending hs numbered.1 c) ∙ ap all_changes (sym (fresh_raise w c hs))
  where
    by : Tells w.control c → changes_in (pending hs) c ≡ all_changes (raises_since c hs)
        → cond (nat_eq w.control c) (joined (all_changes (raises_since w.control hs)) w.changes) (changes_in (pending hs) c) ≡ all_changes (cond (nat_eq w.control c) (w ∷ raises_since c hs) (raises_since c hs))
    by (inl same) is = rw same.0 (ap (λ d. joined (all_changes (raises_since d hs)) w.changes) same.1)
    by (inr other) is = rw other.0 is

-- A raise takes the place of what waits of its control: the changes of both are joined, and it is the last.
pub pending_raise : (hs : List Happening) (w : Waiting) → AreNumbered (raise w ∷ hs)
    → pending (raise w ∷ hs) ≡ other_events w.control (pending hs) ++ record w { changes = joined (changes_in (pending hs) w.control) w.changes } ∷ []
unfolding AreNumbered
pending_raise hs w numbered =
    raised_last hs w numbered
    ∙ ap (λ changed. other_events w.control (pending hs) ++ record w { changes = joined changed w.changes } ∷ []) (sym (changes_pending hs numbered.1 w.control))

-- no two events are of one control
AreOnce : List Waiting → Type 0
AreOnce [] = Unit {0}
AreOnce (w ∷ ws) = Each (λ v. nat_eq w.control v.control ≡ false) ws × AreOnce ws

-- what holds of each holds of those that are left
each_left : (P : Waiting → Type 0) (c : ℕ) (ws : List Waiting) → Each P ws → Each P (other_events c ws)
each_left P c [] each = tt
each_left P c (w ∷ ws) each = by (nat_eq c w.control) (each_left P c ws each.1)
  where
    by : (b : Bool) → Each P (other_events c ws) → Each P (cond (not b) (w ∷ other_events c ws) (other_events c ws))
    by true rest = rest
    by false rest = (each.0, rest)

-- none of those that are left is of the control
none_left : (c : ℕ) (ws : List Waiting) → Each (λ v. nat_eq c v.control ≡ false) (other_events c ws)
none_left c [] = tt
none_left c (w ∷ ws) = by (nat_eq c w.control) refl (none_left c ws)
  where
    by : (b : Bool) → nat_eq c w.control ≡ b → Each (λ v. nat_eq c v.control ≡ false) (other_events c ws) → Each (λ v. nat_eq c v.control ≡ false) (cond (not b) (w ∷ other_events c ws) (other_events c ws))
    by true is rest = rest
    by false is rest = (is, rest)

once_left : (c : ℕ) (ws : List Waiting) → AreOnce ws → AreOnce (other_events c ws)
unfolding AreOnce
once_left c [] once = tt
once_left c (w ∷ ws) once = by (nat_eq c w.control) (once_left c ws once.1)
  where
    by : (b : Bool) → AreOnce (other_events c ws) → AreOnce (cond (not b) (w ∷ other_events c ws) (other_events c ws))
    by true rest = rest
    by false rest = (each_left _ c ws once.0, rest)

once_last : (ws : List Waiting) (v : Waiting) → AreOnce ws → Each (λ w. nat_eq v.control w.control ≡ false) ws → AreOnce (ws ++ v ∷ [])
unfolding AreOnce
once_last [] v once others = (tt, tt)
once_last (w ∷ ws) v once others = (each_last _ ws v once.0 (by (eqb_tells w.control v.control)), once_last ws v once.1 others.1)
  where
    by : Tells w.control v.control → nat_eq w.control v.control ≡ false
    by (inl same) = ap (λ d. nat_eq w.control d) (sym same.1) ∙ absurd (true≢false (sym (eq-eqb v.control w.control (sym same.1)) ∙ others.0))
    by (inr other) = other.0

nothing_twice : AreOnce (pending [])
unfolding pending raises AreOnce
nothing_twice = tt

-- no two events of a control wait
once_pending : (hs : List Happening) → AreNumbered hs → AreOnce (pending hs)
unfolding AreNumbered
once_pending [] numbered = nothing_twice
once_pending (withdrawn c ∷ hs) numbered = subst AreOnce (sym (pending_gone hs c)) (once_left c (pending hs) (once_pending hs numbered))
once_pending (raise w ∷ hs) numbered =
    subst AreOnce (sym (raised_last hs w numbered))
    (once_last (other_events w.control (pending hs)) _ (once_left w.control (pending hs) (once_pending hs numbered.1)) (none_left w.control (pending hs)))

-- where none is of a control, all are left
all_left : (c : ℕ) (ws : List Waiting) → Each (λ v. nat_eq c v.control ≡ false) ws → other_events c ws ≡ ws
all_left c [] others = refl
all_left c (w ∷ ws) others = rw (others.0, all_left c ws others.1) refl

-- Once the first that waits is taken, those behind it wait.
pub pending_taken : (hs : List Happening) (w : Waiting) (ws : List Waiting) → AreNumbered hs → pending hs ≡ w ∷ ws → pending (withdrawn w.control ∷ hs) ≡ ws
unfolding AreOnce
pending_taken hs w ws numbered is =
    let once : AreOnce (w ∷ ws) = subst AreOnce is (once_pending hs numbered) in
    pending_gone hs w.control ∙ ap (other_events w.control) is ∙ ap (λ b. cond (not b) (w ∷ other_events w.control ws) (other_events w.control ws)) (eq-eqb w.control w.control refl) ∙ all_left w.control ws once.0

-- at first nothing waits
pub pending_start : pending [] ≡ []
unfolding pending raises
pending_start = refl

-- at first nothing happened
pub kept_start : IsWhatHappened [] no_events
unfolding raises AreNumbered
kept_start = record { numbered = tt; waiting = sym pending_start; next = refl }

-- a raise
pub kept_raised : (hs : List Happening) (f : FileEvents) (c : ℕ) (changes : Changes) (payload : Payload) → IsWhatHappened hs f
    → IsWhatHappened (raise (record { control = c; changes = changes; payload = payload; sequence = f.next }) ∷ hs) (raised c changes payload f)
unfolding raises AreNumbered
kept_raised hs f c changes payload kept =
    let numbered : AreNumbered (raise w ∷ hs) = (kept.next, kept.numbered) in
    record {
      numbered = numbered;
      waiting = ap (λ ws. other_events c ws ++ record { control = c; changes = joined (changes_in ws c) changes; payload = payload; sequence = f.next } ∷ []) kept.waiting ∙ sym (pending_raise hs w numbered);
      next = omega (arith, kept.next, length-append (raises hs) (w ∷ []));
    }
  where
    w : Waiting
    w = record { control = c; changes = changes; payload = payload; sequence = f.next }

-- the end of a subscription
pub kept_unsubscribed : (hs : List Happening) (f : FileEvents) (c : ℕ) → IsWhatHappened hs f → IsWhatHappened (withdrawn c ∷ hs) (after_unsubscribe c f)
unfolding raises AreNumbered
kept_unsubscribed hs f c kept = record { numbered = kept.numbered; waiting = ap (other_events c) kept.waiting ∙ sym (pending_gone hs c); next = kept.next }

-- a take
pub kept_taken : (hs : List Happening) (f : FileEvents) (w : Waiting) (ws : List Waiting) → IsWhatHappened hs f → f.waiting ≡ w ∷ ws → IsWhatHappened (withdrawn w.control ∷ hs) (after_take f)
unfolding raises AreNumbered
kept_taken hs f w ws kept is = record { numbered = kept.numbered; waiting = ap behind_first is ∙ sym (pending_taken hs w ws kept.numbered (sym kept.waiting ∙ is)); next = kept.next }

-- a new subscription
pub kept_subscribed : (hs : List Happening) (f : FileEvents) (c : ℕ) (flags : SubFlags) → IsWhatHappened hs f → IsWhatHappened hs (with_subscription c flags f)
kept_subscribed hs f c flags kept = record { numbered = kept.numbered; waiting = kept.waiting; next = kept.next }
