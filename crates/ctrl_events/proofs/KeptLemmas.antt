-- What waits is of controls that are subscribed, and no control waits twice: what each call keeps of that.
use Rattle.std.proofs.Common.{◌≡◌, ◌≢◌, ℕ, suc, ◌∙◌, ◌+◌, ◌==◌, ◌⊎◌, ◌≤◌, Bool, true, false, not, cond, inl, inr, List, [], ◌∷◌, ◌++◌, filter, length, Option, None, Some, is_some, nat_eq, eq-eqb, refl, sym, ap, subst, arith}
use Rattle.std.proofs.lemmas.Bool.{or_from, or_parts}
use Rattle.std.proofs.lemmas.Bool.Decides.{eqb_tells}
use Rattle.ctrl_types.specs.declared.changes.Changes.{Changes}
use Rattle.ctrl_types.specs.declared.sub_flags.SubFlags.{SubFlags}
use Rattle.ctrl_types.specs.Events.{joined, sends_initial}
use Rattle.ctrl_events.specs.declared.event.Payload.{Payload}
use Rattle.ctrl_events.specs.Events.{Subscription, Waiting, FileEvents, flags_in, changes_in, other_events, is_waiting, raised, with_subscription, after_subscribe, after_unsubscribe, behind_first, after_take, is_from, reaches, after_raise, AreSubscribed, WaitsForSubscribed}

-- what a comparison of two numbers tells
abbrev pub Tells : ℕ → ℕ → Type 0
Tells a b = ((a == b) ≡ true × (a ≡ b)) ⊎ ((a == b) ≡ false × (a ≢ b))

-- the subscriptions to other controls
abbrev pub other_subscriptions : ℕ → List Subscription → List Subscription
other_subscriptions c ss = filter (λ s. not (nat_eq c s.control)) ss

-- a comparison the other way round
turned : (a b : ℕ) → nat_eq a b ≡ false → nat_eq b a ≡ false
turned a b off = by (eqb_tells b a)
  where
    clash : true ≡ false → ⊥
    clash h = cc

    by : Tells b a → nat_eq b a ≡ false
    by (inl same) = absurd (clash (sym (eq-eqb a b (sym same.1)) ∙ off))
    by (inr other) = other.0

-- what doesn't wait doesn't among the events of other controls
unwaiting_others : (c d : ℕ) (ws : List Waiting) → is_waiting ws d ≡ false → is_waiting (other_events c ws) d ≡ false
unwaiting_others c d [] none = refl
unwaiting_others c d (w ∷ ws) none =
    let parts = or_parts (nat_eq d w.control) (is_waiting ws d) none in
    by (eqb_tells c w.control) parts.0 (unwaiting_others c d ws parts.1)
  where
    by : Tells c w.control → nat_eq d w.control ≡ false → is_waiting (other_events c ws) d ≡ false → is_waiting (other_events c (w ∷ ws)) d ≡ false
    by (inl same) off rest = rw same.0 rest
    by (inr other) off rest = rw other.0 (or_from (nat_eq d w.control) (is_waiting (other_events c ws) d) off rest)

-- no event of the control is among those of others
pub none_among_others : (c : ℕ) (ws : List Waiting) → is_waiting (other_events c ws) c ≡ false
none_among_others c [] = refl
none_among_others c (w ∷ ws) = by (eqb_tells c w.control) (none_among_others c ws)
  where
    by : Tells c w.control → is_waiting (other_events c ws) c ≡ false → is_waiting (other_events c (w ∷ ws)) c ≡ false
    by (inl same) rest = rw same.0 rest
    by (inr other) rest = rw other.0 (or_from (nat_eq c w.control) (is_waiting (other_events c ws) c) other.0 rest)

-- where no event of a control waits, all are of others
untouched : (c : ℕ) (ws : List Waiting) → is_waiting ws c ≡ false → other_events c ws ≡ ws
untouched c [] none = refl
untouched c (w ∷ ws) none =
    let parts = or_parts (nat_eq c w.control) (is_waiting ws c) none in
    let off : nat_eq c w.control ≡ false = parts.0 in
    rw off (ap (λ vs. w ∷ vs) (untouched c ws parts.1))

pub kept_others : (ss : List Subscription) (c : ℕ) (ws : List Waiting) → AreSubscribed ss ws → AreSubscribed ss (other_events c ws)
kept_others ss c [] kept = tt
kept_others ss c (w ∷ ws) kept = by (eqb_tells c w.control) (kept_others ss c ws kept.2)
  where
    by : Tells c w.control → AreSubscribed ss (other_events c ws) → AreSubscribed ss (other_events c (w ∷ ws))
    by (inl same) rest = rw same.0 rest
    by (inr other) rest = rw other.0 (kept.0, unwaiting_others c w.control ws kept.1, rest)

-- one more, of a control of which none waits
unwaiting_last : (ws : List Waiting) (w : Waiting) (d : ℕ) → is_waiting ws d ≡ false → nat_eq d w.control ≡ false → is_waiting (ws ++ w ∷ []) d ≡ false
unwaiting_last [] w d none off = or_from (nat_eq d w.control) false off refl
unwaiting_last (v ∷ ws) w d none off =
    let parts = or_parts (nat_eq d v.control) (is_waiting ws d) none in
    or_from (nat_eq d v.control) (is_waiting (ws ++ w ∷ []) d) parts.0 (unwaiting_last ws w d parts.1 off)

pub kept_last : (ss : List Subscription) (ws : List Waiting) (w : Waiting) → AreSubscribed ss ws → is_waiting ws w.control ≡ false → is_some (flags_in ss w.control) ≡ true → AreSubscribed ss (ws ++ w ∷ [])
kept_last ss [] w kept none there = (there, refl, tt)
kept_last ss (v ∷ ws) w kept none there =
    let parts = or_parts (nat_eq w.control v.control) (is_waiting ws w.control) none in
    (kept.0, unwaiting_last ws w v.control kept.1 (turned w.control v.control parts.0), kept_last ss ws w kept.2 parts.1 there)

pub kept_raised : (c : ℕ) (changes : Changes) (payload : Payload) (f : FileEvents) → is_some (flags_in f.subscribed c) ≡ true → WaitsForSubscribed f → WaitsForSubscribed (raised c changes payload f)
kept_raised c changes payload f there kept =
    kept_last f.subscribed (other_events c f.waiting) (record { control = c; changes = joined (changes_in f.waiting c) changes; payload = payload; sequence = f.next }) (kept_others f.subscribed c f.waiting kept) (none_among_others c f.waiting) there

-- with one more subscription those that were there still are, and the new one is
still_there : (ss : List Subscription) (s : Subscription) (d : ℕ) → is_some (flags_in ss d) ≡ true → is_some (flags_in (ss ++ s ∷ []) d) ≡ true
still_there [] s d there = cc
still_there (t ∷ ss) s d there = by (nat_eq d t.control) there (λ further. still_there ss s d further)
  where
    by : (b : Bool) → is_some (cond b (Some t.flags) (flags_in ss d)) ≡ true → (is_some (flags_in ss d) ≡ true → is_some (flags_in (ss ++ s ∷ []) d) ≡ true) → is_some (cond b (Some t.flags) (flags_in (ss ++ s ∷ []) d)) ≡ true
    by true is rest = refl
    by false is rest = rest is

pub now_there : (ss : List Subscription) (c : ℕ) (flags : SubFlags) → is_some (flags_in (ss ++ record { control = c; flags = flags } ∷ []) c) ≡ true
now_there [] c flags = rw (eq-eqb c c refl) refl
now_there (t ∷ ss) c flags = by (nat_eq c t.control) (now_there ss c flags)
  where
    by : (b : Bool) → is_some (flags_in (ss ++ record { control = c; flags = flags } ∷ []) c) ≡ true → is_some (cond b (Some t.flags) (flags_in (ss ++ record { control = c; flags = flags } ∷ []) c)) ≡ true
    by true rest = refl
    by false rest = rest

pub kept_more : (ss : List Subscription) (s : Subscription) (ws : List Waiting) → AreSubscribed ss ws → AreSubscribed (ss ++ s ∷ []) ws
kept_more ss s [] kept = tt
kept_more ss s (w ∷ ws) kept = (still_there ss s w.control kept.0, kept.1, kept_more ss s ws kept.2)

pub kept_subscribe : (c : ℕ) (flags : SubFlags) (changes : Changes) (payload : Payload) (f : FileEvents) → WaitsForSubscribed f → WaitsForSubscribed (after_subscribe c flags changes payload f)
kept_subscribe c flags changes payload f kept = by (is_some (flags_in f.subscribed c)) (sends_initial flags)
  where
    more : FileEvents
    more = with_subscription c flags f

    by : (there initial : Bool) → WaitsForSubscribed (cond there f (cond initial (raised c changes payload (with_subscription c flags f)) (with_subscription c flags f)))
    by true initial = kept
    by false true = kept_raised c changes payload (with_subscription c flags f) (now_there f.subscribed c flags) (kept_more f.subscribed (record { control = c; flags = flags }) f.waiting kept)
    by false false = kept_more f.subscribed (record { control = c; flags = flags }) f.waiting kept

-- other subscriptions stay, when one ends
flags_without : (c d : ℕ) (ss : List Subscription) → nat_eq c d ≡ false → flags_in (other_subscriptions c ss) d ≡ flags_in ss d
flags_without c d [] off = refl
flags_without c d (s ∷ ss) off = by (eqb_tells c s.control) (flags_without c d ss off)
  where
    by : Tells c s.control → flags_in (other_subscriptions c ss) d ≡ flags_in ss d → flags_in (other_subscriptions c (s ∷ ss)) d ≡ flags_in (s ∷ ss) d
    by (inl same) rest =
        let apart : nat_eq d s.control ≡ false = subst (λ n. nat_eq d n ≡ false) same.1 (turned c d off) in
        rw (same.0, apart) rest
    by (inr other) rest = rw other.0 (ap (λ o. cond (nat_eq d s.control) (Some s.flags) o) rest)

pub kept_without : (c : ℕ) (ss : List Subscription) (ws : List Waiting) → AreSubscribed ss ws → AreSubscribed (other_subscriptions c ss) (other_events c ws)
kept_without c ss [] kept = tt
kept_without c ss (w ∷ ws) kept = by (eqb_tells c w.control) (kept_without c ss ws kept.2)
  where
    by : Tells c w.control → AreSubscribed (other_subscriptions c ss) (other_events c ws) → AreSubscribed (other_subscriptions c ss) (other_events c (w ∷ ws))
    by (inl same) rest = rw same.0 rest
    by (inr other) rest = rw other.0 (ap is_some (flags_without c w.control ss other.0) ∙ kept.0, unwaiting_others c w.control ws kept.1, rest)

pub kept_unsubscribe : (c : ℕ) (f : FileEvents) → WaitsForSubscribed f → WaitsForSubscribed (after_unsubscribe c f)
kept_unsubscribe c f kept = kept_without c f.subscribed f.waiting kept

pub kept_behind : (ss : List Subscription) (ws : List Waiting) → AreSubscribed ss ws → AreSubscribed ss (behind_first ws)
kept_behind ss [] kept = tt
kept_behind ss (w ∷ ws) kept = kept.2

pub kept_take : (f : FileEvents) → WaitsForSubscribed f → WaitsForSubscribed (after_take f)
kept_take f kept = kept_behind f.subscribed f.waiting kept

-- what a raise reaches is subscribed
pub reached_there : (own : Bool) (o : Option SubFlags) → reaches own o ≡ true → is_some o ≡ true
reached_there own None reached = cc
reached_there own (Some flags) reached = refl

pub kept_raise : (c : ℕ) (changes : Changes) (payload : Payload) (from : Option ℕ) (fh : ℕ) (f : FileEvents) → WaitsForSubscribed f → WaitsForSubscribed (after_raise c changes payload from fh f)
kept_raise c changes payload from fh f kept = by (reaches (is_from from fh) (flags_in f.subscribed c)) refl
  where
    by : (b : Bool) → reaches (is_from from fh) (flags_in f.subscribed c) ≡ b → WaitsForSubscribed (cond b (raised c changes payload f) f)
    by true is = kept_raised c changes payload f (reached_there (is_from from fh) (flags_in f.subscribed c) is) kept
    by false is = kept

-- there are no more subscriptions to others than to all
length_subscriptions : (c : ℕ) (ss : List Subscription) → length (other_subscriptions c ss) ≤ length ss
length_subscriptions c [] = omega arith
length_subscriptions c (s ∷ ss) = by (nat_eq c s.control) (length_subscriptions c ss)
  where
    by : (b : Bool) → length (other_subscriptions c ss) ≤ length ss → length (cond (not b) (s ∷ other_subscriptions c ss) (other_subscriptions c ss)) ≤ suc (length ss)
    by true rest = omega (arith, rest)
    by false rest = omega (arith, rest)

-- without a subscription that is there, there are fewer
fewer : (c : ℕ) (ss : List Subscription) → is_some (flags_in ss c) ≡ true → suc (length (other_subscriptions c ss)) ≤ length ss
fewer c [] there = cc
fewer c (s ∷ ss) there = by (nat_eq c s.control) there (λ further. fewer c ss further) (length_subscriptions c ss)
  where
    by : (b : Bool) → is_some (cond b (Some s.flags) (flags_in ss c)) ≡ true → (is_some (flags_in ss c) ≡ true → suc (length (other_subscriptions c ss)) ≤ length ss) → length (other_subscriptions c ss) ≤ length ss
        → suc (length (cond (not b) (s ∷ other_subscriptions c ss) (other_subscriptions c ss))) ≤ suc (length ss)
    by true is rest many = omega (arith, many)
    by false is rest many = let less = rest is in omega (arith, less)

-- no more events wait than there are subscriptions
pub no_more : (ss : List Subscription) (ws : List Waiting) → AreSubscribed ss ws → length ws ≤ length ss
no_more ss [] kept = omega arith
no_more ss (w ∷ ws) kept =
    let rest : AreSubscribed (other_subscriptions w.control ss) ws = subst (AreSubscribed (other_subscriptions w.control ss)) (untouched w.control ws kept.1) (kept_without w.control ss ws kept.2) in
    let below = no_more (other_subscriptions w.control ss) ws rest in
    let less = fewer w.control ss kept.0 in
    omega (arith, below, less)

-- where a control is subscribed, there is room for its event beside those of others
pub room_left : (c : ℕ) (ss : List Subscription) (ws : List Waiting) (room : ℕ) → is_some (flags_in ss c) ≡ true → AreSubscribed ss ws → length ss ≤ room → suc (length (other_events c ws)) ≤ room
room_left c ss ws room there kept fits =
    let below = no_more (other_subscriptions c ss) (other_events c ws) (kept_without c ss ws kept) in
    let less = fewer c ss there in
    omega (arith, below, less, fits)

-- a call raises at most one event for a file handle
pub counted_subscribe : (c : ℕ) (flags : SubFlags) (changes : Changes) (payload : Payload) (f : FileEvents) → (after_subscribe c flags changes payload f).next ≤ f.next + 1
counted_subscribe c flags changes payload f = by (is_some (flags_in f.subscribed c)) (sends_initial flags)
  where
    by : (there initial : Bool) → (cond there f (cond initial (raised c changes payload (with_subscription c flags f)) (with_subscription c flags f))).next ≤ f.next + 1
    by true initial = omega arith
    by false true = omega arith
    by false false = omega arith

pub counted_raise : (c : ℕ) (changes : Changes) (payload : Payload) (from : Option ℕ) (fh : ℕ) (f : FileEvents) → (after_raise c changes payload from fh f).next ≤ f.next + 1
counted_raise c changes payload from fh f = by (reaches (is_from from fh) (flags_in f.subscribed c))
  where
    by : (b : Bool) → (cond b (raised c changes payload f) f).next ≤ f.next + 1
    by true = omega arith
    by false = omega arith
