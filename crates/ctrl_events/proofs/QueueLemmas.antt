-- How the subscriptions of a file handle stand by their controls' numbers.
use Rattle.std.proofs.Common.{arith, ◌≡◌, ℕ, suc, ◌∙◌, ◌<◌, ◌≤◌, Bool, true, false, not, cond, inl, inr, ◌⊎◌, ◌||◌, List, [], ◌∷◌, ◌++◌, length, set, get_or, None, Some, is_some, nat_eq, eq-eqb, true≢false, refl, sym, ap, zero, ◌-◌, drop, slice_get, Result, Ok, Err, subst, ◌+◌}
use Rattle.std.proofs.lemmas.Bool.{or_from}
use Rattle.std.proofs.lemmas.Bool.Decides.{eqb_tells}
use Rattle.std.proofs.lemmas.List.{get_or-set_same, get_or-set_other, map-append, length-map, length-set, length-drop, length_push}
use Rattle.ctrl_types.specs.declared.sub_flags.SubFlags.{SubFlags}
use Rattle.ctrl_types.specs.declared.check.Check.{Check}
use Rattle.ctrl_types.specs.declared.check.Check.TheVariants.{NoEventWaits}
use Rattle.ctrl_events.specs.declared.event.Event.{Event}
use Rattle.ctrl_events.specs.declared.event.Latest.{Latest}
use Rattle.ctrl_events.specs.Events.{Subscription, Waiting, FileEvents, flags_in, other_events, changes_in, is_waiting, event_of, event_at, first_waiting, behind_first, AreSubscribed}
use Rattle.ctrl_events.specs.Order.{has, without}
use Rattle.ctrl_events.specs.Queue.{no_flags, subscription_to, subscriptions, no_latest, waiting_from, event_to, events_to, changes_before, HasGrown, IsQueue}
use Rattle.ctrl_events.proofs.KeptLemmas.{Tells, other_subscriptions, kept_more, kept_others, kept_last, kept_without, kept_behind, none_among_others, room_left}

-- the flags of the subscription to a control
pub flags_found : (flags : List SubFlags) (cs : List ℕ) (c : ℕ) → flags_in (subscriptions flags cs) c ≡ cond (has cs c) (Some (get_or flags c no_flags)) None
flags_found flags [] c = refl
flags_found flags (d ∷ cs) c = by (eqb_tells c d) (flags_found flags cs c)
  where
    by : Tells c d → flags_in (subscriptions flags cs) c ≡ cond (has cs c) (Some (get_or flags c no_flags)) None
        → flags_in (subscriptions flags (d ∷ cs)) c ≡ cond (has (d ∷ cs) c) (Some (get_or flags c no_flags)) None
    by (inl same) rest = rw same.0 (ap (λ (n : ℕ). Some (get_or flags n no_flags)) (sym same.1))
    by (inr other) rest = rw other.0 rest

pub is_subscribed : (flags : List SubFlags) (cs : List ℕ) (c : ℕ) → is_some (flags_in (subscriptions flags cs) c) ≡ has cs c
is_subscribed flags cs c = ap is_some (flags_found flags cs c) ∙ by (has cs c)
  where
    by : (b : Bool) → is_some (cond b (Some (get_or flags c no_flags)) None) ≡ b
    by true = refl
    by false = refl

-- without one of them
pub subscriptions_without : (flags : List SubFlags) (cs : List ℕ) (c : ℕ) → subscriptions flags (without c cs) ≡ other_subscriptions c (subscriptions flags cs)
subscriptions_without flags [] c = refl
subscriptions_without flags (d ∷ cs) c = by (nat_eq c d) (subscriptions_without flags cs c)
  where
    by : (b : Bool) → subscriptions flags (without c cs) ≡ other_subscriptions c (subscriptions flags cs)
        → subscriptions flags (cond (not b) (d ∷ without c cs) (without c cs)) ≡ cond (not b) (subscription_to flags d ∷ other_subscriptions c (subscriptions flags cs)) (other_subscriptions c (subscriptions flags cs))
    by true rest = rest
    by false rest = ap (λ ss. subscription_to flags d ∷ ss) rest

-- the same, where the flags at each of their numbers are
pub same_subscriptions : (old new : List SubFlags) (cs : List ℕ) → ((c : ℕ) → has cs c ≡ true → get_or new c no_flags ≡ get_or old c no_flags) → subscriptions new cs ≡ subscriptions old cs
same_subscriptions old new [] same = refl
same_subscriptions old new (d ∷ cs) same = λ i. record { control = d; flags = same d here i } ∷ same_subscriptions old new cs (λ c there. same c (further c there)) i
  where
    here : has (d ∷ cs) d ≡ true
    here = rw (eq-eqb d d refl) refl

    further : (c : ℕ) → has cs c ≡ true → has (d ∷ cs) c ≡ true
    further c there = by (nat_eq c d)
      where
        by : (b : Bool) → (b || has cs c) ≡ true
        by true = refl
        by false = there

-- one more, whose flags are written at its number
pub one_more : (old grown : List SubFlags) (cs : List ℕ) (c : ℕ) (flags : SubFlags) → has cs c ≡ false → ((d : ℕ) → has cs d ≡ true → d < length old) → c < length grown
    → ((d : ℕ) → d < length old → get_or grown d no_flags ≡ get_or old d no_flags) → subscriptions (set grown c flags) (cs ++ c ∷ []) ≡ subscriptions old cs ++ record { control = c; flags = flags } ∷ []
one_more old grown cs c flags none known within kept =
    map-append (subscription_to (set grown c flags)) cs (c ∷ [])
    ∙ ap (λ ss. ss ++ subscription_to (set grown c flags) c ∷ []) (same_subscriptions old (set grown c flags) cs (λ d there. get_or-set_other grown c d flags no_flags (λ same. true≢false (sym there ∙ ap (has cs) same ∙ none)) ∙ kept d (known d there)))
    ∙ ap (λ (f : SubFlags). subscriptions old cs ++ record { control = c; flags = f } ∷ []) (get_or-set_same grown c flags no_flags within)

-- one more is among them, and so are those that were
pub has_more : (cs : List ℕ) (c d : ℕ) → has (cs ++ c ∷ []) d ≡ true → (has cs d ≡ true) ⊎ (d ≡ c)
has_more [] c d there = by (eqb_tells d c) there
  where
    by : Tells d c → (nat_eq d c || false) ≡ true → (false ≡ true) ⊎ (d ≡ c)
    by (inl same) there = inr same.1
    by (inr other) there = let off : false ≡ true = rw other.0 at there in inl off
has_more (e ∷ cs) c d there = by (nat_eq d e) there (λ further. has_more cs c d further)
  where
    by : (b : Bool) → (b || has (cs ++ c ∷ []) d) ≡ true → (has (cs ++ c ∷ []) d ≡ true → (has cs d ≡ true) ⊎ (d ≡ c)) → ((b || has cs d) ≡ true) ⊎ (d ≡ c)
    by true there rest = inl refl
    by false there rest = rest there

pub has_without : (cs : List ℕ) (c d : ℕ) → has (without c cs) d ≡ true → has cs d ≡ true
has_without [] c d there = there
has_without (e ∷ cs) c d there = by (nat_eq c e) there (λ further. has_without cs c d further)
  where
    or_right : (b : Bool) → has cs d ≡ true → (b || has cs d) ≡ true
    or_right true further = refl
    or_right false further = further

    or_both : (b : Bool) → (b || has (without c cs) d) ≡ true → (has (without c cs) d ≡ true → has cs d ≡ true) → (b || has cs d) ≡ true
    or_both true there rest = refl
    or_both false there rest = rest there

    by : (b : Bool) → has (cond (not b) (e ∷ without c cs) (without c cs)) d ≡ true → (has (without c cs) d ≡ true → has cs d ≡ true) → has (e ∷ cs) d ≡ true
    by true there rest = or_right (nat_eq d e) (rest there)
    by false there rest = or_both (nat_eq d e) there rest

pub fewer_without : (c : ℕ) (cs : List ℕ) → length (without c cs) ≤ length cs
fewer_without c [] = omega arith
fewer_without c (d ∷ cs) = by (nat_eq c d) (fewer_without c cs)
  where
    by : (b : Bool) → length (without c cs) ≤ length cs → length (cond (not b) (d ∷ without c cs) (without c cs)) ≤ suc (length cs)
    by true rest = omega (arith, rest)
    by false rest = omega (arith, rest)

-- what is kept of a file handle, by its parts
pub file_is : (ss ts : List Subscription) (ws vs : List Waiting) (n m : ℕ) → ss ≡ ts → ws ≡ vs → n ≡ m
    → ◌≡◌ {A = FileEvents} (record { subscribed = ss; waiting = ws; next = n }) (record { subscribed = ts; waiting = vs; next = m })
file_is ss ts ws vs n m subscribed waiting next = λ i. record { subscribed = subscribed i; waiting = waiting i; next = next i }

-- a number at a place is among them
pub has_at : (ns : List ℕ) (i n : ℕ) → slice_get ns i ≡ Some n → has ns n ≡ true
has_at [] i n there = cc
has_at (m ∷ ns) zero n there = let same : n ≡ m = cc in rw (eq-eqb n m same) refl
has_at (m ∷ ns) (suc i) n there = by (nat_eq n m) (has_at ns i n there)
  where
    by : (b : Bool) → has ns n ≡ true → (b || has ns n) ≡ true
    by true rest = refl
    by false rest = rest

pub none_without : (c : ℕ) (cs : List ℕ) → has (without c cs) c ≡ false
none_without c [] = refl
none_without c (d ∷ cs) = by (eqb_tells c d) (none_without c cs)
  where
    by : Tells c d → has (without c cs) c ≡ false → has (without c (d ∷ cs)) c ≡ false
    by (inl same) rest = rw same.0 rest
    by (inr other) rest = rw other.0 (or_from (nat_eq c d) (has (without c cs) c) other.0 rest)

-- the event of a control waits where the control does
pub waits_there : (latest : List Latest) (cs : List ℕ) (c : ℕ) → is_waiting (events_to latest cs) c ≡ has cs c
waits_there latest [] c = refl
waits_there latest (d ∷ cs) c = ap (λ (b : Bool). nat_eq c d || b) (waits_there latest cs c)

pub events_without : (latest : List Latest) (cs : List ℕ) (c : ℕ) → events_to latest (without c cs) ≡ other_events c (events_to latest cs)
events_without latest [] c = refl
events_without latest (d ∷ cs) c = by (nat_eq c d) (events_without latest cs c)
  where
    by : (b : Bool) → events_to latest (without c cs) ≡ other_events c (events_to latest cs)
        → events_to latest (cond (not b) (d ∷ without c cs) (without c cs)) ≡ cond (not b) (event_to latest d ∷ other_events c (events_to latest cs)) (other_events c (events_to latest cs))
    by true rest = rest
    by false rest = ap (λ ws. event_to latest d ∷ ws) rest

pub changes_found : (latest : List Latest) (cs : List ℕ) (c : ℕ) → changes_in (events_to latest cs) c ≡ changes_before (has cs c) (get_or latest c no_latest)
changes_found latest [] c = refl
changes_found latest (d ∷ cs) c = by (eqb_tells c d) (changes_found latest cs c)
  where
    by : Tells c d → changes_in (events_to latest cs) c ≡ changes_before (has cs c) (get_or latest c no_latest)
        → changes_in (events_to latest (d ∷ cs)) c ≡ changes_before (has (d ∷ cs) c) (get_or latest c no_latest)
    by (inl same) rest = rw same.0 (ap (λ (n : ℕ). (get_or latest n no_latest).changes) (sym same.1))
    by (inr other) rest = rw other.0 rest

pub same_events : (old new : List Latest) (cs : List ℕ) → ((c : ℕ) → has cs c ≡ true → get_or new c no_latest ≡ get_or old c no_latest) → events_to new cs ≡ events_to old cs
same_events old new [] same = refl
same_events old new (d ∷ cs) same = λ i. waiting_from d (same d here i) ∷ same_events old new cs (λ c there. same c (further c there)) i
  where
    here : has (d ∷ cs) d ≡ true
    here = rw (eq-eqb d d refl) refl

    further : (c : ℕ) → has cs c ≡ true → has (d ∷ cs) c ≡ true
    further c there = by (nat_eq c d)
      where
        by : (b : Bool) → (b || has cs c) ≡ true
        by true = refl
        by false = there

-- what is raised last of a control is written, and its event waits as the last
pub written_last : (latest : List Latest) (cs : List ℕ) (c : ℕ) (t : Latest) → c < length latest → events_to (set latest c t) (without c cs ++ c ∷ []) ≡ other_events c (events_to latest cs) ++ waiting_from c t ∷ []
written_last latest cs c t within =
    map-append (event_to (set latest c t)) (without c cs) (c ∷ [])
    ∙ ap (λ ws. ws ++ event_to (set latest c t) c ∷ []) (same_events latest (set latest c t) (without c cs) (λ d there. get_or-set_other latest c d t no_latest (λ same. true≢false (sym there ∙ ap (has (without c cs)) same ∙ none_without c cs))) ∙ events_without latest cs c)
    ∙ ap (λ (x : Latest). other_events c (events_to latest cs) ++ waiting_from c x ∷ []) (get_or-set_same latest c t no_latest within)

-- the event at a place
pub event_nth : (latest : List Latest) (cs : List ℕ) (place c n : ℕ) (e : Event) → Some c ≡ slice_get cs place → n ≡ length cs → e ≡ event_of (n - place - 1) (waiting_from 0 (get_or latest c no_latest)) → Some (c, e) ≡ event_at (events_to latest cs) place
event_nth latest [] place c n e there many made = cc
event_nth latest (d ∷ cs) zero c n e there many made =
    let same : c ≡ d = cc in
    let left : n - 0 - 1 ≡ length (events_to latest cs) = omega (arith, many, length-map cs (event_to latest)) in
    ap (λ (x : Event). Some (c, x)) (made ∙ ap (λ (m : ℕ). event_of m (waiting_from 0 (get_or latest c no_latest))) left) ∙ ap (λ (k : ℕ). Some (k, event_of (length (events_to latest cs)) (event_to latest k))) same
event_nth latest (d ∷ cs) (suc place) c n e there many made =
    let left : n - suc place - 1 ≡ n - 1 - place - 1 = omega arith in
    event_nth latest cs place c (n - 1) e there (omega (arith, many)) (made ∙ ap (λ (m : ℕ). event_of m (waiting_from 0 (get_or latest c no_latest))) left)

pub nothing_nth : (latest : List Latest) (cs : List ℕ) (place : ℕ) → None ≡ slice_get cs place → None ≡ event_at (events_to latest cs) place
nothing_nth latest [] place none = refl
nothing_nth latest (d ∷ cs) zero none = cc
nothing_nth latest (d ∷ cs) (suc place) none = nothing_nth latest cs place none

-- what waits is subscribed
waiting_subscribed : (ss : List Subscription) (latest : List Latest) (cs : List ℕ) (c : ℕ) → AreSubscribed ss (events_to latest cs) → has cs c ≡ true → is_some (flags_in ss c) ≡ true
waiting_subscribed ss latest [] c kept there = cc
waiting_subscribed ss latest (d ∷ cs) c kept there = by (eqb_tells c d) (λ further. waiting_subscribed ss latest cs c kept.2 further)
  where
    by : Tells c d → (has cs c ≡ true → is_some (flags_in ss c) ≡ true) → is_some (flags_in ss c) ≡ true
    by (inl same) rest = subst (λ k. is_some (flags_in ss k) ≡ true) (sym same.1) kept.0
    by (inr other) rest = rest (rw other.0 at there)

pub waiting_has : (flags : List SubFlags) (latest : List Latest) (controls cs : List ℕ) (c : ℕ) → AreSubscribed (subscriptions flags controls) (events_to latest cs) → has cs c ≡ true → has controls c ≡ true
waiting_has flags latest controls cs c kept there = sym (is_subscribed flags controls c) ∙ waiting_subscribed (subscriptions flags controls) latest cs c kept there

-- the first is taken
pub taken_first : (latest : List Latest) (cs : List ℕ) (c n : ℕ) (e : Event) → Some c ≡ slice_get cs 0 → n ≡ length (drop 1 cs) → e ≡ event_of n (waiting_from 0 (get_or latest c no_latest)) → ◌≡◌ {A = Result Event Check} (Ok e) (first_waiting (events_to latest cs))
taken_first latest [] c n e there many made = cc
taken_first latest (d ∷ cs) c n e there many made =
    let same : c ≡ d = cc in
    let left : n ≡ length (events_to latest cs) = omega (arith, many, length-map cs (event_to latest)) in
    ap (λ (x : Event). Ok x) (made ∙ ap (λ (m : ℕ). event_of m (waiting_from 0 (get_or latest c no_latest))) left ∙ ap (λ (k : ℕ). event_of (length (events_to latest cs)) (event_to latest k)) same)

pub none_taken : (latest : List Latest) (cs : List ℕ) → None ≡ slice_get cs 0 → ◌≡◌ {A = Result Event Check} (Err NoEventWaits) (first_waiting (events_to latest cs))
none_taken latest [] none = refl
none_taken latest (d ∷ cs) none = cc

pub behind : (latest : List Latest) (cs : List ℕ) → events_to latest (drop 1 cs) ≡ behind_first (events_to latest cs)
behind latest [] = refl
behind latest (c ∷ cs) = refl

-- more room changes nothing
pub same_grown : (controls waiting : List ℕ) (flags more_flags : List SubFlags) (latest more_latest : List Latest) (bound room next : ℕ) → IsQueue controls flags latest waiting bound room next → HasGrown flags more_flags latest more_latest
    → (subscriptions more_flags controls ≡ subscriptions flags controls) × (events_to more_latest waiting ≡ events_to latest waiting)
same_grown controls waiting flags more_flags latest more_latest bound room next queue grown = (
  same_subscriptions flags more_flags controls (λ c there. grown.same_flags c (queue.flagged c there)),
  same_events latest more_latest waiting (λ c there. grown.same_latest c (queue.raisable c (waiting_has flags latest controls waiting c queue.kept there))),
)

pub queue_grown : (controls waiting : List ℕ) (flags more_flags : List SubFlags) (latest more_latest : List Latest) (bound more_bound room more_room next : ℕ) → IsQueue controls flags latest waiting bound room next
    → HasGrown flags more_flags latest more_latest → bound ≤ more_bound → room ≤ more_room → IsQueue controls more_flags more_latest waiting more_bound more_room next
queue_grown controls waiting flags more_flags latest more_latest bound more_bound room more_room next queue grown wider roomier =
    let same = same_grown controls waiting flags more_flags latest more_latest bound room next queue grown in
    record {
      kept = subst (λ ws. AreSubscribed (subscriptions more_flags controls) ws) (sym same.1) (subst (λ ss. AreSubscribed ss (events_to latest waiting)) (sym same.0) queue.kept);
      flagged = λ c there. (let within = queue.flagged c there in omega (arith, within, grown.more_flagged));
      raisable = λ c there. (let within = queue.raisable c there in omega (arith, within, grown.more_raisable));
      placed = λ c there. (let within = queue.placed c there in omega (arith, within, wider));
      fits = omega (arith, queue.fits, roomier);
      few = queue.few;
    }

-- one more subscription
pub queue_added : (controls waiting : List ℕ) (flags : List SubFlags) (latest : List Latest) (bound room next c : ℕ) (new : SubFlags) → IsQueue controls flags latest waiting bound room next
    → has controls c ≡ false → c < length flags → c < length latest → c < bound → length controls + 1 + (length controls + 1) ≤ room → IsQueue (controls ++ c ∷ []) (set flags c new) latest waiting bound room next
queue_added controls waiting flags latest bound room next c new queue none flagged raisable placed fits = record {
  kept = subst (λ ss. AreSubscribed ss (events_to latest waiting)) (sym (one_more flags flags controls c new none queue.flagged flagged (λ d within. refl))) (kept_more (subscriptions flags controls) (record { control = c; flags = new }) (events_to latest waiting) queue.kept);
  flagged = λ d there. (let within = within_more (length flags) d flagged queue.flagged (has_more controls c d there) in omega (arith, within, length-set flags c new));
  raisable = λ d there. within_more (length latest) d raisable queue.raisable (has_more controls c d there);
  placed = λ d there. within_more bound d placed queue.placed (has_more controls c d there);
  fits = omega (arith, fits, length_push controls c);
  few = queue.few;
}
  where
    within_more : (limit d : ℕ) → c < limit → ((e : ℕ) → has controls e ≡ true → e < limit) → (has controls d ≡ true) ⊎ (d ≡ c) → d < limit
    within_more limit d now before (inl there) = before d there
    within_more limit d now before (inr same) = omega (arith, now, same)

-- the end of a subscription
pub queue_without : (controls waiting : List ℕ) (flags : List SubFlags) (latest : List Latest) (bound room next c : ℕ) → IsQueue controls flags latest waiting bound room next → IsQueue (without c controls) flags latest (without c waiting) bound room next
queue_without controls waiting flags latest bound room next c queue = record {
  kept = subst (λ ws. AreSubscribed (subscriptions flags (without c controls)) ws) (sym (events_without latest waiting c)) (subst (λ ss. AreSubscribed ss (other_events c (events_to latest waiting))) (sym (subscriptions_without flags controls c)) (kept_without c (subscriptions flags controls) (events_to latest waiting) queue.kept));
  flagged = λ d there. queue.flagged d (has_without controls c d there);
  raisable = λ d there. queue.raisable d (has_without controls c d there);
  placed = λ d there. queue.placed d (has_without controls c d there);
  fits = let less = fewer_without c controls in omega (arith, less, queue.fits);
  few = let less = fewer_without c waiting in omega (arith, less, queue.few);
}

-- the first is taken
pub queue_taken : (controls waiting : List ℕ) (flags : List SubFlags) (latest : List Latest) (bound room next : ℕ) → IsQueue controls flags latest waiting bound room next → IsQueue controls flags latest (drop 1 waiting) bound room next
queue_taken controls waiting flags latest bound room next queue = record {
  kept = subst (λ ws. AreSubscribed (subscriptions flags controls) ws) (sym (behind latest waiting)) (kept_behind (subscriptions flags controls) (events_to latest waiting) queue.kept);
  flagged = queue.flagged;
  raisable = queue.raisable;
  placed = queue.placed;
  fits = queue.fits;
  few = omega (arith, queue.few, length-drop 1 waiting);
}

-- where a control is subscribed, its event has room beside those of others
pub queue_room : (controls waiting : List ℕ) (flags : List SubFlags) (latest : List Latest) (bound room next c : ℕ) → IsQueue controls flags latest waiting bound room next → has controls c ≡ true → length (without c waiting) + length (without c waiting) + 2 ≤ room
queue_room controls waiting flags latest bound room next c queue there =
    let left = room_left c (subscriptions flags controls) (events_to latest waiting) (length (subscriptions flags controls)) (is_subscribed flags controls c ∙ there) queue.kept (omega arith) in
    omega (arith, left, ap length (events_without latest waiting c), length-map (without c waiting) (event_to latest), length-map controls (subscription_to flags), queue.fits)

-- a raise
pub queue_raised : (controls waiting : List ℕ) (flags : List SubFlags) (latest : List Latest) (bound room next c : ℕ) (t : Latest) → IsQueue controls flags latest waiting bound room next → has controls c ≡ true
    → IsQueue controls flags (set latest c t) (without c waiting ++ c ∷ []) bound room (next + 1)
queue_raised controls waiting flags latest bound room next c t queue there = record {
  kept = subst (λ ws. AreSubscribed (subscriptions flags controls) ws) (sym (written_last latest waiting c t (queue.raisable c there))) (
      kept_last (subscriptions flags controls) (other_events c (events_to latest waiting)) (waiting_from c t) (kept_others (subscriptions flags controls) c (events_to latest waiting) queue.kept) (none_among_others c (events_to latest waiting)) (is_subscribed flags controls c ∙ there)
      );
  flagged = queue.flagged;
  raisable = λ d among. (let within = queue.raisable d among in omega (arith, within, length-set latest c t));
  placed = queue.placed;
  fits = queue.fits;
  few = let less = fewer_without c waiting in omega (arith, less, queue.few, length_push (without c waiting) c);
}
