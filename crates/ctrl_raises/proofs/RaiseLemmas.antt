-- Raises of one control after another.
use Rattle.std.proofs.Common.{arith, ◌≡◌, ◌∙◌, ◌<◌, ◌≤◌, ◌+◌, ℕ, zero, suc, Bool, true, false, cond, List, [], ◌∷◌, ◌++◌, length, Option, unwrap_or, nat_eq, refl, ap}
use Rattle.std.specs.List.{range_with_len}
use Rattle.std.specs.Map.{lookup}
use Rattle.ctrl_types.specs.Events.{is_nothing}
use Rattle.ctrl_types.specs.declared.changes.Changes.{Changes}
use Rattle.ctrl_events.specs.declared.event.Payload.{Payload}
use Rattle.ctrl_events.specs.Events.{FileEvents, EventsData, after_raise, events_of, no_events}
use Rattle.ctrl_events.proofs.KeptLemmas.{counted_raise}
use Rattle.ctrl_raises.specs.Raises.{raised_all, raised_one}

-- one number more of a range
range_more : (a n : ℕ) → range_with_len a (suc n) ≡ range_with_len a n ++ (a + n) ∷ []
range_more a zero =
    let own : a ≡ a + 0 = omega arith in
    ap (λ (k : ℕ). k ∷ []) own
range_more a (suc n) =
    let last : (a + 1) + n ≡ a + suc n = omega arith in
    ap (λ (ks : List ℕ). a ∷ ks) (range_more (a + 1) n ∙ ap (λ (k : ℕ). range_with_len (a + 1) n ++ k ∷ []) last)

-- one control more
raised_more : (change : ℕ → Changes) (told : ℕ → Payload) (from : ℕ → Option ℕ) (fh c : ℕ) (cs : List ℕ) (f : FileEvents)
    → raised_all change told from fh (cs ++ c ∷ []) f ≡ raised_one (change c) (told c) (from c) fh c (raised_all change told from fh cs f)
unfolding raised_all
raised_more change told from fh c [] f = refl
raised_more change told from fh c (d ∷ cs) f = raised_more change told from fh c cs (raised_one (change d) (told d) (from d) fh d f)

-- raises of the controls below a number, and of the one with it
pub raised_next : (change : ℕ → Changes) (told : ℕ → Payload) (from : ℕ → Option ℕ) (fh c : ℕ) (old seen new : FileEvents)
    → seen ≡ raised_all change told from fh (range_with_len 0 c) old → new ≡ raised_one (change c) (told c) (from c) fh c seen → new ≡ raised_all change told from fh (range_with_len 0 (c + 1)) old
raised_next change told from fh c old seen new below own =
    own ∙ ap (raised_one (change c) (told c) (from c) fh c) below ∙ turned (raised_more change told from fh c (range_with_len 0 c) old) ∙ ap (λ (cs : List ℕ). raised_all change told from fh cs old) (back (range_more 0 c))
    ∙ ap (λ (n : ℕ). raised_all change told from fh (range_with_len 0 n) old) plus
  where
    plus : suc c ≡ c + 1
    plus = omega arith

    turned : {A : Type 0} {x y : A} → x ≡ y → y ≡ x
    turned e = cc

    back : range_with_len 0 (suc c) ≡ range_with_len 0 c ++ (0 + c) ∷ [] → range_with_len 0 c ++ c ∷ [] ≡ range_with_len 0 (suc c)
    back e =
        let same : 0 + c ≡ c = omega arith in
        cc

pub raised_first : (change : ℕ → Changes) (told : ℕ → Payload) (from : ℕ → Option ℕ) (fh : ℕ) (f : FileEvents) → f ≡ raised_all change told from fh (range_with_len 0 0) f
unfolding raised_all
raised_first change told from fh f = refl

-- each control takes at most one number
one_more : (change : Changes) (told : Payload) (from : Option ℕ) (fh c : ℕ) (f : FileEvents) → (raised_one change told from fh c f).next ≤ f.next + 1
one_more change told from fh c f = by (is_nothing change)
  where
    by : (b : Bool) → (cond b f (after_raise c change told from fh f)).next ≤ f.next + 1
    by true = omega arith
    by false = counted_raise c change told from fh f

counted_all : (change : ℕ → Changes) (told : ℕ → Payload) (from : ℕ → Option ℕ) (fh : ℕ) (cs : List ℕ) (f : FileEvents) → (raised_all change told from fh cs f).next ≤ f.next + length cs
unfolding raised_all
counted_all change told from fh [] f = omega arith
counted_all change told from fh (c ∷ cs) f =
    let rest = counted_all change told from fh cs (raised_one (change c) (told c) (from c) fh c f) in
    let own = one_more (change c) (told c) (from c) fh c f in
    omega (arith, rest, own)

length_range : (a n : ℕ) → length (range_with_len a n) ≡ n
length_range a zero = refl
length_range a (suc n) = ap suc (length_range (a + 1) n)

-- As many numbers are taken at most as there are controls.
pub raises_counted : (change : ℕ → Changes) (told : ℕ → Payload) (from : ℕ → Option ℕ) (fh n : ℕ) (f : FileEvents) → (raised_all change told from fh (range_with_len 0 n) f).next ≤ f.next + n
raises_counted change told from fh n f =
    let all = counted_all change told from fh (range_with_len 0 n) f in
    let many = length_range 0 n in
    omega (arith, all, many)

-- so there is a number for one more
pub still_numbered : (change : ℕ → Changes) (told : ℕ → Payload) (from : ℕ → Option ℕ) (fh c n most : ℕ) (old seen : FileEvents) → seen ≡ raised_all change told from fh (range_with_len 0 c) old
    → c < n → old.next + n ≤ most → seen.next < most
still_numbered change told from fh c n most old seen is within numbers =
    let count = raises_counted change told from fh c old in
    let same = ap (λ (f : FileEvents). f.next) is in
    omega (arith, count, same, within, numbers)

-- nothing is raised for a file handle of which nothing is kept
nothing_raised : (change : ℕ → Changes) (told : ℕ → Payload) (from : ℕ → Option ℕ) (fh : ℕ) (cs : List ℕ) → raised_all change told from fh cs no_events ≡ no_events
unfolding raised_all
nothing_raised change told from fh [] = refl
nothing_raised change told from fh (c ∷ cs) = ap (raised_all change told from fh cs) (by (is_nothing (change c))) ∙ nothing_raised change told from fh cs
  where
    by : (b : Bool) → cond b no_events (after_raise c (change c) (told c) (from c) fh no_events) ≡ no_events
    by true = refl
    by false = refl

-- so nothing is where nothing is kept of any
pub raised_nowhere : (change : ℕ → Changes) (told : ℕ → Payload) (from : ℕ → Option ℕ) (fh n : ℕ) (events : EventsData) → events.files ≡ [] → events_of events fh ≡ raised_all change told from fh (range_with_len 0 n) (events_of events fh)
unfolding events_of
raised_nowhere change told from fh n events none =
    let kept : events_of events fh ≡ no_events = ap (λ (files : List (ℕ × FileEvents)). unwrap_or (lookup (nat_eq fh) files) no_events) none in
    rw kept (back (nothing_raised change told from fh (range_with_len 0 n)))
  where
    back : {x : FileEvents} → x ≡ no_events → no_events ≡ x
    back e = cc
