-- What a raise makes of the entries of file handles.
use Rattle.std.proofs.Common.{arith, ◌≡◌, ℕ, zero, suc, ◌∙◌, ◌+◌, ◌%◌, ◌<◌, ◌≤◌, ◌⊎◌, Bool, true, true≢false, length, cond, if◌then◌else◌, inl, inr, List, [], ◌∷◌, slice_get, Option, None, Some, IfSome, is_some, unwrap_or, nat_eq, refl, sym, ap, subst}
use Rattle.std.proofs.Math.Path.{ap₂}
use Rattle.std.specs.Int.{bit_at}
use Rattle.std.specs.Option.{option_map}
use Rattle.std.specs.Cmp.{nat_eq_equiv}
use Rattle.std.specs.List.{IsDistinct}
use Rattle.std.specs.Map.{lookup, keys_of, values_of}
use Rattle.std.proofs.lemmas.Bool.{cases_eq, cases_lt}
use Rattle.std.proofs.lemmas.Bool.Decides.{eqb_tells}
use Rattle.std.proofs.lemmas.Option.{slice_get_past}
use Rattle.std.proofs.lemmas.Map.Entries.{lookup_from_place}
use Rattle.indexmap.specs.IndexMap.{set_value_at}
use Rattle.ctrl_types.specs.declared.changes.Changes.{Changes}
use Rattle.ctrl_types.specs.declared.sub_flags.SubFlags.{SubFlags}
use Rattle.ctrl_events.specs.declared.event.Payload.{Payload}
use Rattle.ctrl_events.specs.Events.{FileEvents, EventsData, no_events, events_of, flags_in, is_from, reaches, raised, after_raise}
use Rattle.ctrl_events.specs.Files.{raised_in_entry, changed_at}
use Rattle.ctrl_events.specs.Heard.{is_listening, listens}
use Rattle.ctrl_events.proofs.KeptLemmas.{Tells}
use Rattle.ctrl_events.proofs.HeardLemmas.{raise_leaves}

same : {X : Type 0} (a b : X) → Some a ≡ Some b → a ≡ b
same a b h = cc

-- a raise for the file handle at a place
pub raised_at : (es : List (ℕ × FileEvents)) (i : ℕ) (f g : FileEvents) (own : Bool) (c : ℕ) (changes : Changes) (payload : Payload) (from : Option ℕ) → Some f ≡ slice_get (values_of es) i
    → IfSome (slice_get es i) (λ e. own ≡ is_from from e.0) → g ≡ (if reaches own (flags_in f.subscribed c) then raised c changes payload f else f) → set_value_at es i g ≡ changed_at i (raised_in_entry c changes payload from) es
raised_at [] i f g own c changes payload from there is made = refl
raised_at (e ∷ es) zero f g own c changes payload from there is made =
    ap (λ (x : FileEvents). (e.0, x) ∷ es) (made ∙ ap₂ (λ (o : Bool) (x : FileEvents). if reaches o (flags_in x.subscribed c) then raised c changes payload x else x) is (same f e.1 there))
raised_at (e ∷ es) (suc i) f g own c changes payload from there is made = ap (λ (xs : List (ℕ × FileEvents)). e ∷ xs) (raised_at es i f g own c changes payload from there is made)

-- the one at the place is changed, and the others stay
pub changed_here : (es : List (ℕ × FileEvents)) (i : ℕ) (change : ℕ × FileEvents → ℕ × FileEvents) → slice_get (changed_at i change es) i ≡ option_map change (slice_get es i)
changed_here [] i change = refl
changed_here (e ∷ es) zero change = refl
changed_here (e ∷ es) (suc i) change = changed_here es i change

pub changed_elsewhere : (es : List (ℕ × FileEvents)) (i p : ℕ) (change : ℕ × FileEvents → ℕ × FileEvents) → (p ≡ i → ⊥) → slice_get (changed_at i change es) p ≡ slice_get es p
changed_elsewhere [] i p change other = refl
changed_elsewhere (e ∷ es) zero zero change other = absurd (other refl)
changed_elsewhere (e ∷ es) zero (suc p) change other = refl
changed_elsewhere (e ∷ es) (suc i) zero change other = refl
changed_elsewhere (e ∷ es) (suc i) (suc p) change other = changed_elsewhere es i p change (λ same. other (ap suc same))

-- an entry whose file handle isn't subscribed stays
pub not_raised : (o : Option (ℕ × FileEvents)) (c : ℕ) (changes : Changes) (payload : Payload) (from : Option ℕ) → (is_listening o c ≡ true → ⊥) → o ≡ option_map (raised_in_entry c changes payload from) o
not_raised None c changes payload from none = refl
not_raised (Some e) c changes payload from none =
    ap (λ (f : FileEvents). Some (e.0, f)) (sym (ap (λ (o : Option SubFlags). cond (reaches (is_from from e.0) o) (raised c changes payload e.1) e.1) (no_flags (flags_in e.1.subscribed c) none)))
  where
    no_flags : (o : Option SubFlags) → (is_some o ≡ true → ⊥) → o ≡ None
    no_flags None never = refl
    no_flags (Some flags) never = absurd (never refl)

-- a raise leaves who is subscribed
pub raised_listening : (o : Option (ℕ × FileEvents)) (c : ℕ) (changes : Changes) (payload : Payload) (from : Option ℕ) (d : ℕ) → is_listening (option_map (raised_in_entry c changes payload from) o) d ≡ is_listening o d
raised_listening None c changes payload from d = refl
raised_listening (Some e) c changes payload from d = ap (λ ss. is_some (flags_in ss d)) (raise_leaves c changes payload from e.0 e.1)

-- all are changed
raised_all : (es ns : List (ℕ × FileEvents)) (c : ℕ) (changes : Changes) (payload : Payload) (from : Option ℕ) (j : ℕ) → ((p : ℕ) → slice_get ns p ≡ option_map (raised_in_entry c changes payload from) (slice_get es p))
    → lookup (nat_eq j) ns ≡ option_map (after_raise c changes payload from j) (lookup (nat_eq j) es)
raised_all [] [] c changes payload from j each = refl
raised_all [] (n ∷ ns) c changes payload from j each = absurd (more (each 0))
  where
    more : Some n ≡ None → ⊥
    more h = cc
raised_all (e ∷ es) [] c changes payload from j each = absurd (fewer (each 0))
  where
    fewer : None ≡ Some (raised_in_entry c changes payload from e) → ⊥
    fewer h = cc
raised_all (e ∷ es) (n ∷ ns) c changes payload from j each = ap (λ (x : ℕ × FileEvents). lookup (nat_eq j) (x ∷ ns)) (same n (raised_in_entry c changes payload from e) (each 0)) ∙ by (eqb_tells j e.0) (raised_all es ns c changes payload from j (λ p. each (suc p)))
  where
    by : Tells j e.0 → lookup (nat_eq j) ns ≡ option_map (after_raise c changes payload from j) (lookup (nat_eq j) es)
        → lookup (nat_eq j) (raised_in_entry c changes payload from e ∷ ns) ≡ option_map (after_raise c changes payload from j) (lookup (nat_eq j) (e ∷ es))
    by (inl here) rest = rw here.0 (ap (λ (n : ℕ). Some (after_raise c changes payload from n e.1)) (sym here.1))
    by (inr other) rest = rw other.0 rest

pub raised_for : (old new : EventsData) (c : ℕ) (changes : Changes) (payload : Payload) (from : Option ℕ) → ((p : ℕ) → slice_get new.files p ≡ option_map (raised_in_entry c changes payload from) (slice_get old.files p))
    → (j : ℕ) → events_of new j ≡ after_raise c changes payload from j (events_of old j)
unfolding events_of
raised_for old new c changes payload from each j = ap (λ (o : Option FileEvents). unwrap_or o no_events) (raised_all old.files new.files c changes payload from j each) ∙ by (lookup (nat_eq j) old.files)
  where
    by : (o : Option FileEvents) → unwrap_or (option_map (after_raise c changes payload from j) o) no_events ≡ after_raise c changes payload from j (unwrap_or o no_events)
    by None = refl
    by (Some f) = refl

-- then one more place of a bit
pub raised_next : (old mid new : List (ℕ × FileEvents)) (bit n : ℕ) (change : ℕ × FileEvents → ℕ × FileEvents) → n % 64 ≡ bit → ((p : ℕ) → p % 64 ≡ bit → p < n → slice_get mid p ≡ option_map change (slice_get old p))
    → ((p : ℕ) → (p % 64 ≡ bit → n ≤ p) → slice_get mid p ≡ slice_get old p) → new ≡ changed_at n change mid
    → (p : ℕ) → p % 64 ≡ bit → p < n + 64 → slice_get new p ≡ option_map change (slice_get old p)
raised_next old mid new bit n change at raised left made p same below = ap (λ (es : List (ℕ × FileEvents)). slice_get es p) made ∙ by (cases_lt p n)
  where
    by : (p < n) ⊎ (n ≤ p) → slice_get (changed_at n change mid) p ≡ option_map change (slice_get old p)
    by (inl before) = changed_elsewhere mid n p change (λ here. absurd (omega (arith, before, here))) ∙ raised p same before
    by (inr beyond) =
        let here : p ≡ n = omega (arith, at, same, below, beyond) in
        ap (slice_get (changed_at n change mid)) here ∙ changed_here mid n change ∙ ap (option_map change) (left n (λ own. omega arith)) ∙ ap (λ (k : ℕ). option_map change (slice_get old k)) (sym here)

pub left_next : (old mid new : List (ℕ × FileEvents)) (bit n : ℕ) (change : ℕ × FileEvents → ℕ × FileEvents) → n % 64 ≡ bit → ((p : ℕ) → (p % 64 ≡ bit → n ≤ p) → slice_get mid p ≡ slice_get old p) → new ≡ changed_at n change mid
    → (p : ℕ) → (p % 64 ≡ bit → n + 64 ≤ p) → slice_get new p ≡ slice_get old p
left_next old mid new bit n change at left made p beyond =
    ap (λ (es : List (ℕ × FileEvents)). slice_get es p) made ∙ changed_elsewhere mid n p change (λ here. absurd (omega (arith, here, beyond (ap (λ (k : ℕ). k % 64) here ∙ at)))) ∙ left p (λ same. omega (arith, beyond same))

pub heard_next : (old mid : List (ℕ × FileEvents)) (bit n c : ℕ) (was is : Bool) → n % 64 ≡ bit → ((p : ℕ) → (p % 64 ≡ bit → n ≤ p) → slice_get mid p ≡ slice_get old p) → ((p : ℕ) → p % 64 ≡ bit → p < n → listens old p c ≡ true → was ≡ true)
    → (listens mid n c ≡ true → is ≡ true) → (was ≡ true → is ≡ true) → (p : ℕ) → p % 64 ≡ bit → p < n + 64 → listens old p c ≡ true → is ≡ true
heard_next old mid bit n c was is at left heard own kept p same below there = by (cases_lt p n)
  where
    by : (p < n) ⊎ (n ≤ p) → is ≡ true
    by (inl before) = kept (heard p same before there)
    by (inr beyond) =
        let here : p ≡ n = omega (arith, at, same, below, beyond) in
        own (ap (λ (o : Option (ℕ × FileEvents)). is_listening o c) (left n (λ own. omega arith)) ∙ ap (λ (k : ℕ). listens old k c) (sym here) ∙ there)

-- at last all places of the bit
pub raised_places : (old mid : List (ℕ × FileEvents)) (bit n : ℕ) (change : ℕ × FileEvents → ℕ × FileEvents) → length old ≤ n → ((p : ℕ) → p % 64 ≡ bit → p < n → slice_get mid p ≡ option_map change (slice_get old p))
    → ((p : ℕ) → (p % 64 ≡ bit → n ≤ p) → slice_get mid p ≡ slice_get old p) → (p : ℕ) → p % 64 ≡ bit → slice_get mid p ≡ option_map change (slice_get old p)
raised_places old mid bit n change all raised left p same = by (cases_lt p n)
  where
    by : (p < n) ⊎ (n ≤ p) → slice_get mid p ≡ option_map change (slice_get old p)
    by (inl before) = raised p same before
    by (inr beyond) =
        let none : slice_get old p ≡ None = slice_get_past old p (omega (arith, all, beyond)) in
        left p (λ own. beyond) ∙ none ∙ ap (option_map change) (sym none)

pub heard_places : (old : List (ℕ × FileEvents)) (bit n c : ℕ) (is : Bool) → length old ≤ n → ((p : ℕ) → p % 64 ≡ bit → p < n → listens old p c ≡ true → is ≡ true) → (p : ℕ) → p % 64 ≡ bit → listens old p c ≡ true → is ≡ true
heard_places old bit n c is all heard p same there = by (cases_lt p n)
  where
    by : (p < n) ⊎ (n ≤ p) → is ≡ true
    by (inl before) = heard p same before there
    by (inr beyond) = absurd (true≢false (sym there ∙ ap (λ (o : Option (ℕ × FileEvents)). is_listening o c) (slice_get_past old p (omega (arith, all, beyond)))))

-- a bit is left no longer, and the others are as they were
pub record IsTakenOut (bits less bit : ℕ) : Type 0 where
  pub set : bit_at bits bit ≡ 1
  pub cleared : bit_at less bit ≡ 0
  pub kept : (b : ℕ) → b < 64 → (b ≡ bit → ⊥) → bit_at less b ≡ bit_at bits b

-- then the event is raised at one more bit
pub raised_bit : (old mid new : List (ℕ × FileEvents)) (bits less bit : ℕ) (change : ℕ × FileEvents → ℕ × FileEvents) → IsTakenOut bits less bit → ((p : ℕ) → bit_at bits (p % 64) ≡ 0 → slice_get mid p ≡ option_map change (slice_get old p))
    → ((p : ℕ) → bit_at bits (p % 64) ≡ 1 → slice_get mid p ≡ slice_get old p) → ((p : ℕ) → p % 64 ≡ bit → slice_get new p ≡ option_map change (slice_get mid p)) → ((p : ℕ) → (p % 64 ≡ bit → ⊥) → slice_get new p ≡ slice_get mid p)
    → (p : ℕ) → bit_at less (p % 64) ≡ 0 → slice_get new p ≡ option_map change (slice_get old p)
raised_bit old mid new bits less bit change out raised left now others p off = by (cases_eq (p % 64) bit)
  where
    by : (p % 64 ≡ bit) ⊎ (p % 64 ≡ bit → ⊥) → slice_get new p ≡ option_map change (slice_get old p)
    by (inl here) = now p here ∙ ap (option_map change) (left p (ap (bit_at bits) here ∙ out.set))
    by (inr other) = others p other ∙ raised p (sym (out.kept (p % 64) (omega arith) other) ∙ off)

pub left_bit : (old mid new : List (ℕ × FileEvents)) (bits less bit : ℕ) → IsTakenOut bits less bit → ((p : ℕ) → bit_at bits (p % 64) ≡ 1 → slice_get mid p ≡ slice_get old p) → ((p : ℕ) → (p % 64 ≡ bit → ⊥) → slice_get new p ≡ slice_get mid p)
    → (p : ℕ) → bit_at less (p % 64) ≡ 1 → slice_get new p ≡ slice_get old p
left_bit old mid new bits less bit out left others p on = by (cases_eq (p % 64) bit)
  where
    by : (p % 64 ≡ bit) ⊎ (p % 64 ≡ bit → ⊥) → slice_get new p ≡ slice_get old p
    by (inl here) = absurd (omega (arith, sym on ∙ ap (bit_at less) here ∙ out.cleared))
    by (inr other) = others p other ∙ left p (sym (out.kept (p % 64) (omega arith) other) ∙ on)

pub gathered_bit : (old mid : List (ℕ × FileEvents)) (bits less bit c still more : ℕ) (heard : Bool) → IsTakenOut bits less bit → ((p : ℕ) → bit_at bits (p % 64) ≡ 1 → slice_get mid p ≡ slice_get old p)
    → ((p : ℕ) → bit_at bits (p % 64) ≡ 0 → listens old p c ≡ true → bit_at still (p % 64) ≡ 1) → ((p : ℕ) → p % 64 ≡ bit → listens mid p c ≡ true → heard ≡ true) → (heard ≡ true → bit_at more bit ≡ 1) → ((b : ℕ) → bit_at still b ≡ 1 → bit_at more b ≡ 1)
    → (p : ℕ) → bit_at less (p % 64) ≡ 0 → listens old p c ≡ true → bit_at more (p % 64) ≡ 1
gathered_bit old mid bits less bit c still more heard out left gathered own set stay p off there = by (cases_eq (p % 64) bit)
  where
    by : (p % 64 ≡ bit) ⊎ (p % 64 ≡ bit → ⊥) → bit_at more (p % 64) ≡ 1
    by (inl here) = ap (bit_at more) here ∙ set (own p here (ap (λ (o : Option (ℕ × FileEvents)). is_listening o c) (left p (ap (bit_at bits) here ∙ out.set)) ∙ there))
    by (inr other) = stay (p % 64) (gathered p (sym (out.kept (p % 64) (omega arith) other) ∙ off) there)

-- what holds of each file handle holds of the entry at a place
pub at_entry : (now : EventsData) (i bound : ℕ) → IsDistinct nat_eq (keys_of now.files) → ((j : ℕ) → (events_of now j).next < bound) → IfSome (slice_get now.files i) (λ e. e.1.next < bound)
unfolding events_of
at_entry now i bound distinct each = by (slice_get now.files i) refl
  where
    by : (o : Option (ℕ × FileEvents)) → slice_get now.files i ≡ o → IfSome o (λ e. e.1.next < bound)
    by None is = tt
    by (Some e) is = subst (λ (o : Option FileEvents). (unwrap_or o no_events).next < bound) (lookup_from_place nat_eq_equiv now.files i e.0 e.1 distinct is) (each e.0)

-- what is so of the entry at a place is so of the value there
pub next_there : (es : List (ℕ × FileEvents)) (i bound : ℕ) (f : FileEvents) → Some f ≡ slice_get (values_of es) i → IfSome (slice_get es i) (λ e. e.1.next < bound) → f.next < bound
next_there [] i bound f there each = cc
next_there (e ∷ es) zero bound f there each = let same : e.1 ≡ f = cc in subst (λ (g : FileEvents). g.next < bound) same each
next_there (e ∷ es) (suc i) bound f there each = next_there es i bound f there each
