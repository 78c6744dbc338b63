-- What is kept of file handles, by their entries: what is found, and what is left once an entry is put in, changed or taken out.
use Rattle.std.proofs.Common.{arith, ◌≡◌, ℕ, zero, suc, ◌+◌, ◌∙◌, Bool, true, false, cond, length, inl, inr, List, [], ◌∷◌, Option, None, Some, is_some, Result, Ok, Err, is_err, OnErr, OnOk, unwrap_or, nat_eq, refl, sym, ap}
use Rattle.std.specs.Prelude.{position, nat_lt}
use Rattle.std.specs.List.{position_or_len}
use Rattle.std.specs.Cmp.{nat_eq_equiv}
use Rattle.std.specs.Map.{lookup, keys_of, set_value}
use Rattle.std.proofs.lemmas.Bool.{eqb-true}
use Rattle.std.proofs.lemmas.Map.{lookup-set_value}
use Rattle.indexmap.specs.IndexMap.{set_value_at}
use Rattle.std.proofs.lemmas.Bool.Decides.{eqb_tells}
use Rattle.ctrl_events.specs.Events.{FileEvents, EventsData, no_events, events_of, only_at}
use Rattle.ctrl_events.proofs.KeptLemmas.{Tells}

-- the entries, as they are seen
abbrev pub seen : List (ℕ × FileEvents) → EventsData
seen es = record { files = es }

-- what is kept of a file handle whose entry is found
pub found : (es : List (ℕ × FileEvents)) (now : EventsData) (fh : ℕ) (f : FileEvents) → seen es ≡ now → Some f ≡ lookup (nat_eq fh) es → f ≡ events_of now fh
unfolding events_of
found es now fh f is there = ap (λ (o : Option FileEvents). unwrap_or o no_events) there ∙ ap (λ (d : EventsData). unwrap_or (lookup (nat_eq fh) d.files) no_events) is

-- nothing is, where none is
pub missing : (es : List (ℕ × FileEvents)) (now : EventsData) (fh : ℕ) → seen es ≡ now → None ≡ lookup (nat_eq fh) es → no_events ≡ events_of now fh
unfolding events_of
missing es now fh is none = ap (λ (o : Option FileEvents). unwrap_or o no_events) none ∙ ap (λ (d : EventsData). unwrap_or (lookup (nat_eq fh) d.files) no_events) is

-- the look-ups say what is kept of each file handle
pub looked_up : (old new : List (ℕ × FileEvents)) (now : EventsData) (fh : ℕ) (entry : Option FileEvents) (change : FileEvents → FileEvents) → seen old ≡ now
    → ((q : ℕ) → lookup (nat_eq q) new ≡ cond (nat_eq fh q) entry (lookup (nat_eq q) old)) → unwrap_or entry no_events ≡ change (events_of now fh)
    → (j : ℕ) → events_of (seen new) j ≡ only_at fh change j (events_of now j)
unfolding events_of
looked_up old new now fh entry change is up made j = ap (λ (o : Option FileEvents). unwrap_or o no_events) (up j) ∙ by (eqb_tells fh j)
  where
    was : (q : ℕ) → unwrap_or (lookup (nat_eq q) old) no_events ≡ events_of now q
    was q = ap (λ (d : EventsData). unwrap_or (lookup (nat_eq q) d.files) no_events) is

    by : Tells fh j → unwrap_or (cond (nat_eq fh j) entry (lookup (nat_eq j) old)) no_events ≡ only_at fh change j (events_of now j)
    by (inl same) = rw same.0 (made ∙ ap (λ (q : ℕ). change (events_of now q)) same.1)
    by (inr other) = rw other.0 (was j)

-- a file handle that is found is changed alone
pub written : (old new : List (ℕ × FileEvents)) (now : EventsData) (fh : ℕ) (f g : FileEvents) (change : FileEvents → FileEvents) → seen old ≡ now → Some f ≡ lookup (nat_eq fh) old
    → ((q : ℕ) → lookup (nat_eq q) new ≡ cond (nat_eq fh q) (Some g) (lookup (nat_eq q) old)) → g ≡ change f
    → (j : ℕ) → events_of (seen new) j ≡ only_at fh change j (events_of now j)
written old new now fh f g change is there up made = looked_up old new now fh (Some g) change is up (made ∙ ap change (found old now fh f is there))

-- where none is found, nothing has to change
pub unwritten : (old : List (ℕ × FileEvents)) (now : EventsData) (fh : ℕ) (change : FileEvents → FileEvents) → seen old ≡ now → None ≡ lookup (nat_eq fh) old → no_events ≡ change no_events
    → (j : ℕ) → events_of (seen old) j ≡ only_at fh change j (events_of now j)
unwritten old now fh change is none same = looked_up old old now fh None change is up (same ∙ ap change (missing old now fh is none))
  where
    up : (q : ℕ) → lookup (nat_eq q) old ≡ cond (nat_eq fh q) None (lookup (nat_eq q) old)
    up q = by (eqb_tells fh q)
      where
        by : Tells fh q → lookup (nat_eq q) old ≡ cond (nat_eq fh q) None (lookup (nat_eq q) old)
        by (inl here) = rw here.0 (ap (λ (n : ℕ). lookup (nat_eq n) old) (sym here.1) ∙ sym none)
        by (inr other) = rw other.0 refl

-- what an accepted call made
pub accepted : {T F : Type 0} (r : Result T F) (P : Type 0) → false ≡ is_err r → OnOk r P → P
accepted (Ok x) P ok holds = holds
accepted (Err e) P ok holds = cc

-- what follows of what it made
pub where_accepted : {T F : Type 0} (r : Result T F) (P Q : Type 0) → OnOk r P → (P → Q) → OnOk r Q
where_accepted (Ok x) P Q holds gives = gives holds
where_accepted (Err e) P Q holds gives = tt

-- and of what a refused one left
pub where_refused : {T F : Type 0} (r : Result T F) (P Q : Type 0) → OnErr r P → (P → Q) → OnErr r Q
where_refused (Ok x) P Q holds gives = tt
where_refused (Err e) P Q holds gives = gives holds

-- what follows of both
pub after_both : {T F : Type 0} (r : Result T F) (P Q X : Type 0) → OnOk r P → OnErr r Q → (P → X) → (Q → X) → X
after_both (Ok x) P Q X ok err made left = made ok
after_both (Err e) P Q X ok err made left = left err

-- where there isn't one, there is none
pub none_of : {X : Type 0} (o : Option X) → false ≡ is_some o → None ≡ o
none_of None none = refl
none_of (Some x) none = cc

-- writing what was there changes nothing
pub rewritten : (es : List (ℕ × FileEvents)) (fh : ℕ) (f g : FileEvents) → Some f ≡ lookup (nat_eq fh) es → g ≡ f → set_value (nat_eq fh) es g ≡ es
rewritten [] fh f g there same = refl
rewritten (e ∷ es) fh f g there same = by (eqb_tells fh e.0) (λ further. rewritten es fh f g further same)
  where
    equal : (a b : FileEvents) → Some a ≡ Some b → a ≡ b
    equal a b h = cc

    by : Tells fh e.0 → (Some f ≡ lookup (nat_eq fh) es → set_value (nat_eq fh) es g ≡ es) → set_value (nat_eq fh) (e ∷ es) g ≡ e ∷ es
    by (inl here) rest =
        let is : Some f ≡ Some e.1 = rw here.0 at there in
        rw here.0 (ap (λ (x : FileEvents). (e.0, x) ∷ es) (same ∙ equal f e.1 is))
    by (inr other) rest =
        let further : Some f ≡ lookup (nat_eq fh) es = rw other.0 at there in
        rw other.0 (ap (λ (xs : List (ℕ × FileEvents)). e ∷ xs) (rest further))

-- what is written at the place of a file handle is written for it
put_at : (es : List (ℕ × FileEvents)) (fh i : ℕ) (g : FileEvents) → i ≡ position_or_len (nat_eq fh) (keys_of es) → set_value_at es i g ≡ set_value (nat_eq fh) es g
put_at [] fh i g there = refl
put_at (e ∷ es) fh i g there = by (eqb_tells fh e.0) i there (λ k further. put_at es fh k g further)
  where
    by : Tells fh e.0 → (k : ℕ) → k ≡ position_or_len (nat_eq fh) (keys_of (e ∷ es)) → ((m : ℕ) → m ≡ position_or_len (nat_eq fh) (keys_of es) → set_value_at es m g ≡ set_value (nat_eq fh) es g) → set_value_at (e ∷ es) k g ≡ set_value (nat_eq fh) (e ∷ es) g
    by (inl here) zero at rest = rw here.0 refl
    by (inl here) (suc k) at rest = let first : suc k ≡ 0 = rw here.0 at at in absurd (omega (arith, first))
    by (inr other) zero at rest = let further : 0 ≡ 1 + position_or_len (nat_eq fh) (keys_of es) = rw other.0 at at in absurd (omega (arith, further))
    by (inr other) (suc k) at rest =
        let further : suc k ≡ 1 + position_or_len (nat_eq fh) (keys_of es) = rw other.0 at at in
        rw other.0 (ap (λ (xs : List (ℕ × FileEvents)). e ∷ xs) (rest k (omega (arith, further))))

pub put_for : (es : List (ℕ × FileEvents)) (fh i : ℕ) (g : FileEvents) → Some i ≡ position (nat_eq fh) (keys_of es) → set_value_at es i g ≡ set_value (nat_eq fh) es g
put_for es fh i g there = put_at es fh i g (which (nat_lt (position_or_len (nat_eq fh) (keys_of es)) (length (keys_of es))) (position_or_len (nat_eq fh) (keys_of es)) there)
  where
    which : (b : Bool) (n : ℕ) → Some i ≡ cond b (Some n) None → i ≡ n
    which true n h = cc
    which false n h = cc

-- the look-ups, once the value at the place of a file handle is written
pub looked_up_put : (es : List (ℕ × FileEvents)) (fh i : ℕ) (f g : FileEvents) → Some i ≡ position (nat_eq fh) (keys_of es) → Some f ≡ lookup (nat_eq fh) es → (q : ℕ) → lookup (nat_eq q) (set_value_at es i g) ≡ cond (nat_eq fh q) (Some g) (lookup (nat_eq q) es)
looked_up_put es fh i f g at there q = ap (lookup (nat_eq q)) (put_for es fh i g at) ∙ lookup-set_value nat_eq_equiv (nat_eq fh) (λ x y is. ap (λ (n : ℕ). nat_eq n y) (eqb-true fh x is)) q g es (sym (ap is_some there))
