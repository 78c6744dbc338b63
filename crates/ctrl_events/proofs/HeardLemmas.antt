-- Which file handles may be subscribed, once what is kept of one changes.
use Rattle.std.proofs.Common.{arith, ◌≡◌, ◌∙◌, ◌-◌, ◌%◌, ◌<◌, ◌⊎◌, inl, inr, ℕ, zero, suc, Bool, true, false, not, cond, List, [], ◌∷◌, ◌++◌, take, set, length, get_or, slice_get, Option, None, Some, is_some, nat_eq, true≢false, refl, sym, ap, subst}
use Rattle.std.specs.Int.{bit_at}
use Rattle.std.specs.Prelude.{position, swap_remove}
use Rattle.std.specs.Option.{option_map_or}
use Rattle.std.specs.Map.{lookup, keys_of, values_of, set_value}
use Rattle.std.proofs.lemmas.Bool.{cases_eq}
use Rattle.std.proofs.lemmas.Bool.Decides.{eqb_tells}
use Rattle.std.proofs.lemmas.List.{get_or-set_same, get_or-set_other}
use Rattle.std.proofs.lemmas.Option.{slice_get-get_or}
use Rattle.indexmap.specs.IndexMap.{set_value_at, insert_entry, swap_remove_entry}
use Rattle.ctrl_types.specs.declared.changes.Changes.{Changes}
use Rattle.ctrl_types.specs.declared.sub_flags.SubFlags.{SubFlags}
use Rattle.ctrl_types.specs.Events.{sends_initial}
use Rattle.ctrl_events.specs.declared.event.Payload.{Payload}
use Rattle.ctrl_events.specs.Events.{Subscription, FileEvents, no_events, flags_in, is_from, reaches, raised, after_raise, after_subscribe, with_subscription}
use Rattle.ctrl_events.specs.Files.{changed_at, raised_in_entry}
use Rattle.ctrl_events.specs.Heard.{is_listening, listens, IsHeard, AreHeard, HaveBits}
use Rattle.ctrl_events.proofs.KeptLemmas.{Tells, other_subscriptions}
use Rattle.ctrl_events.proofs.MarkLemmas.{within_marks}

-- who is subscribed now was so before, or is marked
pub changed_heard : (old new : List (ℕ × FileEvents)) (heard more : List ℕ) → AreHeard heard old → ((p c : ℕ) → IsHeard heard p c → IsHeard more p c) → ((p c : ℕ) → listens new p c ≡ true → (listens old p c ≡ true) ⊎ IsHeard more p c) → AreHeard more new
unfolding AreHeard
changed_heard old new heard more before kept own p c there = by (own p c there)
  where
    by : (listens old p c ≡ true) ⊎ IsHeard more p c → IsHeard more p c
    by (inl was) = kept p c (before p c was)
    by (inr is) = is

-- more marks
pub more_heard : (files : List (ℕ × FileEvents)) (heard more : List ℕ) → AreHeard heard files → ((p c : ℕ) → IsHeard heard p c → IsHeard more p c) → AreHeard more files
unfolding AreHeard
more_heard files heard more before kept p c there = kept p c (before p c there)

pub none_heard : (heard : List ℕ) → AreHeard heard []
unfolding AreHeard
none_heard heard p c there = absurd (true≢false (sym there))

-- among the bits of a control are those of the places of the file handles that are subscribed to it
pub heard_bits : (files : List (ℕ × FileEvents)) (heard : List ℕ) (c bits : ℕ) → bits ≡ get_or heard c 0 → AreHeard heard files → HaveBits bits c files
unfolding AreHeard
heard_bits files heard c bits are all p there = ap (λ (n : ℕ). bit_at n (p % 64)) are ∙ all p c there

-- what is left of the subscriptions was there
pub subscribed_left : (ss : List Subscription) (c d : ℕ) → is_some (flags_in (other_subscriptions c ss) d) ≡ true → is_some (flags_in ss d) ≡ true
subscribed_left [] c d there = there
subscribed_left (s ∷ ss) c d there = by (nat_eq c s.control) there (λ further. subscribed_left ss c d further)
  where
    or_left : (b : Bool) → is_some (flags_in ss d) ≡ true → is_some (cond b (Some s.flags) (flags_in ss d)) ≡ true
    or_left true further = refl
    or_left false further = further

    or_both : (b : Bool) → is_some (cond b (Some s.flags) (flags_in (other_subscriptions c ss) d)) ≡ true → (is_some (flags_in (other_subscriptions c ss) d) ≡ true → is_some (flags_in ss d) ≡ true) → is_some (cond b (Some s.flags) (flags_in ss d)) ≡ true
    or_both true is rest = refl
    or_both false is rest = rest is

    by : (b : Bool) → is_some (flags_in (cond (not b) (s ∷ other_subscriptions c ss) (other_subscriptions c ss)) d) ≡ true → (is_some (flags_in (other_subscriptions c ss) d) ≡ true → is_some (flags_in ss d) ≡ true) → is_some (flags_in (s ∷ ss) d) ≡ true
    by true is rest = or_left (nat_eq d s.control) (rest is)
    by false is rest = or_both (nat_eq d s.control) is rest

subscribed_more : (ss : List Subscription) (c d : ℕ) (flags : SubFlags) → is_some (flags_in (ss ++ record { control = c; flags = flags } ∷ []) d) ≡ true → (is_some (flags_in ss d) ≡ true) ⊎ (d ≡ c)
subscribed_more [] c d flags there = by (eqb_tells d c) there
  where
    by : Tells d c → is_some (cond (nat_eq d c) (Some flags) None) ≡ true → (false ≡ true) ⊎ (d ≡ c)
    by (inl same) is = inr same.1
    by (inr other) is = absurd (true≢false (sym (rw other.0 at is)))
subscribed_more (s ∷ ss) c d flags there = by (nat_eq d s.control) there (λ further. subscribed_more ss c d flags further)
  where
    by : (b : Bool) → is_some (cond b (Some s.flags) (flags_in (ss ++ record { control = c; flags = flags } ∷ []) d)) ≡ true → (is_some (flags_in (ss ++ record { control = c; flags = flags } ∷ []) d) ≡ true → (is_some (flags_in ss d) ≡ true) ⊎ (d ≡ c))
        → (is_some (cond b (Some s.flags) (flags_in ss d)) ≡ true) ⊎ (d ≡ c)
    by true is rest = inl refl
    by false is rest = rest is

pub subscribed_then : (c d : ℕ) (flags : SubFlags) (changes : Changes) (payload : Payload) (f : FileEvents) → is_some (flags_in (after_subscribe c flags changes payload f).subscribed d) ≡ true → (is_some (flags_in f.subscribed d) ≡ true) ⊎ (d ≡ c)
subscribed_then c d flags changes payload f there = by (is_some (flags_in f.subscribed c)) (sends_initial flags) there
  where
    by : (b initial : Bool) → is_some (flags_in (cond b f (cond initial (raised c changes payload (with_subscription c flags f)) (with_subscription c flags f))).subscribed d) ≡ true → (is_some (flags_in f.subscribed d) ≡ true) ⊎ (d ≡ c)
    by true initial is = inl is
    by false true is = subscribed_more f.subscribed c d flags is
    by false false is = subscribed_more f.subscribed c d flags is

-- a raise leaves the subscriptions
pub raise_leaves : (c : ℕ) (changes : Changes) (payload : Payload) (from : Option ℕ) (fh : ℕ) (f : FileEvents) → (after_raise c changes payload from fh f).subscribed ≡ f.subscribed
raise_leaves c changes payload from fh f = by (reaches (is_from from fh) (flags_in f.subscribed c))
  where
    by : (b : Bool) → (cond b (raised c changes payload f) f).subscribed ≡ f.subscribed
    by true = refl
    by false = refl

-- the subscriptions of the value at a place
pub value_listens : (es : List (ℕ × FileEvents)) (i : ℕ) (f : FileEvents) (c : ℕ) → Some f ≡ slice_get (values_of es) i → is_some (flags_in f.subscribed c) ≡ listens es i c
value_listens [] i f c there = cc
value_listens (e ∷ es) zero f c there = let same : e.1 ≡ f = cc in ap (λ (x : FileEvents). is_some (flags_in x.subscribed c)) (sym same)
value_listens (e ∷ es) (suc i) f c there = value_listens es i f c there

-- a raise for the file handle at a place leaves who is subscribed
raised_listens : (es : List (ℕ × FileEvents)) (i c : ℕ) (changes : Changes) (payload : Payload) (from : Option ℕ) (p d : ℕ) → listens (changed_at i (raised_in_entry c changes payload from) es) p d ≡ listens es p d
raised_listens [] i c changes payload from p d = refl
raised_listens (e ∷ es) zero c changes payload from zero d = ap (λ ss. is_some (flags_in ss d)) (raise_leaves c changes payload from e.0 e.1)
raised_listens (e ∷ es) zero c changes payload from (suc p) d = refl
raised_listens (e ∷ es) (suc i) c changes payload from zero d = refl
raised_listens (e ∷ es) (suc i) c changes payload from (suc p) d = raised_listens es i c changes payload from p d

pub raised_heard : (old new : List (ℕ × FileEvents)) (heard : List ℕ) (i c : ℕ) (changes : Changes) (payload : Payload) (from : Option ℕ) → AreHeard heard old → new ≡ changed_at i (raised_in_entry c changes payload from) old → AreHeard heard new
unfolding AreHeard
raised_heard old new heard i c changes payload from before made p d there =
    before p d (sym (raised_listens old i c changes payload from p d) ∙ ap (λ (es : List (ℕ × FileEvents)). listens es p d) (sym made) ∙ there)

-- the value of a file handle is written, and it is subscribed to nothing new
written_listens : (es : List (ℕ × FileEvents)) (fh : ℕ) (f g : FileEvents) (p c : ℕ) → Some f ≡ lookup (nat_eq fh) es → (is_some (flags_in g.subscribed c) ≡ true → is_some (flags_in f.subscribed c) ≡ true) → listens (set_value (nat_eq fh) es g) p c ≡ true → listens es p c ≡ true
written_listens [] fh f g p c there left is = is
written_listens (e ∷ es) fh f g p c there left is = by (eqb_tells fh e.0) p there is (λ q further. written_listens es fh f g q c further left)
  where
    equal : (a b : FileEvents) → Some a ≡ Some b → a ≡ b
    equal a b h = cc

    by : Tells fh e.0 → (q : ℕ) → Some f ≡ lookup (nat_eq fh) (e ∷ es) → listens (set_value (nat_eq fh) (e ∷ es) g) q c ≡ true → ((r : ℕ) → Some f ≡ lookup (nat_eq fh) es → listens (set_value (nat_eq fh) es g) r c ≡ true → listens es r c ≡ true) → listens (e ∷ es) q c ≡ true
    by (inl here) zero found at rest =
        let same : Some f ≡ Some e.1 = rw here.0 at found in
        let new : is_some (flags_in g.subscribed c) ≡ true = rw here.0 at at in
        ap (λ (x : FileEvents). is_some (flags_in x.subscribed c)) (sym (equal f e.1 same)) ∙ left new
    by (inl here) (suc q) found at rest = rw here.0 at at
    by (inr other) zero found at rest = rw other.0 at at
    by (inr other) (suc q) found at rest = rest q (rw other.0 at found) (rw other.0 at at)

pub written_heard : (old new : List (ℕ × FileEvents)) (heard : List ℕ) (fh : ℕ) (f g : FileEvents) → AreHeard heard old → Some f ≡ lookup (nat_eq fh) old → new ≡ set_value (nat_eq fh) old g
    → ((c : ℕ) → is_some (flags_in g.subscribed c) ≡ true → is_some (flags_in f.subscribed c) ≡ true) → AreHeard heard new
written_heard old new heard fh f g before there made left =
    changed_heard old new heard heard before (λ p c is. is) (λ p c is. inl (written_listens old fh f g p c there (left c) (ap (λ (es : List (ℕ × FileEvents)). listens es p c) (sym made) ∙ is)))

-- the value at a place is written
put_listens : (es : List (ℕ × FileEvents)) (i : ℕ) (g : FileEvents) (p c : ℕ) → listens (set_value_at es i g) p c ≡ true → (listens es p c ≡ true) ⊎ ((p ≡ i) × (is_some (flags_in g.subscribed c) ≡ true))
put_listens [] i g p c is = inl is
put_listens (e ∷ es) zero g zero c is = inr (refl, is)
put_listens (e ∷ es) zero g (suc p) c is = inl is
put_listens (e ∷ es) (suc i) g zero c is = inl is
put_listens (e ∷ es) (suc i) g (suc p) c is = by (put_listens es i g p c is)
  where
    by : (listens es p c ≡ true) ⊎ ((p ≡ i) × (is_some (flags_in g.subscribed c) ≡ true)) → (listens es p c ≡ true) ⊎ ((suc p ≡ suc i) × (is_some (flags_in g.subscribed c) ≡ true))
    by (inl was) = inl was
    by (inr new) = inr (ap suc new.0, new.1)

-- a subscription of the file handle at a place, which is marked
pub subscribed_heard : (old : List (ℕ × FileEvents)) (heard more : List ℕ) (i c : ℕ) (flags : SubFlags) (changes : Changes) (payload : Payload) (f g : FileEvents) → AreHeard heard old → ((p d : ℕ) → IsHeard heard p d → IsHeard more p d)
    → IsHeard more i c → Some f ≡ slice_get (values_of old) i → g ≡ after_subscribe c flags changes payload f → AreHeard more (set_value_at old i g)
subscribed_heard old heard more i c flags changes payload f g before kept own there made = changed_heard old (set_value_at old i g) heard more before kept (λ p d is. by p d (put_listens old i g p d is))
  where
    either : (p d : ℕ) → p ≡ i → (is_some (flags_in f.subscribed d) ≡ true) ⊎ (d ≡ c) → (listens old p d ≡ true) ⊎ IsHeard more p d
    either p d at (inl was) = inl (ap (λ (q : ℕ). listens old q d) at ∙ sym (value_listens old i f d there) ∙ was)
    either p d at (inr same) = inr (subst (λ (q : ℕ). IsHeard more q d) (sym at) (subst (λ (k : ℕ). IsHeard more i k) (sym same) own))

    by : (p d : ℕ) → (listens old p d ≡ true) ⊎ ((p ≡ i) × (is_some (flags_in g.subscribed d) ≡ true)) → (listens old p d ≡ true) ⊎ IsHeard more p d
    by p d (inl was) = inl was
    by p d (inr new) = either p d new.0 (subscribed_then c d flags changes payload f (ap (λ (x : FileEvents). is_some (flags_in x.subscribed d)) (sym made) ∙ new.1))

-- a new entry is put last
added_listens : (es : List (ℕ × FileEvents)) (fh : ℕ) (g : FileEvents) (p c : ℕ) → lookup (nat_eq fh) es ≡ None → listens (insert_entry nat_eq es fh g) p c ≡ true → (listens es p c ≡ true) ⊎ ((p ≡ length es) × (is_some (flags_in g.subscribed c) ≡ true))
added_listens [] fh g zero c none is = inr (refl, is)
added_listens [] fh g (suc p) c none is = inl is
added_listens (e ∷ es) fh g p c none is = by (eqb_tells fh e.0) p none is (λ q further. added_listens es fh g q c further)
  where
    up : (q : ℕ) → (listens es q c ≡ true) ⊎ ((q ≡ length es) × (is_some (flags_in g.subscribed c) ≡ true)) → (listens es q c ≡ true) ⊎ ((suc q ≡ suc (length es)) × (is_some (flags_in g.subscribed c) ≡ true))
    up q (inl was) = inl was
    up q (inr new) = inr (ap suc new.0, new.1)

    absent : Some e.1 ≡ None → ⊥
    absent h = cc

    by : Tells fh e.0 → (q : ℕ) → lookup (nat_eq fh) (e ∷ es) ≡ None → listens (insert_entry nat_eq (e ∷ es) fh g) q c ≡ true
        → ((r : ℕ) → lookup (nat_eq fh) es ≡ None → listens (insert_entry nat_eq es fh g) r c ≡ true → (listens es r c ≡ true) ⊎ ((r ≡ length es) × (is_some (flags_in g.subscribed c) ≡ true)))
        → (listens (e ∷ es) q c ≡ true) ⊎ ((q ≡ length (e ∷ es)) × (is_some (flags_in g.subscribed c) ≡ true))
    by (inl here) q nothing at rest = absurd (absent (rw here.0 at nothing))
    by (inr other) zero nothing at rest = inl (rw other.0 at at)
    by (inr other) (suc q) nothing at rest = up q (rest q (rw other.0 at nothing) (rw other.0 at at))

-- the first subscription of a file handle, whose place behind all others is marked
pub first_heard : (old : List (ℕ × FileEvents)) (heard more : List ℕ) (fh c : ℕ) (flags : SubFlags) (changes : Changes) (payload : Payload) (g : FileEvents) → AreHeard heard old → ((p d : ℕ) → IsHeard heard p d → IsHeard more p d)
    → IsHeard more (length old) c → lookup (nat_eq fh) old ≡ None → g ≡ after_subscribe c flags changes payload no_events → AreHeard more (insert_entry nat_eq old fh g)
first_heard old heard more fh c flags changes payload g before kept own none made = changed_heard old (insert_entry nat_eq old fh g) heard more before kept (λ p d is. by p d (added_listens old fh g p d none is))
  where
    either : (p d : ℕ) → p ≡ length old → (false ≡ true) ⊎ (d ≡ c) → (listens old p d ≡ true) ⊎ IsHeard more p d
    either p d at (inl was) = absurd (true≢false (sym was))
    either p d at (inr same) = inr (subst (λ (q : ℕ). IsHeard more q d) (sym at) (subst (λ (k : ℕ). IsHeard more (length old) k) (sym same) own))

    by : (p d : ℕ) → (listens old p d ≡ true) ⊎ ((p ≡ length old) × (is_some (flags_in g.subscribed d) ≡ true)) → (listens old p d ≡ true) ⊎ IsHeard more p d
    by p d (inl was) = inl was
    by p d (inr new) = either p d new.0 (subscribed_then c d flags changes payload no_events (ap (λ (x : FileEvents). is_some (flags_in x.subscribed d)) (sym made) ∙ new.1))

-- the first entries
taken_listens : (es : List (ℕ × FileEvents)) (n p c : ℕ) → listens (take n es) p c ≡ true → listens es p c ≡ true
taken_listens [] zero p c is = is
taken_listens [] (suc n) p c is = is
taken_listens (e ∷ es) zero p c is = absurd (true≢false (sym is))
taken_listens (e ∷ es) (suc n) zero c is = is
taken_listens (e ∷ es) (suc n) (suc p) c is = taken_listens es n p c is

-- another entry at a place
moved_listens : (es : List (ℕ × FileEvents)) (i : ℕ) (x : ℕ × FileEvents) (p c : ℕ) → listens (set es i x) p c ≡ true → (listens es p c ≡ true) ⊎ ((p ≡ i) × (is_some (flags_in x.1.subscribed c) ≡ true))
moved_listens [] zero x p c is = inl is
moved_listens [] (suc i) x p c is = inl is
moved_listens (e ∷ es) zero x zero c is = inr (refl, is)
moved_listens (e ∷ es) zero x (suc p) c is = inl is
moved_listens (e ∷ es) (suc i) x zero c is = inl is
moved_listens (e ∷ es) (suc i) x (suc p) c is = by (moved_listens es i x p c is)
  where
    by : (listens es p c ≡ true) ⊎ ((p ≡ i) × (is_some (flags_in x.1.subscribed c) ≡ true)) → (listens es p c ≡ true) ⊎ ((suc p ≡ suc i) × (is_some (flags_in x.1.subscribed c) ≡ true))
    by (inl was) = inl was
    by (inr new) = inr (ap suc new.0, new.1)

-- an entry is taken out, and the last takes its place, which is marked
pub dropped_heard : (old : List (ℕ × FileEvents)) (heard more : List ℕ) (fh i : ℕ) → AreHeard heard old → ((p c : ℕ) → IsHeard heard p c → IsHeard more p c) → ((c : ℕ) → listens old (length old - 1) c ≡ true → c < length heard → IsHeard more i c)
    → Some i ≡ position (nat_eq fh) (keys_of old) → AreHeard more (swap_remove_entry (nat_eq fh) old)
unfolding AreHeard
dropped_heard [] heard more fh i before kept own there = none_heard more
dropped_heard (e ∷ es) heard more fh i before kept own there =
    subst (λ (o : Option ℕ). AreHeard more (option_map_or (λ k. swap_remove (e ∷ es) k e) o (e ∷ es))) there (
    changed_heard (e ∷ es) (swap_remove (e ∷ es) i e) heard more before kept (λ p c is. by p c (moved_listens (e ∷ es) i last p c (taken_listens (set (e ∷ es) i last) (length (e ∷ es) - 1) p c is)))
    )
  where
    last : ℕ × FileEvents
    last = get_or (e ∷ es) (length (e ∷ es) - 1) e

    by : (p c : ℕ) → (listens (e ∷ es) p c ≡ true) ⊎ ((p ≡ i) × (is_some (flags_in last.1.subscribed c) ≡ true)) → (listens (e ∷ es) p c ≡ true) ⊎ IsHeard more p c
    by p c (inl was) = inl was
    by p c (inr new) =
        let was : listens (e ∷ es) (length (e ∷ es) - 1) c ≡ true = ap (λ (o : Option (ℕ × FileEvents)). is_listening o c) (slice_get-get_or (e ∷ es) (length (e ∷ es) - 1) e (omega arith)) ∙ new.1 in
        inr (subst (λ (q : ℕ). IsHeard more q c) (sym new.0) (own c was (within_marks heard (length (e ∷ es) - 1) c (before (length (e ∷ es) - 1) c was))))

-- they take the place of those of the control
pub kept_heard : (files : List (ℕ × FileEvents)) (heard : List ℕ) (c bits : ℕ) → c < length heard → AreHeard heard files → HaveBits bits c files
    → AreHeard (set heard c bits) files
unfolding AreHeard
kept_heard files heard c bits within all own j d there = by (cases_eq d c)
  where
    by : (d ≡ c) ⊎ (d ≡ c → ⊥) → bit_at (get_or (set heard c bits) d 0) (j % 64) ≡ 1
    by (inl same) =
        ap (λ k. bit_at (get_or (set heard c bits) k 0) (j % 64)) same ∙ ap (λ (n : ℕ). bit_at n (j % 64)) (get_or-set_same heard c bits 0 within)
        ∙ own j (subst (λ k. listens files j k ≡ true) same there)
    by (inr other) = ap (λ (n : ℕ). bit_at n (j % 64)) (get_or-set_other heard c d bits 0 other) ∙ all j d there
