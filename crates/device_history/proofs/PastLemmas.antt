-- What one more entry makes of the definitions, and the file handles that a history opened.
use Rattle.std.proofs.Common.{◌≡◌, ℕ, suc, ◌-◌, ◌<◌, ◌≤◌, Bool, true, false, not, ◌||◌, cond, List, [], ◌∷◌, ◌++◌, length, take, filter, map, None, Some, nat_eq, refl, ap, sym, subst, arith, length-append, append-nil, ◌∙◌}
use Rattle.std.proofs.lemmas.Bool.Decides.{nat_tests}
use Rattle.std.proofs.lemmas.List.{reverse-append}
use Rattle.std.proofs.lemmas.List.Elements.{filter-append}
use Rattle.std.specs.List.{list_any}
use Rattle.std.specs.Map.{lookup, remove_entry}
use Rattle.history.specs.declared.entry.Entry.{Entry}
use Rattle.history.specs.Past.{past}
use Rattle.history.proofs.Pasts.{past_add, length_past}
use Rattle.ctrl_calls.specs.Meanings.{Verdicts}
use Rattle.ctrl_types.specs.declared.ids.FhId.{FhId}
use Rattle.device_history.specs.declared.ask.Step.{Step}
use Rattle.device_history.specs.declared.ask.Step.TheVariants as steps
use Rattle.ctrl_handlers.specs.Plan.{PlanData}
use Rattle.device_history.specs.Steps.{History, Past}
use Rattle.device_history.specs.Handles.{opening, ever_opened, closes, behind, is_closed, opened, opened_after, handler_of}
use Rattle.device_history.specs.Grabs.{grabbed, grabbed_after}
use Rattle.ctrl_clusters.specs.PresentFlags.{flags_under}
use Rattle.device_history.specs.Flags.{flags_now}
use Rattle.device_history.specs.Values.{defaults, now, values_after}
use Rattle.device_history.proofs.GrabLemmas.{grabbed_start, grabbed_add}
use Rattle.device_history.specs.Legal.{IsLegal, MayFollow}

-- before the first entry
pub opened_start : opened (past []) ≡ []
unfolding opened ever_opened
opened_start = refl

pub now_start : (verdicts : Verdicts) (plan : PlanData) → now verdicts plan (past []) ≡ defaults plan
unfolding now
now_start verdicts plan = refl

pub legal_start : (verdicts : Verdicts) (plan : PlanData) → IsLegal verdicts plan (past [])
unfolding IsLegal
legal_start verdicts plan = tt

-- the present values after one more entry
pub now_more : (verdicts : Verdicts) (plan : PlanData) (e : Entry Step) (older : Past) → now verdicts plan (e ∷ older) ≡ values_after verdicts plan older e.step (now verdicts plan older)
unfolding now
now_more verdicts plan e older = refl

pub now_add : (verdicts : Verdicts) (plan : PlanData) (steps : History) (e : Entry Step) → now verdicts plan (past (steps ++ e ∷ [])) ≡ values_after verdicts plan (past steps) e.step (now verdicts plan (past steps))
unfolding now
now_add verdicts plan steps e = rw (past_add steps e) refl

-- the flags before the first entry, and after one more
pub flags_start : (verdicts : Verdicts) (plan : PlanData) (c : ℕ) → flags_now verdicts plan (past []) c ≡ flags_under plan (defaults plan) (map (λ _. false) plan.controls) c
flags_start verdicts plan c = rw (now_start verdicts plan, grabbed_start plan) refl

pub flags_add : (verdicts : Verdicts) (plan : PlanData) (steps : History) (e : Entry Step) (c : ℕ) → flags_now verdicts plan (past (steps ++ e ∷ [])) c
    ≡ flags_under plan (values_after verdicts plan (past steps) e.step (now verdicts plan (past steps))) (grabbed_after e.step (grabbed plan (past steps))) c
flags_add verdicts plan steps e c = rw (now_add verdicts plan steps e, grabbed_add plan steps e) refl

-- what makes one more entry legal
pub legal_add : (verdicts : Verdicts) (plan : PlanData) (steps : History) (e : Entry Step) → IsLegal verdicts plan (past steps) → MayFollow verdicts plan (past steps) e.step → IsLegal verdicts plan (past (steps ++ e ∷ []))
unfolding IsLegal
legal_add verdicts plan steps e legal may = rw (past_add steps e) (legal, may)

-- the last entry of a legal history may follow the others, which are legal
pub legal_last : (verdicts : Verdicts) (plan : PlanData) (steps : History) (e : Entry Step) → IsLegal verdicts plan (past (steps ++ e ∷ [])) → MayFollow verdicts plan (past steps) e.step
unfolding IsLegal
legal_last verdicts plan steps e legal = (subst (IsLegal verdicts plan) (past_add steps e) legal).1

legal_older : (verdicts : Verdicts) (plan : PlanData) (newer older : Past) → IsLegal verdicts plan (newer ++ older) → IsLegal verdicts plan older
unfolding IsLegal
legal_older verdicts plan [] older legal = legal
legal_older verdicts plan (e ∷ newer) older legal = legal_older verdicts plan newer older legal.0

-- what a legal history begins with is legal
pub legal_front : (verdicts : Verdicts) (plan : PlanData) (steps more : History) → IsLegal verdicts plan (past (steps ++ more)) → IsLegal verdicts plan (past steps)
legal_front verdicts plan steps more legal = legal_older verdicts plan (past more) (past steps) (subst (IsLegal verdicts plan) (reverse-append steps more) legal)

-- no entry has a number from n on as its key
unfoldable pub AreBelow : ℕ → List (ℕ × ℕ) → Type 0
AreBelow n [] = Unit {0}
AreBelow n (o ∷ os) = (o.0 < n) × AreBelow n os

pub below_append : (n : ℕ) (os ps : List (ℕ × ℕ)) → AreBelow n os → AreBelow n ps → AreBelow n (os ++ ps)
unfolding AreBelow
below_append n [] ps h k = k
below_append n (o ∷ os) ps h k = (h.0, below_append n os ps h.1 k)

pub below_more : (n m : ℕ) (os : List (ℕ × ℕ)) → n ≤ m → AreBelow n os → AreBelow m os
unfolding AreBelow
below_more n m [] le h = tt
below_more n m (o ∷ os) le h = (omega (arith, h.0), below_more n m os le h.1)

below_filter : (n : ℕ) (test : ℕ × ℕ → Bool) (os : List (ℕ × ℕ)) → AreBelow n os → AreBelow n (filter test os)
unfolding AreBelow
below_filter n test [] h = tt
below_filter n test (o ∷ os) h = by (test o) (below_filter n test os h.1)
  where
    by : (b : Bool) → AreBelow n (filter test os) → AreBelow n (cond b (o ∷ filter test os) (filter test os))
    by true k = (h.0, k)
    by false k = k

opening_below : (n : ℕ) (step : Step) → AreBelow (suc n) (opening n step)
unfolding AreBelow
opening_below n (steps.OpenFh handler) = (omega arith, tt)
opening_below n _ = tt

-- a file handle's id is the number of a step that was made
ever_below : (past : Past) → AreBelow (length past) (ever_opened past)
unfolding ever_opened AreBelow
ever_below [] = tt
ever_below (e ∷ older) =
    below_append (suc (length older)) (ever_opened older) (opening (length older) e.step)
    (below_more (length older) (suc (length older)) (ever_opened older) (omega arith) (ever_below older)) (opening_below (length older) e.step)

-- one more entry is behind each of the others, with what was behind it
pub behind_more : (test : Step → Bool) (e : Entry Step) (older : Past) (n : ℕ) → n < length older
    → list_any (λ (x : Entry Step). test x.step) (behind n (e ∷ older)) ≡ (test e.step || list_any (λ (x : Entry Step). test x.step) (behind n older))
behind_more test e older n lt =
    let count : length (e ∷ older) - suc n ≡ suc (length older - suc n) = omega (arith, lt) in
    ap (λ (k : ℕ). list_any (λ (x : Entry Step). test x.step) (take k (e ∷ older))) count

-- nothing is behind the last entry
pub behind_last : (test : Step → Bool) (e : Entry Step) (older : Past) → list_any (λ (x : Entry Step). test x.step) (behind (length older) (e ∷ older)) ≡ false
behind_last test e older =
    let count : length (e ∷ older) - suc (length older) ≡ 0 = omega arith in
    ap (λ (k : ℕ). list_any (λ (x : Entry Step). test x.step) (take k (e ∷ older))) count

-- one more entry closes what it names, and what was closed stays so
closed_more : (e : Entry Step) (older : Past) (n : ℕ) → n < length older → is_closed (e ∷ older) n ≡ (closes n e.step || is_closed older n)
closed_more e older n lt = behind_more (closes n) e older n lt

-- the last entry closes nothing that it opens
closed_last : (e : Entry Step) (older : Past) → is_closed (e ∷ older) (length older) ≡ false
closed_last e older = behind_last (closes (length older)) e older

-- tests that agree on keys below n keep the same
pub filter_alike : (n : ℕ) (p q : ℕ × ℕ → Bool) (os : List (ℕ × ℕ)) → ((o : ℕ × ℕ) → o.0 < n → p o ≡ q o) → AreBelow n os → filter p os ≡ filter q os
unfolding AreBelow
filter_alike n p q [] alike h = refl
filter_alike n p q (o ∷ os) alike h = rw (alike o h.0, filter_alike n p q os alike h.1) refl

-- what neither of two tests finds is what the one leaves of what the other does
pub filter_both : (p q : ℕ × ℕ → Bool) (os : List (ℕ × ℕ)) → filter (λ o. not (p o || q o)) os ≡ filter (λ o. not (p o)) (filter (λ o. not (q o)) os)
filter_both p q [] = refl
filter_both p q (o ∷ os) = by (p o) (q o) refl refl (filter_both p q os)
  where
    by : (a b : Bool) → p o ≡ a → q o ≡ b → filter (λ o. not (p o || q o)) os ≡ filter (λ o. not (p o)) (filter (λ o. not (q o)) os)
        → filter (λ o. not (p o || q o)) (o ∷ os) ≡ filter (λ o. not (p o)) (filter (λ o. not (q o)) (o ∷ os))
    by true true f g rest = rw (f, g) rest
    by true false f g rest = rw (g, f) rest
    by false true f g rest = rw (f, g) rest
    by false false f g rest = rw (g, f, rest) refl

-- what one more entry leaves of those that were opened before it
older_kept : (e : Entry Step) (older : Past) (step : Step) → e.step ≡ step
    → filter (λ h. not (is_closed (e ∷ older) h.0)) (ever_opened older) ≡ filter (λ h. not (closes h.0 step || is_closed older h.0)) (ever_opened older)
older_kept e older step is =
    filter_alike (length older) _ _ (ever_opened older)
    (λ o lt. ap not (closed_more e older o.0 lt ∙ ap (λ (s : Step). closes o.0 s || is_closed older o.0) is)) (ever_below older)

-- the file handles after one more entry
pub opened_more : (e : Entry Step) (older : Past) → opened (e ∷ older) ≡ opened_after (length older) e.step (opened older)
unfolding opened ever_opened
opened_more e older = by e.step refl
  where
    by : (step : Step) → e.step ≡ step → filter (λ h. not (is_closed (e ∷ older) h.0)) (ever_opened older ++ opening (length older) step) ≡ opened_after (length older) step (filter (λ h. not (is_closed older h.0)) (ever_opened older))
    by (steps.OpenFh handler) is = filter-append _ (ever_opened older) ((length older, handler) ∷ []) ∙ rw (closed_last e older, older_kept e older _ is) refl
    by (steps.CloseFh fh) is = filter-append _ (ever_opened older) [] ∙ append-nil _ ∙ older_kept e older _ is ∙ filter_both (λ h. nat_eq fh.0 h.0) (λ h. is_closed older h.0) (ever_opened older)
    by _ is = filter-append _ (ever_opened older) [] ∙ append-nil _ ∙ older_kept e older _ is

pub opened_add : (steps : History) (e : Entry Step) → opened (past (steps ++ e ∷ [])) ≡ opened_after (length steps) e.step (opened (past steps))
opened_add steps e = rw (past_add steps e)
    (subst (λ (n : ℕ). opened (e ∷ past steps) ≡ opened_after n e.step (opened (past steps))) (length_past steps) (opened_more e (past steps)))

-- the same of those that are open
pub opened_below : (past : Past) → AreBelow (length past) (opened past)
unfolding opened
opened_below past = below_filter (length past) _ (ever_opened past) (ever_below past)

pub absent : (n m : ℕ) (os : List (ℕ × ℕ)) → n ≤ m → AreBelow n os → lookup (nat_eq m) os ≡ None
unfolding AreBelow
absent n m [] le h = refl
absent n m (o ∷ os) le h =
    let other : nat_eq m o.0 ≡ false = grind (arith, nat_tests, h.0) in rw other (absent n m os le h.1)

-- the number of the next step is no file handle's id yet
pub opened_fresh : (past : Past) → lookup (nat_eq (length past)) (opened past) ≡ None
opened_fresh past = absent (length past) (length past) (opened past) (omega arith) (opened_below past)

-- each entry has a number above n as its key
unfoldable pub AreAbove : ℕ → List (ℕ × ℕ) → Type 0
AreAbove n [] = Unit {0}
AreAbove n (o ∷ os) = (n < o.0) × AreAbove n os

-- the keys rise
unfoldable pub AreRising : List (ℕ × ℕ) → Type 0
AreRising [] = Unit {0}
AreRising (o ∷ os) = AreAbove o.0 os × AreRising os

above_push : (m n handler : ℕ) (os : List (ℕ × ℕ)) → AreAbove m os → m < n → AreAbove m (os ++ (n, handler) ∷ [])
unfolding AreAbove
above_push m n handler [] h lt = (lt, tt)
above_push m n handler (o ∷ os) h lt = (h.0, above_push m n handler os h.1 lt)

rising_push : (n handler : ℕ) (os : List (ℕ × ℕ)) → AreRising os → AreBelow n os → AreRising (os ++ (n, handler) ∷ [])
unfolding AreAbove AreRising AreBelow
rising_push n handler [] h b = (tt, tt)
rising_push n handler (o ∷ os) h b = (above_push o.0 n handler os h.0 b.0, rising_push n handler os h.1 b.1)

above_filter : (n : ℕ) (test : ℕ × ℕ → Bool) (os : List (ℕ × ℕ)) → AreAbove n os → AreAbove n (filter test os)
unfolding AreAbove
above_filter n test [] h = tt
above_filter n test (o ∷ os) h = by (test o) (above_filter n test os h.1)
  where
    by : (b : Bool) → AreAbove n (filter test os) → AreAbove n (cond b (o ∷ filter test os) (filter test os))
    by true k = (h.0, k)
    by false k = k

rising_filter : (test : ℕ × ℕ → Bool) (os : List (ℕ × ℕ)) → AreRising os → AreRising (filter test os)
unfolding AreRising
rising_filter test [] h = tt
rising_filter test (o ∷ os) h = by (test o) (rising_filter test os h.1)
  where
    by : (b : Bool) → AreRising (filter test os) → AreRising (cond b (o ∷ filter test os) (filter test os))
    by true k = (above_filter o.0 test os h.0, k)
    by false k = k

after_rising : (n : ℕ) (step : Step) (os : List (ℕ × ℕ)) → AreRising os → AreBelow n os → AreRising (opened_after n step os)
after_rising n (steps.OpenFh handler) os h b = rising_push n handler os h b
after_rising n (steps.CloseFh fh) os h b = rising_filter _ os h
after_rising n _ os h b = h

-- the ids of the open file handles rise in the order of their opening
pub opened_rising : (past : Past) → AreRising (opened past)
unfolding opened AreRising ever_opened
opened_rising [] = tt
opened_rising (e ∷ older) =
    subst AreRising (sym (opened_more e older)) (after_rising (length older) e.step (opened older) (opened_rising older) (opened_below older))

-- no entry has a key below all of them
all_stay : (k : ℕ) (os : List (ℕ × ℕ)) → AreAbove k os → filter (λ h. not (nat_eq k h.0)) os ≡ os
unfolding AreAbove
all_stay k [] h = refl
all_stay k (o ∷ os) h =
    let other : nat_eq k o.0 ≡ false = grind (arith, nat_tests, h.0) in rw (other, all_stay k os h.1) refl

-- where the keys rise, the first entry with a key is the only one
pub drops_one : (k : ℕ) (os : List (ℕ × ℕ)) → AreRising os → remove_entry (nat_eq k) os ≡ filter (λ h. not (nat_eq k h.0)) os
unfolding AreRising
drops_one k [] h = refl
drops_one k (o ∷ os) h = by (nat_eq k o.0) refl (drops_one k os h.1)
  where
    by : (b : Bool) → nat_eq k o.0 ≡ b → remove_entry (nat_eq k) os ≡ filter (λ h. not (nat_eq k h.0)) os
        → cond b os (o ∷ remove_entry (nat_eq k) os) ≡ cond (not b) (o ∷ filter (λ h. not (nat_eq k h.0)) os) (filter (λ h. not (nat_eq k h.0)) os)
    by true e rest =
        let same : k ≡ o.0 = grind (arith, nat_tests, e) in
        sym (all_stay k os (subst (λ (n : ℕ). AreAbove n os) (sym same) h.0))
    by false e rest = ap (λ (l : List (ℕ × ℕ)). o ∷ l) rest

-- an entry that is dropped isn't there
pub dropped : (k : ℕ) (os : List (ℕ × ℕ)) → lookup (nat_eq k) (filter (λ h. not (nat_eq k h.0)) os) ≡ None
dropped k [] = refl
dropped k (o ∷ os) = by (nat_eq k o.0) refl (dropped k os)
  where
    by : (b : Bool) → nat_eq k o.0 ≡ b → lookup (nat_eq k) (filter (λ h. not (nat_eq k h.0)) os) ≡ None
        → lookup (nat_eq k) (cond (not b) (o ∷ filter (λ h. not (nat_eq k h.0)) os) (filter (λ h. not (nat_eq k h.0)) os)) ≡ None
    by true e rest = rest
    by false e rest = rw e rest

-- a file handle that was closed isn't open
pub closed_gone : (entries : History) (e : Entry Step) (fh : FhId) → e.step ≡ steps.CloseFh fh → handler_of (past (entries ++ e ∷ [])) fh ≡ None
closed_gone entries e fh is = rw (opened_add entries e, is) (dropped fh.0 (opened (past entries)))

-- one that isn't there isn't there without others
still_absent : (k : ℕ) (test : ℕ × ℕ → Bool) (os : List (ℕ × ℕ)) → lookup (nat_eq k) os ≡ None → lookup (nat_eq k) (filter test os) ≡ None
still_absent k test [] h = refl
still_absent k test (o ∷ os) h = by (nat_eq k o.0) refl h (still_absent k test os) (test o)
  where
    by : (b : Bool) → nat_eq k o.0 ≡ b → cond b (Some o.1) (lookup (nat_eq k) os) ≡ None → (lookup (nat_eq k) os ≡ None → lookup (nat_eq k) (filter test os) ≡ None)
        → (t : Bool) → lookup (nat_eq k) (cond t (o ∷ filter test os) (filter test os)) ≡ None
    by true e g rest t = cc
    by false e g rest true = rw e (rest g)
    by false e g rest false = rest g

-- one with another key is added
absent_push : (k n handler : ℕ) (os : List (ℕ × ℕ)) → k < n → lookup (nat_eq k) os ≡ None → lookup (nat_eq k) (os ++ (n, handler) ∷ []) ≡ None
absent_push k n handler [] lt h = let other : nat_eq k n ≡ false = grind (arith, nat_tests, lt) in rw other refl
absent_push k n handler (o ∷ os) lt h = by (nat_eq k o.0) h (absent_push k n handler os lt)
  where
    by : (b : Bool) → cond b (Some o.1) (lookup (nat_eq k) os) ≡ None → (lookup (nat_eq k) os ≡ None → lookup (nat_eq k) (os ++ (n, handler) ∷ []) ≡ None)
        → cond b (Some o.1) (lookup (nat_eq k) (os ++ (n, handler) ∷ [])) ≡ None
    by true g rest = cc
    by false g rest = rest g

after_absent : (n : ℕ) (step : Step) (k : ℕ) (os : List (ℕ × ℕ)) → k < n → lookup (nat_eq k) os ≡ None → lookup (nat_eq k) (opened_after n step os) ≡ None
after_absent n (steps.OpenFh handler) k os lt h = absent_push k n handler os lt h
after_absent n (steps.CloseFh fh) k os lt h = still_absent k _ os h
after_absent n _ k os lt h = h

older_gone : (newer older : Past) (fh : FhId) → fh.0 < length older → handler_of older fh ≡ None → handler_of (newer ++ older) fh ≡ None
older_gone [] older fh lt h = h
older_gone (e ∷ newer) older fh lt h = rw (opened_more e (newer ++ older))
    (after_absent (length (newer ++ older)) e.step fh.0 (opened (newer ++ older)) (omega (arith, lt, length-append newer older)) (older_gone newer older fh lt h))

-- what isn't open by the step that its id numbers isn't opened later
pub gone_for_good : (steps more : History) (fh : FhId) → fh.0 < length steps → handler_of (past steps) fh ≡ None → handler_of (past (steps ++ more)) fh ≡ None
gone_for_good steps more fh lt h =
    rw (reverse-append steps more) (older_gone (past more) (past steps) fh (omega (arith, lt, length_past steps)) h)
