-- What a handler shows.
use Rattle.std.proofs.Common.{◌≡◌, ℕ, zero, suc, ◌<◌, ◌≤◌, ◌+◌, Bool, true, false, cond, nat_eq, Some, is_some, List, [], ◌∷◌, ◌++◌, length, get_or, refl, ap, ◌∙◌, arith, inl, inr, ◌⊎◌}
use Rattle.std.specs.List.{All, fold, list_any}
use Rattle.std.proofs.lemmas.Bool.{cases_lt}
use Rattle.std.proofs.lemmas.List.{get_or_append_left, get_or_at, get_or_past, length_push}
use Rattle.std.proofs.lemmas.List.Elements.{All-push, All-nil, All-head, All-tail, All-get_or}
use Rattle.ctrl_types.specs.declared.ids.CtrlId.{CtrlId}
use Rattle.ctrl_settle.specs.Control.{Control}
use Rattle.ctrl_handlers.specs.HandlerData.{HandlerData}
use Rattle.ctrl_handlers.specs.Plan.{PlanData, IsPlan, control, control_in, own, added, no_handler, ids_of, names_twice}
use Rattle.ctrl_handlers.specs.Visible.{first_with_id, is_left_out, brought, all_brought, shown_over, shown_below, visible, find}
use Rattle.ctrl_handlers.proofs.ClusterLemmas.{or_false_right}
use Rattle.ctrl_handlers.proofs.IdLemmas.{ids_push, only_with_id}

-- the number of a control that is there
abbrev pub Known : List Control → ℕ → Type 0
Known controls c = c < length controls

-- one more control is a known one
pub brought_known : (controls : List Control) (shown : List ℕ) (c : ℕ) → All (Known controls) shown → Known controls c → All (Known controls) (brought controls shown c)
brought_known controls shown c all known = by (is_left_out controls shown c)
  where
    by : (b : Bool) → All (Known controls) (cond b shown (shown ++ c ∷ []))
    by true = all
    by false = All-push (Known controls) shown c all known

-- and so are all of an added handler's
pub all_brought_known : (controls : List Control) (shown numbers : List ℕ) → All (Known controls) shown → All (Known controls) numbers → All (Known controls) (all_brought controls shown numbers)
all_brought_known controls shown [] all known = all
all_brought_known controls shown (c ∷ cs) all known =
    all_brought_known controls (brought controls shown c) cs
    (brought_known controls shown c all (All-head (Known controls) c cs known)) (All-tail (Known controls) c cs known)

-- what a list of lists of known controls has at a place
pub list_known : (controls : List Control) (below : List (List ℕ)) (a : ℕ) → All (λ list. All (Known controls) list) below → All (Known controls) (get_or below a [])
list_known controls below a all = by (cases_lt a (length below))
  where
    by : (a < length below) ⊎ (length below ≤ a) → All (Known controls) (get_or below a [])
    by (inl within) = All-get_or (λ list. All (Known controls) list) below a [] within all
    by (inr past) = rw (get_or_past below a [] past) (All-nil (Known controls))

-- what the added handlers bring is known
pub added_known : (controls : List Control) (below : List (List ℕ)) (shown numbers : List ℕ) → All (λ list. All (Known controls) list) below → All (Known controls) shown
    → All (Known controls) (fold (λ so_far a. all_brought controls so_far (get_or below a [])) shown numbers)
added_known controls below shown [] all known = known
added_known controls below shown (a ∷ more) all known =
    added_known controls below (all_brought controls shown (get_or below a [])) more all
    (all_brought_known controls shown (get_or below a []) known (list_known controls below a all))

-- all that the handlers below a number show is known
pub below_known : (plan : PlanData) (n : ℕ) → IsPlan plan → All (λ list. All (Known plan.controls) list) (shown_below plan n)
unfolding shown_below
below_known plan zero is = All-nil (λ list. All (Known plan.controls) list)
below_known plan (suc n) is =
    All-push (λ list. All (Known plan.controls) list) (shown_below plan n) (shown_over plan (shown_below plan n) n) (below_known plan n is)
    (added_known plan.controls (shown_below plan n) (own plan n) (added plan n) (below_known plan n is) (is.own_known n))

-- what a handler shows is known
pub visible_known : (plan : PlanData) (h : ℕ) → IsPlan plan → All (Known plan.controls) (visible plan h)
visible_known plan h is =
    added_known plan.controls (shown_below plan h) (own plan h) (added plan h) (below_known plan h is) (is.own_known h)

-- one list for each handler below the number
pub length-shown_below : (plan : PlanData) (n : ℕ) → length (shown_below plan n) ≡ n
unfolding shown_below
length-shown_below plan zero = refl
length-shown_below plan (suc n) = omega (arith, length_push (shown_below plan n) (shown_over plan (shown_below plan n) n), length-shown_below plan n)

-- each of them is what its handler shows
pub shown_at : (plan : PlanData) (n h : ℕ) → h < n → get_or (shown_below plan n) h [] ≡ visible plan h
unfolding shown_below
shown_at plan zero h within = absurd (omega (arith, within))
shown_at plan (suc n) h within = by (λ before. shown_at plan n h before) (cases_lt h n)
  where
    by : (h < n → get_or (shown_below plan n) h [] ≡ visible plan h) → (h < n) ⊎ (n ≤ h) → get_or (shown_below plan n ++ shown_over plan (shown_below plan n) n ∷ []) h [] ≡ visible plan h
    by ih (inl before) =
        get_or_append_left (shown_below plan n) (shown_over plan (shown_below plan n) n ∷ []) [] h (omega (arith, before, length-shown_below plan n))
        ∙ ih before
    by ih (inr last) =
        let same : n ≡ h = omega (arith, last, within) in
        get_or_at (shown_below plan n) (shown_over plan (shown_below plan n) n) [] [] h (omega (arith, length-shown_below plan n, same))
        ∙ ap (visible plan) same

-- one more handler's list
pub shown_more : (plan : PlanData) (n : ℕ) → shown_below plan (n + 1) ≡ shown_below plan n ++ shown_over plan (shown_below plan n) n ∷ []
unfolding shown_below
shown_more plan n = rw (plus_one n) refl
  where
    plus_one : (n : ℕ) → n + 1 ≡ suc n
    plus_one n = omega arith

-- no list at first
pub shown_none : (plan : PlanData) → shown_below plan 0 ≡ []
unfolding shown_below
shown_none plan = refl

-- a handler that isn't there shows nothing
pub visible_past : (plan : PlanData) (h : ℕ) → length plan.handlers ≤ h → visible plan h ≡ []
visible_past plan h past =
    ap (λ (handler : HandlerData). fold (λ shown a. all_brought plan.controls shown (get_or (shown_below plan h) a [])) handler.own handler.added)
    (get_or_past plan.handlers h no_handler past)

-- two folds are the same where their steps are, at each item
fold_same : {A B : Type 0} (f g : B → A → B) (P : A → Type 0) → ((b : B) (x : A) → P x → f b x ≡ g b x) → (b : B) (xs : List A) → All P xs → fold f b xs ≡ fold g b xs
fold_same f g P same b [] all = refl
fold_same f g P same b (x ∷ xs) all =
    ap (λ s. fold f s xs) (same b x (All-head P x xs all)) ∙ fold_same f g P same (g b x) xs (All-tail P x xs all)

-- a handler shows its own controls and then what those that it adds show
pub visible_is : (plan : PlanData) (h : ℕ) → IsPlan plan → visible plan h ≡ fold (λ shown a. all_brought plan.controls shown (visible plan a)) (own plan h) (added plan h)
visible_is plan h is =
    fold_same (λ shown a. all_brought plan.controls shown (get_or (shown_below plan h) a [])) (λ shown a. all_brought plan.controls shown (visible plan a)) (λ a. a < h)
    (λ shown a before. ap (all_brought plan.controls shown) (shown_at plan h a before)) (own plan h) (added plan h) (is.added_before h)

-- one more control that isn't left out has an id that isn't shown yet
brought_differ : (controls : List Control) (shown : List ℕ) (c : ℕ) → names_twice (ids_of controls shown) ≡ false → names_twice (ids_of controls (brought controls shown c)) ≡ false
brought_differ controls shown c differ = by (is_left_out controls shown c) refl
  where
    by : (b : Bool) → is_left_out controls shown c ≡ b → names_twice (ids_of controls (cond b shown (shown ++ c ∷ []))) ≡ false
    by true e = differ
    by false e = ids_push controls shown c differ (or_false_right (control_in controls c).is_private (is_some (first_with_id controls shown (control_in controls c).id)) e)

all_brought_differ : (controls : List Control) (shown numbers : List ℕ) → names_twice (ids_of controls shown) ≡ false → names_twice (ids_of controls (all_brought controls shown numbers)) ≡ false
all_brought_differ controls shown [] differ = differ
all_brought_differ controls shown (c ∷ cs) differ = all_brought_differ controls (brought controls shown c) cs (brought_differ controls shown c differ)

added_differ : (controls : List Control) (below : List (List ℕ)) (shown numbers : List ℕ) → names_twice (ids_of controls shown) ≡ false
    → names_twice (ids_of controls (fold (λ so_far a. all_brought controls so_far (get_or below a [])) shown numbers)) ≡ false
added_differ controls below shown [] differ = differ
added_differ controls below shown (a ∷ more) differ =
    added_differ controls below (all_brought controls shown (get_or below a [])) more (all_brought_differ controls shown (get_or below a []) differ)

-- the ids of what a handler shows differ
pub visible_differ : (plan : PlanData) (h : ℕ) → IsPlan plan → names_twice (ids_of plan.controls (visible plan h)) ≡ false
visible_differ plan h is = added_differ plan.controls (shown_below plan h) (own plan h) (added plan h) (is.own_differ h)

-- so what is found is the only one of its id
pub found_only : (plan : PlanData) (h c d : ℕ) (id : CtrlId) → IsPlan plan → find plan h id ≡ Some c → list_any (nat_eq d) (visible plan h) ≡ true → (control plan d).id ≡ id → d ≡ c
found_only plan h c d id is found among has =
    only_with_id plan.controls (visible plan h) id c d (visible_differ plan h is) found among (ap (λ (i : CtrlId). i.0) has)
