-- The items of a plan stand where its menus take them.
use Rattle.std.proofs.Common.{◌≡◌, ℕ, ◌<◌, ◌&&◌, Bool, true, false, cond, nat_eq, List, [], ◌∷◌, length, None, Some, refl, sym, subst, arith, inl, inr, ◌⊎◌}
use Rattle.std.proofs.lemmas.Bool.Decides.{nat_tests}
use Rattle.std.specs.Map.{lookup}
use Rattle.indexmap.specs.IndexMap.{insert_entry}
use Rattle.menu_items.specs.declared.item.MenuItem.{MenuItem}
use Rattle.menu_items.specs.Places.{takes}
use Rattle.ctrl_handlers.specs.Plan.{PlanData, IsPlan, same_place, control, with_item}

-- places that are the same have the same control and index
same_is : (p q : ℕ × ℕ) → same_place p q ≡ true → (p.0 ≡ q.0) × (p.1 ≡ q.1)
same_is p q is = by (nat_eq p.0 q.0) (nat_eq p.1 q.1) refl refl is
  where
    by : (a b : Bool) → nat_eq p.0 q.0 ≡ a → nat_eq p.1 q.1 ≡ b → (a && b) ≡ true → (p.0 ≡ q.0) × (p.1 ≡ q.1)
    by true true e f h = (grind (arith, nat_tests, e), grind (arith, nat_tests, f))
    by true false e f h = cc
    by false b e f h = cc

-- what is found at a place p once an item is set at another: the item, where the two are the same, or what was found before
abbrev Found : List ((ℕ × ℕ) × MenuItem) → ℕ × ℕ → MenuItem → ℕ × ℕ → MenuItem → Type 0
Found items place item p found = ((found ≡ item) × (p.0 ≡ place.0) × (p.1 ≡ place.1)) ⊎ (lookup (same_place p) items ≡ Some found)

found_after : (items : List ((ℕ × ℕ) × MenuItem)) (place : ℕ × ℕ) (item : MenuItem) (p : ℕ × ℕ) (found : MenuItem)
    → lookup (same_place p) (insert_entry same_place items place item) ≡ Some found → Found items place item p found
found_after [] place item p found is = by (same_place p place) refl is
  where
    by : (b : Bool) → same_place p place ≡ b → cond b (Some item) None ≡ Some found → Found [] place item p found
    by true e h = let same = same_is p place e in inl (cc, same.0, same.1)
    by false e h = cc
found_after (x ∷ xs) place item p found is = by (same_place place x.0) refl is (λ there. found_after xs place item p found there)
  where
    replaced : (b : Bool) → same_place place x.0 ≡ true → same_place p x.0 ≡ b → cond b (Some item) (lookup (same_place p) xs) ≡ Some found → Found (x ∷ xs) place item p found
    replaced true here e h =
        let at = same_is p x.0 e in
        let set = same_is place x.0 here in
        inl (cc, cc, cc)
    replaced false here e h = inr (subst (λ (b : Bool). cond b (Some x.1) (lookup (same_place p) xs) ≡ Some found) (sym e) h)

    behind : (b : Bool) → same_place p x.0 ≡ b → cond b (Some x.1) (lookup (same_place p) (insert_entry same_place xs place item)) ≡ Some found
        → (lookup (same_place p) (insert_entry same_place xs place item) ≡ Some found → Found xs place item p found) → Found (x ∷ xs) place item p found
    behind true e h more = inr (subst (λ (b : Bool). cond b (Some x.1) (lookup (same_place p) xs) ≡ Some found) (sym e) h)
    behind false e h more = last (more h)
      where
        last : Found xs place item p found → Found (x ∷ xs) place item p found
        last (inl new) = inl new
        last (inr old) = inr (subst (λ (b : Bool). cond b (Some x.1) (lookup (same_place p) xs) ≡ Some found) (sym e) old)

    by : (a : Bool) → same_place place x.0 ≡ a → lookup (same_place p) (cond a ((x.0, item) ∷ xs) (x ∷ insert_entry same_place xs place item)) ≡ Some found
        → (lookup (same_place p) (insert_entry same_place xs place item) ≡ Some found → Found xs place item p found) → Found (x ∷ xs) place item p found
    by true here h more = replaced (same_place p x.0) here refl h
    by false other h more = behind (same_place p x.0) refl h more

-- an item that its control takes
pub is_plan_item : (plan : PlanData) (c index : ℕ) (item : MenuItem) → IsPlan plan → c < length plan.controls → takes item (control plan c) index ≡ true → IsPlan (with_item plan c index item)
is_plan_item plan c index item is within taken = record {
  few_controls = is.few_controls;
  few_handlers = is.few_handlers;
  well_formed = is.well_formed;
  items_known = λ d i found there. known d i found (found_after plan.items (c, index) item (d, i) found there);
  items_taken = λ d i found there. takes_it d i found (found_after plan.items (c, index) item (d, i) found there);
  some_members = is.some_members;
  few_members = is.few_members;
  members_known = is.members_known;
  members_differ = is.members_differ;
  members_apart = is.members_apart;
  lone_arrays = is.lone_arrays;
  own_known = is.own_known;
  own_differ = is.own_differ;
  added_before = is.added_before;
  follow = is.follow;
}
  where
    known : (d i : ℕ) (found : MenuItem) → Found plan.items (c, index) item (d, i) found → d < length plan.controls
    known d i found (inl new) = subst (λ (n : ℕ). n < length plan.controls) (sym new.1) within
    known d i found (inr old) = is.items_known d i found old

    takes_it : (d i : ℕ) (found : MenuItem) → Found plan.items (c, index) item (d, i) found → takes found (control plan d) i ≡ true
    takes_it d i found (inl new) = rw (new.0, new.1, new.2) taken
    takes_it d i found (inr old) = is.items_taken d i found old
