-- The ids of some controls: when none of them stands twice.
use Rattle.std.proofs.Common.{◌≡◌, ℕ, ◌<◌, ◌||◌, Bool, true, false, cond, nat_eq, List, [], ◌∷◌, ◌++◌, length, Some, is_some, refl, sym, ap, ◌∙◌, subst, arith}
use Rattle.std.specs.List.{All, list_any}
use Rattle.std.proofs.lemmas.Bool.Decides.{nat_tests}
use Rattle.std.proofs.lemmas.List.{get_or_append_left, get_or_at, map_push}
use Rattle.std.proofs.lemmas.List.Elements.{All-head, All-tail}
use Rattle.std.proofs.lemmas.List.Folds.{list_any-append}
use Rattle.ctrl_types.specs.declared.ids.CtrlId.{CtrlId}
use Rattle.ctrl_settle.specs.Control.{Control}
use Rattle.ctrl_handlers.specs.Plan.{no_control, control_in, ids_of, names_twice}
use Rattle.ctrl_handlers.specs.Visible.{first_with_id}
use Rattle.ctrl_handlers.proofs.ClusterLemmas.{or_false, or_false_right}

-- the tests of two numbers for equality are the same either way round
pub not_equal : (x y : ℕ) → nat_eq x y ≡ false → nat_eq y x ≡ false
not_equal x y h = grind (arith, nat_tests, h)

-- one more number that isn't there yet
pub push_differ : (xs : List ℕ) (x : ℕ) → names_twice xs ≡ false → list_any (nat_eq x) xs ≡ false → names_twice (xs ++ x ∷ []) ≡ false
push_differ [] x differ new = refl
push_differ (y ∷ ys) x differ new =
    let other : nat_eq y x ≡ false = not_equal x y (or_false (nat_eq x y) (list_any (nat_eq x) ys) new) in
    let first : list_any (nat_eq y) ys ≡ false = or_false (list_any (nat_eq y) ys) (names_twice ys) differ in
    let rest = push_differ ys x (or_false_right (list_any (nat_eq y) ys) (names_twice ys) differ) (or_false_right (nat_eq x y) (list_any (nat_eq x) ys) new) in
    rw (list_any-append (nat_eq y) ys (x ∷ []), first, other, rest) refl

-- where no control has an id, it isn't among the ids
pub no_id : (controls : List Control) (numbers : List ℕ) (id : CtrlId) → is_some (first_with_id controls numbers id) ≡ false → list_any (nat_eq id.0) (ids_of controls numbers) ≡ false
no_id controls [] id none = refl
no_id controls (c ∷ cs) id none = by (nat_eq (control_in controls c).id.0 id.0) refl none (λ h. no_id controls cs id h)
  where
    by : (b : Bool) → nat_eq (control_in controls c).id.0 id.0 ≡ b → is_some (cond b (Some c) (first_with_id controls cs id)) ≡ false
        → (is_some (first_with_id controls cs id) ≡ false → list_any (nat_eq id.0) (ids_of controls cs) ≡ false)
        → (nat_eq id.0 (control_in controls c).id.0 || list_any (nat_eq id.0) (ids_of controls cs)) ≡ false
    by true e h rest = cc
    by false e h rest = rw (not_equal (control_in controls c).id.0 id.0 e, rest h) refl

-- one more control of an id that isn't there yet
pub ids_push : (controls : List Control) (numbers : List ℕ) (c : ℕ) → names_twice (ids_of controls numbers) ≡ false → is_some (first_with_id controls numbers (control_in controls c).id) ≡ false
    → names_twice (ids_of controls (numbers ++ c ∷ [])) ≡ false
ids_push controls numbers c differ new =
    ap names_twice (map_push (λ (n : ℕ). (control_in controls n).id.0) numbers c)
    ∙ push_differ (ids_of controls numbers) (control_in controls c).id.0 differ (no_id controls numbers (control_in controls c).id new)

-- controls that are there keep their ids once there is one more
pub ids_stay : (controls : List Control) (ctrl : Control) (numbers : List ℕ) → All (λ c. c < length controls) numbers → ids_of (controls ++ ctrl ∷ []) numbers ≡ ids_of controls numbers
ids_stay controls ctrl [] known = refl
ids_stay controls ctrl (c ∷ cs) known =
    rw (get_or_append_left controls (ctrl ∷ []) no_control c (All-head (λ c. c < length controls) c cs known), ids_stay controls ctrl cs (All-tail (λ c. c < length controls) c cs known)) refl

-- and so do the ids differ once a new control of another id is the last
pub ids_more : (controls : List Control) (ctrl : Control) (numbers : List ℕ) → All (λ c. c < length controls) numbers → names_twice (ids_of controls numbers) ≡ false
    → is_some (first_with_id controls numbers ctrl.id) ≡ false → names_twice (ids_of (controls ++ ctrl ∷ []) (numbers ++ length controls ∷ [])) ≡ false
ids_more controls ctrl numbers known differ new =
    let all = controls ++ ctrl ∷ [] in
    let own : (control_in all (length controls)).id.0 ≡ ctrl.id.0 = ap (λ (x : Control). x.id.0) (get_or_at controls ctrl [] no_control (length controls) refl) in
    ap names_twice (map_push (λ (n : ℕ). (control_in all n).id.0) numbers (length controls))
    ∙ ap (λ (ids : List ℕ). names_twice (ids ++ (control_in all (length controls)).id.0 ∷ [])) (ids_stay controls ctrl numbers known)
    ∙ ap (λ (n : ℕ). names_twice (ids_of controls numbers ++ n ∷ [])) own
    ∙ push_differ (ids_of controls numbers) ctrl.id.0 differ (no_id controls numbers ctrl.id new)

-- a control that is among some has its id among theirs
id_among : (controls : List Control) (numbers : List ℕ) (d : ℕ) → list_any (nat_eq d) numbers ≡ true → list_any (nat_eq (control_in controls d).id.0) (ids_of controls numbers) ≡ true
id_among controls [] d among = cc
id_among controls (c ∷ cs) d among = by (nat_eq d c) (nat_eq (control_in controls d).id.0 (control_in controls c).id.0) refl refl among (λ h. id_among controls cs d h)
  where
    by : (b s : Bool) → nat_eq d c ≡ b → nat_eq (control_in controls d).id.0 (control_in controls c).id.0 ≡ s → (b || list_any (nat_eq d) cs) ≡ true
        → (list_any (nat_eq d) cs ≡ true → list_any (nat_eq (control_in controls d).id.0) (ids_of controls cs) ≡ true)
        → (s || list_any (nat_eq (control_in controls d).id.0) (ids_of controls cs)) ≡ true
    by b true e f h rest = refl
    by true false e f h rest =
        let same : d ≡ c = grind (arith, nat_tests, e) in
        let ids : (control_in controls d).id.0 ≡ (control_in controls c).id.0 = ap (λ (n : ℕ). (control_in controls n).id.0) same in
        let bad : nat_eq (control_in controls d).id.0 (control_in controls c).id.0 ≡ true = grind (arith, nat_tests, ids) in cc
    by false false e f h rest = rest h

-- where the ids differ, the first control of an id is the only one
pub only_with_id : (controls : List Control) (numbers : List ℕ) (id : CtrlId) (c d : ℕ) → names_twice (ids_of controls numbers) ≡ false → first_with_id controls numbers id ≡ Some c
    → list_any (nat_eq d) numbers ≡ true → (control_in controls d).id.0 ≡ id.0 → d ≡ c
only_with_id controls [] id c d differ first among has = cc
only_with_id controls (x ∷ xs) id c d differ first among has = by (nat_eq (control_in controls x).id.0 id.0) (nat_eq d x) refl refl first among (λ f a. only_with_id controls xs id c d rest f a has)
  where
    rest : names_twice (ids_of controls xs) ≡ false
    rest = or_false_right (list_any (nat_eq (control_in controls x).id.0) (ids_of controls xs)) (names_twice (ids_of controls xs)) differ

    by : (b t : Bool) → nat_eq (control_in controls x).id.0 id.0 ≡ b → nat_eq d x ≡ t → cond b (Some x) (first_with_id controls xs id) ≡ Some c
        → (t || list_any (nat_eq d) xs) ≡ true → (first_with_id controls xs id ≡ Some c → list_any (nat_eq d) xs ≡ true → d ≡ c) → d ≡ c
    by true true e f first among ih =
        let is : x ≡ c = cc in
        let same : d ≡ x = grind (arith, nat_tests, f) in same ∙ is
    by true false e f first among ih =
        let twice = id_among controls xs d among in
        let ids : (control_in controls d).id.0 ≡ (control_in controls x).id.0 = has ∙ sym (equal (control_in controls x).id.0 id.0 e) in
        let there : list_any (nat_eq (control_in controls x).id.0) (ids_of controls xs) ≡ true = subst (λ (n : ℕ). list_any (nat_eq n) (ids_of controls xs) ≡ true) ids twice in
        let none : list_any (nat_eq (control_in controls x).id.0) (ids_of controls xs) ≡ false = or_false (list_any (nat_eq (control_in controls x).id.0) (ids_of controls xs)) (names_twice (ids_of controls xs)) differ in cc
      where
        equal : (m n : ℕ) → nat_eq m n ≡ true → m ≡ n
        equal m n h = grind (arith, nat_tests, h)
    by false true e f first among ih =
        let same : d ≡ x = grind (arith, nat_tests, f) in
        let ids : (control_in controls x).id.0 ≡ id.0 = ap (λ (n : ℕ). (control_in controls n).id.0) (sym same) ∙ has in
        let bad : nat_eq (control_in controls x).id.0 id.0 ≡ true = grind (arith, nat_tests, ids) in cc
    by false false e f first among ih = ih first among
