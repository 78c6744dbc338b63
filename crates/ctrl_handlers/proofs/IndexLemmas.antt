-- An index of what a handler shows: what is found in it, and which id is next.
use Rattle.std.proofs.Common.{◌≡◌, ℕ, ◌<◌, ◌≤◌, ◌||◌, Bool, true, false, cond, nat_eq, List, [], ◌∷◌, length, get_or, map, take, Option, None, Some, is_some, MatchOption, IfSome, Result, Ok, Err, IfOk, refl, sym, ap, ◌∙◌, subst, arith}
use Rattle.std.specs.declared.alloc.AllocError.{AllocError}
use Rattle.std.proofs.lemmas.List.{get_or_default, take_all}
use Rattle.std.specs.List.{All, list_any}
use Rattle.std.specs.Option.{option_map}
use Rattle.std.proofs.lemmas.Bool.Decides.{nat_tests}
use Rattle.std.proofs.lemmas.List.Elements.{All-head, All-tail}
use Rattle.ctrl_types.specs.declared.ids.CtrlId.{CtrlId}
use Rattle.ctrl_settle.specs.Control.{Control}
use Rattle.id_index.specs.Entries.{number_of, has_id, IsNext, IsPastAll}
use Rattle.ctrl_handlers.specs.Plan.{PlanData, IsPlan, control_in, ids_of}
use Rattle.ctrl_handlers.specs.Visible.{first_with_id, least_above, shown_below, visible, find, IsIndexOf, AreIndexed}
use Rattle.ctrl_handlers.proofs.LeastLemmas.{least_is, none_is}
use Rattle.ctrl_handlers.proofs.ShownLemmas.{Known, length-shown_below, shown_at, visible_past, visible_known}

-- the entry of a control
abbrev pub entry : List Control → ℕ → ℕ × ℕ
entry controls c = ((control_in controls c).id.0, c)

-- the tests of two numbers for equality are the same either way round
either_way : (m n : ℕ) → nat_eq m n ≡ nat_eq n m
either_way m n = by (nat_eq m n) (nat_eq n m) refl refl
  where
    by : (a b : Bool) → nat_eq m n ≡ a → nat_eq n m ≡ b → a ≡ b
    by true true e f = refl
    by false false e f = refl
    by true false e f = let bad : nat_eq n m ≡ true = grind (arith, nat_tests, e) in cc
    by false true e f = let bad : nat_eq m n ≡ true = grind (arith, nat_tests, f) in cc

-- the entries of some controls have under each id the first that has it
pub entries_index : (controls : List Control) (numbers : List ℕ) → IsIndexOf controls numbers (map (entry controls) numbers)
entries_index controls [] = λ id. refl
entries_index controls (c ∷ cs) = λ id. by id (nat_eq id (control_in controls c).id.0) (nat_eq (control_in controls c).id.0 id) (either_way id (control_in controls c).id.0) (entries_index controls cs id)
  where
    by : (id : ℕ) (a b : Bool) → a ≡ b → number_of (map (entry controls) cs) id ≡ first_with_id controls cs (record { 0 = id })
        → cond a (Some c) (number_of (map (entry controls) cs) id) ≡ cond b (Some c) (first_with_id controls cs (record { 0 = id }))
    by id true true e h = refl
    by id false false e h = h
    by id true false e h = cc
    by id false true e h = cc

-- a control that is found is a known one
pub found_known : (controls : List Control) (numbers : List ℕ) (id : CtrlId) (c : ℕ) → All (Known controls) numbers → first_with_id controls numbers id ≡ Some c → c < length controls
found_known controls [] id c all is = cc
found_known controls (x ∷ xs) id c all is = by (nat_eq (control_in controls x).id.0 id.0) is (λ h. found_known controls xs id c (All-tail (Known controls) x xs all) h)
  where
    by : (b : Bool) → cond b (Some x) (first_with_id controls xs id) ≡ Some c → (first_with_id controls xs id ≡ Some c → c < length controls) → c < length controls
    by true h rest = let same : x ≡ c = cc in subst (Known controls) same (All-head (Known controls) x xs all)
    by false h rest = rest h

-- a control of an id is found exactly where the id is among the ids
id_there : (controls : List Control) (numbers : List ℕ) (id : ℕ) → is_some (first_with_id controls numbers (record { 0 = id })) ≡ list_any (nat_eq id) (ids_of controls numbers)
id_there controls [] id = refl
id_there controls (c ∷ cs) id = by (nat_eq (control_in controls c).id.0 id) (nat_eq id (control_in controls c).id.0) (either_way (control_in controls c).id.0 id) (id_there controls cs id)
  where
    by : (a b : Bool) → a ≡ b → is_some (first_with_id controls cs (record { 0 = id })) ≡ list_any (nat_eq id) (ids_of controls cs)
        → is_some (cond a (Some c) (first_with_id controls cs (record { 0 = id }))) ≡ (b || list_any (nat_eq id) (ids_of controls cs))
    by true true e h = refl
    by false false e h = h
    by true false e h = cc
    by false true e h = cc

-- the index has the ids of the controls
ids_there : (controls : List Control) (numbers : List ℕ) (entries : List (ℕ × ℕ)) (id : ℕ) → IsIndexOf controls numbers entries → has_id entries id ≡ list_any (nat_eq id) (ids_of controls numbers)
ids_there controls numbers entries id index = ap is_some (index id) ∙ id_there controls numbers id

-- so the next id in it is the least of theirs that lies above
pub next_found : (controls : List Control) (numbers : List ℕ) (entries : List (ℕ × ℕ)) (id : ℕ) (r : Option ℕ) → IsIndexOf controls numbers entries
    → MatchOption r (IsPastAll entries id) (IsNext entries id) → r ≡ least_above id (ids_of controls numbers)
next_found controls numbers entries id r index says = by r (least_above id (ids_of controls numbers)) says refl
  where
    by : (r o : Option ℕ) → MatchOption r (IsPastAll entries id) (IsNext entries id) → least_above id (ids_of controls numbers) ≡ o → r ≡ o
    by None None past is = refl
    by None (Some least) past is =
        let all = least_is id least (ids_of controls numbers) is in
        let below : least ≤ id = past least (ids_there controls numbers entries least index ∙ all.0) in
        absurd (omega (arith, below, all.1))
    by (Some next) None found is =
        let below : next ≤ id = none_is id next (ids_of controls numbers) is (sym (ids_there controls numbers entries next index) ∙ found.0) in
        absurd (omega (arith, below, found.1))
    by (Some next) (Some least) found is =
        let all = least_is id least (ids_of controls numbers) is in
        let no_more : least ≤ next = all.2 next (sym (ids_there controls numbers entries next index) ∙ found.0) found.1 in
        let no_less : next ≤ least = found.2 least (ids_there controls numbers entries least index ∙ all.0) all.1 in
        let same : next ≡ least = omega (arith, no_more, no_less) in
        ap (λ (n : ℕ). Some n) same

-- an index is one of some controls where it was made of their entries
pub index_made : (controls : List Control) (numbers : List ℕ) (entries : List (ℕ × ℕ)) (n : ℕ) (r : Result (List (ℕ × ℕ)) AllocError) → entries ≡ map (entry controls) (take n numbers) → length numbers ≤ n
    → IfOk r (λ index. (id : ℕ) → number_of index id ≡ number_of entries id) → IfOk r (IsIndexOf controls numbers)
index_made controls numbers entries n (Ok index) are all made =
    λ id. made id ∙ ap (λ (es : List (ℕ × ℕ)). number_of es id) (are ∙ ap (map (entry controls)) (take_all n numbers all)) ∙ entries_index controls numbers id
index_made controls numbers entries n (Err e) are all made = tt

-- an index at the number of each handler
abbrev HasIndexes : PlanData → List (List ℕ) → List (List (ℕ × ℕ)) → Type 0
HasIndexes plan lists indexes = (lists ≡ shown_below plan (length plan.handlers)) × AreIndexed plan.controls lists indexes

as_many : (plan : PlanData) (lists : List (List ℕ)) (indexes : List (List (ℕ × ℕ))) → HasIndexes plan lists indexes → length indexes ≡ length plan.handlers
as_many plan lists indexes has = has.1.0 ∙ ap length has.0 ∙ length-shown_below plan (length plan.handlers)

-- the index at a handler's number is one of what it shows
pub index_at : (plan : PlanData) (lists : List (List ℕ)) (indexes : List (List (ℕ × ℕ))) (h : ℕ) (index : List (ℕ × ℕ)) → lists ≡ shown_below plan (length plan.handlers) → AreIndexed plan.controls lists indexes
    → h < length indexes → index ≡ get_or indexes h index → IsIndexOf plan.controls (visible plan h) index
index_at plan lists indexes h index shown are within at =
    let there : h < length plan.handlers = omega (arith, within, as_many plan lists indexes (shown, are)) in
    let list : get_or lists h [] ≡ visible plan h = ap (λ (ls : List (List ℕ)). get_or ls h []) shown ∙ shown_at plan (length plan.handlers) h there in
    let same : get_or indexes h [] ≡ index = sym (at ∙ get_or_default indexes h index [] within) in
    subst (IsIndexOf plan.controls (visible plan h)) same
    (subst (λ (ns : List ℕ). IsIndexOf plan.controls ns (get_or indexes h [])) list (are.1 h (omega (arith, within, are.0))))

-- where there is none the handler isn't there and shows nothing
pub no_index : (plan : PlanData) (lists : List (List ℕ)) (indexes : List (List (ℕ × ℕ))) (h : ℕ) → lists ≡ shown_below plan (length plan.handlers) → AreIndexed plan.controls lists indexes
    → length indexes ≤ h → visible plan h ≡ []
no_index plan lists indexes h shown are past = visible_past plan h (omega (arith, past, as_many plan lists indexes (shown, are)))

-- a control that a handler shows is there
pub shown_known : (plan : PlanData) (h : ℕ) (id : CtrlId) (r : Option ℕ) → IsPlan plan → r ≡ find plan h id → IfSome r (λ c. c < length plan.controls)
shown_known plan h id None is found = tt
shown_known plan h id (Some c) is found = found_known plan.controls (visible plan h) id c (visible_known plan h is) (sym found)

-- an id that there may be, by its number
abbrev pub as_id : Option ℕ → Option CtrlId
as_id number = option_map (λ n. record { 0 = n }) number
