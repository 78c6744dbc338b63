-- The entries of a list, read one after another.
use Rattle.std.proofs.Common.{◌≡◌, ◌≢◌, ℕ, ◌+◌, ◌<◌, zero, suc, List, [], ◌∷◌, ◌++◌, Option, None, Some, refl, length, get_or, arith, ap, map, take, Bor, add-one}
use Rattle.ctrl_types.specs.declared.ids.ExtControl.{ExtControl}
use Rattle.script_lines.specs.ControlWords.{ControlWord}
use Rattle.script_lines.specs.Commands.{entry_of, list_of, onto, handle_and_control, menu_of, subscribe_of}
use Rattle.script_lines.specs.declared.parse.EntryForm.{EntryForm}

onto-push : (x : Option ExtControl) (es fs : Option (List ExtControl)) (all : List ExtControl) (e : ExtControl)
    → ((part : List ExtControl) → es ≡ Some part → fs ≡ Some (part ++ e ∷ [])) → onto x es ≡ Some all → onto x fs ≡ Some (all ++ e ∷ [])
onto-push (Some x) (Some es) fs all e step h =
    let more = step es refl in
    let is : x ∷ es ≡ all = cc in
    rw (more, ← is) refl
onto-push (Some x) None fs all e step h = cc
onto-push None es fs all e step h = cc

-- one more word that writes an entry
pub list_of-push : (known : List ControlWord) (form : EntryForm) (ws : List (List ℕ)) (w : List ℕ) (es : List ExtControl) (e : ExtControl)
    → list_of known form ws ≡ Some es → entry_of known form w ≡ Some e → list_of known form (ws ++ w ∷ []) ≡ Some (es ++ e ∷ [])
list_of-push known form [] w es e h k = let none : [] ≡ es = cc in rw (k, ← none) refl
list_of-push known form (x ∷ ws) w es e h k =
    onto-push (entry_of known form x) (list_of known form ws) (list_of known form (ws ++ w ∷ [])) es e (λ part is. list_of-push known form ws w part e is k) h

onto-none : (x : Option ExtControl) (es : Option (List ExtControl)) → es ≡ None → onto x es ≡ None
onto-none (Some x) es h = rw h refl
onto-none None es h = refl

-- a word that writes none
pub list_of-none : (known : List ControlWord) (form : EntryForm) (ws : List (List ℕ)) (i : ℕ) (d : List ℕ) → i < length ws → entry_of known form (get_or ws i d) ≡ None → list_of known form ws ≡ None
list_of-none known form [] i d h k = absurd (omega arith)
list_of-none known form (x ∷ ws) zero d h k = rw k refl
list_of-none known form (x ∷ ws) (suc i) d h k = onto-none (entry_of known form x) (list_of known form ws) (list_of-none known form ws i d (omega arith) k)

-- the same of a slice of words
pub none_at : (known : List ControlWord) (form : EntryForm) (ws : List (Bor (List ℕ))) (i : ℕ) (d : Bor (List ℕ)) (r : Option ExtControl)
    → i < length ws → r ≡ entry_of known form (get_or ws i d).now → r ≡ None → list_of known form (map (λ w. w.now) ws) ≡ None
none_at known form [] i d r h is none = absurd (omega arith)
none_at known form (w ∷ ws) zero d r h is none = let k : entry_of known form w.now ≡ None = cc in rw k refl
none_at known form (w ∷ ws) (suc i) d r h is none =
    onto-none (entry_of known form w.now) (list_of known form (map (λ v. v.now) ws)) (none_at known form ws i d r (omega arith) is none)

take_one_more : (ws : List (Bor (List ℕ))) (i : ℕ) (d : Bor (List ℕ)) → i < length ws
    → take (suc i) (map (λ w. w.now) ws) ≡ take i (map (λ w. w.now) ws) ++ (get_or ws i d).now ∷ []
take_one_more [] i d h = absurd (omega arith)
take_one_more (w ∷ ws) zero d h = refl
take_one_more (w ∷ ws) (suc i) d h = ap (λ (vs : List (List ℕ)). w.now ∷ vs) (take_one_more ws i d (omega arith))

pub push_at : (known : List ControlWord) (form : EntryForm) (ws : List (Bor (List ℕ))) (i : ℕ) (d : Bor (List ℕ)) (r : Option ExtControl) (es : List ExtControl) (e : ExtControl)
    → i < length ws → list_of known form (take i (map (λ w. w.now) ws)) ≡ Some es → r ≡ entry_of known form (get_or ws i d).now → r ≡ Some e
    → list_of known form (take (i + 1) (map (λ w. w.now) ws)) ≡ Some (es ++ e ∷ [])
push_at known form ws i d r es e h front is some =
    let k : entry_of known form (get_or ws i d).now ≡ Some e = cc in
    let more = take_one_more ws i d h in
    rw (add-one, more) (list_of-push known form (take i (map (λ w. w.now) ws)) (get_or ws i d).now es e front k)

-- other operands than two are no file handle and control
pub not_two : (known : List ControlWord) (ws : List (Bor (List ℕ))) → length ws ≢ 2 → handle_and_control known (map (λ w. w.now) ws) ≡ None
not_two known [] h = refl
not_two known (a ∷ []) h = refl
not_two known (a ∷ b ∷ []) h = absurd (h refl)
not_two known (a ∷ b ∷ c ∷ ws) h = refl

-- fewer operands than two subscribe to nothing
pub below_two : (known : List ControlWord) (ws : List (Bor (List ℕ))) → length ws < 2 → subscribe_of known (map (λ w. w.now) ws) ≡ None
below_two known [] h = refl
below_two known (a ∷ []) h = refl
below_two known (a ∷ b ∷ ws) h = absurd (omega arith)

-- other operands than three ask for no item
pub not_three : (known : List ControlWord) (ws : List (Bor (List ℕ))) → length ws ≢ 3 → menu_of known (map (λ w. w.now) ws) ≡ None
not_three known [] h = refl
not_three known (a ∷ []) h = refl
not_three known (a ∷ b ∷ []) h = refl
not_three known (a ∷ b ∷ c ∷ []) h = absurd (h refl)
not_three known (a ∷ b ∷ c ∷ d ∷ ws) h = refl
