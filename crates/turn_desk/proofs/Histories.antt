-- Beginnings of a history, and the entries of one seat.
use Rattle.std.proofs.Common.{◌≡◌, ◌≢◌, ℕ, ◌<◌, ◌≤◌, List, [], ◌∷◌, ◌++◌, refl, sym, ap, ◌∙◌, append_assoc, append-nil, arith, ne_eqb, eq-eqb, Bool}
use Rattle.std.proofs.lemmas.List.Elements.{filter-append}
use Rattle.std.specs.Prelude.{nat_eq, cond, Some, None, Option}
use Rattle.history.specs.declared.entry.Entry.{Entry}
use Rattle.history.specs.Past.{own, entered}
use Rattle.history.specs.Prefix.{IsPrefix}
use Rattle.turn_desk.specs.Rule.{Each}

module _ {A : Type 0} where
  pub prefix_refl : (xs : List A) → IsPrefix xs xs
  prefix_refl xs = record { rest = []; joined = append-nil xs }

  pub prefix_none : (xs : List A) → IsPrefix [] xs
  prefix_none xs = record { rest = xs; joined = refl }

  pub prefix_push : {xs ys : List A} (zs : List A) → IsPrefix xs ys → IsPrefix xs (ys ++ zs)
  prefix_push {xs} {ys} zs h = record { rest = h.rest ++ zs; joined = sym (append_assoc xs h.rest zs) ∙ ap (λ l. l ++ zs) h.joined }

  pub prefix_trans : {xs ys zs : List A} → IsPrefix xs ys → IsPrefix ys zs → IsPrefix xs zs
  prefix_trans {xs} {ys} {zs} h k = record { rest = h.rest ++ k.rest; joined = sym (append_assoc xs h.rest k.rest) ∙ ap (λ l. l ++ k.rest) h.joined ∙ k.joined }

module _ {S : Type 0} where
  pub own-append : (n : ℕ) (xs ys : List (Entry S)) → own n (xs ++ ys) ≡ own n xs ++ own n ys
  own-append n xs ys = filter-append (λ (e : Entry S). nat_eq e.seat n) xs ys

  -- an entry of this seat is one more of its own
  pub own-mine : (n : ℕ) (s : S) → own n (record { seat = n; step = s } ∷ []) ≡ record { seat = n; step = s } ∷ []
  own-mine n s = ap (λ (b : Bool). cond b (record { seat = n; step = s } ∷ []) []) (eq-eqb n n refl)

  pub own-other : (n m : ℕ) (s : S) → m ≢ n → own n (record { seat = m; step = s } ∷ []) ≡ []
  own-other n m s apart = ap (λ (b : Bool). cond b (record { seat = m; step = s } ∷ []) []) (ne_eqb m n apart)

  pub own-entered : (n : ℕ) (o : Option S) → own n (entered n o) ≡ entered n o
  own-entered n None = refl
  own-entered n (Some s) = own-mine n s

  -- a seat whose number is not below the count has no entry
  pub own-none : (n count : ℕ) (xs : List (Entry S)) → Each (λ e. e.seat < count) xs → count ≤ n → own n xs ≡ []
  own-none n count [] below above = refl
  own-none n count (x ∷ xs) below above =
      let apart : x.seat ≢ n = (λ same. let b = below.0 in omega arith) in
      ap (λ (b : Bool). cond b (x ∷ own n xs) (own n xs)) (ne_eqb x.seat n apart) ∙ own-none n count xs below.1 above
