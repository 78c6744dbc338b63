use Rattle.std.proofs.Common.{◌≡◌, ℕ, List, false, true, is_some, sym, ap, ◌∙◌, subst}
use Rattle.id_index.specs.Entries.{has_id}
use Rattle.id_index.proofs.EntryLemmas.{IsFrom}
use Rattle.id_index.proofs.PutLemmas.{there_already, put_in_place, rising_put}
use Rattle.id_index.proofs.index.put.Goals as goal

-- nothing is added where the id is there
pub returns-then-is_some-clause-put : goal.returns-then-is_some-clause-put
returns-then-is_some-clause-put c =
    let has : has_id c.args.entries.now.items c.args.id ≡ true =
    ap (λ (xs : List (ℕ × ℕ)). has_id xs c.args.id) (sym c.as_slice.ensures.value) ∙ ap is_some (sym c.find_in.ensures) ∙ sym c.is_some.ensures ∙ c.if-is_some.true in
    there_already c.args.entries.now.items c.args.id c.args.number has

-- in its place it leaves the ids rising
pub returns-clause-rising : goal.returns-clause-rising
returns-clause-rising c =
    let point = subst (λ (xs : List (ℕ × ℕ)). IsFrom xs c.args.id c.first_from-place.result) c.as_slice-2.ensures.value c.first_from-place.ensures.point in
    rw c.in_ok-insert.ensures.items (rising_put c.args.entries.now.items c.first_from-place.result c.args.id c.args.number c.requires point (rw c.as_slice-2.ensures.value at c.first_from-place.ensures.within))

-- and is found as if it stood at the end
pub returns-clause-put : goal.returns-clause-put
returns-clause-put c =
    let none : has_id c.args.entries.now.items c.args.id ≡ false =
    ap (λ (xs : List (ℕ × ℕ)). has_id xs c.args.id) (sym c.as_slice.ensures.value) ∙ ap is_some (sym c.find_in.ensures) ∙ sym c.is_some.ensures ∙ c.if-is_some.false in
    rw c.in_ok-insert.ensures.items (put_in_place c.args.entries.now.items c.first_from-place.result c.args.id c.args.number none)
