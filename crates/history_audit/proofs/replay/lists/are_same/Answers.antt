use Rattle.std.proofs.Common.{◌≡◌, ℕ, Bool, true, false, ◌&&◌, nat_eq, Decides, refl, ap, ◌∙◌, arith}
use Rattle.std.proofs.lemmas.Bool.Decides.{nat_tests}
use Rattle.std.proofs.lemmas.Slice.Eq.{slice_eq-Decides}
use Rattle.ctrl_types.proofs.ValueLemmas.{eq_decides}
use Rattle.ctrl_types.specs.contracts.value.CtrlValuePartialEq.TheImpl.{eq-value}
use Rattle.ctrl_types.specs.declared.value.CtrlValue.{CtrlValue}
use Rattle.ctrl_types.specs.declared.ids.Pair.{Pair}
use Rattle.history_audit.proofs.replay.lists.are_same.Goals as goal

both : (a b : Bool) → (a && b) ≡ true → (a ≡ true) × (b ≡ true)
both true b h = (refl, h)
both false b h = cc

joined : (a b : Bool) → a ≡ true → b ≡ true → (a && b) ≡ true
joined true b h k = k
joined false b h k = cc

equal : (m n : ℕ) → nat_eq m n ≡ true → m ≡ n
equal m n h = grind (arith, nat_tests, h)

own : (m n : ℕ) → m ≡ n → nat_eq m n ≡ true
own m n h = grind (arith, nat_tests, h)

-- `==` of two values
same_values : (v w : CtrlValue) → Decides (eq-value.it v w) (v ≡ w)
same_values = eq_decides

-- pairs are the same where both parts are
alike : (a b : Pair) → (nat_eq a.control b.control && eq-value.it a.value b.value) ≡ true → a ≡ b
alike a b h =
    let parts = both (nat_eq a.control b.control) (eq-value.it a.value b.value) h in
    let control : a.control ≡ b.control = equal a.control b.control parts.0 in
    let value : a.value ≡ b.value = (same_values a.value b.value).0 parts.1 in
    ap {B = Pair} (λ (n : ℕ). record { control = n; value = a.value }) control ∙ ap {B = Pair} (λ (v : CtrlValue). record { control = b.control; value = v }) value

same : (a b : Pair) → Decides (nat_eq a.control b.control && eq-value.it a.value b.value) (a ≡ b)
same a b = (alike a b, λ h. joined (nat_eq a.control b.control) (eq-value.it a.value b.value) (own a.control b.control (ap (λ (p : Pair). p.control) h)) ((same_values a.value b.value).1 (ap (λ (p : Pair). p.value) h)))

pub returns : goal.returns
returns c = slice_eq-Decides same c.args.pairs.now c.args.others.now c.eq.result c.eq.ensures
