-- What is wanted stands on the values of what is followed alone, and is wanted again where the control has it.
use Rattle.std.proofs.Common.{◌≡◌, ◌∙◌, ℕ, ℤ, ◌+ℤ◌, Bool, true, false, not, ◌&&◌, if◌then◌else◌, List, Option, None, Some, is_some, nat_eq, inl, inr, ◌⊎◌, refl, sym, ap, subst}
use Rattle.std.specs.Option.{option_map}
use Rattle.std.specs.Ordering.{int_eq}
use Rattle.std.proofs.lemmas.Bool.{and_cases, and_from, and_left, and_parts, and_right, eq-eqb, eqb-true, not-false, not-true, true≢false}
use Rattle.std.proofs.lemmas.Cmp.{int_eq_equiv}
use Rattle.ctrl_types.specs.Values.{number_of}
use Rattle.ctrl_types.specs.declared.value.CtrlValue.{CtrlValue}
use Rattle.ctrl_settle.specs.Control.{Control}
use Rattle.range_followers.specs.declared.follower.DefaultSource.{DefaultSource}
use Rattle.range_followers.specs.declared.follower.DefaultSource.TheVariants.{Number, Value}
use Rattle.range_followers.specs.declared.follower.Follower.{Follower}
use Rattle.range_followers.specs.declared.follower.Source.{Source}
use Rattle.range_followers.specs.Followed.{passes, source_of, each_followed, is_followed_by}
use Rattle.range_followers.specs.Wanted.{can_follow, default_from, has_range_of, number_from, unless_there, value_at, wanted_by, wanted_of, wanted_where}

-- a number stands on the value that is followed
number_same : (values others : List CtrlValue) (o : Option Source) → ((s : Source) → o ≡ Some s → value_at values s.control ≡ value_at others s.control)
    → option_map (number_from values) o ≡ option_map (number_from others) o
number_same values others None same = refl
number_same values others (Some s) same = ap (λ (v : CtrlValue). Some (number_of v +ℤ s.plus)) (same s refl)

default_same : (values others : List CtrlValue) (d : DefaultSource) → ((s : Source) → source_of d ≡ Some s → value_at values s.control ≡ value_at others s.control) → default_from values d ≡ default_from others d
default_same values others (Number n) same = refl
default_same values others (Value s) same = ap (λ (v : CtrlValue). number_of v +ℤ s.plus) (same s refl)

-- what a bound follows is followed
passed_by : (o : Option Source) (s : Source) → o ≡ Some s → passes (λ k. not (nat_eq k s.control)) o ≡ false
passed_by o s is = ap (passes (λ k. not (nat_eq k s.control))) is ∙ ap not (eq-eqb s.control s.control refl)

followed_minimum : (f : Follower) (s : Source) → f.minimum ≡ Some s → is_followed_by f s.control ≡ true
followed_minimum f s is =
    let test : ℕ → Bool = λ k. not (nat_eq k s.control) in
    ap not (and_left (passes test f.minimum) (passes test f.maximum && passes test (source_of f.default_value)) (passed_by f.minimum s is))

followed_maximum : (f : Follower) (s : Source) → f.maximum ≡ Some s → is_followed_by f s.control ≡ true
followed_maximum f s is =
    let test : ℕ → Bool = λ k. not (nat_eq k s.control) in
    ap not
    (and_right (passes test f.minimum) (passes test f.maximum && passes test (source_of f.default_value))
    (and_left (passes test f.maximum) (passes test (source_of f.default_value)) (passed_by f.maximum s is)))

followed_default : (f : Follower) (s : Source) → source_of f.default_value ≡ Some s → is_followed_by f s.control ≡ true
followed_default f s is =
    let test : ℕ → Bool = λ k. not (nat_eq k s.control) in
    ap not
    (and_right (passes test f.minimum) (passes test f.maximum && passes test (source_of f.default_value))
    (and_right (passes test f.maximum) (passes test (source_of f.default_value)) (passed_by (source_of f.default_value) s is)))

-- values that agree in what is followed give the same range
pub wanted_same : (ctrl : Control) (values others : List CtrlValue) (f : Follower) → ((c : ℕ) → is_followed_by f c ≡ true → value_at values c ≡ value_at others c)
    → wanted_by ctrl values f ≡ wanted_by ctrl others f
wanted_same ctrl values others f same =
    ap (λ (low : Option ℤ). wanted_where ctrl low (option_map (number_from values) f.maximum) (default_from values f.default_value))
    (number_same values others f.minimum (λ s is. same s.control (followed_minimum f s is)))
    ∙ ap (λ (high : Option ℤ). wanted_where ctrl (option_map (number_from others) f.minimum) high (default_from values f.default_value))
    (number_same values others f.maximum (λ s is. same s.control (followed_maximum f s is)))
    ∙ ap (wanted_where ctrl (option_map (number_from others) f.minimum) (option_map (number_from others) f.maximum))
    (default_same values others f.default_value (λ s is. same s.control (followed_default f s is)))

-- a bound that doesn't follow is moved by no other, so what was wanted before doesn't count
rewanted_of : (ctrl : Control) (minimum maximum : Option Source) (before after : List CtrlValue) (n m : ℤ)
    → wanted_of (wanted_of ctrl (option_map (number_from before) minimum) (option_map (number_from before) maximum) n) (option_map (number_from after) minimum) (option_map (number_from after) maximum) m
    ≡ wanted_of ctrl (option_map (number_from after) minimum) (option_map (number_from after) maximum) m
rewanted_of ctrl None None before after n m = refl
rewanted_of ctrl None (Some high) before after n m = refl
rewanted_of ctrl (Some low) None before after n m = refl
rewanted_of ctrl (Some low) (Some high) before after n m = refl

-- so the range that is wanted of a wanted one is the one that is wanted of the control as it was
pub rewanted : (ctrl wanted : Control) (before after : List CtrlValue) (f : Follower) → wanted_by ctrl before f ≡ Some wanted → wanted_by wanted after f ≡ wanted_by ctrl after f
rewanted ctrl wanted before after f is = by (can_follow ctrl.kind) refl is
  where
    low : List CtrlValue → Option ℤ
    low values = option_map (number_from values) f.minimum

    high : List CtrlValue → Option ℤ
    high values = option_map (number_from values) f.maximum

    by : (b : Bool) → can_follow ctrl.kind ≡ b → (if b then Some (wanted_of ctrl (option_map (number_from before) f.minimum) (option_map (number_from before) f.maximum) (default_from before f.default_value)) else None) ≡ Some wanted
        → wanted_by wanted after f ≡ wanted_by ctrl after f
    by true can made =
        let same : wanted_of ctrl (option_map (number_from before) f.minimum) (option_map (number_from before) f.maximum) (default_from before f.default_value) ≡ wanted = cc in
        ap (λ (c : Control). wanted_by c after f) (sym same)
        ∙ ap (λ (c : Control). if can_follow ctrl.kind then Some c else None) (rewanted_of ctrl f.minimum f.maximum before after (default_from before f.default_value) (default_from after f.default_value))
    by false can made = absurd (cc)

-- no other range is due where the control has the one that is wanted
pub none_due : (ctrl : Control) → unless_there ctrl (Some ctrl) ≡ None
none_due ctrl = ap (λ (b : Bool). if b then None else Some ctrl) (own ctrl.minimum ctrl.maximum ctrl.default_value)
  where
    own : (a b c : ℤ) → (int_eq a a && (int_eq b b && int_eq c c)) ≡ true
    own a b c = and_from (int_eq a a) (int_eq b b && int_eq c c) (int_eq_equiv.refl a) (and_from (int_eq b b) (int_eq c c) (int_eq_equiv.refl b) (int_eq_equiv.refl c))

-- a control that can follow has a range that is wanted, and nothing but its range is another then
pub record IsWanted (ctrl : Control) (values : List CtrlValue) (f : Follower) (wanted : Control) : Type 0 where
  pub found : wanted_by ctrl values f ≡ Some wanted
  pub kind : wanted.kind ≡ ctrl.kind
  pub id : wanted.id ≡ ctrl.id
  pub elems : wanted.elems ≡ ctrl.elems

pub wanted_found : (ctrl : Control) (values : List CtrlValue) (f : Follower) → can_follow ctrl.kind ≡ true
    → IsWanted ctrl values f (wanted_of ctrl (option_map (number_from values) f.minimum) (option_map (number_from values) f.maximum) (default_from values f.default_value))
wanted_found ctrl values f can = record {
  found =
      ap (λ (b : Bool). if b then Some (wanted_of ctrl (option_map (number_from values) f.minimum) (option_map (number_from values) f.maximum) (default_from values f.default_value)) else None) can;
  kind = refl;
  id = refl;
  elems = refl;
}

-- where each that is followed passes, one that is followed does
passed_at : (test : ℕ → Bool) (c : ℕ) (o : Option Source) → passes test o ≡ true → passes (λ s. not (nat_eq s c)) o ≡ false → test c ≡ true
passed_at test c None pass here = absurd (true≢false here)
passed_at test c (Some source) pass here = subst (λ s. test s ≡ true) (eqb-true source.control c (not-false (nat_eq source.control c) here)) pass

pub each_passes : (test : ℕ → Bool) (f : Follower) (c : ℕ) → each_followed test f ≡ true → is_followed_by f c ≡ true → test c ≡ true
each_passes test f c each here = by (and_cases (passes other f.minimum) (passes other f.maximum && passes other (source_of f.default_value)) (not-true (each_followed other f) here))
  where
    other : ℕ → Bool
    other s = not (nat_eq s c)

    first : (passes test f.minimum ≡ true) × ((passes test f.maximum && passes test (source_of f.default_value)) ≡ true)
    first = and_parts (passes test f.minimum) (passes test f.maximum && passes test (source_of f.default_value)) each

    rest : (passes test f.maximum ≡ true) × (passes test (source_of f.default_value) ≡ true)
    rest = and_parts (passes test f.maximum) (passes test (source_of f.default_value)) first.1

    last : (passes other f.maximum ≡ false) ⊎ (passes other (source_of f.default_value) ≡ false) → test c ≡ true
    last (inl high) = passed_at test c f.maximum rest.0 high
    last (inr normal) = passed_at test c (source_of f.default_value) rest.1 normal

    by : (passes other f.minimum ≡ false) ⊎ ((passes other f.maximum && passes other (source_of f.default_value)) ≡ false) → test c ≡ true
    by (inl low) = passed_at test c f.minimum first.0 low
    by (inr more) = last (and_cases (passes other f.maximum) (passes other (source_of f.default_value)) more)

-- and each passes where one that is followed does
passed_from : (test : ℕ → Bool) (o : Option Source) → ((s : Source) → o ≡ Some s → test s.control ≡ true) → passes test o ≡ true
passed_from test None each = refl
passed_from test (Some source) each = each source refl

pub each_from : (test : ℕ → Bool) (f : Follower) → ((c : ℕ) → is_followed_by f c ≡ true → test c ≡ true) → each_followed test f ≡ true
each_from test f each =
    and_from (passes test f.minimum) (passes test f.maximum && passes test (source_of f.default_value)) (passed_from test f.minimum (λ s is. each s.control (followed_minimum f s is)))
    (and_from (passes test f.maximum) (passes test (source_of f.default_value)) (passed_from test f.maximum (λ s is. each s.control (followed_maximum f s is)))
    (passed_from test (source_of f.default_value) (λ s is. each s.control (followed_default f s is))))
