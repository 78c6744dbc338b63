-- Values that are kept twice, where they differ in some clusters at most.
use Rattle.std.proofs.Common.{◌≡◌, ◌∙◌, ◌<◌, ◌≤◌, ◌+◌, ◌||◌, ℕ, zero, suc, Bool, true, false, nat_eq, List, [], ◌∷◌, length, drop, get_or, eqb-true, Option, None, Some, arith, refl, sym, ap, subst}
use Rattle.std.specs.List.{list_any}
use Rattle.std.proofs.lemmas.Bool.{false≢true}
use Rattle.std.proofs.lemmas.List.{drop_more}
use Rattle.ctrl_handlers.specs.Plan.{PlanData, cluster_of, members}
use Rattle.ctrl_handlers.proofs.ClusterLemmas.{cluster_of_member}
use Rattle.ctrl_clusters.specs.ControlsData.{DifferIn, is_in_one_of}
use Rattle.ctrl_clusters.specs.Rows.{Values, value_at}

-- lists of one length with the same values are one
pub same_values : (a b : Values) → length a ≡ length b → ((c : ℕ) → value_at a c ≡ value_at b c) → a ≡ b
same_values [] [] long same = refl
same_values [] (v ∷ vs) long same = absurd (omega (arith, long))
same_values (v ∷ vs) [] long same = absurd (omega (arith, long))
same_values (v ∷ vs) (w ∷ ws) long same =
    let first : v ≡ w = same 0 in
    let rest : vs ≡ ws = same_values vs ws (omega (arith, long)) (λ c. same (suc c)) in
    rw (first, rest) refl

-- where no cluster is left in which they differ, they are the same
pub differ_nowhere : (plan : PlanData) (clusters : List ℕ) (i : ℕ) (spare values : Values) → length clusters ≤ i → length spare ≡ length values → DifferIn plan (drop i clusters) spare values → spare ≡ values
differ_nowhere plan clusters i spare values all long differ = same_values spare values long (λ c. differ c (none c (cluster_of plan c)))
  where
    past : (ks : List ℕ) (n : ℕ) → length ks ≤ n → drop n ks ≡ []
    past [] zero lt = refl
    past [] (suc n) lt = refl
    past (k ∷ ks) zero lt = absurd (omega (arith, lt))
    past (k ∷ ks) (suc n) lt = past ks n (omega (arith, lt))

    none : (c : ℕ) (o : Option ℕ) → is_in_one_of (drop i clusters) o ≡ false
    none c None = refl
    none c (Some k) = ap (list_any (nat_eq k)) (past clusters i all)

-- one cluster less, once its members have the values that they have there
pub differ_less : (plan : PlanData) (clusters : List ℕ) (i : ℕ) (spare new values : Values) → i < length clusters → DifferIn plan (drop i clusters) spare values
    → ((c : ℕ) → list_any (nat_eq c) (members plan (get_or clusters i 0)) ≡ true → value_at new c ≡ value_at values c)
    → ((c : ℕ) → list_any (nat_eq c) (members plan (get_or clusters i 0)) ≡ false → value_at new c ≡ value_at spare c) → DifferIn plan (drop (i + 1) clusters) new values
differ_less plan clusters i spare new values within before given others = λ c apart. by c (list_any (nat_eq c) (members plan (get_or clusters i 0))) refl apart
  where
    still : (c : ℕ) (o : Option ℕ) → cluster_of plan c ≡ o → list_any (nat_eq c) (members plan (get_or clusters i 0)) ≡ false → is_in_one_of (drop (i + 1) clusters) o ≡ false → is_in_one_of (drop i clusters) o ≡ false
    still c None own outside apart = refl
    still c (Some k) own outside apart = ap (list_any (nat_eq k)) (drop_more clusters i 0 within) ∙ joined (nat_eq k (get_or clusters i 0)) (other k own outside) apart
      where
        joined : (b : Bool) → b ≡ false → list_any (nat_eq k) (drop (i + 1) clusters) ≡ false → (b || list_any (nat_eq k) (drop (i + 1) clusters)) ≡ false
        joined true is apart = absurd (false≢true (sym is))
        joined false is apart = apart

        other : (k : ℕ) → cluster_of plan c ≡ Some k → list_any (nat_eq c) (members plan (get_or clusters i 0)) ≡ false → nat_eq k (get_or clusters i 0) ≡ false
        other k own outside = tested (nat_eq k (get_or clusters i 0)) refl
          where
            tested : (b : Bool) → nat_eq k (get_or clusters i 0) ≡ b → b ≡ false
            tested false is = refl
            tested true is =
                let same : k ≡ get_or clusters i 0 = eqb-true k (get_or clusters i 0) is in
                absurd (false≢true (sym outside ∙ subst (λ (j : ℕ). list_any (nat_eq c) (members plan j) ≡ true) same (cluster_of_member plan c k own)))

    by : (c : ℕ) (b : Bool) → list_any (nat_eq c) (members plan (get_or clusters i 0)) ≡ b → is_in_one_of (drop (i + 1) clusters) (cluster_of plan c) ≡ false → value_at new c ≡ value_at values c
    by c true inside apart = given c inside
    by c false outside apart = others c outside ∙ before c (still c (cluster_of plan c) refl outside apart)
