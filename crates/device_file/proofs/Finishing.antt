-- A finished plan with headings, once it is finished again, is the plan that is finished once, with them: those of its controls that were in no cluster have one already.
use Rattle.std.proofs.Common.{◌≡◌, ℕ, zero, suc, ◌+◌, ◌*◌, ◌<◌, ◌≤◌, Bool, true, false, cond, List, [], ◌∷◌, ◌++◌, length, is_some, refl, sym, ap, subst, ◌∙◌, arith, inl, inr, ◌⊎◌}
use Rattle.std.specs.List.{list_any}
use Rattle.std.proofs.lemmas.Bool.{cases_lt}
use Rattle.std.proofs.lemmas.Bool.Decides.{nat_tests}
use Rattle.std.proofs.lemmas.List.{length_push}
use Rattle.std.proofs.lemmas.List.Folds.{list_any-append}
use Rattle.ctrl_handlers.specs.Builder.{control_refusal}
use Rattle.ctrl_handlers.specs.ClusterData.{ClusterData}
use Rattle.ctrl_handlers.specs.Plan.{PlanData, alone, finished, has_member, with_control}
use Rattle.ctrl_handlers.proofs.FinishLemmas.{each_more, each_none, with_alone, with_each}
use Rattle.device_file.specs.Headings.{headed, heading, lacks_heading, with_headings, with_headings_below, with_headings_of, with_lacking}
use Rattle.device_file.specs.declared.headings.TheConstants.{CLASSES}

each_suc : (clusters : List ClusterData) (n : ℕ) → with_each clusters (suc n) ≡ with_alone (with_each clusters n) n
each_suc clusters n = ap (with_each clusters) (plus_one n) ∙ each_more clusters n
  where
    plus_one : (n : ℕ) → suc n ≡ n + 1
    plus_one n = omega arith

-- a control that is in a cluster stays in one
kept : (clusters : List ClusterData) (n c : ℕ) → list_any (has_member c) clusters ≡ true → list_any (has_member c) (with_alone clusters n) ≡ true
kept clusters n c h = by (list_any (has_member n) clusters)
  where
    by : (b : Bool) → list_any (has_member c) (cond b clusters (clusters ++ alone n ∷ [])) ≡ true
    by true = h
    by false = rw (list_any-append (has_member c) clusters (alone n ∷ []), h) refl

own_member : (c : ℕ) → list_any (has_member c) (alone c ∷ []) ≡ true
own_member c = grind (arith, nat_tests)

-- and one that was in none has its own
own_one : (clusters : List ClusterData) (n : ℕ) → list_any (has_member n) (with_alone clusters n) ≡ true
own_one clusters n = by (list_any (has_member n) clusters) refl
  where
    by : (b : Bool) → list_any (has_member n) clusters ≡ b → list_any (has_member n) (cond b clusters (clusters ++ alone n ∷ [])) ≡ true
    by true e = e
    by false e = rw (list_any-append (has_member n) clusters (alone n ∷ []), e, own_member n) refl

-- so each below a number is in a cluster
each_has : (clusters : List ClusterData) (n c : ℕ) → c < n → list_any (has_member c) (with_each clusters n) ≡ true
each_has clusters zero c h = absurd (omega (arith, h))
each_has clusters (suc n) c h = ap (list_any (has_member c)) (each_suc clusters n) ∙ by (λ below. each_has clusters n c below) (cases_lt c n)
  where
    by : (c < n → list_any (has_member c) (with_each clusters n) ≡ true) → (c < n) ⊎ (n ≤ c) → list_any (has_member c) (with_alone (with_each clusters n) n) ≡ true
    by has (inl below) = kept (with_each clusters n) n c (has below)
    by has (inr past) =
        let same : n ≡ c = omega (arith, h, past) in
        subst (λ (k : ℕ). list_any (has_member k) (with_alone (with_each clusters n) n) ≡ true) same (own_one (with_each clusters n) n)

-- and looking at those again adds nothing
each_stays : (clusters : List ClusterData) (n k : ℕ) → k ≤ n → with_each (with_each clusters n) k ≡ with_each clusters n
each_stays clusters n zero h = each_none (with_each clusters n)
each_stays clusters n (suc k) h =
    each_suc (with_each clusters n) k
    ∙ ap (λ (ks : List ClusterData). with_alone ks k) (each_stays clusters n k (omega (arith, h)))
    ∙ ap (λ (b : Bool). cond b (with_each clusters n) (with_each clusters n ++ alone k ∷ [])) (each_has clusters n k (omega (arith, h)))

-- so what is finished twice is as what is finished once
each_again : (clusters : List ClusterData) (n m : ℕ) → n ≤ m → with_each (with_each clusters n) m ≡ with_each clusters m
each_again clusters n zero h = subst (λ (k : ℕ). with_each (with_each clusters k) zero ≡ with_each clusters zero) (sym none) (each_stays clusters zero zero (omega arith))
  where
    none : n ≡ 0
    none = omega (arith, h)
each_again clusters n (suc m) h = by (λ before. each_again clusters n m before) (cases_lt m n)
  where
    by : (n ≤ m → with_each (with_each clusters n) m ≡ with_each clusters m) → (m < n) ⊎ (n ≤ m) → with_each (with_each clusters n) (suc m) ≡ with_each clusters (suc m)
    by so_far (inl last) =
        let same : n ≡ suc m = omega (arith, h, last) in
        subst (λ (k : ℕ). with_each (with_each clusters k) (suc m) ≡ with_each clusters (suc m)) (sym same) (each_stays clusters (suc m) (suc m) (omega arith))
    by so_far (inr before) =
        each_suc (with_each clusters n) m ∙ ap (λ (ks : List ClusterData). with_alone ks m) (so_far before) ∙ sym (each_suc clusters m)

-- the plan with other clusters
abbrev on : List ClusterData → PlanData → PlanData
on clusters plan = record plan { clusters = clusters }

-- A plan that has grown: it has these clusters, its controls stand in front, and it would have grown so with other clusters, too.
record Grown (clusters : List ClusterData) (before after on_others : PlanData) : Type 0 where
  others : on_others ≡ on clusters after
  clusters_stay : after.clusters ≡ before.clusters
  more : length before.controls ≤ length after.controls

grown_lacking : (clusters : List ClusterData) (plain before plan on_others : PlanData) (h class : ℕ) → Grown clusters before plan on_others
    → Grown clusters before (with_lacking plain plan h class) (with_lacking plain on_others h class)
grown_lacking clusters plain before plan on_others h class g =
    subst (λ (p : PlanData). Grown clusters before (with_lacking plain plan h class) (with_lacking plain p h class)) (sym g.others)
    (by (lacks_heading plain h class) (is_some (control_refusal plan h (heading class))))
  where
    by : (lacks full : Bool) → Grown clusters before (cond lacks (cond full plan (with_control plan h (heading class))) plan) (cond lacks (cond full (on clusters plan) (with_control (on clusters plan) h (heading class))) (on clusters plan))
    by true true = record { others = refl; clusters_stay = g.clusters_stay; more = g.more }
    by true false = record { others = refl; clusters_stay = g.clusters_stay; more = omega (arith, g.more, length_push plan.controls (heading class)) }
    by false full = record { others = refl; clusters_stay = g.clusters_stay; more = g.more }

grown_of : (clusters : List ClusterData) (plain before plan on_others : PlanData) (h n : ℕ) → Grown clusters before plan on_others
    → Grown clusters before (with_headings_of plain plan h n) (with_headings_of plain on_others h n)
unfolding with_headings_of
grown_of clusters plain before plan on_others h zero g = g
grown_of clusters plain before plan on_others h (suc n) g =
    grown_lacking clusters plain before (with_headings_of plain plan h n) (with_headings_of plain on_others h n) h (n * 0x10000) (grown_of clusters plain before plan on_others h n g)

grown_below : (clusters : List ClusterData) (plain plan : PlanData) (h : ℕ) → Grown clusters plan (with_headings_below plain plan h) (with_headings_below plain (on clusters plan) h)
unfolding with_headings_below
grown_below clusters plain plan zero = record { others = refl; clusters_stay = refl; more = omega arith }
grown_below clusters plain plan (suc h) =
    grown_of clusters plain plan (with_headings_below plain plan h) (with_headings_below plain (on clusters plan) h) h CLASSES (grown_below clusters plain plan h)

-- the headings of a finished plan may be added before it is finished
pub headed_first : (plan : PlanData) → finished (with_headings (finished plan) plan) ≡ headed (finished plan)
headed_first plan =
    ap (λ (ks : List ClusterData). on (with_each ks (length made.controls)) made) g.clusters_stay
    ∙ ap (λ (ks : List ClusterData). on ks made) (sym (each_again plan.clusters (length plan.controls) (length made.controls) g.more))
    ∙ ap finished (sym g.others)
  where
    plain : PlanData
    plain = finished plan

    made : PlanData
    made = with_headings plain plan

    g : Grown plain.clusters plan made (with_headings plain plain)
    g = grown_below plain.clusters plain plan (length plain.handlers)
