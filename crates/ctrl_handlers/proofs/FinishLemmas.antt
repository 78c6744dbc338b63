-- What a plan is once it is finished: each control is in a cluster, and the closures and what is shown stay.
use Rattle.std.proofs.Common.{◌≡◌, ℕ, zero, suc, ◌+◌, ◌<◌, ◌≤◌, ◌||◌, Bool, true, false, not, cond, ltb, nat_eq, List, [], ◌∷◌, ◌++◌, length, map, None, Some, is_some, position, refl, sym, ap, subst, ◌∙◌, arith, get_or, inl, inr, ◌⊎◌}
use Rattle.std.specs.List.{All, list_any, position_or_len, filter, range_with_len}
use Rattle.std.proofs.lemmas.Bool.{cases_lt}
use Rattle.std.proofs.lemmas.Bool.Decides.{nat_tests}
use Rattle.std.proofs.lemmas.List.{append-nil, append_assoc, get_or-map, get_or_past, length-map, map-append, map-id}
use Rattle.std.proofs.lemmas.List.Elements.{All-nil, All-push, All-head, All-tail, All-filter}
use Rattle.std.proofs.lemmas.List.FromFn.{length-range_with_len, get_or-range_with_len, filter_of_map_range_with_len_more}
use Rattle.std.proofs.lemmas.List.Folds.{list_any-append}
use Rattle.ctrl_calls.specs.declared.relation.Relations.{Relations}
use Rattle.ctrl_handlers.specs.ClusterData.{ClusterData}
use Rattle.ctrl_handlers.specs.Plan.{PlanData, IsPlan, IsFinished, HasCalls, in_none, finished, alone, no_calls, all_calls, has_member, cluster_of, no_cluster}
use Rattle.ctrl_handlers.specs.Visible.{shown_below}
use Rattle.ctrl_handlers.proofs.ClusterLemmas.{MayCluster, is_plan_add, any_first, Before, Last, Past, cluster_more}

-- these clusters, where a control is in one: in a cluster of its own, the last, where it is in none of them
abbrev pub with_alone : List ClusterData → ℕ → List ClusterData
with_alone clusters c = cond (list_any (has_member c) clusters) clusters (clusters ++ alone c ∷ [])

-- these clusters, and then each other control below a number in a cluster of its own
abbrev pub with_each : List ClusterData → ℕ → List ClusterData
with_each clusters n = clusters ++ map alone (in_none clusters n)

-- no control so far
pub each_none : (clusters : List ClusterData) → with_each clusters 0 ≡ clusters
each_none clusters = append-nil clusters

-- one more number to look at
in_none_more : (clusters : List ClusterData) (n : ℕ) → in_none clusters (n + 1) ≡ in_none clusters n ++ cond (not (list_any (has_member n) clusters)) (n ∷ []) []
in_none_more clusters n =
    let p : ℕ → Bool = λ c. not (list_any (has_member c) clusters) in
    ap (filter p) (sym (map-id (range_with_len 0 (n + 1))))
    ∙ filter_of_map_range_with_len_more p (λ (c : ℕ). c) 0 n n (omega arith)
    ∙ ap (λ (cs : List ℕ). filter p cs ++ cond (p n) (n ∷ []) []) (map-id (range_with_len 0 n))

-- a number is none of those below it
not_alone_below : (n : ℕ) (cs : List ℕ) → All (λ c. c < n) cs → list_any (has_member n) (map alone cs) ≡ false
not_alone_below n [] below = refl
not_alone_below n (c ∷ cs) below =
    let before : c < n = All-head (λ c. c < n) c cs below in
    let other : nat_eq n c ≡ false = grind (arith, nat_tests) in
    rw (other, not_alone_below n cs (All-tail (λ c. c < n) c cs below)) refl

in_none_below : (clusters : List ClusterData) (n : ℕ) → All (λ c. c < n) (in_none clusters n)
in_none_below clusters n =
    All-filter (λ c. not (list_any (has_member c) clusters)) (λ c. c < n) (range_with_len 0 n)
    (λ k d lt. let within : k < n = omega (arith, lt, length-range_with_len 0 n) in omega (arith, get_or-range_with_len 0 n k d within, within))

or_none : (b : Bool) → (b || false) ≡ b
or_none true = refl
or_none false = refl

-- so it is in one of them exactly where it is in one of the named ones
any_each : (clusters : List ClusterData) (n : ℕ) → list_any (has_member n) (with_each clusters n) ≡ list_any (has_member n) clusters
any_each clusters n =
    list_any-append (has_member n) clusters (map alone (in_none clusters n))
    ∙ ap (λ (b : Bool). list_any (has_member n) clusters || b) (not_alone_below n (in_none clusters n) (in_none_below clusters n))
    ∙ or_none (list_any (has_member n) clusters)

-- one more control
pub each_more : (clusters : List ClusterData) (n : ℕ) → with_each clusters (n + 1) ≡ with_alone (with_each clusters n) n
each_more clusters n =
    ap (λ (cs : List ℕ). clusters ++ map alone cs) (in_none_more clusters n)
    ∙ by (list_any (has_member n) clusters)
    ∙ ap (λ (b : Bool). cond b (with_each clusters n) (with_each clusters n ++ alone n ∷ [])) (sym (any_each clusters n))
  where
    by : (b : Bool) → clusters ++ map alone (in_none clusters n ++ cond (not b) (n ∷ []) []) ≡ cond b (with_each clusters n) (with_each clusters n ++ alone n ∷ [])
    by true = ap (λ (cs : List ℕ). clusters ++ map alone cs) (append-nil (in_none clusters n))
    by false =
        ap (λ (ks : List ClusterData). clusters ++ ks) (map-append alone (in_none clusters n) (n ∷ []))
        ∙ sym (append_assoc clusters (map alone (in_none clusters n)) (alone n ∷ []))

each_suc : (clusters : List ClusterData) (n : ℕ) → with_each clusters (suc n) ≡ with_alone (with_each clusters n) n
each_suc clusters n = ap (with_each clusters) (plus_one n) ∙ each_more clusters n
  where
    plus_one : (n : ℕ) → suc n ≡ n + 1
    plus_one n = omega arith

-- there is a first that passes exactly where one passes
some_by : (b : Bool) (n : ℕ) → is_some (cond b (Some n) None) ≡ b
some_by true n = refl
some_by false n = refl

pub is_some_any : {X : Type 0} (p : X → Bool) (xs : List X) → is_some (position p xs) ≡ list_any p xs
is_some_any p xs = some_by (ltb (position_or_len p xs) (length xs)) (position_or_len p xs) ∙ any_first p xs

only : (d c : ℕ) → list_any (nat_eq d) (c ∷ []) ≡ true → d ≡ c
only d c among = by (nat_eq d c) refl among
  where
    by : (b : Bool) → nat_eq d c ≡ b → (b || false) ≡ true → d ≡ c
    by true e h = grind (arith, nat_tests, e)
    by false e h = cc

-- the plan with other clusters
abbrev clustered_as : PlanData → List ClusterData → PlanData
clustered_as plan clusters = record plan { clusters = clusters }

-- a control that none of the clusters has may have one of its own
alone_may : (plan : PlanData) (c : ℕ) → c < length plan.controls → list_any (has_member c) plan.clusters ≡ false → MayCluster plan (c ∷ []) None
alone_may plan c within none = record {
  some = omega arith;
  few = omega arith;
  known = All-push (λ d. d < length plan.controls) [] c (All-nil (λ d. d < length plan.controls)) within;
  differ = refl;
  apart = λ d among. ap (λ (n : ℕ). is_some (cluster_of plan n)) (only d c among) ∙ is_some_any (has_member c) plan.clusters ∙ none;
  lone = refl;
}

-- with these clusters it is a plan, and each control below the number is in one
record Reaches (plan : PlanData) (clusters : List ClusterData) (n : ℕ) : Type 0 where
  is : IsPlan (clustered_as plan clusters)
  each : (c : ℕ) → c < n → list_any (has_member c) clusters ≡ true

own_member : (c : ℕ) → list_any (has_member c) (alone c ∷ []) ≡ true
own_member c = grind (arith, nat_tests)

or_true : (b : Bool) → (b || true) ≡ true
or_true true = refl
or_true false = refl

-- one more control
reaches_more : (plan : PlanData) (clusters : List ClusterData) (n : ℕ) → n < length plan.controls → Reaches plan clusters n → Reaches plan (with_alone clusters n) (suc n)
reaches_more plan clusters n within so_far = by (list_any (has_member n) clusters) refl
  where
    all : (after : List ClusterData) → ((c : ℕ) → list_any (has_member c) clusters ≡ true → list_any (has_member c) after ≡ true) → list_any (has_member n) after ≡ true
        → (c : ℕ) → c < suc n → list_any (has_member c) after ≡ true
    all after keeps own c lt = at (cases_lt c n)
      where
        at : (c < n) ⊎ (n ≤ c) → list_any (has_member c) after ≡ true
        at (inl before) = keeps c (so_far.each c before)
        at (inr last) = let same : c ≡ n = omega (arith, last, lt) in rw same own

    kept : (c : ℕ) → list_any (has_member c) clusters ≡ true → list_any (has_member c) (clusters ++ alone n ∷ []) ≡ true
    kept c there = rw (list_any-append (has_member c) clusters (alone n ∷ []), there) refl

    by : (b : Bool) → list_any (has_member n) clusters ≡ b → Reaches plan (cond b clusters (clusters ++ alone n ∷ [])) (suc n)
    by true e = record { is = so_far.is; each = all clusters (λ c there. there) e }
    by false e = record {
      is = is_plan_add (clustered_as plan clusters) (n ∷ []) None no_calls so_far.is (alone_may (clustered_as plan clusters) n within e);
      each = all (clusters ++ alone n ∷ []) kept (list_any-append (has_member n) clusters (alone n ∷ []) ∙ ap (λ (b : Bool). list_any (has_member n) clusters || b) (own_member n) ∙ or_true (list_any (has_member n) clusters));
    }

reaches_each : (plan : PlanData) (n : ℕ) → n ≤ length plan.controls → IsPlan plan → Reaches plan (with_each plan.clusters n) n
reaches_each plan zero within is = subst (λ (clusters : List ClusterData). Reaches plan clusters 0) (sym (each_none plan.clusters)) (record { is = is; each = λ c lt. absurd (omega (arith, lt)) })
reaches_each plan (suc n) within is =
    subst (λ (clusters : List ClusterData). Reaches plan clusters (suc n)) (sym (each_suc plan.clusters n))
    (reaches_more plan (with_each plan.clusters n) n (omega (arith, within)) (reaches_each plan n (omega (arith, within)) is))

-- a finished plan has each control in a cluster
pub finished_is : (plan : PlanData) → IsPlan plan → IsFinished (finished plan)
finished_is plan is =
    let all = reaches_each plan (length plan.controls) (omega arith) is in
    record {
      is_plan = all.is;
      clustered = λ c within. is_some_any (has_member c) (with_each plan.clusters (length plan.controls)) ∙ all.each c within;
    }

-- closures that answer by the relations of some clusters
abbrev Answered : List ClusterData → List Relations → Type 0
Answered clusters calls = (k : ℕ) → get_or calls k no_calls ≡ (get_or clusters k no_cluster).calls

answered_more : (clusters : List ClusterData) (calls : List Relations) (c : ℕ) → Answered clusters calls → Answered (with_alone clusters c) calls
answered_more clusters calls c are = λ k. by k (list_any (has_member c) clusters)
  where
    at : (k : ℕ) → Before clusters (alone c) k ⊎ (Last clusters (alone c) k ⊎ Past clusters (alone c) k) → get_or calls k no_calls ≡ (get_or (clusters ++ alone c ∷ []) k no_cluster).calls
    at k (inl old) = are k ∙ ap (λ (x : ClusterData). x.calls) (sym old.1)
    at k (inr (inl new)) =
        are k ∙ ap (λ (x : ClusterData). x.calls) (get_or_past clusters k no_cluster (omega (arith, new.0))) ∙ ap (λ (x : ClusterData). x.calls) (sym new.1)
    at k (inr (inr past)) =
        are k ∙ ap (λ (x : ClusterData). x.calls) (get_or_past clusters k no_cluster (omega (arith, past.0))) ∙ ap (λ (x : ClusterData). x.calls) (sym past.1)

    by : (k : ℕ) (b : Bool) → get_or calls k no_calls ≡ (get_or (cond b clusters (clusters ++ alone c ∷ [])) k no_cluster).calls
    by k true = are k
    by k false = at k (cluster_more clusters (alone c) k)

answered_each : (clusters : List ClusterData) (calls : List Relations) (n : ℕ) → Answered clusters calls → Answered (with_each clusters n) calls
answered_each clusters calls zero are = subst (λ (all : List ClusterData). Answered all calls) (sym (each_none clusters)) are
answered_each clusters calls (suc n) are =
    subst (λ (all : List ClusterData). Answered all calls) (sym (each_suc clusters n))
    (answered_more (with_each clusters n) calls n (answered_each clusters calls n are))

-- the closures of the clusters that were named are those of a finished plan
pub finished_calls : (plan : PlanData) → HasCalls (finished plan) (all_calls plan)
finished_calls plan = answered_each plan.clusters (all_calls plan) (length plan.controls) (λ k. at k (cases_lt k (length plan.clusters)))
  where
    at : (k : ℕ) → (k < length plan.clusters) ⊎ (length plan.clusters ≤ k) → get_or (all_calls plan) k no_calls ≡ (get_or plan.clusters k no_cluster).calls
    at k (inl within) = get_or-map (λ (x : ClusterData). x.calls) plan.clusters k no_cluster no_calls within
    at k (inr past) =
        get_or_past (all_calls plan) k no_calls (omega (arith, past, length-map plan.clusters (λ (x : ClusterData). x.calls)))
        ∙ ap (λ (x : ClusterData). x.calls) (sym (get_or_past plan.clusters k no_cluster past))

-- what is shown doesn't depend on clusters
pub finished_shown : (plan : PlanData) (n : ℕ) → shown_below (finished plan) n ≡ shown_below plan n
unfolding shown_below
finished_shown plan zero = refl
finished_shown plan (suc n) = rw (finished_shown plan n) refl
