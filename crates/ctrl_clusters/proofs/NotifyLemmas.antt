-- Which clusters are notified, and the words afterwards.
use Rattle.std.proofs.Common.{◌≡◌, ◌≢◌, ℕ, zero, suc, cond, add-one, add-zero, zero-add, ◌<◌, ◌≤◌, ◌==◌, ◌+◌, ◌-◌, ◌^◌, ◌&&◌, ◌||◌, not, Bool, true, false, List, [], ◌∷◌, length, None, Some, is_some, Option, refl, sym, ap, subst, ◌∙◌, arith, slice_index, ◌++◌, below_more, ◌⊎◌, inl, inr, count_by}
use Rattle.std.specs.List.{range_with_len, sum_by}
use Rattle.std.proofs.lemmas.List.Sums.{sum_by-cons, count_by-le-length}
use Rattle.std.proofs.lemmas.List.{length-map}
use Rattle.std.proofs.lemmas.List.FromFn.{length-range_with_len}
use Rattle.std.proofs.lemmas.Bool.Decides.{eqb_tells}
use Rattle.std.proofs.lemmas.Grind.{common_steps}
use Rattle.ctrl_types.proofs.ValueLemmas.{Decides-same}
use Rattle.ctrl_types.specs.Values.{is_same}
use Rattle.ctrl_calls.specs.Meanings.{Words}
use Rattle.ctrl_calls.specs.declared.relation.Relation.{Relation}
use Rattle.ctrl_calls.specs.declared.work.Work.{Work}
use Rattle.ctrl_types.specs.Flags.{contains}
use Rattle.ctrl_types.specs.declared.value.CtrlValue.{CtrlValue}
use Rattle.ctrl_types.specs.declared.flags.TheConstants.Flags.{EXECUTE_ON_WRITE}
use Rattle.ctrl_types.specs.declared.ids.Pair.{Pair}
use Rattle.ctrl_handlers.specs.Plan.{PlanData, control, calls_of, members}
use Rattle.ctrl_handlers.proofs.ClusterLemmas.{or_false, or_false_right}
use Rattle.ctrl_clusters.specs.Rows.{Values, value_at, row_of}
use Rattle.ctrl_clusters.specs.Overlay.{is_among}
use Rattle.ctrl_clusters.specs.Changes.{is_changed, row_changes, members_change}
use Rattle.ctrl_clusters.specs.Notified.{MaySay, HasWord, HaveWords, AreNotified, IsNotified, notified_count, after_change}

-- what isn't changed has its value already
same_value : (plan : PlanData) (values : Values) (pairs : List Pair) (c : ℕ) (value : CtrlValue) → is_changed plan values pairs c value ≡ false → value_at values c ≡ value
same_value plan values pairs c value h = (Decides-same (value_at values c) value).0 (by (is_same (value_at values c) value) h)
  where
    by : (b : Bool) → (not b || (contains (control plan c).flags EXECUTE_ON_WRITE && is_among pairs c)) ≡ false → b ≡ true
    by true h = refl
    by false h = cc

-- a row that changes no member is the present one
pub same_row : (plan : PlanData) (values : Values) (pairs : List Pair) (cs : List ℕ) (row : List CtrlValue) → length row ≡ length cs → row_changes plan values pairs cs row ≡ false → row_of values cs ≡ row
same_row plan values pairs [] [] long h = refl
same_row plan values pairs [] (v ∷ vs) long h = absurd (omega (arith, long))
same_row plan values pairs (c ∷ cs) [] long h = absurd (omega (arith, long))
same_row plan values pairs (c ∷ cs) (v ∷ vs) long h =
    let first : value_at values c ≡ v = same_value plan values pairs c v (or_false (is_changed plan values pairs c v) (row_changes plan values pairs cs vs) h) in
    let rest : row_of values cs ≡ vs = same_row plan values pairs cs vs (omega (arith, long)) (or_false_right (is_changed plan values pairs c v) (row_changes plan values pairs cs vs) h) in
    rw (first, rest) refl

-- the same as of all clusters, of those below a number
pub record AreNotifiedBelow (says : Words) (plan : PlanData) (changed : ℕ → Bool) (rows : ℕ → List CtrlValue) (n : ℕ) (old new : List ℕ) : Type 0 where
  pub each : length new ≡ length old
  pub own : (k : ℕ) → k < n → changed k ≡ true → MaySay says (calls_of plan k).notifier (rows k) (slice_index new k)
  pub others : (k : ℕ) → (k < n → changed k ≡ false) → slice_index new k ≡ slice_index old k

pub notified_start : (says : Words) (plan : PlanData) (changed : ℕ → Bool) (rows : ℕ → List CtrlValue) (words : List ℕ) → AreNotifiedBelow says plan changed rows 0 words words
notified_start says plan changed rows words = record {
  each = refl;
  own = λ k lt ch. absurd (omega (arith, lt));
  others = λ k same. refl;
}

-- one more cluster is notified where it changed
pub notified_next : (says : Words) (plan : PlanData) (changed : ℕ → Bool) (rows : ℕ → List CtrlValue) (n : ℕ) (old words new : List ℕ) → AreNotifiedBelow says plan changed rows n old words
    → IsNotified says plan n (changed n) (rows n) words new → AreNotifiedBelow says plan changed rows (n + 1) old new
notified_next says plan changed rows n old words new before is = record {
  each = is.each ∙ before.each;
  own = λ k lt ch. own k lt ch (eqb_tells k n);
  others = λ k same. is.others k (λ e. subst (λ (i : ℕ). changed i ≡ false) e (same (omega (arith, e)))) ∙ before.others k (λ lt. same (omega (arith, lt)));
}
  where
    own : (k : ℕ) → k < n + 1 → changed k ≡ true → ((k == n) ≡ true × (k ≡ n)) ⊎ ((k == n) ≡ false × (k ≢ n)) → MaySay says (calls_of plan k).notifier (rows k) (slice_index new k)
    own k lt ch (inl h) =
        subst (λ (i : ℕ). MaySay says (calls_of plan i).notifier (rows i) (slice_index new i)) (sym h.1) (is.own (subst (λ (i : ℕ). changed i ≡ true) h.1 ch))
    own k lt ch (inr h) = rw (is.others k (λ e. absurd (h.1 e))) (before.own k (below k n lt h.1) ch)
      where
        below : (k n : ℕ) → k < n + 1 → k ≢ n → k < n
        below k n lt other = omega (arith, lt, other)

-- a cluster that doesn't change isn't notified
pub notified_not : (says : Words) (plan : PlanData) (k : ℕ) (changed : Bool) (row : List CtrlValue) (words : List ℕ) → changed ≡ false → IsNotified says plan k changed row words words
notified_not says plan k changed row words same = record {
  each = refl;
  own = λ ch. absurd (differ (sym same ∙ ch));
  others = λ j h. refl;
}
  where
    differ : false ≡ true → ⊥
    differ e = cc

pub count_not : (plan : PlanData) (k : ℕ) (changed : Bool) (count : ℕ) → changed ≡ false → after_change plan k changed count ≡ count
count_not plan k changed count same = rw same refl

-- a cluster counts where it has a notifier and is changed
counts : PlanData → (ℕ → Bool) → ℕ → Bool
counts plan changed k = is_some (calls_of plan k).notifier && changed k

-- how many of the clusters below a number were notified
pub notified_below : PlanData → (ℕ → Bool) → ℕ → ℕ
notified_below plan changed n = count_by (counts plan changed) (range_with_len 0 n)

notified_all : (plan : PlanData) (changed : ℕ → Bool) (n : ℕ) → n ≡ length plan.clusters → notified_below plan changed n ≡ notified_count plan changed
unfolding notified_below counts
notified_all plan changed n all = ap (λ (m : ℕ). count_by (counts plan changed) (range_with_len 0 m)) all

-- once no cluster is left, all are counted
pub work_end : (plan : PlanData) (changed : ℕ → Bool) (n : ℕ) (old work : Work) → n ≡ length plan.clusters → work ≡ record old { told = notified_below plan changed n } → work ≡ record old { told = notified_count plan changed }
work_end plan changed n old work all is = is ∙ ap (λ (m : ℕ). record old { told = m }) (notified_all plan changed n all)

pub work_start : (plan : PlanData) (changed : ℕ → Bool) (work : Work) → work.told ≡ 0 → work ≡ record work { told = notified_below plan changed 0 }
unfolding notified_below
work_start plan changed work fresh = ap (λ (n : ℕ). record work { told = n }) fresh

-- one more number in the count
below_next : (plan : PlanData) (changed : ℕ → Bool) (a n : ℕ) → count_by (counts plan changed) (range_with_len a (suc n)) ≡ count_by (counts plan changed) (range_with_len a n) + cond (counts plan changed (a + n)) 1 0
unfolding counts
below_next plan changed a zero =
    let more : sum_by one (a ∷ []) ≡ one a + sum_by one [] = sum_by-cons one a [] in
    let same : one a ≡ one (a + 0) = ap one (sym (add-zero a)) in
    omega (arith, more, same)
  where
    one : ℕ → ℕ
    one k = cond (is_some (calls_of plan k).notifier && changed k) 1 0
below_next plan changed a (suc n) =
    let more : sum_by one (a ∷ range_with_len (a + 1) (suc n)) ≡ one a + sum_by one (range_with_len (a + 1) (suc n)) = sum_by-cons one a (range_with_len (a + 1) (suc n)) in
    let less : sum_by one (a ∷ range_with_len (a + 1) n) ≡ one a + sum_by one (range_with_len (a + 1) n) = sum_by-cons one a (range_with_len (a + 1) n) in
    let same : one (a + 1 + n) ≡ one (a + suc n) = ap one (omega arith) in
    omega (arith, more, less, below_next plan changed (a + 1) n, same)
  where
    one : ℕ → ℕ
    one k = cond (is_some (calls_of plan k).notifier && changed k) 1 0

tally : (plan : PlanData) (k : ℕ) (o : Option Relation) (changed : Bool) (count : ℕ) → (calls_of plan k).notifier ≡ o → count < 2 ^ 64 - 1
    → after_change plan k changed count ≡ count + cond (is_some o && changed) 1 0
tally plan k None true count e few = rw e (sym (add-zero count))
tally plan k (Some r) true count e few = rw e (omega (arith, few))
tally plan k None false count e few = sym (add-zero count)
tally plan k (Some r) false count e few = sym (add-zero count)

-- one more cluster is counted where it was notified
pub work_next : (plan : PlanData) (changed : ℕ → Bool) (n : ℕ) (old work new : Work) → n < 2 ^ 32 → work ≡ record old { told = notified_below plan changed n }
    → new ≡ record work { told = after_change plan n (changed n) work.told } → new ≡ record old { told = notified_below plan changed (n + 1) }
unfolding notified_below counts
work_next plan changed n old work new few before is =
    let some : count_by (counts plan changed) (range_with_len 0 n) ≤ n = omega (arith, count_by-le-length (counts plan changed) (range_with_len 0 n), length-range_with_len 0 n) in
    let more : after_change plan n (changed n) (notified_below plan changed n) ≡ notified_below plan changed (n + 1) =
    tally plan n (calls_of plan n).notifier (changed n) (notified_below plan changed n) refl (omega (arith, some, few)) ∙ ap (λ (i : ℕ). notified_below plan changed n + cond (is_some (calls_of plan i).notifier && changed i) 1 0) (sym (zero-add n)) ∙ sym (below_next plan changed 0 n) ∙ ap (λ (m : ℕ). count_by (counts plan changed) (range_with_len 0 m)) (sym (add-one n)) in
    rw (is, before, more) refl

-- one more cluster has its word
pub word_next : (says : Words) (plan : PlanData) (values : Values) (words new : List ℕ) (n word : ℕ) → length words ≡ n
    → ((k : ℕ) → k < n → MaySay says (calls_of plan k).notifier (row_of values (members plan k)) (slice_index words k))
    → MaySay says (calls_of plan n).notifier (row_of values (members plan n)) word → new ≡ words ++ word ∷ []
    → (k : ℕ) → k < n + 1 → MaySay says (calls_of plan k).notifier (row_of values (members plan k)) (slice_index new k)
word_next says plan values words new n word long before last is =
    let P : ℕ → Type 0 = λ k. MaySay says (calls_of plan k).notifier (row_of values (members plan k)) (slice_index new k) in
    below_more P n
    (λ k lt. let same : slice_index new k ≡ slice_index words k = rw is (grind (arith, common_steps, long)) in rw same (before k lt))
    (let same : slice_index new n ≡ word = rw is (grind (arith, common_steps, long)) in rw same last)

-- once the clusters with a changed member were notified, each word is one of the values afterwards
pub words_between : (says : Words) (plan : PlanData) (before after : Values) (pairs : List Pair) (words new : List ℕ) → HaveWords says plan before words
    → AreNotified says plan (members_change plan before after pairs) (λ k. row_of after (members plan k)) words new → HaveWords says plan after new
words_between says plan before after pairs words new have is = record {
  each = is.each ∙ have.each;
  allowed = λ k lt. by k lt (members_change plan before after pairs k) refl;
}
  where
    by : (k : ℕ) → k < length plan.clusters → (b : Bool) → members_change plan before after pairs k ≡ b → HasWord says plan after new k
    by k lt true changed = is.own k lt changed
    by k lt false kept =
        let same : row_of before (members plan k) ≡ row_of after (members plan k) =
        same_row plan before pairs (members plan k) (row_of after (members plan k)) (length-map (members plan k) (value_at after)) kept in
        subst (λ (row : List CtrlValue). MaySay says (calls_of plan k).notifier row (slice_index new k)) same (rw (is.others k (λ h. kept)) (have.allowed k lt))

-- Clusters that don't change may be passed by: those below a further number were notified, too.
notified_still : (says : Words) (plan : PlanData) (changed : ℕ → Bool) (rows : ℕ → List CtrlValue) (a n : ℕ) (old words : List ℕ) → ((k : ℕ) → a ≤ k → k < a + n → changed k ≡ false)
    → AreNotifiedBelow says plan changed rows a old words → AreNotifiedBelow says plan changed rows (a + n) old words
notified_still says plan changed rows a zero old words none before = subst (λ (m : ℕ). AreNotifiedBelow says plan changed rows m old words) (sym (add-zero a)) before
notified_still says plan changed rows a (suc n) old words none before =
    let rest : AreNotifiedBelow says plan changed rows (a + n) old words = notified_still says plan changed rows a n old words (λ k no_less below. none k no_less (omega (arith, below))) before in
    let one : a + n + 1 ≡ a + suc n = omega arith in
    subst (λ (m : ℕ). AreNotifiedBelow says plan changed rows m old words) one
    (notified_next says plan changed rows (a + n) old words words rest (notified_not says plan (a + n) (changed (a + n)) (rows (a + n)) words (none (a + n) (omega arith) (omega arith))))

pub notified_past : (says : Words) (plan : PlanData) (changed : ℕ → Bool) (rows : ℕ → List CtrlValue) (a b : ℕ) (old words : List ℕ) → a ≤ b → ((k : ℕ) → a ≤ k → k < b → changed k ≡ false)
    → AreNotifiedBelow says plan changed rows a old words → AreNotifiedBelow says plan changed rows b old words
notified_past says plan changed rows a b old words order none before =
    let all : a + (b - a) ≡ b = omega (arith, order) in
    subst (λ (m : ℕ). AreNotifiedBelow says plan changed rows m old words) all
    (notified_still says plan changed rows a (b - a) old words (λ k no_less below. none k no_less (omega (arith, below, order))) before)

-- and their notifiers are counted
work_still : (plan : PlanData) (changed : ℕ → Bool) (a n : ℕ) (old work : Work) → a + n ≤ 2 ^ 32 → ((k : ℕ) → a ≤ k → k < a + n → changed k ≡ false)
    → work ≡ record old { told = notified_below plan changed a } → work ≡ record old { told = notified_below plan changed (a + n) }
work_still plan changed a zero old work few none before = before ∙ ap (λ (m : ℕ). record old { told = notified_below plan changed m }) (sym (add-zero a))
work_still plan changed a (suc n) old work few none before =
    let rest : work ≡ record old { told = notified_below plan changed (a + n) } = work_still plan changed a n old work (omega (arith, few)) (λ k no_less below. none k no_less (omega (arith, below))) before in
    let same : work ≡ record work { told = after_change plan (a + n) (changed (a + n)) work.told } =
    ap (λ (m : ℕ). record work { told = m }) (sym (count_not plan (a + n) (changed (a + n)) work.told (none (a + n) (omega arith) (omega arith)))) in
    let one : a + n + 1 ≡ a + suc n = omega arith in
    work_next plan changed (a + n) old work work (omega (arith, few)) rest same ∙ ap (λ (m : ℕ). record old { told = notified_below plan changed m }) one

pub work_past : (plan : PlanData) (changed : ℕ → Bool) (a b : ℕ) (old work : Work) → a ≤ b → b ≤ 2 ^ 32 → ((k : ℕ) → a ≤ k → k < b → changed k ≡ false)
    → work ≡ record old { told = notified_below plan changed a } → work ≡ record old { told = notified_below plan changed b }
work_past plan changed a b old work order few none before =
    let all : a + (b - a) ≡ b = omega (arith, order) in
    work_still plan changed a (b - a) old work (omega (arith, order, few)) (λ k no_less below. none k no_less (omega (arith, below, order))) before
    ∙ ap (λ (m : ℕ). record old { told = notified_below plan changed m }) all
