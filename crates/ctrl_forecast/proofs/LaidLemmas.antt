-- Pairs laid over values where only the clusters that they name are looked at.
use Rattle.std.proofs.Common.{◌≡◌, ◌≢◌, ◌∙◌, ◌<◌, ◌≤◌, ◌+◌, ◌-◌, ◌++◌, ◌==◌, ◌⊎◌, ℕ, zero, suc, add-one, Bool, true, false, cond, List, [], ◌∷◌, length, filter, Result, Ok, Err, is_err, inl, inr, refl, sym, ap, arith}
use Rattle.std.specs.List.{range_with_len}
use Rattle.std.proofs.lemmas.Bool.Decides.{eqb_tells}
use Rattle.std.proofs.lemmas.List.{append-nil}
use Rattle.ctrl_types.specs.declared.value.CtrlValue.{CtrlValue}
use Rattle.ctrl_types.specs.declared.errno.Errno.{Errno}
use Rattle.ctrl_types.specs.declared.ids.Pair.{Pair}
use Rattle.ctrl_calls.specs.Meanings.{Verdicts}
use Rattle.ctrl_settle.specs.Control.{Control}
use Rattle.ctrl_handlers.specs.Plan.{PlanData, members}
use Rattle.ctrl_clusters.specs.Rows.{Values, Grabs, row_of}
use Rattle.ctrl_clusters.specs.Overlay.{is_touched, row_after}
use Rattle.ctrl_clusters.specs.NewRows.{written}
use Rattle.ctrl_clusters.proofs.RisingLemmas.{filter_next}
use Rattle.ctrl_forecast.proofs.LayingLemmas.{values_below, length_below, new_row, below_start, below_own, values_ok, values_err, refused_next}

-- what becomes of each cluster, which of them are named, and over what
pub record Laying : Type 0 where
  pub plan : PlanData
  pub outcome : ℕ → Result (List CtrlValue) Errno
  pub named : ℕ → Bool
  pub values : Values

abbrev pub laying : Verdicts → PlanData → List Control → Values → Grabs → List Pair → Laying
laying verdicts plan controls values grabs pairs = record {
  plan = plan;
  outcome = row_after verdicts plan controls values grabs pairs;
  named = λ k. is_touched pairs (members plan k);
  values = values;
}

-- the clusters that aren't named keep their rows
abbrev pub KeepRows : Laying → Type 0
KeepRows l = (k : ℕ) → l.named k ≡ false → l.outcome k ≡ Ok (row_of l.values (members l.plan k))

pub keep_rows : (verdicts : Verdicts) (plan : PlanData) (controls : List Control) (values : Values) (grabs : Grabs) (pairs : List Pair) → KeepRows (laying verdicts plan controls values grabs pairs)
keep_rows verdicts plan controls values grabs pairs k off = rw off refl

-- the first clusters are done, and these are left
pub record IsLaidTo (l : Laying) (m : ℕ) (left : List ℕ) (after : Values) (refused : List ℕ) : Type 0 where
  pub within : m ≤ length l.plan.clusters
  pub left_are : left ≡ filter l.named (range_with_len m (length l.plan.clusters - m))
  pub values_are : after ≡ values_below l.plan l.outcome l.values m
  pub refused_are : refused ≡ filter (λ k. is_err (l.outcome k)) (range_with_len 0 m)

abbrev pub IsLaid : Laying → List ℕ → Values → List ℕ → Type 0
IsLaid l left after refused = (m : ℕ) × IsLaidTo l m left after refused

abbrev fails : Laying → ℕ → Bool
fails l k = is_err (l.outcome k)

-- none of some clusters is named
abbrev NoneNamed : Laying → ℕ → ℕ → Type 0
NoneNamed l m n = (k : ℕ) → m ≤ k → k < n → l.named k ≡ false

-- so they change nothing
values_gap : (l : Laying) (m n : ℕ) → KeepRows l → m ≤ n → NoneNamed l m n → values_below l.plan l.outcome l.values m ≡ values_below l.plan l.outcome l.values n
values_gap l m zero keep le none = let first : m ≡ 0 = omega (arith, le) in ap (values_below l.plan l.outcome l.values) first
values_gap l m (suc n) keep le none = by (eqb_tells m (suc n)) (λ less. values_gap l m n keep less (λ k from below. none k from (omega (arith, below))))
  where
    by : ((m == suc n) ≡ true × (m ≡ suc n)) ⊎ ((m == suc n) ≡ false × (m ≢ suc n)) → (m ≤ n → values_below l.plan l.outcome l.values m ≡ values_below l.plan l.outcome l.values n)
        → values_below l.plan l.outcome l.values m ≡ values_below l.plan l.outcome l.values (suc n)
    by (inl same) rest = ap (values_below l.plan l.outcome l.values) same.1
    by (inr other) rest = let less : m ≤ n = omega (arith, le, other.1) in rest less ∙ below_own l.plan l.outcome l.values n (keep n (none n less (omega arith)))

-- and refuse nothing
refused_gap : (l : Laying) (m n : ℕ) → KeepRows l → m ≤ n → NoneNamed l m n → filter (fails l) (range_with_len 0 m) ≡ filter (fails l) (range_with_len 0 n)
refused_gap l m zero keep le none = let first : m ≡ 0 = omega (arith, le) in ap (λ (n : ℕ). filter (fails l) (range_with_len 0 n)) first
refused_gap l m (suc n) keep le none = by (eqb_tells m (suc n)) (λ less. refused_gap l m n keep less (λ k from below. none k from (omega (arith, below))))
  where
    by : ((m == suc n) ≡ true × (m ≡ suc n)) ⊎ ((m == suc n) ≡ false × (m ≢ suc n)) → (m ≤ n → filter (fails l) (range_with_len 0 m) ≡ filter (fails l) (range_with_len 0 n))
        → filter (fails l) (range_with_len 0 m) ≡ filter (fails l) (range_with_len 0 (suc n))
    by (inl same) rest = ap (λ (n : ℕ). filter (fails l) (range_with_len 0 n)) same.1
    by (inr other) rest =
        let less : m ≤ n = omega (arith, le, other.1) in
        rest less
        ∙ sym (append-nil (filter (fails l) (range_with_len 0 n)))
        ∙ sym (filter_next (fails l) n false (ap is_err (keep n (none n less (omega arith)))))
        ∙ ap (λ (j : ℕ). filter (fails l) (range_with_len 0 j)) (add-one n)

-- the first that is left, and what is left behind it
pub record IsNext (q : ℕ → Bool) (m n k : ℕ) (rest : List ℕ) : Type 0 where
  pub from : m ≤ k
  pub below : k < m + n
  pub passes : q k ≡ true
  pub none : (j : ℕ) → m ≤ j → j < k → q j ≡ false
  pub rest_are : rest ≡ filter q (range_with_len (k + 1) (m + n - (k + 1)))

next_of : (q : ℕ → Bool) (n m k : ℕ) (rest : List ℕ) → k ∷ rest ≡ filter q (range_with_len m n) → IsNext q m n k rest
next_of q zero m k rest is = absurd (clash is)
  where
    clash : k ∷ rest ≡ [] → ⊥
    clash h = cc
next_of q (suc n) m k rest is = by (q m) refl (next_of q n (m + 1) k rest)
  where
    by : (b : Bool) → q m ≡ b → (k ∷ rest ≡ filter q (range_with_len (m + 1) n) → IsNext q (m + 1) n k rest) → IsNext q m (suc n) k rest
    by true e further =
        let whole : k ∷ rest ≡ m ∷ filter q (range_with_len (m + 1) n) = is ∙ ap (λ (b : Bool). cond b (m ∷ filter q (range_with_len (m + 1) n)) (filter q (range_with_len (m + 1) n))) e in
        let first : k ≡ m = cc in
        let behind : rest ≡ filter q (range_with_len (m + 1) n) = cc in
        let many : n ≡ m + suc n - (k + 1) = omega (arith, first) in
        record {
          from = omega (arith, first);
          below = omega (arith, first);
          passes = ap q first ∙ e;
          none = λ j at less. absurd (omega (arith, first, at, less));
          rest_are = behind ∙ ap (λ (i : ℕ). filter q (range_with_len (i + 1) n)) (sym first) ∙ ap (λ (i : ℕ). filter q (range_with_len (k + 1) i)) many;
        }
    by false e further =
        let next : IsNext q (m + 1) n k rest = further (is ∙ ap (λ (b : Bool). cond b (m ∷ filter q (range_with_len (m + 1) n)) (filter q (range_with_len (m + 1) n))) e) in
        let many : m + 1 + n - (k + 1) ≡ m + suc n - (k + 1) = omega arith in
        record {
          from = omega (arith, next.from);
          below = omega (arith, next.below);
          passes = next.passes;
          none = λ j at less. here j at less (eqb_tells m j) next;
          rest_are = next.rest_are ∙ ap (λ (i : ℕ). filter q (range_with_len (k + 1) i)) many;
        }
      where
        here : (j : ℕ) → m ≤ j → j < k → ((m == j) ≡ true × (m ≡ j)) ⊎ ((m == j) ≡ false × (m ≢ j)) → IsNext q (m + 1) n k rest → q j ≡ false
        here j at less (inl same) next = ap q (sym same.1) ∙ e
        here j at less (inr other) next = next.none j (omega (arith, at, other.1)) less

none_left : (q : ℕ → Bool) (n m : ℕ) → [] ≡ filter q (range_with_len m n) → (k : ℕ) → m ≤ k → k < m + n → q k ≡ false
none_left q zero m is k at less = absurd (omega (arith, at, less))
none_left q (suc n) m is k at less = by (q m) refl (eqb_tells m k) (λ none further. none_left q n (m + 1) none k further (omega (arith, less)))
  where
    by : (b : Bool) → q m ≡ b → ((m == k) ≡ true × (m ≡ k)) ⊎ ((m == k) ≡ false × (m ≢ k)) → ([] ≡ filter q (range_with_len (m + 1) n) → m + 1 ≤ k → q k ≡ false) → q k ≡ false
    by true e o rest = absurd (clash (is ∙ ap (λ (b : Bool). cond b (m ∷ filter q (range_with_len (m + 1) n)) (filter q (range_with_len (m + 1) n))) e))
      where
        clash : [] ≡ m ∷ filter q (range_with_len (m + 1) n) → ⊥
        clash h = cc
    by false e (inl same) rest = ap q (sym same.1) ∙ e
    by false e (inr other) rest = rest (is ∙ ap (λ (b : Bool). cond b (m ∷ filter q (range_with_len (m + 1) n)) (filter q (range_with_len (m + 1) n))) e) (omega (arith, at, other.1))

-- at first none is done
pub laid_start : (l : Laying) (left : List ℕ) (after : Values) (refused : List ℕ) → left ≡ filter l.named (range_with_len 0 (length l.plan.clusters)) → after ≡ l.values → refused ≡ [] → IsLaid l left after refused
laid_start l left after refused is same none = (
  0,
  record {
    within = omega arith;
    left_are = is ∙ ap (λ (n : ℕ). filter l.named (range_with_len 0 n)) (omega arith);
    values_are = same ∙ below_start l.plan l.outcome l.values;
    refused_are = none;
  },
)

-- there stay as many values
pub laid_long : (l : Laying) (left : List ℕ) (after : Values) (refused : List ℕ) → IsLaid l left after refused → length after ≡ length l.values
laid_long l left after refused (m, laid) = ap length laid.values_are ∙ length_below l.plan l.outcome l.values m

next_is : (l : Laying) (m k : ℕ) (left : List ℕ) (after : Values) (refused : List ℕ) → IsLaidTo l m (k ∷ left) after refused → IsNext l.named m (length l.plan.clusters - m) k left
next_is l m k left after refused laid = next_of l.named (length l.plan.clusters - m) m k left laid.left_are

-- the next one is a cluster, and is named
pub laid_next : (l : Laying) (k : ℕ) (left : List ℕ) (after : Values) (refused : List ℕ) → IsLaid l (k ∷ left) after refused → (k < length l.plan.clusters) × (l.named k ≡ true)
laid_next l k left after refused (m, laid) =
    let next : IsNext l.named m (length l.plan.clusters - m) k left = next_is l m k left after refused laid in
    (omega (arith, next.below, laid.within), next.passes)

-- all before the next one is done too
reached : (l : Laying) (m k : ℕ) (left : List ℕ) (after : Values) (refused : List ℕ) → KeepRows l → IsLaidTo l m (k ∷ left) after refused
    → (k < length l.plan.clusters) × (left ≡ filter l.named (range_with_len (k + 1) (length l.plan.clusters - (k + 1)))) × (after ≡ values_below l.plan l.outcome l.values k) × (refused ≡ filter (fails l) (range_with_len 0 k))
reached l m k left after refused keep laid =
    let next : IsNext l.named m (length l.plan.clusters - m) k left = next_is l m k left after refused laid in
    let many : m + (length l.plan.clusters - m) - (k + 1) ≡ length l.plan.clusters - (k + 1) = omega (arith, laid.within) in (
      omega (arith, next.below, laid.within),
      next.rest_are ∙ ap (λ (i : ℕ). filter l.named (range_with_len (k + 1) i)) many,
      laid.values_are ∙ values_gap l m k keep next.from next.none,
      laid.refused_are ∙ refused_gap l m k keep next.from next.none,
    )

-- it gets its row
pub laid_ok : (l : Laying) (k : ℕ) (left : List ℕ) (row : List CtrlValue) (after new : Values) (refused more : List ℕ) → KeepRows l → IsLaid l (k ∷ left) after refused → l.outcome k ≡ Ok row
    → new ≡ written l.plan after (new_row k row ∷ []) → more ≡ refused → IsLaid l left new more
laid_ok l k left row after new refused more keep (m, laid) is wrote none =
    let so_far = reached l m k left after refused keep laid in (
      k + 1,
      record {
        within = omega (arith, so_far.0);
        left_are = so_far.1;
        values_are = values_ok l.plan l.outcome l.values k row after new so_far.2 is wrote;
        refused_are = refused_next (fails l) k false refused more (ap is_err is) so_far.3 (none ∙ sym (append-nil refused));
      },
    )

-- or is refused
pub laid_err : (l : Laying) (k : ℕ) (left : List ℕ) (errno : Errno) (after new : Values) (refused more : List ℕ) → KeepRows l → IsLaid l (k ∷ left) after refused → l.outcome k ≡ Err errno
    → new ≡ after → more ≡ refused ++ k ∷ [] → IsLaid l left new more
laid_err l k left errno after new refused more keep (m, laid) is same added =
    let so_far = reached l m k left after refused keep laid in (
      k + 1,
      record {
        within = omega (arith, so_far.0);
        left_are = so_far.1;
        values_are = values_err l.plan l.outcome l.values k errno after new so_far.2 is same;
        refused_are = refused_next (fails l) k true refused more (ap is_err is) so_far.3 added;
      },
    )

-- where none is left, all are done
pub laid_end : (l : Laying) (after : Values) (refused : List ℕ) → KeepRows l → IsLaid l [] after refused
    → (after ≡ values_below l.plan l.outcome l.values (length l.plan.clusters)) × (refused ≡ filter (fails l) (range_with_len 0 (length l.plan.clusters)))
laid_end l after refused keep (m, laid) =
    let none : NoneNamed l m (length l.plan.clusters) = λ k at less. none_left l.named (length l.plan.clusters - m) m laid.left_are k at (omega (arith, less, laid.within)) in
    (laid.values_are ∙ values_gap l m (length l.plan.clusters) keep laid.within none, laid.refused_are ∙ refused_gap l m (length l.plan.clusters) keep laid.within none)
