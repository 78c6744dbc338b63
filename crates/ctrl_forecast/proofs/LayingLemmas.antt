-- Pairs laid over values, cluster after cluster.
use Rattle.std.proofs.Common.{◌≡◌, ◌≢◌, ℕ, zero, suc, add-one, ◌<◌, ◌≤◌, ◌+◌, ◌==◌, ◌⊎◌, Bool, true, false, cond, nat_eq, List, [], ◌∷◌, ◌++◌, length, map, filter, Option, None, Some, unwrap_or, Result, Ok, Err, inl, inr, refl, ap, sym, ◌∙◌, arith, if◌then◌else◌, count_by}
use Rattle.std.specs.List.{range_with_len}
use Rattle.std.proofs.lemmas.Bool.Decides.{eqb_tells}
use Rattle.std.proofs.lemmas.List.FromFn.{length-map-range_with_len, get_or-map-range_with_len}
use Rattle.ctrl_types.specs.Values.{zero_value}
use Rattle.ctrl_types.specs.declared.value.CtrlValue.{CtrlValue}
use Rattle.ctrl_types.specs.declared.errno.Errno.{Errno}
use Rattle.ctrl_handlers.specs.Plan.{PlanData, cluster_of, members}
use Rattle.ctrl_types.specs.declared.ids.Pair.{Pair}
use Rattle.ctrl_calls.specs.Meanings.{Verdicts}
use Rattle.ctrl_settle.specs.Control.{Control}
use Rattle.ctrl_handlers.proofs.ClusterLemmas.{cluster_of_within}
use Rattle.ctrl_clusters.specs.Rows.{Values, Grabs, value_at, member_value, row_of}
use Rattle.ctrl_clusters.specs.Overlay.{result_value, result_value_in, row_after, value_after, overlay}
use Rattle.ctrl_clusters.specs.NewRows.{value_among, written}
use Rattle.ctrl_clusters.specs.declared.new_row.NewRow.{NewRow}
use Rattle.ctrl_clusters.proofs.NewRowLemmas.{same_values, written_at, length_written}
use Rattle.ctrl_clusters.proofs.RisingLemmas.{filter_next}
use Rattle.ctrl_clusters.proofs.OverlayLemmas.{value_own}

-- whether a cluster is the one with this number
abbrev pub is_cluster : Option ℕ → ℕ → Bool
is_cluster None k = false
is_cluster (Some j) k = nat_eq j k

-- the value that one of the first clusters gives a control of it
pub given_below : PlanData → (ℕ → Result (List CtrlValue) Errno) → ℕ → Option ℕ → ℕ → Option CtrlValue
given_below plan outcome zero o c = None
given_below plan outcome (suc n) o c = if is_cluster o n then result_value (members plan n) (outcome n) c else given_below plan outcome n o c

-- the value of a control once the first clusters have their rows
abbrev pub value_below : PlanData → (ℕ → Result (List CtrlValue) Errno) → Values → ℕ → ℕ → CtrlValue
value_below plan outcome values n c = unwrap_or (given_below plan outcome n (cluster_of plan c) c) (value_at values c)

pub values_below : PlanData → (ℕ → Result (List CtrlValue) Errno) → Values → ℕ → Values
values_below plan outcome values n = map (value_below plan outcome values n) (range_with_len 0 (length values))

pub length_below : (plan : PlanData) (outcome : ℕ → Result (List CtrlValue) Errno) (values : Values) (n : ℕ) → length (values_below plan outcome values n) ≡ length values
unfolding values_below
length_below plan outcome values n = length-map-range_with_len (value_below plan outcome values n) 0 (length values)

below_at : (plan : PlanData) (outcome : ℕ → Result (List CtrlValue) Errno) (values : Values) (n c : ℕ) → c < length values → value_at (values_below plan outcome values n) c ≡ value_below plan outcome values n c
unfolding values_below
below_at plan outcome values n c lt = get_or-map-range_with_len (value_below plan outcome values n) 0 (length values) c c zero_value lt (omega arith)

-- at first none has
pub below_start : (plan : PlanData) (outcome : ℕ → Result (List CtrlValue) Errno) (values : Values) → values ≡ values_below plan outcome values 0
unfolding given_below
below_start plan outcome values = same_values values (values_below plan outcome values 0) (sym (length_below plan outcome values 0)) (λ i lt. sym (below_at plan outcome values 0 i lt))

-- a later cluster has given nothing
not_below : (plan : PlanData) (outcome : ℕ → Result (List CtrlValue) Errno) (n j c : ℕ) → n ≤ j → given_below plan outcome n (Some j) c ≡ None
unfolding given_below
not_below plan outcome zero j c le = refl
not_below plan outcome (suc n) j c le = by (eqb_tells j n) (not_below plan outcome n j c (omega (arith, le)))
  where
    by : ((j == n) ≡ true × (j ≡ n)) ⊎ ((j == n) ≡ false × (j ≢ n)) → given_below plan outcome n (Some j) c ≡ None → given_below plan outcome (suc n) (Some j) c ≡ None
    by (inl same) rest = absurd (omega (arith, le, same.1))
    by (inr other) rest = rw other.0 rest

-- an earlier one has given what it gives
is_below : (plan : PlanData) (outcome : ℕ → Result (List CtrlValue) Errno) (n j c : ℕ) → j < n → given_below plan outcome n (Some j) c ≡ result_value (members plan j) (outcome j) c
unfolding given_below
is_below plan outcome zero j c lt = absurd (omega (arith, lt))
is_below plan outcome (suc n) j c lt = by (eqb_tells j n) (λ further. is_below plan outcome n j c further)
  where
    by : ((j == n) ≡ true × (j ≡ n)) ⊎ ((j == n) ≡ false × (j ≢ n)) → (j < n → given_below plan outcome n (Some j) c ≡ result_value (members plan j) (outcome j) c)
        → given_below plan outcome (suc n) (Some j) c ≡ result_value (members plan j) (outcome j) c
    by (inl same) rest = rw same.0 (ap (λ k. result_value (members plan k) (outcome k) c) (sym same.1))
    by (inr other) rest = rw other.0 (rest (omega (arith, lt, other.1)))

-- the row that a cluster gets
abbrev pub new_row : ℕ → List CtrlValue → NewRow
new_row k row = record { cluster = k; row = row }

-- the row of one more cluster is written
pub below_ok : (plan : PlanData) (outcome : ℕ → Result (List CtrlValue) Errno) (values : Values) (k : ℕ) (row : List CtrlValue) → outcome k ≡ Ok row
    → written plan (values_below plan outcome values k) (new_row k row ∷ []) ≡ values_below plan outcome values (suc k)
unfolding given_below
below_ok plan outcome values k row is =
    same_values (written plan before (r ∷ [])) (values_below plan outcome values (suc k)) (length_written plan before (r ∷ []) ∙ length_below plan outcome values k ∙ sym (length_below plan outcome values (suc k)))
    (λ i lt. let less : i < length values = omega (arith, lt, length_written plan before (r ∷ []), length_below plan outcome values k) in
    written_at plan before (r ∷ []) i (omega (arith, less, length_below plan outcome values k))
    ∙ ap (unwrap_or (value_among plan (r ∷ []) (cluster_of plan i) i)) (below_at plan outcome values k i less)
    ∙ by i (cluster_of plan i)
    ∙ sym (below_at plan outcome values (suc k) i less))
  where
    r : NewRow
    r = new_row k row

    before : Values
    before = values_below plan outcome values k

    by : (i : ℕ) (o : Option ℕ) → unwrap_or (value_among plan (r ∷ []) o i) (unwrap_or (given_below plan outcome k o i) (value_at values i)) ≡ unwrap_or (given_below plan outcome (suc k) o i) (value_at values i)
    by i None = none k
      where
        none : (n : ℕ) → unwrap_or (given_below plan outcome n None i) (value_at values i) ≡ unwrap_or (given_below plan outcome n None i) (value_at values i)
        none n = refl
    by i (Some j) = at (eqb_tells k j) (eqb_tells j k)
      where
        at : ((k == j) ≡ true × (k ≡ j)) ⊎ ((k == j) ≡ false × (k ≢ j)) → ((j == k) ≡ true × (j ≡ k)) ⊎ ((j == k) ≡ false × (j ≢ k))
            → unwrap_or (value_among plan (r ∷ []) (Some j) i) (unwrap_or (given_below plan outcome k (Some j) i) (value_at values i)) ≡ unwrap_or (given_below plan outcome (suc k) (Some j) i) (value_at values i)
        at (inl same) (inl own) =
            let own_row : result_value (members plan k) (outcome k) i ≡ member_value (members plan j) row i = ap (λ (o : Result (List CtrlValue) Errno). result_value (members plan k) o i) is ∙ ap (λ (m : ℕ). member_value (members plan m) row i) same.1 in
            rw (same.0, own.0, not_below plan outcome k j i (omega (arith, own.1)), own_row) refl
        at (inl same) (inr off) = absurd (off.1 (sym same.1))
        at (inr other) (inl own) = absurd (other.1 (sym own.1))
        at (inr other) (inr off) = rw (other.0, off.0) refl

-- one that is refused gives nothing
pub below_err : (plan : PlanData) (outcome : ℕ → Result (List CtrlValue) Errno) (values : Values) (k : ℕ) (errno : Errno) → outcome k ≡ Err errno → values_below plan outcome values k ≡ values_below plan outcome values (suc k)
unfolding given_below
below_err plan outcome values k errno is =
    same_values (values_below plan outcome values k) (values_below plan outcome values (suc k)) (length_below plan outcome values k ∙ sym (length_below plan outcome values (suc k)))
    (λ i lt. let less : i < length values = omega (arith, lt, length_below plan outcome values k) in
    below_at plan outcome values k i less ∙ ap (λ (o : Option CtrlValue). unwrap_or o (value_at values i)) (by i (cluster_of plan i)) ∙ sym (below_at plan outcome values (suc k) i less))
  where
    by : (i : ℕ) (o : Option ℕ) → given_below plan outcome k o i ≡ given_below plan outcome (suc k) o i
    by i None = refl
    by i (Some j) = at (eqb_tells j k)
      where
        at : ((j == k) ≡ true × (j ≡ k)) ⊎ ((j == k) ≡ false × (j ≢ k)) → given_below plan outcome k (Some j) i ≡ given_below plan outcome (suc k) (Some j) i
        at (inl own) = not_below plan outcome k j i (omega (arith, own.1)) ∙ sym (rw own.0 (ap (λ (o : Result (List CtrlValue) Errno). result_value (members plan k) o i) is))
        at (inr off) = sym (rw off.0 refl)

-- one that gets the row that it has gives nothing new
pub below_own : (plan : PlanData) (outcome : ℕ → Result (List CtrlValue) Errno) (values : Values) (k : ℕ) → outcome k ≡ Ok (row_of values (members plan k)) → values_below plan outcome values k ≡ values_below plan outcome values (suc k)
unfolding given_below
below_own plan outcome values k is =
    same_values (values_below plan outcome values k) (values_below plan outcome values (suc k)) (length_below plan outcome values k ∙ sym (length_below plan outcome values (suc k)))
    (λ i lt. let less : i < length values = omega (arith, lt, length_below plan outcome values k) in
    below_at plan outcome values k i less ∙ by i (cluster_of plan i) ∙ sym (below_at plan outcome values (suc k) i less))
  where
    by : (i : ℕ) (o : Option ℕ) → unwrap_or (given_below plan outcome k o i) (value_at values i) ≡ unwrap_or (given_below plan outcome (suc k) o i) (value_at values i)
    by i None = refl
    by i (Some j) = at (eqb_tells j k)
      where
        at : ((j == k) ≡ true × (j ≡ k)) ⊎ ((j == k) ≡ false × (j ≢ k)) → unwrap_or (given_below plan outcome k (Some j) i) (value_at values i) ≡ unwrap_or (given_below plan outcome (suc k) (Some j) i) (value_at values i)
        at (inl own) =
            let given : result_value (members plan k) (outcome k) i ≡ member_value (members plan k) (row_of values (members plan k)) i = ap (λ (o : Result (List CtrlValue) Errno). result_value (members plan k) o i) is in
            rw (own.0, not_below plan outcome k j i (omega (arith, own.1)), given) (sym (value_own values (members plan k) i))
        at (inr off) = rw off.0 refl

-- once all clusters have their rows, the pairs are laid
pub below_end : (verdicts : Verdicts) (plan : PlanData) (controls : List Control) (values : Values) (grabs : Grabs) (pairs : List Pair)
    → values_below plan (row_after verdicts plan controls values grabs pairs) values (length plan.clusters) ≡ overlay verdicts plan controls values grabs pairs
unfolding values_below overlay given_below
below_end verdicts plan controls values grabs pairs = same_map (range_with_len 0 (length values))
  where
    outcome : ℕ → Result (List CtrlValue) Errno
    outcome = row_after verdicts plan controls values grabs pairs

    none : (n c : ℕ) → given_below plan outcome n None c ≡ None
    none zero c = refl
    none (suc n) c = none n c

    by : (c : ℕ) (o : Option ℕ) → cluster_of plan c ≡ o → given_below plan outcome (length plan.clusters) o c ≡ result_value_in plan outcome o c
    by c None found = none (length plan.clusters) c
    by c (Some j) found = is_below plan outcome (length plan.clusters) j c (cluster_of_within plan c j found)

    same_map : (cs : List ℕ) → map (value_below plan outcome values (length plan.clusters)) cs ≡ map (value_after verdicts plan controls values grabs pairs) cs
    same_map [] = refl
    same_map (c ∷ cs) = rw (by c (cluster_of plan c) refl, same_map cs) refl

pub refused_next : (p : ℕ → Bool) (k : ℕ) (b : Bool) (old new : List ℕ) → p k ≡ b → old ≡ filter p (range_with_len 0 k) → new ≡ old ++ cond b (k ∷ []) [] → new ≡ filter p (range_with_len 0 (k + 1))
refused_next p k b old new is so_far more = more ∙ ap (λ ks. ks ++ cond b (k ∷ []) []) so_far ∙ sym (filter_next p k b is)

-- the values after one more cluster, which gets a row
pub values_ok : (plan : PlanData) (outcome : ℕ → Result (List CtrlValue) Errno) (values : Values) (k : ℕ) (row : List CtrlValue) (old new : Values) → old ≡ values_below plan outcome values k → outcome k ≡ Ok row
    → new ≡ written plan old (new_row k row ∷ []) → new ≡ values_below plan outcome values (k + 1)
values_ok plan outcome values k row old new so_far is more = more ∙ ap (λ v. written plan v (new_row k row ∷ [])) so_far ∙ below_ok plan outcome values k row is ∙ ap (values_below plan outcome values) (sym (add-one k))

-- the same, where it is refused
pub values_err : (plan : PlanData) (outcome : ℕ → Result (List CtrlValue) Errno) (values : Values) (k : ℕ) (errno : Errno) (old new : Values) → old ≡ values_below plan outcome values k → outcome k ≡ Err errno
    → new ≡ old → new ≡ values_below plan outcome values (k + 1)
values_err plan outcome values k errno old new so_far is more = more ∙ so_far ∙ below_err plan outcome values k errno is ∙ ap (values_below plan outcome values) (sym (add-one k))
