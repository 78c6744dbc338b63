-- When a cluster of a frame is as its pairs make it over the values before it, and what leaves it so.
use Rattle.std.proofs.Common.{◌≡◌, ◌≢◌, ◌∙◌, ◌<◌, ◌==◌, ◌⊎◌, ℕ, eq-eqb, nat_eq, Bool, true, false, not, cond, List, [], ◌∷◌, length, get_or, Option, None, Some, is_some, unwrap_or, Result, Ok, Err, is_err, inl, inr, refl, sym, ap, subst, arith}
use Rattle.std.specs.List.{All, list_any}
use Rattle.std.specs.Option.{option_and_then}
use Rattle.std.proofs.lemmas.Bool.Decides.{eqb_tells}
use Rattle.std.proofs.lemmas.List.{length-map, get_or-map}
use Rattle.std.proofs.lemmas.List.Elements.{All-head, All-tail, All-get_or, All-from_get_or}
use Rattle.ctrl_types.specs.Values.{zero_value}
use Rattle.ctrl_types.specs.declared.value.CtrlValue.{CtrlValue}
use Rattle.ctrl_types.specs.Pairs.{last_value}
use Rattle.ctrl_types.specs.declared.errno.Errno.{Errno}
use Rattle.ctrl_types.specs.declared.errno.Errno.TheVariants.{EBUSY}
use Rattle.ctrl_types.specs.declared.ids.Pair.{Pair}
use Rattle.ctrl_calls.specs.Meanings.{Verdicts}
use Rattle.ctrl_settle.specs.Control.{Control}
use Rattle.ctrl_handlers.specs.Plan.{PlanData, IsPlan, IsFinished, cluster_of, members, control_in}
use Rattle.ctrl_handlers.proofs.ClusterLemmas.{cluster_of_within, cluster_of_member}
use Rattle.ctrl_clusters.specs.Rows.{Values, value_at, member_value, row_of, Grabs, is_grabbed}
use Rattle.ctrl_clusters.specs.Judging.{validated_row}
use Rattle.ctrl_clusters.specs.Overlay.{is_touched, names_grabbed, row_after, overlay}
use Rattle.ctrl_clusters.specs.NewRows.{value_among, written}
use Rattle.ctrl_clusters.proofs.NewRowLemmas.{same_values, not_equal, written_at}
use Rattle.ctrl_clusters.proofs.OverlayLemmas.{same_each, row_read, row_after_long, length_overlay, overlaid_row, refused_row, separate}
use Rattle.ctrl_forecast.specs.Frames.{FrameData, frame_at, Setting, setting, row_result, row_or, row_over, values_before, IsRightAt}
use Rattle.ctrl_forecast.proofs.LayingLemmas.{new_row}

-- what holds of each of some numbers holds of one of them
pub each_in : (P : ℕ → Type 0) (cs : List ℕ) (c : ℕ) → All P cs → list_any (nat_eq c) cs ≡ true → P c
each_in P [] c all among = cc
each_in P (d ∷ cs) c all among = by (λ h. each_in P cs c (All-tail P d cs all) h) (eqb_tells c d)
  where
    by : (list_any (nat_eq c) cs ≡ true → P c) → ((c == d) ≡ true × (c ≡ d)) ⊎ ((c == d) ≡ false × (c ≢ d)) → P c
    by rest (inl e) = subst P (sym e.1) (All-head P d cs all)
    by rest (inr e) = rest (rw e.0 at among)

-- rows that are the same agree on each member
pub rows_alike : (xs ys : Values) (cs : List ℕ) → row_of xs cs ≡ row_of ys cs → All (λ c. value_at xs c ≡ value_at ys c) cs
rows_alike xs ys cs same =
    All-from_get_or (λ c. value_at xs c ≡ value_at ys c) cs 0
    (λ i lt. sym (get_or-map (value_at xs) cs i 0 zero_value lt) ∙ ap (λ (r : List CtrlValue). get_or r i zero_value) same ∙ get_or-map (value_at ys) cs i 0 zero_value lt)

-- what pairs make of a cluster hangs on the ranges, values and grabs of its members alone
pub outcome_alike : (verdicts : Verdicts) (plan : PlanData) (controls others : List Control) (values elsewhere : Values) (grabs held : Grabs) (pairs : List Pair) (k : ℕ)
    → row_of values (members plan k) ≡ row_of elsewhere (members plan k) → All (λ c. control_in controls c ≡ control_in others c) (members plan k)
    → All (λ c. is_grabbed grabs c ≡ is_grabbed held c) (members plan k) → row_after verdicts plan controls values grabs pairs k ≡ row_after verdicts plan others elsewhere held pairs k
outcome_alike verdicts plan controls others values elsewhere grabs held pairs k same ranged alike =
    separate verdicts plan controls others values elsewhere grabs held pairs pairs k
    (All-from_get_or (λ c. (control_in controls c ≡ control_in others c) × (value_at values c ≡ value_at elsewhere c) × (is_grabbed grabs c ≡ is_grabbed held c) × (last_value pairs c ≡ last_value pairs c)) (members plan k) 0
    (λ i lt. (
      All-get_or (λ c. control_in controls c ≡ control_in others c) (members plan k) i 0 lt ranged,
      All-get_or (λ c. value_at values c ≡ value_at elsewhere c) (members plan k) i 0 lt (rows_alike values elsewhere (members plan k) same),
      All-get_or (λ c. is_grabbed grabs c ≡ is_grabbed held c) (members plan k) i 0 lt alike,
      refl,
    )))

-- A cluster that is right in one frame is right in another that asks the same, where the values before, the ranges and the grabs agree on its members,
-- and where it has the same row, refused or not.
pub right_moves : (verdicts : Verdicts) (plan : PlanData) (earlier controls : List Control) (held grabs : Grabs) (before values : Values) (fs gs : List FrameData) (k i j : ℕ)
    → row_of (values_before before fs i) (members plan k) ≡ row_of (values_before values gs j) (members plan k)
    → All (λ c. control_in earlier c ≡ control_in controls c) (members plan k) → All (λ c. is_grabbed held c ≡ is_grabbed grabs c) (members plan k)
    → row_of (frame_at fs i).values (members plan k) ≡ row_of (frame_at gs j).values (members plan k)
    → (frame_at fs i).asked ≡ (frame_at gs j).asked
    → list_any (nat_eq k) (frame_at fs i).refused ≡ list_any (nat_eq k) (frame_at gs j).refused
    → IsRightAt (setting verdicts plan earlier before held) fs k i → IsRightAt (setting verdicts plan controls values grabs) gs k j
right_moves verdicts plan earlier controls held grabs before values fs gs k i j based ranged alike own asks marks right =
    record { row = sym own ∙ right.row ∙ ap (λ (r : List CtrlValue). row_or r first) based ∙ ap (row_or (row_of (values_before values gs j) (members plan k))) same; refused = sym marks ∙ right.refused ∙ ap is_err same }
  where
    first : Result (List CtrlValue) Errno
    first = row_after verdicts plan earlier (values_before before fs i) held (frame_at fs i).asked k

    same : row_after verdicts plan earlier (values_before before fs i) held (frame_at fs i).asked k ≡ row_after verdicts plan controls (values_before values gs j) grabs (frame_at gs j).asked k
    same =
        ap (λ (pairs : List Pair). row_after verdicts plan earlier (values_before before fs i) held pairs k) asks
        ∙ outcome_alike verdicts plan earlier controls (values_before before fs i) (values_before values gs j) held grabs (frame_at gs j).asked k based ranged alike

-- the row of an outcome has a value for each member
pub over_long : (s : Setting) (base : Values) (pairs : List Pair) (k : ℕ) → length (row_over s base pairs k) ≡ length (members s.plan k)
over_long s base pairs k = by (row_result s base pairs k) refl
  where
    by : (r : Result (List CtrlValue) Errno) → row_result s base pairs k ≡ r → length (row_or (row_of base (members s.plan k)) r) ≡ length (members s.plan k)
    by (Ok row) e = row_after_long s.verdicts s.plan s.controls base s.grabs pairs k row e
    by (Err errno) e = length-map (members s.plan k) (value_at base)

-- only a cluster with a member among the pairs is refused
pub refused_touched : (s : Setting) (base : Values) (pairs : List Pair) (k : ℕ) → is_err (row_result s base pairs k) ≡ true → is_touched pairs (members s.plan k) ≡ true
refused_touched s base pairs k fails = by (is_touched pairs (members s.plan k)) fails
  where
    clash : false ≡ true → ⊥
    clash h = cc

    by : (b : Bool)
        → is_err (cond (not b) (Ok (row_of base (members s.plan k))) (cond (names_grabbed s.grabs pairs (members s.plan k)) (Err EBUSY) (validated_row s.verdicts s.plan s.controls base pairs k))) ≡ true
        → b ≡ true
    by true e = refl
    by false e = absurd (clash e)

-- a cluster without a member among the pairs keeps its row
pub untouched_row : (s : Setting) (base : Values) (pairs : List Pair) (k : ℕ) → is_touched pairs (members s.plan k) ≡ false → row_over s base pairs k ≡ row_of base (members s.plan k)
untouched_row s base pairs k none = rw none refl

-- pairs laid over values give each cluster its row
pub overlay_row : (s : Setting) (base : Values) (pairs : List Pair) (k : ℕ) → IsPlan s.plan → length base ≡ length s.plan.controls → k < length s.plan.clusters
    → row_of (overlay s.verdicts s.plan s.controls base s.grabs pairs) (members s.plan k) ≡ row_over s base pairs k
overlay_row s base pairs k is many lt = by (row_result s base pairs k) refl
  where
    by : (r : Result (List CtrlValue) Errno) → row_result s base pairs k ≡ r → row_of (overlay s.verdicts s.plan s.controls base s.grabs pairs) (members s.plan k) ≡ row_or (row_of base (members s.plan k)) r
    by (Ok row) e = overlaid_row s.verdicts s.plan s.controls base s.grabs pairs k row is many lt e
    by (Err errno) e = refused_row s.verdicts s.plan s.controls base s.grabs pairs k errno is many lt e

-- values are what pairs make of others, where each cluster has its row
pub overlay_of_rows : (s : Setting) (base values : Values) (pairs : List Pair) → IsFinished s.plan → length base ≡ length s.plan.controls → length values ≡ length s.plan.controls
    → ((k : ℕ) → k < length s.plan.clusters → row_of values (members s.plan k) ≡ row_over s base pairs k) → values ≡ overlay s.verdicts s.plan s.controls base s.grabs pairs
overlay_of_rows s base values pairs done many long rows =
    same_values values laid (long ∙ sym (length_overlay s.verdicts s.plan s.controls base s.grabs pairs ∙ many)) (λ c lt. by c (cluster_of s.plan c) refl (done.clustered c (omega (arith, lt, long))))
  where
    laid : Values
    laid = overlay s.verdicts s.plan s.controls base s.grabs pairs

    by : (c : ℕ) (o : Option ℕ) → cluster_of s.plan c ≡ o → is_some (cluster_of s.plan c) ≡ true → value_at values c ≡ value_at laid c
    by c None found there = absurd (clash (sym (ap is_some found) ∙ there))
      where
        clash : false ≡ true → ⊥
        clash h = cc
    by c (Some k) found there =
        let lt : k < length s.plan.clusters = cluster_of_within s.plan c k found in
        each_in (λ d. value_at values d ≡ value_at laid d) (members s.plan k) c (rows_alike values laid (members s.plan k) (rows k lt ∙ sym (overlay_row s base pairs k done.is_plan many lt))) (cluster_of_member s.plan c k found)

-- the row that is written into a cluster
pub written_row : (plan : PlanData) (values : Values) (k : ℕ) (row : List CtrlValue) → IsPlan plan → length values ≡ length plan.controls → k < length plan.clusters → length row ≡ length (members plan k)
    → row_of (written plan values (new_row k row ∷ [])) (members plan k) ≡ row
written_row plan values k row is many lt long =
    same_each (value_at (written plan values (new_row k row ∷ []))) (λ c. unwrap_or (member_value (members plan k) row c) (value_at values c)) (members plan k)
    (λ c among. written_at plan values (new_row k row ∷ []) c (omega (arith, many, each_in (λ d. d < length plan.controls) (members plan k) c (is.members_known k) among))
    ∙ ap (λ (o : Option ℕ). unwrap_or (value_among plan (new_row k row ∷ []) o c) (value_at values c)) (is.members_apart k c lt among)
    ∙ ap (λ (b : Bool). unwrap_or (option_and_then (λ (r : List CtrlValue). member_value (members plan k) r c) (cond b (Some row) None)) (value_at values c)) (eq-eqb k k refl))
    ∙ row_read (members plan k) row (value_at values) (is.members_differ k) long

-- every other cluster keeps its own
pub written_apart : (plan : PlanData) (values : Values) (k j : ℕ) (row : List CtrlValue) → IsPlan plan → length values ≡ length plan.controls → j < length plan.clusters → k ≢ j
    → row_of (written plan values (new_row k row ∷ [])) (members plan j) ≡ row_of values (members plan j)
written_apart plan values k j row is many lt other =
    same_each (value_at (written plan values (new_row k row ∷ []))) (value_at values) (members plan j)
    (λ c among. written_at plan values (new_row k row ∷ []) c (omega (arith, many, each_in (λ d. d < length plan.controls) (members plan j) c (is.members_known j) among))
    ∙ ap (λ (o : Option ℕ). unwrap_or (value_among plan (new_row k row ∷ []) o c) (value_at values c)) (is.members_apart j c lt among)
    ∙ ap (λ (b : Bool). unwrap_or (option_and_then (λ (r : List CtrlValue). member_value (members plan j) r c) (cond b (Some row) None)) (value_at values c)) (not_equal k j other))
