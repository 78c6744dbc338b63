-- What a set changes, for the forecasts that are renewed.
use Rattle.std.proofs.Common.{◌≡◌, ℕ, ◌<◌, ◌≤◌, ◌⊎◌, true, false, List, length, Option, None, Some, is_some, unwrap_or, inl, inr, refl, ap, sym, ◌∙◌, arith}
use Rattle.std.specs.Option.{option_and_then}
use Rattle.std.proofs.lemmas.Bool.Decides.{leb_tells}
use Rattle.std.proofs.lemmas.List.{get_or_past}
use Rattle.std.proofs.Math.Dec.{leb}
use Rattle.ctrl_types.specs.Values.{zero_value}
use Rattle.ctrl_types.specs.declared.value.CtrlValue.{CtrlValue}
use Rattle.ctrl_handlers.specs.Plan.{PlanData, cluster_of, members}
use Rattle.ctrl_clusters.specs.Rows.{Values, value_at, member_value}
use Rattle.ctrl_clusters.specs.NewRows.{clusters_of, row_among, value_among, written}
use Rattle.ctrl_clusters.specs.declared.new_row.NewRow.{NewRow}
use Rattle.ctrl_clusters.proofs.NewRowLemmas.{has_row, length_written, written_at}
use Rattle.ctrl_clusters.specs.ControlsData.{is_in_one_of}

-- a cluster without a row gives nothing
nothing_among : (plan : PlanData) (rows : List NewRow) (o : Option ℕ) (c : ℕ) → is_in_one_of (clusters_of rows) o ≡ false → value_among plan rows o c ≡ None
nothing_among plan rows None c apart = refl
nothing_among plan rows (Some k) c apart = by (row_among rows k) (sym (has_row rows k) ∙ apart)
  where
    by : (o : Option (List CtrlValue)) → is_some o ≡ false → option_and_then (λ row. member_value (members plan k) row c) o ≡ None
    by None h = refl
    by (Some row) h = cc

-- rows that are written change values in their clusters alone
pub written_apart : (plan : PlanData) (values : Values) (rows : List NewRow) (c : ℕ) → is_in_one_of (clusters_of rows) (cluster_of plan c) ≡ false → value_at values c ≡ value_at (written plan values rows) c
written_apart plan values rows c apart = by (leb_tells (length values) c)
  where
    by : ((leb (length values) c ≡ true) × (length values ≤ c)) ⊎ ((leb (length values) c ≡ false) × (c < length values)) → value_at values c ≡ value_at (written plan values rows) c
    by (inl past) = get_or_past values c zero_value past.1 ∙ sym (get_or_past (written plan values rows) c zero_value (omega (arith, past.1, length_written plan values rows)))
    by (inr within) = sym (written_at plan values rows c within.1 ∙ ap (λ (o : Option CtrlValue). unwrap_or o (value_at values c)) (nothing_among plan rows (cluster_of plan c) c apart))
