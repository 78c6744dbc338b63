-- What the rows of a set make of the values.
use Rattle.std.proofs.Common.{◌≡◌, ◌<◌, ℕ, nat_eq, false, List, length, ap, sym, subst, ◌∙◌, None}
use Rattle.std.specs.List.{list_any}
use Rattle.std.proofs.lemmas.List.Elements.{All-map}
use Rattle.ctrl_types.specs.declared.ids.FhId.{FhId}
use Rattle.ctrl_types.specs.declared.ids.Pair.{Pair}
use Rattle.ctrl_calls.specs.Meanings.{Verdicts}
use Rattle.ctrl_handlers.specs.Plan.{PlanData, IsPlan, names_twice}
use Rattle.ctrl_handlers.proofs.ClusterLemmas.{cluster_of_within}
use Rattle.ctrl_clusters.specs.Rows.{Values, is_grabbed}
use Rattle.ctrl_clusters.specs.Overlay.{overlay}
use Rattle.ctrl_clusters.specs.NewRows.{AreNewRows, clusters_of, written}
use Rattle.ctrl_clusters.specs.declared.new_row.NewRow.{NewRow}
use Rattle.ctrl_clusters.proofs.OverlayLemmas.{overlay_written}
use Rattle.ctrl_lists.specs.Touched.{AreJudged, TouchedData}
use Rattle.ctrl_lists.proofs.TouchedLemmas.{touched_is, touched_once}
use Rattle.device_history.specs.Ranges.{ranges_now}
use Rattle.device_history.specs.Steps.{Past}
use Rattle.device_history.specs.Asking.{entries_of}
use Rattle.device_history.specs.Grabs.{grabbed}
use Rattle.device_history.specs.Lists.{write_view}
use Rattle.device_history.specs.Values.{now}
use Rattle.device_history.proofs.ListLemmas.{accepted_free}
use Rattle.device_parts.specs.Makes.{Cover}
use Rattle.history_audit.specs.Judged.{IsSet}

-- the rows of a set are judged under its pairs alone
set_judged : (verdicts : Verdicts) (plan : PlanData) (past : Past) (fh : FhId) (pairs : List Pair) (touch : TouchedData) → IsSet verdicts plan (write_view verdicts plan past fh 0 None) pairs touch
    → AreJudged verdicts plan (ranges_now plan past) (now verdicts plan past) pairs pairs touch.rows
set_judged verdicts plan past fh pairs touch sets =
    subst (λ (l : List Pair). AreJudged verdicts plan (ranges_now plan past) (now verdicts plan past) l l touch.rows) (sym sets.touches.own_pairs ∙ sets.own_pairs) sets.touches.judged

-- none of its controls is grabbed
set_free : (verdicts : Verdicts) (plan : PlanData) (past : Past) (fh : FhId) (pairs : List Pair) (touch : TouchedData) → IsSet verdicts plan (write_view verdicts plan past fh 0 None) pairs touch
    → list_any (λ p. is_grabbed (grabbed plan past) p.control) pairs ≡ false
set_free verdicts plan past fh pairs touch sets =
    subst (λ (l : List Pair). list_any (λ p. is_grabbed (grabbed plan past) p.control) l ≡ false) (sym sets.touches.own_pairs ∙ sets.own_pairs)
    (accepted_free verdicts plan (write_view verdicts plan past fh 0 None) (entries_of plan pairs) sets.accepted)

-- its rows are of other clusters each
pub set_rows : (verdicts : Verdicts) (plan : PlanData) (past : Past) (fh : FhId) (pairs : List Pair) (touch : TouchedData) → IsSet verdicts plan (write_view verdicts plan past fh 0 None) pairs touch → AreNewRows plan touch.rows
set_rows verdicts plan past fh pairs touch sets =
    let judged = set_judged verdicts plan past fh pairs touch sets in
    record {
      differ = ap names_twice judged.each_once ∙ touched_once plan pairs;
      within = judged.within;
      long = judged.long;
    }

-- what they make of the present values is what the set lays over them
pub set_makes : (verdicts : Verdicts) (plan : PlanData) (past : Past) (fh : FhId) (pairs : List Pair) (touch : TouchedData) (rows : List NewRow) (values made : Values) → IsPlan plan
    → IsSet verdicts plan (write_view verdicts plan past fh 0 None) pairs touch → rows ≡ touch.rows → values ≡ now verdicts plan past → made ≡ written plan values rows
    → made ≡ overlay verdicts plan (ranges_now plan past) (now verdicts plan past) (grabbed plan past) pairs
set_makes verdicts plan past fh pairs touch rows values made is sets own v m =
    let judged = set_judged verdicts plan past fh pairs touch sets in
    let writes : overlay verdicts plan (ranges_now plan past) (now verdicts plan past) (grabbed plan past) pairs ≡ written plan (now verdicts plan past) touch.rows =
    overlay_written verdicts plan (ranges_now plan past) (now verdicts plan past) (grabbed plan past) pairs touch.rows (set_free verdicts plan past fh pairs touch sets)
    (λ c k found. touched_is plan pairs k is (cluster_of_within plan c k found) ∙ ap (list_any (nat_eq k)) (sym judged.each_once)) judged.become in
    m ∙ ap (λ (rs : List NewRow). written plan values rs) own ∙ ap (λ (vs : Values). written plan vs touch.rows) v ∙ sym writes

-- the clusters of its rows cover its pairs
pub set_cover : (verdicts : Verdicts) (plan : PlanData) (past : Past) (fh : FhId) (pairs : List Pair) (touch : TouchedData) → IsPlan plan → IsSet verdicts plan (write_view verdicts plan past fh 0 None) pairs touch → Cover plan (clusters_of touch.rows) pairs
set_cover verdicts plan past fh pairs touch is sets =
    let judged = set_judged verdicts plan past fh pairs touch sets in
    record {
      known = All-map (λ (k : ℕ). k < length plan.clusters) (λ (r : NewRow). r.cluster) touch.rows judged.within;
      others = λ k lt outside. touched_is plan pairs k is lt ∙ ap (list_any (nat_eq k)) (sym judged.each_once) ∙ outside;
    }
