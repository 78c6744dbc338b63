-- Arrays are alone after every history.
use Rattle.std.proofs.Common.{◌≡◌, ℕ, true, List, [], ◌∷◌, Option, None, Some, is_some, get_or, ap, sym, ◌∙◌}
use Rattle.std.proofs.Math.ListN.{get_or-map}
use Rattle.ctrl_settle.specs.Control.{Control, is_array}
use Rattle.ctrl_handlers.specs.Plan.{IsPlan, PlanData, cluster_at, cluster_of, control, control_in, members, no_control}
use Rattle.ctrl_handlers.proofs.ClusterLemmas.{lone_array}
use Rattle.device_history.specs.Ranges.{ranges_now}
use Rattle.device_history.specs.Steps.{Past}
use Rattle.device_history.proofs.RangeLemmas.{ranges_own}

-- a range change leaves how many elements a control has
same_elems : (plan : PlanData) (older : Past) (c : ℕ) → (control_in (ranges_now plan older) c).elems ≡ (control plan c).elems
same_elems plan older c =
    sym (get_or-map (λ (ctrl : Control). ctrl.elems) (ranges_now plan older) c no_control) ∙ ap (λ (elems : List (Option ℕ)). get_or elems c None) (ranges_own plan older).elems
    ∙ get_or-map (λ (ctrl : Control). ctrl.elems) plan.controls c no_control

pub lone_now : (plan : PlanData) (older : Past) (c k : ℕ) → IsPlan plan → cluster_of plan c ≡ Some k → is_array (control_in (ranges_now plan older) c) ≡ true → (members plan k ≡ c ∷ []) × ((cluster_at plan k).manual ≡ None)
lone_now plan older c k is own array = lone_array plan c k is own (ap (λ (elems : Option ℕ). is_some elems) (sym (same_elems plan older c)) ∙ array)
