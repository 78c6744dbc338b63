-- Entries that name no control.
use Rattle.std.proofs.Common.{◌≡◌, ℕ, true, false, Bool, not, ◌&&◌, if◌then◌else◌, Option, None, Some, is_some, refl}
use Rattle.ctrl_types.specs.Flags.{contains}
use Rattle.ctrl_types.specs.declared.check.Check.TheVariants.{EntryOfOtherClass, EntryDisabled}
use Rattle.ctrl_types.specs.declared.flags.TheConstants.Flags.{DISABLED}
use Rattle.ctrl_types.specs.declared.ids.CtrlId.{CtrlId}
use Rattle.ctrl_types.specs.declared.ids.ExtControl.{ExtControl}
use Rattle.ctrl_types.specs.declared.which.Which.{Which}
use Rattle.ctrl_handlers.specs.Plan.{PlanData, control}
use Rattle.ctrl_handlers.specs.Visible.{find}
use Rattle.ctrl_lists.specs.View.{ViewData, is_meant, meant_one, named}
use Rattle.ctrl_lists.specs.Checks.{naming_check, unnamed}

-- an id is refused exactly where the control that it finds isn't meant
pub unnamed_one : (plan : PlanData) (which : Which) (id : CtrlId) (o : Option ℕ) → is_some (unnamed plan which id o) ≡ not (is_some (meant_one plan which id o))
unnamed_one plan which id None = refl
unnamed_one plan which id (Some c) = each (is_meant which id) (contains (control plan c).flags DISABLED)
  where
    each : (meant disabled : Bool)
        → is_some (if not meant then Some EntryOfOtherClass else if disabled then Some EntryDisabled else None) ≡ not (is_some (if meant && not disabled then Some c else None))
    each true true = refl
    each true false = refl
    each false true = refl
    each false false = refl

pub unnamed_entry : (plan : PlanData) (view : ViewData) (entry : ExtControl) → is_some (naming_check plan view entry) ≡ not (is_some (named plan view.handler view.which entry.id))
unnamed_entry plan view entry = unnamed_one plan view.which entry.id (find plan view.handler entry.id)
