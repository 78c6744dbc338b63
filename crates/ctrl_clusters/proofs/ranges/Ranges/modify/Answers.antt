use Rattle.std.proofs.Common.{List, slice_set, subst, sym}
use Rattle.std.proofs.lemmas.List.Elements.{All-set}
use Rattle.ctrl_settle.specs.Control.{Control}
use Rattle.ctrl_settle.specs.Faults.{IsWellFormed}
use Rattle.ctrl_clusters.specs.Rows.{AreControlsOf}
use Rattle.ctrl_clusters.proofs.RangeLemmas.{modified_stay}
use Rattle.ctrl_clusters.proofs.ranges.Ranges.modify.Goals as goal

-- they stay controls of their plan
pub returns-clause-stay : goal.returns-clause-stay
returns-clause-stay c plan are =
    subst (λ (l : List Control). AreControlsOf plan (slice_set l c.args.control c.args.changed)) (sym c.self.view_is)
    (modified_stay c.args.self.now c.args.control c.args.changed c.requires.same plan are)

-- nothing is wrong with the new range
pub invariant_of-self : goal.invariant_of-self
invariant_of-self c = All-set IsWellFormed c.self.inside.controls.items c.args.control c.args.changed c.id-id.ensures.well_formed c.self.invariant
