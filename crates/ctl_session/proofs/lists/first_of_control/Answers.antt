use Rattle.std.proofs.Common.{◌∙◌, ap, sym, unwrap_or}
use Rattle.ctl_session.specs.Lists.{names_same}
use Rattle.ctl_session.proofs.PlaceLemmas.{found_at, none_more}
use Rattle.ctl_session.proofs.lists.first_of_control.Goals as goal

-- src/lists.rt
pub returns-then-names_same : goal.returns-then-names_same
returns-then-names_same c =
    sym (ap (λ found. unwrap_or found c.args.place) (found_at (names_same c.args.arg.now c.args.place) c.loop-other.other c.args.count c.loop-other-test.true
    c.loop-other.invariant (sym c.names_same.ensures ∙ c.if-names_same.true)))

-- src/lists.rt
pub loop-other-preserved : goal.loop-other-preserved
loop-other-preserved c =
    none_more (names_same c.args.arg.now c.args.place) c.loop-other.other c.loop-other.invariant (sym c.names_same.ensures ∙ c.if-names_same.false)
