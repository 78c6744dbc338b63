use Rattle.std.proofs.Common.{◌≡◌, sym, ap, ◌∙◌, subst}
use mathlib.Core.Option.{some-injective}
use Rattle.turn_desk.specs.Ending.{IsEnded}
use Rattle.turn_desk.proofs.Places.{ends}
use Rattle.turn_desk.proofs.desk.take_object.Goals as goal

pub returns : goal.returns
returns g c =
    let r = c.requires.closer in
    let t = g.T.Served in
    let e = ends t.is_legal t.plan t.steps (t.plan c.args.table.shared.key.value) c.args.closer.id r.made c.args.closer.me.0 _ _ r.closes r.unheld r.enough c.close_with-closed.ensures.values.2 in
    let object : e.0 ≡ c.take-object.result.object = ap (λ p. p.object) (some-injective _ _ (sym e.1 ∙ c.take-object.ensures.value)) in
    subst (IsEnded t.is_legal t.plan t.steps (t.plan c.args.table.shared.key.value) c.args.closer.me.0.accounts) object e.2
