use Rattle.std.proofs.Common.{rules, ◌≡◌, [], ◌∷◌, sym, ap}
use Rattle.turn_desk.specs.Rule.{place_of}
use Rattle.turn_desk.proofs.Places.{opens}
use Rattle.turn_desk.proofs.desk.Desk.new.Goals as goal

pub new-requires : goal.new-requires
new-requires g c =
    let P = g.T.Served.plan in
    let lies : c.push.new.self.items ≡ place_of c.args.object ∷ [] = search rules in
    let same : P c.of-about.result.value ≡ P c.args.object = ap P c.of-about.ensures in
    let begun = opens g.T.Served.is_legal P g.T.Served.steps (P c.of-about.result.value) c.args.object (sym same) c.requires (g.met.T.Served.starts (P c.of-about.result.value)) in
    rw lies begun
