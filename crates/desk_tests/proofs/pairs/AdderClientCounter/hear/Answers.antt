use Rattle.turn_desk.proofs.Lines.{last_heard}
use Rattle.desk_tests.proofs.pairs.AdderClientCounter.hear.Goals as goal

pub returns-in-Some-clause-heard : goal.returns-in-Some-clause-heard
returns-in-Some-clause-heard c =
    let said = c.args.self.now.said in
    last_heard said.items said.len c.in-Some.line.now c.args.answer said.ok.0 c.in-Some.ensures.value
