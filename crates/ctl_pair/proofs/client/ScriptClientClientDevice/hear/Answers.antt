use Rattle.std.proofs.Common.{sym, subst}
use Rattle.turn_desk.proofs.Lines.{last_heard}
use Rattle.ctl_pair.proofs.Coming.{IsCome, come_heard}
use Rattle.ctl_pair.proofs.client.ScriptClientClientDevice.hear.Goals as goal

pub returns-in-Some-clause-heard : goal.returns-in-Some-clause-heard
returns-in-Some-clause-heard g c =
    let said = c.args.self.now.said in
    last_heard said.items said.len c.in-Some.line.now c.args.answer said.ok.0 c.in-Some.ensures.value

pub invariant_of-self-clause-come : goal.invariant_of-self-clause-come
invariant_of-self-clause-come g c =
    let client = c.args.self.now in
    let said = client.said in
    let last = c.requires in
    subst (IsCome client.script.value.items client.commands.items c.bind.new.names client.binding)
    (sym (last_heard said.items said.len c.in-Some.line.now c.args.answer said.ok.0 c.in-Some.ensures.value last.before last.ask last.last))
    (come_heard client.script.value.items client.commands.items client.names c.bind.new.names client.binding said.items last.before last.ask c.args.answer client.come last.last c.bind.ensures.bound c.bind.ensures.kept)
