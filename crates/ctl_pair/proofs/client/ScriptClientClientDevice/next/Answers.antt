use Rattle.ctl_pair.proofs.Coming.{come_next}
use Rattle.ctl_pair.proofs.client.ScriptClientClientDevice.next.Goals as goal

pub invariant_of-self-2-clause-come : goal.invariant_of-self-2-clause-come
invariant_of-self-2-clause-come g c =
    let client = c.args.self.now in
    come_next client.script.value.items client.commands.items c.pop.new.self.items client.names client.binding c.of-binding.result client.said.items c.push_reserved.new.self.items c.in-Some.command c.ask_of.result c.in-Some-ask_of.ask
    c.in-Some.ensures.items client.come c.ask_of.ensures c.in-Some-ask_of.is c.of-binding.ensures c.push_reserved.ensures.items
