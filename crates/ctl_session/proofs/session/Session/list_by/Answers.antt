use Rattle.std.proofs.Common.{Option, subst, sym}
use Rattle.ctl_session.specs.Calls.{Calls, Told, list_by, list_told}
use Rattle.ctl_session.specs.Lists.{Wrong}
use Rattle.ctl_session.proofs.CallLemmas.{asks_list}
use Rattle.ctl_session.proofs.session.Session.list_by.Goals as goal

-- no payload refuses it
pub returns-in-None : goal.returns-in-None
returns-in-None g c =
    let v = g.D.Validates.verdict in
    let old = c.args.self.now in
    let new = c.ask-answer.new.self in
    let bytes = c.args.arg.now in
    let told : Told = (c.tell_list.result, c.tell_list.new.arg) in
    subst (λ (wrong : Option Wrong). Calls v old (list_by c.args.forms.now c.args.access bytes c.args.ask.now wrong) new told) (sym c.in-None.is)
    (asks_list v old new c.args.ask.now c.ask-answer.result (list_told c.args.forms.now bytes) told c.ask-answer.ensures c.tell_list.ensures)
