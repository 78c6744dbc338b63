use Rattle.std.proofs.Common.{rules, ◌≡◌, ◌∙◌, true, ap, subst}
use Rattle.ctl_session.specs.Calls.{Calls, Told, one_ask, one_by, one_entry, one_told}
use Rattle.ctl_session.proofs.CallLemmas.{asks_list_made}
use Rattle.ctl_session.proofs.session.Session.one_by.Goals as goal

-- src/one.rt
pub returns-in-Ok : goal.returns-in-Ok
returns-in-Ok g c =
    let v = g.D.Validates.verdict in
    let told : Told = (c.tell_one.result, c.tell_one.new.arg) in
    let read : c.in-Ok.list ≡ one_entry c.args.id c.args.arg.now = search (rules, c.in-Ok.ensures) in
    let narrow : true ≡ c.args.narrow = search rules in
    subst (λ b. Calls v c.args.self.now (one_by c.args.sets c.args.fh c.args.arg.now c.args.id b) c.ask-answer.new.self told) narrow
    (asks_list_made v c.args.self.now c.ask-answer.new.self c.one_ask-ask.result (one_ask c.args.sets c.args.fh (one_entry c.args.id c.args.arg.now)) c.ask-answer.result (one_told c.args.arg.now) told
    (c.one_ask-ask.ensures ∙ ap (one_ask c.args.sets c.args.fh) read) c.ask-answer.ensures c.tell_one.ensures)
