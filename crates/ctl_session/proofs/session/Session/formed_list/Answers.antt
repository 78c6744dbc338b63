use Rattle.std.proofs.Common.{◌≡◌, ◌∙◌, Option, ap, subst}
use Rattle.device_history.specs.declared.ask.Ask.{Ask}
use Rattle.ctl_session.specs.Calls.{Calls, Told, fault_told, is_write, list_by, refusing, whole_ask}
use Rattle.ctl_session.specs.Lists.{Wrong, wrong_payload}
use Rattle.ctl_session.proofs.CallLemmas.{list_behind, list_without}
use Rattle.ctl_session.proofs.session.Session.formed_list.Goals as goal

-- a session of which it was found out what refuses the list stays, and is asked as it was before
pub returns-in-Ok-refusing : goal.returns-in-Ok-refusing
returns-in-Ok-refusing g c =
    let v = g.D.Validates.verdict in
    let old = c.args.self.now in
    let between = c.refusing.new.self in
    let new = c.list_by.new.self in
    let forms = c.args.forms.now in
    let access = c.args.access in
    let bytes = c.args.arg.now in
    let told : Told = (c.list_by.result, c.list_by.new.arg) in
    let first : Option Wrong = wrong_payload forms (is_write access) bytes in
    let ask = whole_ask forms c.args.fh c.args.request access bytes in
    let found : c.wrong_payload-wrong.result ≡ first = rw c.is_write.ensures at c.wrong_payload-wrong.ensures.wrong in
    let wrong : c.in-Ok-refusing.wrong ≡ refusing v old bytes c.in-Ok.ask first = c.in-Ok-refusing.ensures.refusing ∙ ap (refusing v old bytes c.in-Ok.ask) found in
    list_behind v old between new forms access bytes ask (refusing v old bytes ask first) told c.refusing.ensures.stays
    (subst (λ (a : Ask). Calls v between (list_by forms access bytes a (refusing v old bytes a first)) new told) c.in-Ok.ensures
    (subst (λ (w : Option Wrong). Calls v between (list_by forms access bytes c.in-Ok.ask w) new told) wrong c.list_by.ensures))

-- there was no room to find out what refuses it
pub returns : goal.returns
returns g c =
    let v = g.D.Validates.verdict in
    let forms = c.args.forms.now in
    let bytes = c.args.arg.now in
    let told : Told = (c.tell_fault-in-Err.result, c.tell_fault-in-Err.new.arg) in
    let wrong : Option Wrong = refusing v c.args.self.now bytes (whole_ask forms c.args.fh c.args.request c.args.access bytes) (wrong_payload forms (is_write c.args.access) bytes) in
    list_behind v c.args.self.now c.refusing.new.self c.refusing.new.self forms c.args.access bytes (whole_ask forms c.args.fh c.args.request c.args.access bytes) wrong told c.refusing.ensures.stays
    (list_without v c.refusing.new.self forms c.args.access bytes (whole_ask forms c.args.fh c.args.request c.args.access bytes) wrong told
    (c.tell_fault-in-Err.ensures ∙ ap (fault_told bytes) c.no_memory-in-Err.ensures))
