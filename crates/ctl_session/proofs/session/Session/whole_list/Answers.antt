use Rattle.std.proofs.Common.{◌≡◌, ◌∙◌, List, subst}
use Rattle.call_structs.specs.declared.entries.Form.{Form}
use Rattle.ctl_session.specs.Calls.{Calls, Told, formed_list, plan_in, read_count}
use Rattle.ctl_session.specs.Lists.{forms_in}
use Rattle.ctl_session.proofs.session.Session.whole_list.Goals as goal

-- the forms are those of the controls that its entries name
pub returns : goal.returns
returns g c =
    let v = g.D.Validates.verdict in
    let old = c.args.self.now in
    let bytes = c.args.arg.now in
    let told : Told = (c.formed_list.result, c.formed_list.new.arg) in
    let forms : c.as_slice.result.now ≡ forms_in (plan_in old) c.args.handler (read_count bytes) bytes = c.as_slice.ensures.value ∙ (rw (c.plan.ensures, c.read_count-count.ensures.count) at c.in-Ok.ensures.forms) in
    subst (λ (fs : List Form). Calls v old (formed_list v old fs c.args.fh c.args.request c.args.access bytes) c.formed_list.new.self told) forms c.formed_list.ensures
