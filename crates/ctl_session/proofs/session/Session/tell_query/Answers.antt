use Rattle.std.proofs.Common.{◌∙◌, [], ap, sym}
use Rattle.ioctl_bytes.specs.Fields.{u32_in}
use Rattle.ioctl_bytes.specs.declared.layout.v4l2_queryctrl.TheConstants.{ID}
use Rattle.call_structs.specs.Told.{queryctrl}
use Rattle.ctl_session.specs.Calls.{info_put, with_old_id}
use Rattle.ctl_session.proofs.session.Session.tell_query.Goals as goal

-- src/queries.rt
pub returns-in-Ok : goal.returns-in-Ok
returns-in-Ok g c =
    let told = c.put_old_id.ensures ∙ ap (λ id. with_old_id id c.put_query.new.bytes) c.u32_at-asked.ensures ∙ ap (with_old_id (u32_in ID c.args.arg.now)) c.put_query.ensures.told in
    ((λ info. c.name.result.now), ap (λ bytes. (0, bytes)) told ∙ sym (ap (info_put (λ info. queryctrl info c.name.result.now) c.args.arg.now) c.in-Ok.is))

-- src/queries.rt
pub returns-in-Err : goal.returns-in-Err
returns-in-Err g c = ((λ info. []), sym (ap (info_put (λ info. queryctrl info []) c.args.arg.now) c.in-Err.is))
