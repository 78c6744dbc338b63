use Rattle.std.proofs.Common.{rules, ap, length, nat_lt, subst, sym}
use Rattle.ctrl_types.specs.Numbers.{errno_number}
use Rattle.ctrl_types.specs.declared.errno.Errno.TheVariants.{EINVAL}
use Rattle.ioctl_bytes.specs.Fields.{u32_in}
use Rattle.ioctl_bytes.specs.declared.layout.v4l2_ext_controls.TheConstants as head
use Rattle.call_structs.specs.Entries.{list_size}
use Rattle.ctl_session.specs.Calls.{Calls, Told, read_count, refused, whole_list}
use Rattle.ctl_session.specs.Session.{SessionData}
use Rattle.ctl_session.specs.declared.calls.TheConstants.{CUT}
use Rattle.ctl_session.specs.declared.lists.TheConstants.{V4L2_CID_MAX_CTRLS}
use Rattle.ctl_session.proofs.CallLemmas.{if_not, if_so, refuses, sized_by}
use Rattle.ctl_session.proofs.session.Session.list.Goals as goal

-- src/list_calls.rt
pub returns-then-u32_at-gt-V4L2_CID_MAX_CTRLS : goal.returns-then-u32_at-gt-V4L2_CID_MAX_CTRLS
returns-then-u32_at-gt-V4L2_CID_MAX_CTRLS g c =
    let v = g.D.Validates.verdict in
    let old = c.args.self.now in
    let new = c.refuse.new.self in
    let bytes = c.args.arg.now in
    let told : Told = (c.refuse.result, bytes) in
    let meant = refused (errno_number EINVAL) bytes in
    if_not v old new (nat_lt (length bytes) head.SIZE) (refused CUT bytes) _ told (search rules)
    (if_so v old new (nat_lt V4L2_CID_MAX_CTRLS (u32_in head.COUNT bytes)) meant _ told (search rules)
    (subst (λ (then : SessionData). Calls v old meant then told) (sym c.refuse.ensures.session)
    (refuses v old (errno_number EINVAL) bytes told (ap (λ e. (e, bytes)) c.refuse.ensures.errno))))

-- src/list_calls.rt
pub returns : goal.returns
returns g c =
    let v = g.D.Validates.verdict in
    let old = c.args.self.now in
    let new = c.whole_list.new.self in
    let bytes = c.args.arg.now in
    let told : Told = (c.whole_list.result, c.whole_list.new.arg) in
    if_not v old new (nat_lt (length bytes) head.SIZE) (refused CUT bytes) _ told (search rules)
    (if_not v old new (nat_lt V4L2_CID_MAX_CTRLS (u32_in head.COUNT bytes)) (refused (errno_number EINVAL) bytes) _ told (search rules)
    (sized_by v old new (list_size (read_count bytes)) bytes (whole_list v old c.args.handler c.args.fh c.args.request c.args.access bytes) told (search rules)
    c.whole_list.ensures))
