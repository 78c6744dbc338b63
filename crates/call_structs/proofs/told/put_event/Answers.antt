use Rattle.std.proofs.Common.{◌∙◌, ap}
use Rattle.ioctl_bytes.specs.Fields.{with_u32, zeros}
use Rattle.ioctl_bytes.specs.declared.calls.TheConstants.{V4L2_EVENT_CTRL}
use Rattle.ioctl_bytes.specs.declared.layout.v4l2_event.TheConstants as event
use Rattle.call_structs.specs.Told.{with_change}
use Rattle.call_structs.proofs.told.put_event.Goals as goal

-- src/told.rt
pub returns-clause-told : goal.returns-clause-told
returns-clause-told c =
    let e = c.args.event.now in
    let typed = c.put_u32.ensures.part ∙ ap (with_u32 event.TYPE V4L2_EVENT_CTRL) (c.clear.ensures ∙ ap zeros c.requires) in
    let changed = c.put_change.ensures.told ∙ ap (with_change e) typed in
    let waits = c.put_u32-2.ensures.part ∙ ap (with_u32 event.PENDING e.pending) changed in
    let numbered = c.put_u32-3.ensures.part ∙ ap (with_u32 event.SEQUENCE e.sequence) waits in
    c.put_u32-4.ensures.part ∙ ap (with_u32 event.ID e.id.0) numbered
