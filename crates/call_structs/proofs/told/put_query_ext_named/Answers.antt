use Rattle.std.proofs.Common.{◌∙◌, ap}
use Rattle.ioctl_bytes.specs.Fields.{with_name, with_u32, zeros}
use Rattle.ioctl_bytes.specs.declared.layout.v4l2_query_ext_ctrl.TheConstants as ext
use Rattle.call_structs.specs.Told.{flags_told, size_of, type_told}
use Rattle.call_structs.proofs.told.put_query_ext_named.Goals as goal

-- src/told.rt
pub returns-clause-told : goal.returns-clause-told
returns-clause-told c =
    let info = c.args.info.now in
    let known = c.put_u32.ensures.part ∙ ap (with_u32 ext.ID info.id.0) (c.clear.ensures ∙ ap zeros c.requires) in
    let typed = c.put_u32-2.ensures.part ∙ ap (λ t. with_u32 ext.TYPE t c.put_u32.new.bytes) c.type_told.ensures
    ∙ ap (with_u32 ext.TYPE (type_told info.id info.flags info.kind)) known in
    let named = c.put_name.ensures.part ∙ ap (with_name ext.NAME c.args.name.now) typed in
    let flagged = c.put_u32-3.ensures.part ∙ ap (λ f. with_u32 ext.FLAGS f c.put_name.new.bytes) c.flags_told.ensures
    ∙ ap (with_u32 ext.FLAGS (flags_told info.kind info.flags)) named in
    let sized = c.put_u32-4.ensures.part ∙ ap (λ n. with_u32 ext.ELEM_SIZE n c.put_u32-3.new.bytes) c.size_of.ensures
    ∙ ap (with_u32 ext.ELEM_SIZE (size_of info.kind)) flagged in
    c.put_u32-5.ensures.part ∙ ap (with_u32 ext.ELEMS info.elems) sized
