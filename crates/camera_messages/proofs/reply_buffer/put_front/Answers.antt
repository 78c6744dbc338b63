use Rattle.std.proofs.Common.{◌∙◌, ◌-◌, ap, length}
use Rattle.ioctl_bytes.specs.Fields.{with_u32}
use Rattle.camera_messages.proofs.ReplyLemmas.{front_put}
use Rattle.camera_messages.proofs.reply_buffer.put_front.Goals as goal

-- src/reply_buffer.rt
pub returns : goal.returns
returns c =
    front_put c.args.bytes.now c.put_u32.new.bytes c.put_u32-2.new.bytes c.put_u32-3.new.bytes c.put_u32-4.new.bytes c.put_u32-5.new.bytes (length c.args.bytes.now - 4) c.args.head
    (c.put_u32.ensures.part ∙ ap (λ n. with_u32 0 n c.args.bytes.now) c.count-length.ensures) c.put_u32-2.ensures.part c.put_u32-3.ensures.part c.put_u32-4.ensures.part c.put_u32-5.ensures.part
