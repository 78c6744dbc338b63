use Rattle.std.proofs.Common.{refl}
use Rattle.camera_messages.proofs.MessageLemmas.{read_as}
use Rattle.camera_messages.proofs.message.message_of.Goals as goal

-- src/message.rt
pub returns : goal.returns
returns c = read_as c.args.bytes.now _ _ _ _ _ _ c.if-bytes-lt-HEAD.false c.u32_at.ensures c.u32_at-2.ensures c.u32_at-3.ensures c.u32_at-4.ensures c.with_payload.ensures refl
