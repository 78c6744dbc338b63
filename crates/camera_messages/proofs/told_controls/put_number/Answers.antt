use Rattle.std.proofs.Common.{rules, ◌≡◌, ◌++◌, List, ℕ, subst}
use Rattle.std.specs.Int.{cast_unsigned, w64}
use Rattle.byteorder.specs.Endian.{little_bytes}
use Rattle.camera_messages.specs.Replies.{Puts, wide}
use Rattle.camera_messages.proofs.ReplyLemmas.{puts_both}
use Rattle.camera_messages.proofs.told_controls.put_number.Goals as goal

-- src/told_controls.rt
pub returns : goal.returns
returns c =
    let old = c.args.reply.now in
    let new = c.put_wide.new.self in
    let bytes : c.to_le_bytes.result ≡ little_bytes 8 (cast_unsigned w64 c.args.number) = search rules in
    subst (λ (bytes : List ℕ). Puts old new (little_bytes 4 8 ++ wide bytes)) bytes
    (puts_both old c.put_u32.new.self new (little_bytes 4 8) (wide c.to_le_bytes.result) c.put_u32.ensures c.put_wide.ensures)
