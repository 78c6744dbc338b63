use Rattle.std.proofs.Common.{rules, ◌∙◌, ◌-◌, ◌++◌, List, ℕ, ap, drop, length}
use Rattle.std.proofs.lemmas.List.{with_items_is}
use Rattle.camera_messages.specs.Replies.{ReplyData, bytes_of_reply, front}
use Rattle.camera_messages.proofs.ReplyLemmas.{whole_front}
use Rattle.camera_messages.proofs.reply_buffer.ReplyBuffer.finish.Goals as goal

-- src/reply_buffer.rt
pub returns : goal.returns
returns c =
    let r = c.self.inside in
    c.as_slice.ensures.value
    ∙ with_items_is r.bytes c.put_front.new.bytes (search rules)
    ∙ c.put_front.ensures
    ∙ ap (λ (bytes : List ℕ). front (length bytes - 4) r.head ++ drop 20 bytes) c.as_mut_slice.ensures.value
    ∙ whole_front r.head r.bytes.items r.is_whole c.self.invariant
    ∙ ap (λ (reply : ReplyData). bytes_of_reply reply) (c.self.view_is ∙ c.settle.ensures)
