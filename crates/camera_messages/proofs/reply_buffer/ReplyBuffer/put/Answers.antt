use Rattle.std.proofs.Common.{◌≡◌, ◌≤◌, ◌∙◌, ◌&&◌, List, ℕ, true, ap, drop, is_ok, length, refl, subst, sym}
use Rattle.camera_messages.specs.Replies.{Puts, ReplyData}
use Rattle.camera_messages.proofs.ReplyLemmas.{front_kept, put_behind}
use Rattle.camera_messages.proofs.reply_buffer.ReplyBuffer.put.Goals as goal

-- src/reply_buffer.rt
pub invariant_of-self : goal.invariant_of-self
invariant_of-self c =
    subst (λ (items : List ℕ). 20 ≤ length items) (sym c.extend_from_slice.ensures.items)
    (front_kept 20 c.self.inside.bytes.items c.args.bytes.now (is_ok c.extend_from_slice.result) c.self.invariant)

-- src/reply_buffer.rt
pub returns : goal.returns
returns c =
    let items = c.self.inside.bytes.items in
    let bytes = c.args.bytes.now in
    let then : ReplyData = record { head = c.self.inside.head; payload = drop 20 c.extend_from_slice.new.self.items; is_whole = c.self.inside.is_whole && c.is_ok-is_put.result } in
    subst (λ (old : ReplyData). Puts old then bytes) c.self.view_is (record {
      head = refl;
      behind = λ (whole : (c.self.inside.is_whole && c.is_ok-is_put.result) ≡ true).
          let put = put_behind 20 items bytes c.self.inside.is_whole (is_ok c.extend_from_slice.result) c.self.invariant (ap (λ b. c.self.inside.is_whole && b) (sym c.is_ok-is_put.ensures.value) ∙ whole) in
          (put.0, ap (drop 20) c.extend_from_slice.ensures.items ∙ put.1);
    })
