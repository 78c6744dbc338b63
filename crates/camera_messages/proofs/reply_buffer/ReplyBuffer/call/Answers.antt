use borrow.Rule.Slice.PartMut.{put_mid}
use Rattle.std.proofs.Common.{rules, arith, ◌∙◌, ◌-◌, ℕ, List, ap, ap₂, drop, length, subst, sym}
use Rattle.std.proofs.lemmas.List.{with_items_is}
use Rattle.std.proofs.lemmas.Slice.{between_to_end}
use Rattle.data_driver.specs.Data.{data_verdict}
use Rattle.ctl_session.specs.Calls.{Calls, Told, call_of}
use Rattle.camera_messages.specs.declared.reply_buffer.Head.{Head}
use Rattle.camera_messages.specs.Replies.{ReplyData}
use Rattle.camera_messages.proofs.ReplyLemmas.{written}
use Rattle.camera_messages.proofs.reply_buffer.ReplyBuffer.call.Goals as goal

-- src/reply_buffer.rt
pub returns-clause-calls : goal.returns-clause-calls
returns-clause-calls c =
    let v = data_verdict in
    let old = c.args.session.now in
    let new = c.call-errno.new.self in
    let name = c.call-errno.ensures.0 in
    let r = c.self.inside in
    let bytes = c.as_mut_slice-bytes.result.now in
    let arg = c.call-errno.new.arg in
    let room = length bytes - 20 in
    let read = between_to_end bytes 20 (length bytes) (omega arith) ∙ ap (λ (b : List ℕ). drop 20 b) c.as_mut_slice-bytes.ensures.value ∙ ap (λ (reply : ReplyData). reply.payload) c.self.view_is in
    let payload = ap (λ (b : List ℕ). drop 20 b) (with_items_is r.bytes (put_mid 20 room bytes arg) (search rules)) ∙ written 20 room bytes arg (search rules) (search rules) in
    let told = ap₂ (λ (e : ℕ) (p : List ℕ). (e, p)) (sym (ap (λ (head : Head). head.errno) c.of_errno-self-inside.ensures)) (sym payload) in (
      name,
      subst (λ (t : Told). Calls v old (call_of v old name c.args.fh c.args.request c.args.number c.args.self.now.payload) new t) told
          (subst (λ (b : List ℕ). Calls v old (call_of v old name c.args.fh c.args.request c.args.number b) new (c.call-errno.result, arg)) read c.call-errno.ensures.1),
    )
