use Rattle.std.proofs.Common.{◌≡◌, ◌∙◌, ◌++◌, ℕ, List, true, ap, inl, subst, sym}
use Rattle.data_driver.specs.Data.{data_verdict}
use Rattle.ctl_session.specs.Calls.{Calls, call_of}
use Rattle.camera_messages.specs.Replies.{ReplyData}
use Rattle.camera_messages.proofs.camera.Camera.answer_call.Goals as goal

-- src/answering.rt
pub returns-then-is_whole : goal.returns-then-is_whole
returns-then-is_whole c =
    let old = c.args.self.now.session in
    let arg = c.args.arg.now in
    let was : c.put.new.self.is_whole ≡ true = sym c.is_whole.ensures ∙ c.if-is_whole.true in
    let put : c.put.new.self.payload ≡ arg = (c.put.ensures.behind was).1 ∙ ap (λ (r : ReplyData). r.payload ++ arg) c.requires in
    inl (
      c.call.ensures.calls.0,
      c.call.ensures.whole ∙ was,
      c.call.ensures.numbers,
      subst (λ (bytes : List ℕ). Calls data_verdict old (call_of data_verdict old c.call.ensures.calls.0 c.args.fh c.args.request c.args.number bytes) c.call.new.session (c.call.new.self.head.errno, c.call.new.self.payload)) put c.call.ensures.calls.1,
    )
