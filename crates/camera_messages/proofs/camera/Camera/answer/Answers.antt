use Rattle.std.proofs.Common.{subst, sym}
use Rattle.camera_messages.specs.declared.message.Message.{Message}
use Rattle.camera_messages.specs.Messages.{AnswersMessage}
use Rattle.camera_messages.proofs.MessageLemmas.{answers_other}
use Rattle.camera_messages.proofs.camera.Camera.answer.Goals as goal

-- src/answering.rt
pub returns-in-Call : goal.returns-in-Call
returns-in-Call c =
    subst (λ (message : Message). AnswersMessage c.args.self.now.session message c.answer_call.new.self.session c.answer_call.new.reply) (sym c.in-Call.is) c.answer_call.ensures

-- src/answering.rt
pub returns-in_default : goal.returns-in_default
returns-in_default c =
    answers_other c.args.self.now.session c.answer_other.new.self.session c.args.message.now c.answer_other.new.reply c.in_default.not-Call c.in_default.not-Renew c.answer_other.ensures
