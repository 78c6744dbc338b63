use Rattle.camera_messages.proofs.MessageLemmas.{told_nothing}
use Rattle.camera_messages.proofs.camera.Camera.tell.Goals as goal

-- src/answering.rt
pub returns-in_default : goal.returns-in_default
returns-in_default c = told_nothing c.args.self.now.session c.args.message.now c.args.reply.now c.in_default.not-Values c.in_default.not-Waits c.in_default.not-Counts c.in_default.not-Events
