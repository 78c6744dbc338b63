use Rattle.std.proofs.Common.{refl}
use Rattle.history.specs.Past.{past}
use Rattle.device_history.specs.declared.ask.Ask.TheVariants as asks
use Rattle.device_state.proofs.AnswerLemmas.{published_on}
use Rattle.device_state.proofs.HandleLemmas.{handles_asked, taken_try, tried_all}
use Rattle.device_state.proofs.device.Device.ask_try.Goals as goal

-- a try adds no step
pub returns-clause-handles : goal.returns-clause-handles
returns-clause-handles g c = λ seat.
    let tried = c.try_list-answer in
    let device = c.self.inside in
    rw (← c.self.view_is)
    (handles_asked g.D.Validates.verdict _ _ c.new-work.result tried.new.work seat _ _ refl c.new-work.ensures tried.ensures.told tried.ensures.at_most
    (tried_all _ tried.new.work.asked _ c.new-work.result c.new-work.ensures (published_on (asks.TryCtrls c.args.fh c.args.which c.args.request c.args.list.now) tried.result _ tried.ensures.asked))
    (taken_try g.D.Validates.verdict device.plan (past device.steps.items) c.args.fh c.args.which c.args.request c.args.list.now _) tried.ensures.answers)
