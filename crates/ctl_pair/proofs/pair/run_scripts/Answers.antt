use denote.Param.Send.{sendable}
use Rattle.std.proofs.Crossing.{crosses}
use Rattle.ctl_pair.proofs.Sending.{client_send}
use Rattle.std.proofs.Common.{◌≡◌, ℕ, List, [], refl, subst}
use Rattle.std.specs.Io.KnownBytes.{Appends}
use Rattle.history.specs.Past.{past}
use Rattle.device_history.specs.Answers.{taken}
use Rattle.device_history.specs.Legal.{IsLegal}
use Rattle.turn_desk.specs.Runs.{HasServed}
use Rattle.ctl_pair.specs.Pair.{may_answer, pair_lines}
use Rattle.script_lines.specs.declared.command.Command.{Command}
use Rattle.ctl_script.specs.Asks.{IsTranscript}
use Rattle.ctl_pair.specs.declared.client.ScriptClient.{ScriptClient}
use Rattle.ctl_pair.proofs.Coming.{come_done}
use Rattle.ctl_pair.proofs.Outcomes.{given_first, given_second, short_not_finished}
use Rattle.ctl_pair.proofs.pair.run_scripts.Goals as goal

-- a client that is done has asked all of its script
of_script : (client : ScriptClient) (script : List Command) → client.script.value.items ≡ script → client.commands.items ≡ [] → IsTranscript script client.said.items
of_script client script same done =
    subst (λ s. IsTranscript s client.said.items) same (come_done client.script.value.items client.commands.items client.names client.binding client.said.items client.come done)

pub returns-in-Ok-print_pair-clause-finished : goal.returns-in-Ok-print_pair-clause-finished
returns-in-Ok-print_pair-clause-finished g c =
    let verdicts = g.D.Validates.verdict in
    let tells = g.D.Notifies.told in
    let plan = c.args.device.plan in
    let steps = c.in-Ok.device.steps in
    let contents = g.W.Write.contents in
    λ _. (
      c.in-Ok.device,
      refl,
      record {
        first = c.in-Ok.first.said.items;
        second = c.in-Ok.second.said.items;
        asks_of_first = of_script c.in-Ok.first c.args.first.script.value.items c.in-Ok.ensures.tasks.0 c.in-Ok.ensures.done.0;
        asks_of_second = of_script c.in-Ok.second c.args.second.script.value.items c.in-Ok.ensures.tasks.1 c.in-Ok.ensures.done.1;
        at_first = subst (λ said. HasServed (λ p s. IsLegal verdicts p (past s)) (may_answer verdicts tells) (λ p s. taken verdicts p (past s)) plan 0 said c.in-Ok.first.said.items steps) c.requires.first c.in-Ok.ensures.first;
        at_second = subst (λ said. HasServed (λ p s. IsLegal verdicts p (past s)) (may_answer verdicts tells) (λ p s. taken verdicts p (past s)) plan 1 said c.in-Ok.second.said.items steps) c.requires.second c.in-Ok.ensures.second;
        only = c.in-Ok.ensures.only;
        audited = c.audit_of-audited.result;
        agrees = c.audit_of-audited.ensures.agrees;
        printed = subst (λ (l : List ℕ). Appends (contents c.args.writer.now) (contents c.print_pair.new.writer) l)
            (λ i. pair_lines (c.as_slice-first.ensures.value i) (c.as_slice-second.ensures.value i) (c.steps.ensures.steps i) c.audit_of-audited.result) c.in-Ok-print_pair.ensures;
      },
    )

-- want of memory isn't told as `Finished`
pub returns-clause-finished : goal.returns-clause-finished
returns-clause-finished g c = λ f. absurd (short_not_finished c.with_line.result _ c.with_line.ensures.same refl f)

-- and leaves the plan, and no step
pub returns-clause-device : goal.returns-clause-device
returns-clause-device g c = given_first (λ back. back.plan ≡ c.args.device.plan) (λ back. back.steps ≡ []) c.in-Err.left c.in-Err.ensures.object

pub returns-clause-unasked : goal.returns-clause-unasked
returns-clause-unasked g c = λ other written. given_second (λ back. back.plan ≡ c.args.device.plan) (λ back. back.steps ≡ []) c.in-Err.left c.in-Err.ensures.object

pub serve_both-requires-send-C : goal.serve_both-requires-send-C
serve_both-requires-send-C g κs = λ κ lives. search (client_send, sendable, crosses) depth 20
