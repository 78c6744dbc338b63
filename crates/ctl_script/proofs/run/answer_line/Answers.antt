use Rattle.std.proofs.Common.{inl, inr, Some, refl, sym, ap, ap₂, ◌∙◌, subst}
use Rattle.ctl_script.specs.Asks.{asked_by}
use Rattle.ctl_script.specs.Bindings.{answer_bound, bound_names}
use Rattle.ctl_script.specs.Run.{IsLine}
use Rattle.ctl_script.proofs.Runs.{handled, still_replayed}
use Rattle.ctl_script.proofs.Saying.{none_of}
use Rattle.ctl_script.proofs.run.answer_line.Goals as goal

-- an audit
pub returns-in-Ok-clause-line : goal.returns-in-Ok-clause-line
returns-in-Ok-clause-line g c =
    let command = c.in-Ok-Some.command in
    let reads = c.in-Ok-Some.ensures ∙ ap (λ o. Some o) c.in-Ok-Some.field-0-is in
    let none = none_of c.ask_of.result c.in_default.not-Some in
    let asked = ap (λ b. asked_by b command) (sym c.enter.ensures.bound) ∙ sym c.ask_of.ensures ∙ none in
    subst (λ r. IsLine g.D.Validates.verdict g.D.Notifies.told r (bound_names c.args.kept.now.names) (bound_names c.enter.new.names) c.args.device.now c.args.device.now (g.W.Write.contents c.args.writer.now) (g.W.Write.contents c.write_audit.new.writer))
    (sym reads) (inr c.audit_of.result, (asked, refl, c.audit_of.ensures.agrees), c.enter.ensures.bound, c.in-Ok.ensures)

pub returns-in-Err-clause-end : goal.returns-in-Err-clause-end
returns-in-Err-clause-end g c =
    let command = c.in-Ok-Some.command in
    let reads = c.in-Ok-Some.ensures ∙ ap (λ o. Some o) c.in-Ok-Some.field-0-is in
    let none = none_of c.ask_of.result c.in_default.not-Some in
    let asked = ap (λ b. asked_by b command) (sym c.enter.ensures.bound) ∙ sym c.ask_of.ensures ∙ none in
    (command, inr c.audit_of.result, reads, (asked, refl, c.audit_of.ensures.agrees))

-- an ask
pub returns-in-Ok-write_answer-clause-line : goal.returns-in-Ok-write_answer-clause-line
returns-in-Ok-write_answer-clause-line g c =
    let command = c.in-Ok-Some.command in
    let reads = c.in-Ok-Some.ensures ∙ ap (λ o. Some o) c.in-Ok-Some.field-0-is in
    let answer = c.handle-answer.result in
    let asked = ap (λ b. asked_by b command) (sym c.enter.ensures.bound) ∙ sym c.ask_of.ensures ∙ c.in-Some.is in
    let bound = c.bind.ensures.bound ∙ ap₂ (λ b n. answer_bound b answer n) c.of-binding.ensures c.enter.ensures.bound in
    subst (λ r. IsLine g.D.Validates.verdict g.D.Notifies.told r (bound_names c.args.kept.now.names) (bound_names c.bind.new.names) c.args.device.now c.handle-answer.new.self (g.W.Write.contents c.args.writer.now) (g.W.Write.contents c.write_answer.new.writer))
    (sym reads) (inl (c.in-Some.ask, answer), (asked, c.handle-answer.ensures.handles, c.handle-answer.ensures.words), bound, c.in-Ok-write_answer.ensures)

pub returns-in-Ok-write_answer-clause-made : goal.returns-in-Ok-write_answer-clause-made
returns-in-Ok-write_answer-clause-made g c =
    still_replayed g.D.Validates.verdict c.args.device.now c.handle-answer.new.self c.args.kept.now.made
    (handled g.D.Validates.verdict c.args.device.now c.handle-answer.new.self 0 c.in-Some.ask c.handle-answer.result c.handle-answer.ensures.handles) c.requires.made

pub returns-clause-end : goal.returns-clause-end
returns-clause-end g c =
    let command = c.in-Ok-Some.command in
    let reads = c.in-Ok-Some.ensures ∙ ap (λ o. Some o) c.in-Ok-Some.field-0-is in
    let asked = ap (λ b. asked_by b command) (sym c.enter.ensures.bound) ∙ sym c.ask_of.ensures ∙ c.in-Some.is in
    (command, inl (c.in-Some.ask, c.handle-answer.result), reads, (asked, c.handle-answer.ensures.handles, c.handle-answer.ensures.words))
