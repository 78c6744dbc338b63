use Rattle.std.proofs.Common.{rules, sym, subst}
use Rattle.std.specs.Io.KnownBytes.{Appends}
use Rattle.script_replies.specs.Replies.{outcome_line}
use Rattle.ctl_pair.specs.Scripts.{IsRefused}
use Rattle.ctl_pair.proofs.Outcomes.{refused_not_finished}
use Rattle.ctl_pair.proofs.pair.run_pair.Goals as goal

pub returns-in-Ok-read_scripts-clause-finished : goal.returns-in-Ok-read_scripts-clause-finished
returns-in-Ok-read_scripts-clause-finished g c = λ f.
    let ran = c.run_scripts.ensures.finished f in
    (ran.0, ran.1, _, c.in-Ok-read_scripts.ensures.scripts, ran.2)

-- an input without two scripts isn't told as `Finished`
pub returns-clause-finished : goal.returns-clause-finished
returns-clause-finished g c = λ f.
    absurd (refused_not_finished c.with_line.result c.in-Err.outcome c.with_line.ensures.same c.args.known.now (g.I.Read.remaining c.args.reader.now) (g.I.Read.remaining c.read_scripts.new.reader) c.in-Err.ensures.fault f)

pub returns-clause-refused : goal.returns-clause-refused
returns-clause-refused g c = λ other written.
    subst (IsRefused c.args.known.now (g.I.Read.remaining c.args.reader.now) (g.I.Read.remaining c.read_scripts.new.reader)) (sym (c.with_line.ensures.same written)) c.in-Err.ensures.fault

pub returns-clause-fault : goal.returns-clause-fault
returns-clause-fault g c = λ other written.
    subst (λ o. Appends (g.W.Write.contents c.args.writer.now) (g.W.Write.contents c.with_line.new.writer) (outcome_line o)) (sym (c.with_line.ensures.same written)) (c.with_line.ensures.line written)

pub returns-clause-same : goal.returns-clause-same
returns-clause-same g c = search rules

pub returns-clause-unasked : goal.returns-clause-unasked
returns-clause-unasked g c = search rules
