use Rattle.std.proofs.Common.{sym, ◌∙◌}
use Rattle.ctl_script.proofs.Lines.{feed_here, line_here, line_alone}
use Rattle.ctl_script.proofs.run.first_line.Goals as goal

pub returns-in-Some-clause-lines : goal.returns-in-Some-clause-lines
returns-in-Some-clause-lines c = line_here c.args.text.now c.in-Some.at (sym c.line_feed.ensures.at ∙ c.in-Some.is)

pub returns-in-Some-clause-parts : goal.returns-in-Some-clause-parts
returns-in-Some-clause-parts c = feed_here c.args.text.now c.in-Some.at (sym c.line_feed.ensures.at ∙ c.in-Some.is)

pub returns-in-None-clause-lines : goal.returns-in-None-clause-lines
returns-in-None-clause-lines c = line_alone c.args.text.now (sym c.line_feed.ensures.at ∙ c.in-None.is)
