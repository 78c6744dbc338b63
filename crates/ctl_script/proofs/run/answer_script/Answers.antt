use Rattle.std.proofs.Common.{◌≡◌, ℕ, ◌+◌, ◌≤◌, List, ◌∷◌, ◌++◌, length, Option, None, Some, MatchOption, Bor, refl, ap, ◌∙◌, subst, arith}
use Rattle.std.proofs.lemmas.List.{length-append}
use Rattle.script_lines.specs.Commands.{words, line_of}
use Rattle.ctl_script.specs.Bindings.{bound_names}
use Rattle.ctl_script.specs.Lines.{lines_in, lines_behind}
use Rattle.ctl_script.specs.Run.{IsLastLine}
use Rattle.ctl_script.proofs.Saying.{HasGone, gone_new, gone_line, broken_said}
use Rattle.ctl_script.proofs.run.answer_script.Invariants.{lines_left}
use Rattle.ctl_script.proofs.run.answer_script.Goals as goal

-- fewer lines are left behind one
fewer : (text line : List ℕ) (more : Option (Bor (List ℕ))) → MatchOption more (line ≡ text) (λ m. text ≡ line ++ 10 ∷ m.now) → lines_left more + 1 ≤ length text + 1
fewer text line None parts = omega arith
fewer text line (Some m) parts = let n = ap length parts ∙ length-append line (10 ∷ m.now) in omega arith

pub loop-rest-init : goal.loop-rest-init
loop-rest-init g c = (
  omega (arith, c.requires),
  gone_new g.D.Validates.verdict g.D.Notifies.told c.args.known.now (lines_in c.args.text.now) (bound_names c.new.result) c.args.device.now (g.W.Write.contents c.args.writer.now) c.new.ensures,
  tt,
)

pub loop-rest-preserved : goal.loop-rest-preserved
loop-rest-preserved g c =
    let v = g.D.Validates.verdict in
    let t = g.D.Notifies.told in
    let written = g.W.Write.contents in
    let loop = c.loop-rest in
    let line = c.first_line.result.0.now in
    let more = c.first_line.result.1 in
    let lines = lines_in c.args.text.now in
    let here = subst (λ r. HasGone v t c.args.known.now lines r (loop.number + 1) (bound_names loop.kept.names) c.args.device.now loop.device (written c.args.writer.now) (written loop.writer))
    (ap lines_behind c.in-Some.is ∙ c.first_line.ensures.lines) loop.invariant.1 in
    let left = ap lines_left c.in-Some.is in (
      omega (arith, fewer c.in-Some.text.now line more c.first_line.ensures.parts, loop.invariant.0, left),
      gone_line v t c.args.known.now lines (lines_behind more) line (loop.number + 1) (bound_names loop.kept.names) (bound_names c.answer_line.new.kept.names) c.args.device.now loop.device c.answer_line.new.device
          (written c.args.writer.now) (written loop.writer) (written c.answer_line.new.writer) (line_of c.args.known.now (words line)) refl here c.in-Ok.ensures.line,
      c.in-Ok.ensures.made,
    )

pub returns-in-Err-WriteFault : goal.returns-in-Err-WriteFault
returns-in-Err-WriteFault g c =
    let v = g.D.Validates.verdict in
    let t = g.D.Notifies.told in
    let written = g.W.Write.contents in
    let loop = c.loop-rest in
    let line = c.first_line.result.0.now in
    let more = c.first_line.result.1 in
    let lines = lines_in c.args.text.now in
    let here = subst (λ r. HasGone v t c.args.known.now lines r (loop.number + 1) (bound_names loop.kept.names) c.args.device.now loop.device (written c.args.writer.now) (written loop.writer))
    (ap lines_behind c.in-Some.is ∙ c.first_line.ensures.lines) loop.invariant.1 in
    let end = subst (IsLastLine v t (line_of c.args.known.now (words line)) (bound_names loop.kept.names) loop.device c.answer_line.new.device (written loop.writer) (written c.answer_line.new.writer)) c.in-Err-WriteFault.field-0-is c.in-Err-WriteFault.ensures.end in
    broken_said v t c.args.known.now lines (lines_behind more) line (loop.number + 1) (bound_names loop.kept.names) c.args.device.now loop.device c.answer_line.new.device
    (written c.args.writer.now) (written loop.writer) (written c.answer_line.new.writer) end.0 end.1 here end.2 end.3
