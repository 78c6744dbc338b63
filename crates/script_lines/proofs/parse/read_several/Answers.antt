use Rattle.std.proofs.Common.{◌∙◌, arith, sym}
use Rattle.std.proofs.lemmas.Grind.{common_steps}
use Rattle.script_lines.proofs.Walks.{entry_more}
use Rattle.script_lines.proofs.parse.read_several.Goals as goal

pub loop-word-preserved : goal.loop-word-preserved
loop-word-preserved c =
    let more = entry_more c.args.known.now c.args.form c.in-Some.word.now _ c.loop-word.list.items c.in-Some-read_entry.field-0 (sym c.in-Some-read_entry.ensures) in
    (grind (arith, common_steps), grind (arith, common_steps), rw c.push_reserved.ensures.items (sym more ∙ rw c.in-Some.ensures.words at c.loop-word.invariant.2))
