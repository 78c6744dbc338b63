use Rattle.std.proofs.Common.{◌==◌, false, ◌≡◌, arith}
use Rattle.std.proofs.lemmas.Grind.{common_steps}
use Rattle.std.proofs.lemmas.List.Elements.{All-more}
use Rattle.script_lines.proofs.walk.word_end.Goals as goal

pub loop-end-preserved : goal.loop-end-preserved
loop-end-preserved c =
    (omega arith, All-more (λ b. (b == 32) ≡ false) c.args.text.now c.loop-end.end 0 c.loop-end-test.true c.loop-end.invariant.1 (grind (arith, common_steps)))
