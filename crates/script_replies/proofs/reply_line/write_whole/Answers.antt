use Rattle.std.proofs.Common.{◌++◌, take, arith}
use Rattle.std.proofs.lemmas.Grind.{common_steps}
use Rattle.script_replies.proofs.Writes.{appends_more}
use Rattle.script_replies.proofs.reply_line.write_whole.Goals as goal

pub loop-rest-preserved : goal.loop-rest-preserved
loop-rest-preserved g c =
    let inv = c.loop-rest.invariant in (
      inv.0 ++ take c.in_ok-count.count c.loop-rest.rest.now,
      grind (arith, common_steps),
      appends_more _ _ _ inv.0 (take c.in_ok-count.count c.loop-rest.rest.now) inv.2 c.in_ok-count.ensures.bytes,
    )
