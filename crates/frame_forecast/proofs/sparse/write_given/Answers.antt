use Rattle.std.proofs.Common.{◌≤◌, arith}
use Rattle.frame_forecast.proofs.WrittenLemmas.{written_all}
use Rattle.frame_forecast.proofs.sparse.write_given.Goals as goal

pub returns-clause-each : goal.returns-clause-each
returns-clause-each c =
    written_all c.args.moved.now c.args.given.now c.args.values.now.items c.loop-left.values.items c.loop-left.left (omega (arith, c.loop-left-test.false)) c.loop-left.invariant.0
