use Rattle.std.proofs.Common.{rules, length, ap, arith}
use Rattle.std.proofs.lemmas.List.FromFn.{length-map-range_with_len}
use Rattle.history.specs.Past.{past}
use Rattle.device_history.specs.Flags.{flags_now}
use Rattle.history_audit.proofs.EvaluateLemmas.{flags_next}
use Rattle.history_audit.proofs.replay.Replay.flags.Goals as goal

-- there is room for the flags of each control
pub push_reserved-requires : goal.push_reserved-requires
push_reserved-requires g c =
    omega
    (arith, ap length c.loop-control.invariant.flags, length-map-range_with_len (flags_now g.D.Validates.verdict c.args.self.now.plan (past c.args.self.now.steps)) 0 c.loop-control.control, c.loop-control.invariant.room, c.loop-control-test.true, c.loop-control.all.ok.0)

-- those of one more control
pub loop-control-preserved : goal.loop-control-preserved
loop-control-preserved g c =
    record {
      flags = flags_next g.D.Validates.verdict c.args.self.now.plan c.at-at.result.plan.now (past c.args.self.now.steps) c.loop-control.control c.at-at.result.values.now c.at-at.result.grabs.now c.flags_under.result c.loop-control.all.items c.push_reserved.new.self.items
          c.flags_under.ensures c.at-at.ensures.plan c.at-at.ensures.values c.at-at.ensures.grabs c.loop-control.invariant.flags c.push_reserved.ensures.items;
      room = search rules;
    }
