use Rattle.std.proofs.Common.{rules}
use Rattle.ctrl_settle.specs.Settle.{settled_byte}
use Rattle.ctrl_settle.proofs.Settling.{bytes_more_set}
use Rattle.ctrl_settle.proofs.config.CtrlConfig.settle_bytes.Goals as goal

-- one more byte is settled
pub loop-place-preserved : goal.loop-place-preserved
loop-place-preserved c = record {
  so_far = bytes_more_set (settled_byte c.args.self.now) c.args.row.now c.loop-place.settled c.set.new.self c.loop-place.place c.byte.result c.settled_byte.result (search rules) c.loop-place.invariant.long (search rules) (search rules) (search rules) c.loop-place.invariant.so_far;
  long = search rules;
}
