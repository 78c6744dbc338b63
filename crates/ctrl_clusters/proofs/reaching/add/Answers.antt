use Rattle.std.proofs.Common.{arith}
use Rattle.ctrl_clusters.proofs.RisingLemmas.{length_marked}
use Rattle.ctrl_clusters.proofs.reaching.add.Goals as goal

pub mark-requires : goal.mark-requires
mark-requires c = record { room = let more = length_marked c.args.number c.reserve.new.self.items in omega (arith, more, c.in_ok-reserve.ensures.ok) }
