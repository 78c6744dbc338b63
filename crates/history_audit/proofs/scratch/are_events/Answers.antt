use Rattle.std.proofs.Common.{arith}
use Rattle.history_audit.proofs.ScratchLemmas.{alike_next}
use Rattle.history_audit.proofs.scratch.are_events.Goals as goal

-- of one more file handle both list what is equal
pub loop-place-preserved : goal.loop-place-preserved
loop-place-preserved c =
    alike_next c.args.own_events.now c.args.events.now c.args.own_handles.now.entries c.args.file_handles.now.entries c.loop-place.place (omega (arith, c.len-count.ensures.len)) (omega (arith, c.len.ensures.len, c.len-count.ensures.len))
    (c.are_alike_at.ensures.0 c.if-not-are_alike_at.false) c.loop-place.invariant
