use Rattle.std.proofs.Common.{◌∙◌, arith}
use Rattle.ctrl_handlers.proofs.IndexLemmas.{index_made}
use Rattle.ctrl_handlers.proofs.showing.index_of.Goals as goal

-- the index is made of all entries
pub returns : goal.returns
returns c =
    index_made c.args.controls.now c.args.numbers.now c.as_slice.result.now c.loop-number.number-index c.build.result
    (c.as_slice.ensures.value ∙ c.loop-number.invariant.entries) (omega (arith, c.loop-number-test.false)) c.build.ensures
