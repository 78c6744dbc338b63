use Rattle.std.proofs.Common.{◌∙◌, arith}
use Rattle.device_history.specs.Asking.{entry_of}
use Rattle.history_audit.proofs.EvaluateLemmas.{mapped_all, mapped_many}
use Rattle.history_audit.proofs.replay.Replay.entries.Goals as goal

-- there are too many
pub returns-then-pairs-clause-none : goal.returns-then-pairs-clause-none
returns-then-pairs-clause-none g c = λ h. omega (arith, h.0, c.if-pairs.true)

-- there is room for each entry
pub push_reserved-requires : goal.push_reserved-requires
push_reserved-requires g c =
    omega
    (arith, mapped_many (entry_of c.args.self.now.plan) c.args.pairs.now c.loop-pair.pair-index c.loop-pair.entries.items (omega (arith, c.loop-pair-test.true)) c.loop-pair.invariant.so_far, c.loop-pair.invariant.room, c.loop-pair-test.true, c.loop-pair.entries.ok.0)

-- none so far
pub loop-pair-init : goal.loop-pair-init
loop-pair-init g c = record { so_far = c.in_ok-entries.ensures.items; room = c.in_ok-entries.ensures.capacity }

-- all of them
pub returns-clause-list : goal.returns-clause-list
returns-clause-list g c =
    c.from_vec.ensures ∙ mapped_all (entry_of c.args.self.now.plan) c.args.pairs.now c.loop-pair.pair-index c.loop-pair.entries.items c.loop-pair-test.false c.loop-pair.invariant.so_far

pub returns-clause-short : goal.returns-clause-short
returns-clause-short g c = c.if-pairs.false
