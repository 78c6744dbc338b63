use Rattle.std.proofs.Common.{◌∙◌, ◌+◌, List, length, take, drop, ap, sym, rules, arith}
use Rattle.std.proofs.lemmas.List.{length-set}
use Rattle.ctrl_types.specs.declared.value.CtrlValue.{CtrlValue}
use Rattle.ctrl_clusters.specs.Rows.{overwritten, settle_row}
use Rattle.ctrl_clusters.specs.Judging.{takes_row}
use Rattle.ctrl_clusters.proofs.LoneLemmas.{lone_number, taken_step}
use Rattle.ctrl_clusters.proofs.RowLemmas.{before, settle_step}
use Rattle.ctrl_clusters.proofs.rows.settle_row.Goals as goal

-- one of several members takes a number
pub set-requires-clause-fits : goal.set-requires-clause-fits
set-requires-clause-fits c many =
    lone_number c.args.ranges.now c.args.members.now c.loop-place.place _ c.in-Ok.value c.requires.lone (search rules) (sym c.in-Ok.ensures.settled) (omega (arith, many, c.loop-place.invariant.long))

-- one more value is settled
pub loop-place-preserved : goal.loop-place-preserved
loop-place-preserved c =
    let i = c.loop-place.place in
    let ranges = c.args.ranges.now in
    let members = c.args.members.now in
    let values = c.args.values.now in
    let pairs = c.args.pairs.now in
    let settles = sym c.in-Ok.ensures.settled in
    record {
      rest = ap (λ (r : List CtrlValue). before (take (i + 1) r) (settle_row ranges (drop (i + 1) members) (overwritten values pairs (drop (i + 1) members)))) c.set.ensures
          ∙ settle_step ranges values pairs members c.loop-place.row i c.in-Ok.value (search rules) (search rules) settles
          ∙ c.loop-place.invariant.rest;
      taken = ap (λ (r : List CtrlValue). takes_row ranges (take (i + 1) members) (take (i + 1) r)) c.set.ensures
          ∙ taken_step ranges members c.loop-place.row i _ c.in-Ok.value (search rules) (search rules) c.in-Ok.ensures.well_formed settles c.loop-place.invariant.taken;
      long = ap length c.set.ensures ∙ length-set c.loop-place.row i c.in-Ok.value ∙ c.loop-place.invariant.long;
    }
