use Rattle.std.proofs.Common.{◌≡◌, ◌+◌, suc, add-one, arith, drop}
use Rattle.std.proofs.lemmas.Int.{ints}
use Rattle.data_driver.specs.Limits.{sum_of_values}
use Rattle.data_driver.proofs.Totals.{sum_of_values-drop}
use Rattle.data_driver.proofs.judging.sum_of_values.Goals as goal

pub loop-place-preserved : goal.loop-place-preserved
loop-place-preserved c =
    let row = c.args.row.now in
    let place = c.loop-place.place in
    let here = sum_of_values-drop row place c.value.result c.value.ensures in
    let next : sum_of_values (drop (place + 1) row) ≡ sum_of_values (drop (suc place) row) = rw add-one in
    record {
      summed = omega (arith, ints, here, next);
      low = omega (arith, ints);
      high = omega (arith, ints);
    }
