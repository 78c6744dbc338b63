use Rattle.std.proofs.Common.{ℕ, List, take, sym, ap, ◌∙◌, arith}
use Rattle.std.proofs.lemmas.List.{take_more}
use Rattle.id_index.specs.Entries.{number_of}
use Rattle.id_index.proofs.PutLemmas.{same_after}
use Rattle.id_index.proofs.index.IdIndex.build.Goals as goal

-- one more entry
pub loop-id-preserved : goal.loop-id-preserved
loop-id-preserved c = record {
  rising = c.in_ok-put.ensures.rising;
  so_far = λ other.
      c.in_ok-put.ensures.put other ∙ same_after c.loop-id.rising.items (take c.loop-id.id-index c.args.entries.now) _ other (c.loop-id.invariant.so_far other)
      ∙ ap (λ (xs : List (ℕ × ℕ)). number_of xs other) (sym (take_more c.args.entries.now c.loop-id.id-index _ (omega (arith, c.loop-id-test.true))));
}
