use Rattle.std.proofs.Common.{arith, ◌∙◌, ◌+◌, ◌++◌, ◌∷◌, [], ap, length, sym, map}
use Rattle.std.proofs.lemmas.List.{length_push}
use Rattle.std.specs.List.{range_with_len}
use Rattle.std.proofs.lemmas.List.FromFn.{map-range_with_len_more}
use Rattle.ctl_session.specs.Lists.{entry_seen}
use Rattle.ctl_session.proofs.lists.read_list.Goals as goal

-- one more entry
pub loop-place-preserved : goal.loop-place-preserved
loop-place-preserved c =
    let entry = entry_seen c.args.forms.now c.args.arg.now in
    let old = c.loop-place.invariant in
    record {
      read = c.push_reserved.ensures.items
          ∙ ap (λ front. front ++ c.entry_at-value.result ∷ []) old.read
          ∙ ap (λ last. map entry (range_with_len 0 c.loop-place.place) ++ last ∷ []) c.entry_at-value.ensures
          ∙ sym (map-range_with_len_more entry 0 c.loop-place.place c.loop-place.place (omega arith));
      each = ap length c.push_reserved.ensures.items ∙ length_push c.loop-place.entries.items c.entry_at-value.result ∙ ap (λ n. n + 1) old.each;
      room = rw c.push_reserved.ensures.capacity old.room;
    }
