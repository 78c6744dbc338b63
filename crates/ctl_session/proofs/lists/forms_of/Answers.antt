use Rattle.std.proofs.Common.{arith, ◌∙◌, ◌+◌, ◌++◌, ◌∷◌, [], ℕ, ap, length, List, subst, sym, map}
use Rattle.std.proofs.lemmas.List.{length_push}
use Rattle.std.proofs.lemmas.List.Elements.{All-push}
use Rattle.std.specs.List.{All, range_with_len}
use Rattle.std.proofs.lemmas.List.FromFn.{map-range_with_len_more}
use Rattle.call_structs.specs.Entries.{id_at}
use Rattle.call_structs.specs.declared.entries.Form.{Form}
use Rattle.ctl_session.specs.Ids.{form_by_id}
use Rattle.ctl_session.specs.Lists.{HasSlot}
use Rattle.ctl_session.proofs.lists.forms_of.Goals as goal

-- one more form
pub loop-place-preserved : goal.loop-place-preserved
loop-place-preserved g c =
    let form : ℕ → Form = λ place. form_by_id c.args.plan.now c.args.handler (id_at place c.args.arg.now) in
    let old = c.loop-place.invariant in
    record {
      read = c.push_reserved.ensures.items
          ∙ ap (λ front. front ++ c.form_of.result ∷ []) old.read
          ∙ ap (λ last. map form (range_with_len 0 c.loop-place.place) ++ last ∷ []) (c.form_of.ensures.form ∙ ap (form_by_id c.args.plan.now c.args.handler) c.entry_id.ensures)
          ∙ sym (map-range_with_len_more form 0 c.loop-place.place c.loop-place.place (omega arith));
      each = ap length c.push_reserved.ensures.items ∙ length_push c.loop-place.forms.items c.form_of.result ∙ ap (λ n. n + 1) old.each;
      slots = subst (λ (fs : List Form). All HasSlot fs) (sym c.push_reserved.ensures.items)
          (All-push HasSlot c.loop-place.forms.items c.form_of.result old.slots c.form_of.ensures.slot);
      room = rw c.push_reserved.ensures.capacity old.room;
    }
