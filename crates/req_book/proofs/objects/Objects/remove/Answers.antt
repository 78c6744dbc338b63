use Rattle.std.proofs.Common.{◌≡◌, ◌∙◌, ap, sym, subst, length, arith}
use Rattle.req_book.specs.Requests.{RequestsData, without}
use Rattle.req_book.specs.Objects.{requests_of_entries, AreObjects}
use Rattle.req_book.proofs.ObjectLemmas.{removed, absent_removal, is_there, one_less}
use Rattle.req_book.proofs.objects.Objects.remove.Goals as goal

pub remove-requires : goal.remove-requires
remove-requires c = is_there c.self.inside.controls c.self.inside.slots c.self.inside.ids.entries c.args.id c.in-Some.key c.self.invariant.named c.in-Some.ensures.value

abbrev left : goal.After-drop-remove-in-Some-2 → Type 0
left c = AreObjects c.self.inside.controls c.remove.new.self c.shift_remove.new.self.entries
    × (requests_of_entries c.remove.new.self c.shift_remove.new.self.entries ≡ without c.args.id (requests_of_entries c.self.inside.slots c.self.inside.ids.entries))

leaves : (c : goal.After-drop-remove-in-Some-2) → left c
leaves c = subst (λ es. AreObjects c.self.inside.controls c.remove.new.self es × (requests_of_entries c.remove.new.self es ≡ without c.args.id (requests_of_entries c.self.inside.slots c.self.inside.ids.entries)))
    (sym c.shift_remove.ensures.entries)
    (removed c.self.inside.controls c.self.inside.slots c.remove.new.self c.self.inside.ids.entries c.args.id c.in-Some.key c.self.invariant.named (sym c.in-Some.ensures.value) c.remove.ensures.updates)

pub invariant_of-self : goal.invariant_of-self
invariant_of-self c = record {
  named = (leaves c).0;
  counted =
      let less = one_less c.self.inside.ids.entries c.args.id c.in-Some.key (sym c.in-Some.ensures.value) in
      omega (arith, c.remove.ensures.len, c.self.invariant.counted, less, ap length c.shift_remove.ensures.entries);
}

pub returns-in-Some : goal.returns-in-Some
returns-in-Some c = ap (λ rs. record { controls = c.self.inside.controls; all = rs }) (leaves c).1
    ∙ ap (λ (r : RequestsData). record { controls = r.controls; all = without c.args.id r.all }) c.self.view_is

pub returns-in_default : goal.returns-in_default
returns-in_default c =
    ap (λ rs. record { controls = c.self.inside.controls; all = rs })
    (ap (requests_of_entries c.self.inside.slots) c.in_default.ensures.unchanged ∙ absent_removal c.self.inside.controls c.self.inside.slots c.self.inside.ids.entries c.args.id c.self.invariant.named c.in_default.ensures.value)
    ∙ ap (λ (r : RequestsData). record { controls = r.controls; all = without c.args.id r.all }) c.self.view_is
