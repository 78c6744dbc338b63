use Rattle.std.proofs.Common.{◌∙◌, ℕ, sym, ap, Option}
use Rattle.std.specs.Option.{option_map, option_and_then}
use Rattle.req_book.specs.declared.object.Object.{Object}
use Rattle.req_book.specs.Objects.{request_at, request_of_entry}
use Rattle.req_book.proofs.LikeLemmas.{at_place}
use Rattle.req_book.proofs.objects.Objects.entry.Goals as goal

pub returns-in-Some-get : goal.returns-in-Some-get
returns-in-Some-get c =
    let o = c.self.inside in
    rw (← c.self.view_is)
    (sym
    (at_place o.controls o.slots o.ids.entries c.args.place c.self.invariant.named ∙ ap (λ (e : Option (ℕ × ℕ)). option_and_then (request_of_entry o.slots) e) (sym c.in-Some.ensures.entry)
    ∙ ap (λ (x : Option Object). option_map (request_at c.in-Some.id.now) x) (sym c.in-Some-get.ensures)))

pub returns-in-None-get : goal.returns-in-None-get
returns-in-None-get c =
    let o = c.self.inside in
    rw (← c.self.view_is)
    (sym
    (at_place o.controls o.slots o.ids.entries c.args.place c.self.invariant.named ∙ ap (λ (e : Option (ℕ × ℕ)). option_and_then (request_of_entry o.slots) e) (sym c.in-Some.ensures.entry)
    ∙ ap (λ (x : Option Object). option_map (request_at c.in-Some.id.now) x) (sym c.in-None-get.ensures)))

pub returns-in-None : goal.returns-in-None
returns-in-None c =
    let o = c.self.inside in
    rw (← c.self.view_is)
    (sym (at_place o.controls o.slots o.ids.entries c.args.place c.self.invariant.named ∙ ap (λ (e : Option (ℕ × ℕ)). option_and_then (request_of_entry o.slots) e) (sym c.in-None.ensures.entry)))
