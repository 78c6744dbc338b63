use Rattle.std.proofs.Common.{◌≡◌, ◌∙◌, None, Some, is_some, sym, ap}
use Rattle.std.proofs.Math.Path.{ap₂}
use Rattle.ctrl_events.specs.Order.{OrderData, has, without, place_in}
use Rattle.ctrl_events.proofs.OrderLemmas.{placed_emptied, empty_emptied, out_members, out_counted, out_none, order_is, contained}
use Rattle.ctrl_events.proofs.order.Order.remove.Goals as goal

pub pack_where_sparse-self-inside-requires-clause-placed : goal.pack_where_sparse-self-inside-requires-clause-placed
pack_where_sparse-self-inside-requires-clause-placed c = placed_emptied c.self.inside.log.items c.self.inside.places.items c.in-Some.place c.self.invariant.placed

pub pack_where_sparse-self-inside-requires-clause-passed : goal.pack_where_sparse-self-inside-requires-clause-passed
pack_where_sparse-self-inside-requires-clause-passed c = empty_emptied c.self.inside.log.items c.self.inside.first c.in-Some.place c.self.invariant.passed

pub pack_where_sparse-self-inside-requires-clause-counted : goal.pack_where_sparse-self-inside-requires-clause-counted
pack_where_sparse-self-inside-requires-clause-counted c =
    let found : place_in c.self.inside.log.items c.self.inside.places.items c.args.number ≡ Some c.in-Some.place = sym (c.place_in.ensures ∙ ap₂ (λ log places. place_in log places c.args.number) c.as_slice.ensures.value c.as_slice-2.ensures.value) ∙ c.in-Some.is in
    out_counted c.self.inside.log.items c.self.inside.places.items c.args.number c.in-Some.place c.self.inside.count found c.self.invariant.counted

pub returns-in-Some-clause-left : goal.returns-in-Some-clause-left
returns-in-Some-clause-left c =
    let found : place_in c.self.inside.log.items c.self.inside.places.items c.args.number ≡ Some c.in-Some.place = sym (c.place_in.ensures ∙ ap₂ (λ log places. place_in log places c.args.number) c.as_slice.ensures.value c.as_slice-2.ensures.value) ∙ c.in-Some.is in
    order_is _ _ _ _ _ _
    (c.pack_where_sparse-self-inside.ensures.members ∙ out_members c.self.inside.log.items c.self.inside.places.items c.args.number c.in-Some.place c.self.invariant.placed found ∙ ap (λ (o : OrderData). without c.args.number o.members) c.self.view_is)
    (c.pack_where_sparse-self-inside.ensures.bound ∙ ap (λ (o : OrderData). o.bound) c.self.view_is)
    (c.pack_where_sparse-self-inside.ensures.room ∙ ap (λ (o : OrderData). o.room) c.self.view_is)

pub returns-in-None-clause-left : goal.returns-in-None-clause-left
returns-in-None-clause-left c =
    let none : None ≡ place_in c.self.inside.log.items c.self.inside.places.items c.args.number = sym c.in-None.is ∙ c.place_in.ensures ∙ ap₂ (λ log places. place_in log places c.args.number) c.as_slice.ensures.value c.as_slice-2.ensures.value in
    sym c.self.view_is ∙ order_is _ _ _ _ _ _
    (sym (out_none c.self.inside.log.items c.self.inside.places.items c.args.number c.self.invariant.placed none) ∙ ap (λ (o : OrderData). without c.args.number o.members) c.self.view_is)
    (ap (λ (o : OrderData). o.bound) c.self.view_is)
    (ap (λ (o : OrderData). o.room) c.self.view_is)

pub returns-in-Some-clause-answer : goal.returns-in-Some-clause-answer
returns-in-Some-clause-answer c =
    let found : place_in c.self.inside.log.items c.self.inside.places.items c.args.number ≡ Some c.in-Some.place = sym (c.place_in.ensures ∙ ap₂ (λ log places. place_in log places c.args.number) c.as_slice.ensures.value c.as_slice-2.ensures.value) ∙ c.in-Some.is in
    sym (ap is_some found) ∙ contained c.self.inside.log.items c.self.inside.places.items c.args.number c.self.invariant.placed ∙ ap (λ (o : OrderData). has o.members c.args.number) c.self.view_is

pub returns-in-None-clause-answer : goal.returns-in-None-clause-answer
returns-in-None-clause-answer c =
    let none : None ≡ place_in c.self.inside.log.items c.self.inside.places.items c.args.number = sym c.in-None.is ∙ c.place_in.ensures ∙ ap₂ (λ log places. place_in log places c.args.number) c.as_slice.ensures.value c.as_slice-2.ensures.value in
    ap is_some none ∙ contained c.self.inside.log.items c.self.inside.places.items c.args.number c.self.invariant.placed ∙ ap (λ (o : OrderData). has o.members c.args.number) c.self.view_is
