use Rattle.std.proofs.Common.{◌≡◌, ◌∙◌, ◌++◌, ap, sym, List}
use Rattle.std.proofs.Math.Path.{ap₂}
use Rattle.ctrl_types.specs.declared.ids.Pair.{Pair}
use Rattle.req_book.specs.Requests.{RequestData, RequestsData, asking, with_pairs, latest}
use Rattle.req_book.specs.Objects.{request_at}
use Rattle.req_book.proofs.ObjectLemmas.{same_change}
use Rattle.req_book.proofs.objects.Objects.store.Goals as goal

abbrev whole : RequestsData → List RequestData → RequestsData
whole r rs = record r { all = rs }

pub returns-clause-ok : goal.returns-clause-ok
returns-clause-ok c =
    let own : RequestData = request_at c.args.id c.unwrap-object.result.now in
    let pairs : c.in_ok-pairs.pairs.items ≡ latest c.args.self.now.controls (c.unwrap-object.result.now.pairs.items ++ c.args.more.now) =
    c.in_ok-pairs.ensures ∙ ap₂ (λ n ps. latest n (ps ++ c.args.more.now)) (ap (λ (r : RequestsData). r.controls) c.self.view_is) c.as_slice.ensures.value in
    c.set_pairs.ensures
    ∙ ap (whole c.args.self.now) (same_change c.args.self.now.all c.args.id (asking c.in_ok-pairs.pairs.items) (with_pairs c.args.self.now.controls c.args.more.now) own (rw c.unwrap-object.ensures at (sym c.get.ensures.request)) (ap (λ (ps : List Pair). asking ps own) pairs))
