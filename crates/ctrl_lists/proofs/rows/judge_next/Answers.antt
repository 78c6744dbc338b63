use Rattle.std.proofs.Common.{◌≡◌, ap, true, false, is_some, length, Ok, Err, sym}
use Rattle.ctrl_handlers.specs.Plan.{members}
use Rattle.ctrl_clusters.specs.NewRows.{row_among}
use Rattle.ctrl_clusters.specs.declared.new_row.NewRow.{NewRow}
use Rattle.ctrl_lists.specs.Lists.{ListData}
use Rattle.ctrl_lists.proofs.ListLemmas.{all_pushed}
use Rattle.ctrl_lists.proofs.TouchLemmas.{accepted, accepted_now, refused_now, added_not, added_row, asked_once, counted_next, looked_up, becomes_by}
use Rattle.ctrl_lists.proofs.rows.judge_next.Goals as goal

-- the cluster was accepted before
pub returns-then-is_some-clause-ok : goal.returns-then-is_some-clause-ok
returns-then-is_some-clause-ok g c =
    let same : c.view.inside.at.plan.now ≡ c.args.view.now.plan = ap (λ (v : ListData). v.plan) c.view.view_is in
    let own = rw same at c.cluster_of-cluster.ensures.cluster in
    let there : is_some (row_among c.args.rows.now.rows c.cluster_of-cluster.result) ≡ true =
    looked_up _ c.args.rows.now.rows c.cluster_of-cluster.result c.among.result c.is_some.result true c.among.ensures c.is_some.ensures c.if-is_some.true in
    rw own (accepted g.D.Validates.verdict c.args.view.now.plan c.args.view.now.parts c.args.laid.now c.args.rows.now.rows c.args.control c.cluster_of-cluster.result c.requires.rows c.requires.among own there)

pub returns-then-is_some-clause-each : goal.returns-then-is_some-clause-each
returns-then-is_some-clause-each g c =
    let same : c.view.inside.at.plan.now ≡ c.args.view.now.plan = ap (λ (v : ListData). v.plan) c.view.view_is in
    let own = rw same at c.cluster_of-cluster.ensures.cluster in
    let there : is_some (row_among c.args.rows.now.rows c.cluster_of-cluster.result) ≡ true =
    looked_up _ c.args.rows.now.rows c.cluster_of-cluster.result c.among.result c.is_some.result true c.among.ensures c.is_some.ensures c.if-is_some.true in
    rw own (added_not c.args.rows.now.rows c.cluster_of-cluster.result there)

-- its validator is asked for the first time
pub returns-in-Err-clause-at_most : goal.returns-in-Err-clause-at_most
returns-in-Err-clause-at_most g c =
    let same : c.view.inside.at.plan.now ≡ c.args.view.now.plan = ap (λ (v : ListData). v.plan) c.view.view_is in
    let own = rw same at c.cluster_of-cluster.ensures.cluster in
    let none : is_some (row_among c.args.rows.now.rows c.cluster_of-cluster.result) ≡ false =
    looked_up _ c.args.rows.now.rows c.cluster_of-cluster.result c.among.result c.is_some.result false c.among.ensures c.is_some.ensures c.if-is_some.false in
    asked_once c.args.view.now.plan c.args.rows.now.rows c.args.control c.cluster_of-cluster.result c.args.work.now.asked c.validated_row.new.work.asked own none c.validated_row.ensures.at_most_once

pub returns-in-Ok-clause-each : goal.returns-in-Ok-clause-each
returns-in-Ok-clause-each g c =
    let same : c.view.inside.at.plan.now ≡ c.args.view.now.plan = ap (λ (v : ListData). v.plan) c.view.view_is in
    let own = rw same at c.cluster_of-cluster.ensures.cluster in
    let none : is_some (row_among c.args.rows.now.rows c.cluster_of-cluster.result) ≡ false =
    looked_up _ c.args.rows.now.rows c.cluster_of-cluster.result c.among.result c.is_some.result false c.among.ensures c.is_some.ensures c.if-is_some.false in
    rw own
    (added_row c.args.rows.now.rows c.push_reserved.new.self.rows (record { cluster = c.cluster_of-cluster.result; row = c.validated_row.new.row }) none c.push_reserved.ensures.items)

pub returns-in-Ok-clause-long : goal.returns-in-Ok-clause-long
returns-in-Ok-clause-long g c =
    let outer : c.view.inside.at.plan.now ≡ c.args.view.now.plan = ap (λ (v : ListData). v.plan) c.view.view_is in
    let long = rw outer at c.validated_row.ensures.long in
    let P : NewRow → Type 0 = λ r. length r.row ≡ length (members c.args.view.now.plan r.cluster) in
    all_pushed P c.args.rows.now.rows c.push_reserved.new.self.rows (record { cluster = c.cluster_of-cluster.result; row = c.validated_row.new.row }) c.push_reserved.ensures.items c.requires.long long

pub returns-in-Ok-clause-at_most : goal.returns-in-Ok-clause-at_most
returns-in-Ok-clause-at_most g c =
    let same : c.view.inside.at.plan.now ≡ c.args.view.now.plan = ap (λ (v : ListData). v.plan) c.view.view_is in
    let own = rw same at c.cluster_of-cluster.ensures.cluster in
    let none : is_some (row_among c.args.rows.now.rows c.cluster_of-cluster.result) ≡ false =
    looked_up _ c.args.rows.now.rows c.cluster_of-cluster.result c.among.result c.is_some.result false c.among.ensures c.is_some.ensures c.if-is_some.false in
    asked_once c.args.view.now.plan c.args.rows.now.rows c.args.control c.cluster_of-cluster.result c.args.work.now.asked c.validated_row.new.work.asked own none c.validated_row.ensures.at_most_once

pub returns-in-Ok-clause-asked : goal.returns-in-Ok-clause-asked
returns-in-Ok-clause-asked g c =
    let outer : c.view.inside.at.plan.now ≡ c.args.view.now.plan = ap (λ (v : ListData). v.plan) c.view.view_is in
    let asked = rw outer at c.in-Ok.ensures.asked in
    λ n old.
    counted_next c.args.view.now.plan c.args.rows.now.rows c.push_reserved.new.self.rows (record { cluster = c.cluster_of-cluster.result; row = c.validated_row.new.row }) n c.args.work.now.asked c.validated_row.new.work.asked
    c.push_reserved.ensures.items asked old

-- what the row becomes is what is laid
pub returns-in-Ok-clause-ok : goal.returns-in-Ok-clause-ok
returns-in-Ok-clause-ok g c =
    let same : c.view.inside.at.plan.now ≡ c.args.view.now.plan = ap (λ (v : ListData). v.plan) c.view.view_is in
    let own = rw same at c.cluster_of-cluster.ensures.cluster in
    let is = becomes_by g.D.Validates.verdict _ c.args.view.now c.args.laid.now c.cluster_of-cluster.result (Ok c.validated_row.new.row) (sym c.in-Ok.ensures.ok) c.view.view_is in
    accepted_now g.D.Validates.verdict c.args.view.now.plan c.args.view.now.parts c.args.laid.now c.args.control c.cluster_of-cluster.result c.validated_row.new.row c.requires.among own is

pub returns-in-Err-clause-err : goal.returns-in-Err-clause-err
returns-in-Err-clause-err g c =
    let same : c.view.inside.at.plan.now ≡ c.args.view.now.plan = ap (λ (v : ListData). v.plan) c.view.view_is in
    let own = rw same at c.cluster_of-cluster.ensures.cluster in
    let is = becomes_by g.D.Validates.verdict _ c.args.view.now c.args.laid.now c.cluster_of-cluster.result (Err c.in-Err.errno) (sym c.in-Err.ensures.err) c.view.view_is in
    refused_now g.D.Validates.verdict c.args.view.now.plan c.args.view.now.parts c.args.laid.now c.args.control c.cluster_of-cluster.result c.in-Err.errno c.requires.among own is
