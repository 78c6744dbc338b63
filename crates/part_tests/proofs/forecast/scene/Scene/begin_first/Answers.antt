use Rattle.std.proofs.Common.{◌∙◌, length, drop, slice_get, sym, ap}
use Rattle.ctrl_clusters.specs.ControlsData.{ControlsData}
use Rattle.ctrl_clusters.specs.Rows.{Values}
use Rattle.ctrl_forecast.specs.Boards.{BoardData, board_of}
use Rattle.part_tests.specs.Verdicts.{ordered_verdict}
use Rattle.ctrl_forecast.proofs.BoardLemmas.{begun, rest_of}
use Rattle.part_tests.proofs.forecast.scene.Scene.begin_first.Goals as goal

pub replace_values-requires : goal.replace_values-requires
replace_values-requires c =
    let s = c.args.self.now in
    let left = begun ordered_verdict s.plan.now s.controls.ranges s.controls.grabs s.controls.values s.board.queued c.begin-first.result.0
    (c.begin-first.ensures.first ∙ ap (λ (b : BoardData). slice_get b.forecasts 0) s.kept) in
    ap length c.into_vec.ensures ∙ left.0 ∙ s.valued ∙ sym s.ranged.many

pub invariant_of-self-clause-valued : goal.invariant_of-self-clause-valued
invariant_of-self-clause-valued c =
    let s = c.args.self.now in
    let left = begun ordered_verdict s.plan.now s.controls.ranges s.controls.grabs s.controls.values s.board.queued c.begin-first.result.0
    (c.begin-first.ensures.first ∙ ap (λ (b : BoardData). slice_get b.forecasts 0) s.kept) in
    ap (λ (m : ControlsData). length m.values) c.replace_values.ensures.new ∙ ap length c.into_vec.ensures ∙ left.0 ∙ s.valued

pub invariant_of-self-clause-kept : goal.invariant_of-self-clause-kept
invariant_of-self-clause-kept c =
    let s = c.args.self.now in
    let left = begun ordered_verdict s.plan.now s.controls.ranges s.controls.grabs s.controls.values s.board.queued c.begin-first.result.0
    (c.begin-first.ensures.first ∙ ap (λ (b : BoardData). slice_get b.forecasts 0) s.kept) in
    c.begin-first.ensures.rest ∙ ap rest_of s.kept ∙ left.1
    ∙ ap (λ (v : Values). board_of ordered_verdict s.plan.now s.controls.ranges v s.controls.grabs (drop 1 s.board.queued)) (sym c.into_vec.ensures)
    ∙ ap (λ (m : ControlsData). board_of ordered_verdict s.plan.now m.ranges m.values m.grabs (drop 1 s.board.queued)) (sym c.replace_values.ensures.new)
    ∙ ap (board_of ordered_verdict s.plan.now c.replace_values.new.self.ranges c.replace_values.new.self.values c.replace_values.new.self.grabs) (sym (ap (λ (b : BoardData). b.queued) c.begin-first.ensures.rest))
