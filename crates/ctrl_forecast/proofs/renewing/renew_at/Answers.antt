use Rattle.std.proofs.Common.{◌≡◌, ◌∙◌, List, Ok, Err, length, ap}
use Rattle.ctrl_handlers.specs.Plan.{members}
use Rattle.ctrl_clusters.specs.Rows.{row_of}
use Rattle.ctrl_forecast.specs.Frames.{AreKeptFrames, FrameData, Setting, base_at, frame_at, row_result, setting, values_before}
use Rattle.ctrl_forecast.proofs.CopyLemmas.{IsReadAt, asked_at_most, kept_at, outcome_at, read_at, renewed_by, room_at, settled_at}
use Rattle.ctrl_forecast.proofs.RenewLemmas.{base_long}
use Rattle.ctrl_forecast.proofs.renewing.renew_at.Goals as goal

pub invariant_of-over-clause-valued : goal.invariant_of-over-clause-valued
invariant_of-over-clause-valued g c =
    ap length (c.values_before-base.ensures ∙ ap (λ (fs : List FrameData). values_before c.args.at.now.values.now fs c.args.place) c.as_slice.ensures.value)
    ∙ base_long c.args.at.now.plan.now c.args.at.now.values.now c.args.frames.now.items c.args.place c.args.at.now.valued c.requires.frames c.requires.place

pub write_at-requires-clause-values : goal.write_at-requires-clause-values
unfolding AreKeptFrames
write_at-requires-clause-values g c = (c.requires.frames c.args.place c.requires.place).long

pub write_at-requires-clause-room : goal.write_at-requires-clause-room
write_at-requires-clause-room g c =
    let s : Setting = setting g.D.Validates.verdict c.args.at.now.plan.now c.args.at.now.ranges.now c.args.at.now.values.now c.args.at.now.grabs.now in
    let fs : List FrameData = c.args.frames.now.items in
    let read : IsReadAt s fs c.args.place c.values_before-base.result.now c.asked-asked.result.now =
    read_at s fs c.as_slice.result.now c.args.place c.values_before-base.result.now c.asked-asked.result.now c.index.result.now c.requires.place c.as_slice.ensures.value c.values_before-base.ensures c.index.ensures c.asked-asked.ensures in
    let out : row_result s (base_at s fs c.args.place) (frame_at fs c.args.place).asked c.args.cluster ≡ Ok c.row_after.new.row =
    settled_at s fs c.args.cluster c.args.place c.values_before-base.result.now c.asked-asked.result.now c.row_after.new.row c.in-Ok-true.field-0 read c.in-Ok-true.ensures.ok c.in-Ok-true.field-0-test in
    room_at s fs c.args.cluster c.args.place (Ok c.row_after.new.row) c.requires.frames c.requires.cluster c.requires.place out

pub keep_at-requires-clause-room : goal.keep_at-requires-clause-room
keep_at-requires-clause-room g c =
    let s : Setting = setting g.D.Validates.verdict c.args.at.now.plan.now c.args.at.now.ranges.now c.args.at.now.values.now c.args.at.now.grabs.now in
    let fs : List FrameData = c.args.frames.now.items in
    let read : IsReadAt s fs c.args.place c.values_before-base.result.now c.asked-asked.result.now =
    read_at s fs c.as_slice.result.now c.args.place c.values_before-base.result.now c.asked-asked.result.now c.index.result.now c.requires.place c.as_slice.ensures.value c.values_before-base.ensures c.index.ensures c.asked-asked.ensures in
    let out : row_result s (base_at s fs c.args.place) (frame_at fs c.args.place).asked c.args.cluster ≡ Ok (row_of (base_at s fs c.args.place) (members s.plan c.args.cluster)) =
    kept_at s fs c.args.cluster c.args.place c.values_before-base.result.now c.asked-asked.result.now c.row_after.new.row c.in-Ok-false.field-0 read c.in-Ok-false.ensures.ok c.in-Ok-false.field-0-test in
    room_at s fs c.args.cluster c.args.place (Ok (row_of (base_at s fs c.args.place) (members s.plan c.args.cluster))) c.requires.frames c.requires.cluster c.requires.place out

pub keep_at-requires-in-Err-clause-room : goal.keep_at-requires-in-Err-clause-room
keep_at-requires-in-Err-clause-room g c =
    let s : Setting = setting g.D.Validates.verdict c.args.at.now.plan.now c.args.at.now.ranges.now c.args.at.now.values.now c.args.at.now.grabs.now in
    let fs : List FrameData = c.args.frames.now.items in
    let read : IsReadAt s fs c.args.place c.values_before-base.result.now c.asked-asked.result.now =
    read_at s fs c.as_slice.result.now c.args.place c.values_before-base.result.now c.asked-asked.result.now c.index.result.now c.requires.place c.as_slice.ensures.value c.values_before-base.ensures c.index.ensures c.asked-asked.ensures in
    let out : row_result s (base_at s fs c.args.place) (frame_at fs c.args.place).asked c.args.cluster ≡ Err c.in-Err.field-0 =
    outcome_at s fs c.args.cluster c.args.place c.values_before-base.result.now c.asked-asked.result.now (Err c.in-Err.field-0) read c.in-Err.ensures.err in
    room_at s fs c.args.cluster c.args.place (Err c.in-Err.field-0) c.requires.frames c.requires.cluster c.requires.place out

-- the row was settled
pub returns-in-Ok-true-clause-frames : goal.returns-in-Ok-true-clause-frames
returns-in-Ok-true-clause-frames g c =
    let s : Setting = setting g.D.Validates.verdict c.args.at.now.plan.now c.args.at.now.ranges.now c.args.at.now.values.now c.args.at.now.grabs.now in
    let fs : List FrameData = c.args.frames.now.items in
    let read : IsReadAt s fs c.args.place c.values_before-base.result.now c.asked-asked.result.now =
    read_at s fs c.as_slice.result.now c.args.place c.values_before-base.result.now c.asked-asked.result.now c.index.result.now c.requires.place c.as_slice.ensures.value c.values_before-base.ensures c.index.ensures c.asked-asked.ensures in
    let out : row_result s (base_at s fs c.args.place) (frame_at fs c.args.place).asked c.args.cluster ≡ Ok c.row_after.new.row =
    settled_at s fs c.args.cluster c.args.place c.values_before-base.result.now c.asked-asked.result.now c.row_after.new.row c.in-Ok-true.field-0 read c.in-Ok-true.ensures.ok c.in-Ok-true.field-0-test in
    c.write_at.ensures.frames ∙ renewed_by s fs c.args.cluster c.args.place (Ok c.row_after.new.row) c.write_at.result c.requires.frames c.requires.cluster c.requires.place out c.write_at.ensures.changed

-- no member is among the pairs
pub returns-in-Ok-false-clause-frames : goal.returns-in-Ok-false-clause-frames
returns-in-Ok-false-clause-frames g c =
    let s : Setting = setting g.D.Validates.verdict c.args.at.now.plan.now c.args.at.now.ranges.now c.args.at.now.values.now c.args.at.now.grabs.now in
    let fs : List FrameData = c.args.frames.now.items in
    let read : IsReadAt s fs c.args.place c.values_before-base.result.now c.asked-asked.result.now =
    read_at s fs c.as_slice.result.now c.args.place c.values_before-base.result.now c.asked-asked.result.now c.index.result.now c.requires.place c.as_slice.ensures.value c.values_before-base.ensures c.index.ensures c.asked-asked.ensures in
    let out : row_result s (base_at s fs c.args.place) (frame_at fs c.args.place).asked c.args.cluster ≡ Ok (row_of (base_at s fs c.args.place) (members s.plan c.args.cluster)) =
    kept_at s fs c.args.cluster c.args.place c.values_before-base.result.now c.asked-asked.result.now c.row_after.new.row c.in-Ok-false.field-0 read c.in-Ok-false.ensures.ok c.in-Ok-false.field-0-test in
    c.keep_at.ensures.frames ∙ renewed_by s fs c.args.cluster c.args.place (Ok (row_of (base_at s fs c.args.place) (members s.plan c.args.cluster))) c.keep_at.result c.requires.frames c.requires.cluster c.requires.place out c.keep_at.ensures.changed

-- the cluster is refused
pub returns-in-Err-clause-frames : goal.returns-in-Err-clause-frames
returns-in-Err-clause-frames g c =
    let s : Setting = setting g.D.Validates.verdict c.args.at.now.plan.now c.args.at.now.ranges.now c.args.at.now.values.now c.args.at.now.grabs.now in
    let fs : List FrameData = c.args.frames.now.items in
    let read : IsReadAt s fs c.args.place c.values_before-base.result.now c.asked-asked.result.now =
    read_at s fs c.as_slice.result.now c.args.place c.values_before-base.result.now c.asked-asked.result.now c.index.result.now c.requires.place c.as_slice.ensures.value c.values_before-base.ensures c.index.ensures c.asked-asked.ensures in
    let out : row_result s (base_at s fs c.args.place) (frame_at fs c.args.place).asked c.args.cluster ≡ Err c.in-Err.field-0 =
    outcome_at s fs c.args.cluster c.args.place c.values_before-base.result.now c.asked-asked.result.now (Err c.in-Err.field-0) read c.in-Err.ensures.err in
    c.keep_at-in-Err.ensures.frames ∙ renewed_by s fs c.args.cluster c.args.place (Err c.in-Err.field-0) c.keep_at-in-Err.result c.requires.frames c.requires.cluster c.requires.place out c.keep_at-in-Err.ensures.changed

-- written out so that a wrong body is refused soon (docs/GATE.md)
pub returns-in-Ok-true-clause-asked : goal.returns-in-Ok-true-clause-asked
returns-in-Ok-true-clause-asked g c =
    let s : Setting = setting g.D.Validates.verdict c.args.at.now.plan.now c.args.at.now.ranges.now c.args.at.now.values.now c.args.at.now.grabs.now in
    let fs : List FrameData = c.args.frames.now.items in
    let read : IsReadAt s fs c.args.place c.values_before-base.result.now c.asked-asked.result.now =
    read_at s fs c.as_slice.result.now c.args.place c.values_before-base.result.now c.asked-asked.result.now c.index.result.now c.requires.place c.as_slice.ensures.value c.values_before-base.ensures c.index.ensures c.asked-asked.ensures in
    asked_at_most s fs c.args.cluster c.args.place c.values_before-base.result.now c.asked-asked.result.now c.args.work.now.asked c.row_after.new.work.asked read c.row_after.ensures.asked

pub returns-in-Ok-false-clause-asked : goal.returns-in-Ok-false-clause-asked
returns-in-Ok-false-clause-asked g c =
    let s : Setting = setting g.D.Validates.verdict c.args.at.now.plan.now c.args.at.now.ranges.now c.args.at.now.values.now c.args.at.now.grabs.now in
    let fs : List FrameData = c.args.frames.now.items in
    let read : IsReadAt s fs c.args.place c.values_before-base.result.now c.asked-asked.result.now =
    read_at s fs c.as_slice.result.now c.args.place c.values_before-base.result.now c.asked-asked.result.now c.index.result.now c.requires.place c.as_slice.ensures.value c.values_before-base.ensures c.index.ensures c.asked-asked.ensures in
    asked_at_most s fs c.args.cluster c.args.place c.values_before-base.result.now c.asked-asked.result.now c.args.work.now.asked c.row_after.new.work.asked read c.row_after.ensures.asked

pub returns-in-Err-clause-asked : goal.returns-in-Err-clause-asked
returns-in-Err-clause-asked g c =
    let s : Setting = setting g.D.Validates.verdict c.args.at.now.plan.now c.args.at.now.ranges.now c.args.at.now.values.now c.args.at.now.grabs.now in
    let fs : List FrameData = c.args.frames.now.items in
    let read : IsReadAt s fs c.args.place c.values_before-base.result.now c.asked-asked.result.now =
    read_at s fs c.as_slice.result.now c.args.place c.values_before-base.result.now c.asked-asked.result.now c.index.result.now c.requires.place c.as_slice.ensures.value c.values_before-base.ensures c.index.ensures c.asked-asked.ensures in
    asked_at_most s fs c.args.cluster c.args.place c.values_before-base.result.now c.asked-asked.result.now c.args.work.now.asked c.row_after.new.work.asked read c.row_after.ensures.asked
