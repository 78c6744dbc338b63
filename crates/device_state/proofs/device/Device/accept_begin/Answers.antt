use Rattle.std.proofs.Common.{◌≡◌, ◌<◌, ℕ, Ok, Some, List, [], ◌∷◌, ◌++◌, length, slice_get, refl, ap, sym, subst, ◌∙◌, arith}
use Rattle.history.specs.declared.entry.Entry.{Entry}
use Rattle.history.specs.Past.{past}
use Rattle.ctrl_types.specs.declared.ids.Pair.{Pair}
use Rattle.ctrl_calls.specs.declared.work.Work.{Work}
use Rattle.ctrl_handlers.specs.Plan.{PlanData, members}
use Rattle.ctrl_clusters.specs.Changes.{members_change}
use Rattle.ctrl_clusters.specs.ControlsData.{ControlsData}
use Rattle.ctrl_clusters.specs.Notified.{AreNotified, notified_count}
use Rattle.ctrl_clusters.specs.Rows.{AreControlsOf, Values, row_of}
use Rattle.ctrl_forecast.specs.Boards.{BoardData, named_clusters}
use Rattle.device_history.specs.declared.ask.Reply.TheVariants.{Frame}
use Rattle.device_history.specs.declared.ask.Step.{Step}
use Rattle.device_history.specs.declared.ask.Step.TheVariants.{Begin}
use Rattle.device_history.specs.Snapshots.{begun_pairs, begun_values}
use Rattle.device_history.specs.Values.{now}
use Rattle.frame_queue.specs.Frames.{FramesData}
use Rattle.device_history.specs.Frames.{first_of, queue}
use Rattle.device_parts.proofs.CoverLemmas.{named_cover, within_same}
use Rattle.device_parts.proofs.MakesLemmas.{asked_made, begun_applied, begun_laid}
use Rattle.device_state.proofs.BeginLemmas.{begin_answered, begin_follows, begin_reply, begun_board, begun_first, frames_queued, kept_begin, length_begun}
use Rattle.ctrl_clusters.specs.Moments.{parts, parts_after}
use Rattle.ctrl_raises.specs.Within.{DifferWithin}
use Rattle.device_history.specs.Requests.{asked}
use Rattle.device_history.proofs.ControlsLemmas.{values_of}
use Rattle.device_state.proofs.KeptLemmas.{ranges_kept, ready}
use Rattle.device_state.proofs.WithinLemmas.{begun_within, first_named, unmoved}
use Rattle.device_state.proofs.device.Device.accept_begin.Goals as goal

-- the first that waits
at_first : (ids : List ℕ) (n : ℕ) → first_of ids ≡ Some n → slice_get ids 0 ≡ Some n
at_first [] n h = cc
at_first (k ∷ ids) n h = h

-- a frame is queued
pub begin-forecast-requires : goal.begin-forecast-requires
begin-forecast-requires g c =
    let device = c.self.inside in
    let begun = rw (← c.self.view_is) at c.requires.begun in
    subst (λ (n : ℕ). 0 < n) (sym (ap (λ (b : BoardData). length b.queued) c.self.invariant.board)) (frames_queued device.plan (past device.steps.items) c.args.begun.request.0 begun.first)

-- the state is ready for a step
pub begin-buffer-requires-clause-ready : goal.begin-buffer-requires-clause-ready
begin-buffer-requires-clause-ready g c = ready g.D.Validates.verdict g.D.Notifies.told c.self.inside.plan c.self.inside.steps.items _ c.self.invariant

-- none runs, and the request is the first that waits
pub begin-buffer-requires-clause-free : goal.begin-buffer-requires-clause-free
begin-buffer-requires-clause-free g c =
    let begun = rw (← c.self.view_is) at c.requires.begun in
    ap (λ (f : FramesData). f.running) c.self.invariant.made.frames ∙ begun.free

pub begin-buffer-requires-clause-first : goal.begin-buffer-requires-clause-first
begin-buffer-requires-clause-first g c =
    let device = c.self.inside in
    let begun = rw (← c.self.view_is) at c.requires.begun in
    ap (λ (f : FramesData). slice_get f.queue 0) c.self.invariant.made.frames ∙ at_first (queue (past device.steps.items)) c.args.begun.request.0 begun.first

-- the clusters that the frame names cover what it asks for
pub begin-buffer-requires-clause-cover : goal.begin-buffer-requires-clause-cover
begin-buffer-requires-clause-cover g c =
    let device = c.self.inside in
    let made = c.self.invariant.made in
    let P : List (Entry Step) = past device.steps.items in
    let begun = rw (← c.self.view_is) at c.requires.begun in
    let named : c.begin-forecast.result.1 ≡ named_clusters device.plan (asked device.plan P c.args.begun.request.0) =
    first_named device.plan P c.args.begun.request.0 c.begin-forecast.result.1 begun.first (c.begin-forecast.ensures.named ∙ ap (λ (b : BoardData). slice_get b.named 0) c.self.invariant.board) in
    let asks = asked_made g.D.Validates.verdict device.plan device.steps.items device.state.frames c.args.begun.request made.frames made.legal (begin_follows g.D.Validates.verdict device.plan P c.args.begun.request.0 begun.free begun.first begun.room) in
    rw (c.as_slice-5.ensures, named, asks) (named_cover device.plan (asked device.plan P c.args.begun.request.0))

-- the values are what that makes of those before it
pub begin-buffer-requires-clause-laid : goal.begin-buffer-requires-clause-laid
begin-buffer-requires-clause-laid g c =
    let device = c.self.inside in
    let P : List (Entry Step) = past device.steps.items in
    let begun = rw (← c.self.view_is) at c.requires.begun in
    let first =
    begun_first g.D.Validates.verdict device.plan P c.args.begun.request.0 c.begin-forecast.result.0 begun.free begun.first (sym (ap (λ (b : BoardData). slice_get b.forecasts 0) c.self.invariant.board) ∙ sym c.begin-forecast.ensures.first) in
    c.into_vec.ensures ∙ first.0
    ∙ sym (begun_laid g.D.Validates.verdict device.plan device.steps.items device.state c.args.begun.request c.self.invariant.made (begin_follows g.D.Validates.verdict device.plan P c.args.begun.request.0 begun.free begun.first begun.room))

pub begin-buffer-requires-clause-applied : goal.begin-buffer-requires-clause-applied
begin-buffer-requires-clause-applied g c =
    let device = c.self.inside in
    let P : List (Entry Step) = past device.steps.items in
    let begun = rw (← c.self.view_is) at c.requires.begun in
    c.as_slice-4.ensures.value ∙ begun.are_applied
    ∙ sym (begun_applied g.D.Validates.verdict device.plan device.steps.items device.state c.args.begun.request c.self.invariant.made (begin_follows g.D.Validates.verdict device.plan P c.args.begun.request.0 begun.free begun.first begun.room))

-- its row is what the begin makes of the values, and which clusters it refuses
pub to_values-change-requires-clause-plan : goal.to_values-change-requires-clause-plan
to_values-change-requires-clause-plan g c =
    subst (λ (m : ControlsData). AreControlsOf c.self.inside.plan m.ranges) (sym c.controls.ensures) (ranges_kept g.D.Validates.verdict g.D.Notifies.told c.self.inside.plan c.self.inside.steps.items _ c.self.invariant)

pub to_values-change-requires-clause-values : goal.to_values-change-requires-clause-values
to_values-change-requires-clause-values g c =
    let device = c.self.inside in
    let P : List (Entry Step) = past device.steps.items in
    let begun = rw (← c.self.view_is) at c.requires.begun in
    let first =
    begun_first g.D.Validates.verdict device.plan P c.args.begun.request.0 c.begin-forecast.result.0 begun.free begun.first (sym (ap (λ (b : BoardData). slice_get b.forecasts 0) c.self.invariant.board) ∙ sym c.begin-forecast.ensures.first) in
    ap length (c.as_slice.ensures ∙ first.0) ∙ length_begun g.D.Validates.verdict device.plan P c.args.begun.request.0
    ∙ sym (ap (λ (m : ControlsData). length m.ranges) c.controls.ensures ∙ (ranges_kept g.D.Validates.verdict g.D.Notifies.told device.plan device.steps.items _ c.self.invariant).many)

-- there is a word for each cluster
pub notify_between-requires-clause-words : goal.notify_between-requires-clause-words
notify_between-requires-clause-words g c = rw c.to_values-change.ensures.plan c.self.invariant.words.each

-- nothing differs outside of the clusters that the frame names
pub notify_between-requires-clause-touched : goal.notify_between-requires-clause-touched
notify_between-requires-clause-touched g c =
    let device = c.self.inside in
    let P : List (Entry Step) = past device.steps.items in
    let begun = rw (← c.self.view_is) at c.requires.begun in
    let first =
    begun_first g.D.Validates.verdict device.plan P c.args.begun.request.0 c.begin-forecast.result.0 begun.free begun.first (sym (ap (λ (b : BoardData). slice_get b.forecasts 0) c.self.invariant.board) ∙ sym c.begin-forecast.ensures.first) in
    let named : c.begin-forecast.result.1 ≡ named_clusters device.plan (asked device.plan P c.args.begun.request.0) =
    first_named device.plan P c.args.begun.request.0 c.begin-forecast.result.1 begun.first (c.begin-forecast.ensures.named ∙ ap (λ (b : BoardData). slice_get b.named 0) c.self.invariant.board) in
    let within : DifferWithin c.to_values-change.result.before.plan.now c.as_slice-3.result.now (parts c.to_values-change.result.before) (parts_after c.to_values-change.result) c.as_slice-2.result.now =
    within_same _ device.plan _ (named_clusters device.plan (asked device.plan P c.args.begun.request.0)) _ device.state.controls _ (record device.state.controls { values = begun_values g.D.Validates.verdict device.plan P c.args.begun.request.0 }) _
    (begun_pairs g.D.Validates.verdict device.plan P c.args.begun.request.0) c.to_values-change.ensures.plan (c.as_slice-3.ensures ∙ named) (c.to_values-change.ensures.before ∙ c.controls.ensures)
    (c.to_values-change.ensures.after ∙ ap (λ (m : ControlsData). record m { values = c.as_slice.result.now }) c.controls.ensures ∙ ap (λ (vs : Values). record device.state.controls { values = vs }) (c.as_slice.ensures ∙ first.0)) (c.as_slice-2.ensures.value ∙ begun.are_applied)
    (begun_within g.D.Validates.verdict device.plan P c.args.begun.request.0 device.state.controls c.self.invariant.made.controls) in
    λ k outside.
    unmoved c.to_values-change.result.before.plan.now c.as_slice-3.result.now (parts c.to_values-change.result.before) (parts_after c.to_values-change.result) c.as_slice-2.result.now k c.to_values-change.result.before.planned.is_plan within outside

-- the state is what the begin makes of it, and those are told whose cluster it changes
pub invariant_of-self-2 : goal.invariant_of-self-2
invariant_of-self-2 g c =
    let device = c.self.inside in
    let change = c.to_values-change in
    let P : List (Entry Step) = past device.steps.items in
    let entry : Entry Step = record { seat = c.args.seat; step = Begin c.args.begun.request } in
    let begun = rw (← c.self.view_is) at c.requires.begun in
    let values : change.result.values.now ≡ c.begin-buffer.new.self.controls.values =
    ap (λ (m : ControlsData). m.values) change.ensures.after ∙ c.as_slice.ensures ∙ sym (ap (λ (m : ControlsData). m.values) c.begin-buffer.ensures.controls ∙ c.into_vec.ensures) in
    let words : AreNotified g.D.Notifies.told change.result.before.plan.now (members_change change.result.before.plan.now change.result.before.values.now change.result.values.now c.as_slice-2.result.now)
    (λ k. row_of change.result.values.now (members change.result.before.plan.now k)) device.words.items c.notify_between.new.words.items = c.notify_between.ensures.words in
    kept_begin g.D.Validates.verdict g.D.Notifies.told device.plan device.steps.items _ _ c.begin-buffer.new.self _ _ c.args.begun.applied.items c.args.seat c.args.begun.request c.self.invariant begun
    (c.push_reserved.ensures.items ∙ ap (λ (s : List (Entry Step)). s ++ entry ∷ []) c.reserve.ensures.items)
    (c.begin-buffer.ensures.makes (length device.steps.items))
    (subst (λ (v : Values). AreNotified g.D.Notifies.told device.plan (members_change device.plan device.state.controls.values v c.args.begun.applied.items) (λ k. row_of v (members device.plan k)) device.words.items c.notify_between.new.words.items) values
    (rw (change.ensures.plan, ap (λ (m : ControlsData). m.values) (change.ensures.before ∙ c.controls.ensures), c.as_slice-2.ensures.value) at words))
    (begun_board g.D.Validates.verdict device.plan P c.args.begun.request.0 device.board _ c.self.invariant.board begun.first (ap (λ (b : BoardData). b.queued) c.begin-forecast.ensures.rest) (ap (λ (b : BoardData). b.named) c.begin-forecast.ensures.rest)
    (ap (λ (b : BoardData). b.forecasts) c.begin-forecast.ensures.rest))

-- the reply is what the row says
pub returns-clause-reply : goal.returns-clause-reply
returns-clause-reply g c =
    let device = c.self.inside in
    let P : List (Entry Step) = past device.steps.items in
    let begun = rw (← c.self.view_is) at c.requires.begun in
    let first =
    begun_first g.D.Validates.verdict device.plan P c.args.begun.request.0 c.begin-forecast.result.0 begun.free begun.first (sym (ap (λ (b : BoardData). slice_get b.forecasts 0) c.self.invariant.board) ∙ sym c.begin-forecast.ensures.first) in
    rw (← c.self.view_is)
    (begin_reply g.D.Validates.verdict device.plan P c.args.begun.request.0 c.args.begun.request.0 c.begin-buffer.result device.state.frames begun.free begun.first begun.room c.self.invariant.made.frames
    (begin_answered device.state.frames c.args.begun.request.0 (ap (λ (f : FramesData). f.running) c.self.invariant.made.frames ∙ begun.free)
    (ap (λ (f : FramesData). slice_get f.queue 0) c.self.invariant.made.frames ∙ at_first (queue P) c.args.begun.request.0 begun.first)
    ∙ ap (λ (n : ℕ). Ok (c.args.begun.request.0, n)) (sym c.begin-buffer.ensures.number))
    ∙ ap (λ (l : List ℕ). Ok (Frame c.args.begun.request c.begin-buffer.result l)) (sym first.1))

-- those are told whose cluster the begin changes
pub returns-clause-ok : goal.returns-clause-ok
returns-clause-ok g c =
    let device = c.self.inside in
    let change = c.to_values-change in
    let P : List (Entry Step) = past device.steps.items in
    let entry : Entry Step = record { seat = c.args.seat; step = Begin c.args.begun.request } in
    let begun = rw (← c.self.view_is) at c.requires.begun in
    let first =
    begun_first g.D.Validates.verdict device.plan P c.args.begun.request.0 c.begin-forecast.result.0 begun.free begun.first (sym (ap (λ (b : BoardData). slice_get b.forecasts 0) c.self.invariant.board) ∙ sym c.begin-forecast.ensures.first) in
    let before : change.result.before.values.now ≡ now g.D.Validates.verdict device.plan P = ap (λ (m : ControlsData). m.values) (change.ensures.before ∙ c.controls.ensures) ∙ (values_of c.self.invariant.made.controls) in
    let values : change.result.values.now ≡ begun_values g.D.Validates.verdict device.plan P c.args.begun.request.0 = ap (λ (m : ControlsData). m.values) change.ensures.after ∙ c.as_slice.ensures ∙ first.0 in
    let applied : c.as_slice-2.result.now ≡ begun_pairs g.D.Validates.verdict device.plan P c.args.begun.request.0 = c.as_slice-2.ensures.value ∙ begun.are_applied in
    let words : AreNotified g.D.Notifies.told change.result.before.plan.now (members_change change.result.before.plan.now change.result.before.values.now change.result.values.now c.as_slice-2.result.now)
    (λ k. row_of change.result.values.now (members change.result.before.plan.now k)) device.words.items c.notify_between.new.words.items = c.notify_between.ensures.words in
    let counted : PlanData → Values → Values → List Pair → ℕ = λ p old new pairs. notified_count p (members_change p old new pairs) in
    rw (← c.self.view_is)
    (record {
      plan = refl;
      steps = c.push_reserved.ensures.items ∙ ap (λ (s : List (Entry Step)). s ++ entry ∷ []) c.reserve.ensures.items;
      words = rw (change.ensures.plan, before, values, applied) at words;
      notified =
          ap (λ (w : Work). w.told) c.notify_between.ensures.work
          ∙ ap (λ (p : PlanData). counted p change.result.before.values.now change.result.values.now c.as_slice-2.result.now) change.ensures.plan
          ∙ ap (λ (v : Values). counted device.plan v change.result.values.now c.as_slice-2.result.now) before
          ∙ ap (λ (v : Values). counted device.plan (now g.D.Validates.verdict device.plan P) v c.as_slice-2.result.now) values
          ∙ ap (counted device.plan (now g.D.Validates.verdict device.plan P) (begun_values g.D.Validates.verdict device.plan P c.args.begun.request.0)) applied;
      asked = omega (arith, ap (λ (w : Work). w.asked) c.notify_between.ensures.work);
    })
