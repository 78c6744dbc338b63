use Rattle.std.proofs.Common.{◌≡◌, ◌<◌, ◌≤◌, ℕ, List, [], ◌∷◌, ◌++◌, length, refl, sym, ap, subst, ◌∙◌, arith}
use Rattle.std.proofs.lemmas.List.Elements.{All-map}
use Rattle.history.specs.declared.entry.Entry.{Entry}
use Rattle.history.specs.Past.{past}
use Rattle.ctrl_types.specs.declared.ids.Pair.{Pair}
use Rattle.ctrl_calls.specs.declared.work.Work.{Work}
use Rattle.ctrl_handlers.specs.Plan.{PlanData, members}
use Rattle.ctrl_clusters.specs.Changes.{members_change}
use Rattle.ctrl_clusters.specs.ControlsData.{ControlsData}
use Rattle.ctrl_clusters.specs.NewRows.{clusters_of, written}
use Rattle.ctrl_clusters.specs.Moments.{parts, parts_after}
use Rattle.ctrl_clusters.specs.Notified.{AreNotified, notified_count}
use Rattle.ctrl_clusters.specs.Rows.{AreControlsOf, Values, row_of, value_at}
use Rattle.ctrl_clusters.specs.declared.new_row.NewRow.{NewRow}
use Rattle.ctrl_clusters.proofs.NewRowLemmas.{length_written}
use Rattle.ctrl_forecast.specs.Boards.{BoardData}
use Rattle.ctrl_forecast.specs.Forecasts.{QueuedData, named_by_frames}
use Rattle.device_history.specs.declared.ask.Step.{Step}
use Rattle.device_history.specs.declared.ask.Step.TheVariants.{Set}
use Rattle.device_history.specs.Ranges.{ranges_now}
use Rattle.device_history.specs.Values.{now}
use Rattle.device_history.specs.Forecasts.{queued_frames}
use Rattle.device_history.proofs.ControlsLemmas.{values_of, all_of}
use Rattle.ctrl_raises.specs.Within.{DifferWithin}
use Rattle.device_parts.proofs.CoverLemmas.{set_within, within_same}
use Rattle.device_history.specs.Laid.{laid}
use Rattle.device_parts.specs.Makes.{Makes}
use Rattle.device_parts.specs.State.{IsReady, StateData}
use Rattle.device_state.proofs.BoardLemmas.{board_own, board_same}
use Rattle.device_state.specs.Changed.{values_then}
use Rattle.device_state.proofs.KeptLemmas.{kept_set, ranges_kept, ready, set_cover, set_lays, set_then, values_kept}
use Rattle.device_state.proofs.WithinLemmas.{unmoved}
use Rattle.device_state.proofs.RenewLemmas.{written_apart}
use Rattle.device_state.proofs.SetLemmas.{new_rows}
use Rattle.device_state.proofs.device.Device.accept_list.Goals as goal

-- there is a value for each control
pub write_rows-requires-clause-values : goal.write_rows-requires-clause-values
write_rows-requires-clause-values g c = ap length c.in_ok-values.ensures.room ∙ values_kept g.D.Validates.verdict g.D.Notifies.told c.self.inside.plan c.self.inside.steps.items _ c.self.invariant

-- the values that rows are written into, where they are lent
rows_made : (plan : PlanData) (old lent new : Values) (own rows : List NewRow) → new ≡ written plan lent own → lent ≡ old → own ≡ rows → new ≡ written plan old rows
rows_made plan old lent new own rows is same r = is ∙ ap (λ (v : Values). written plan v own) same ∙ ap (written plan old) r

-- the controls that get values, where the state is lent
given_values : (old lent : StateData) (new : ControlsData) (values made : Values) → new ≡ record lent.controls { values = values } → lent ≡ old → values ≡ made → new ≡ record old.controls { values = made }
given_values old lent new values made is same v = is ∙ ap (λ (s : StateData). record s.controls { values = values }) same ∙ ap (λ (vs : Values). record old.controls { values = vs }) v

-- what is kept fits the plan, and there is a value for each control
pub to_values-change-requires-clause-plan : goal.to_values-change-requires-clause-plan
to_values-change-requires-clause-plan g c =
    subst (λ (m : ControlsData). AreControlsOf c.self.inside.plan m.ranges) (sym (c.controls.ensures ∙ ap (λ (s : StateData). s.controls) c.in_ok-values.ensures.same)) (ranges_kept g.D.Validates.verdict g.D.Notifies.told c.self.inside.plan c.self.inside.steps.items _ c.self.invariant)

pub to_values-change-requires-clause-values : goal.to_values-change-requires-clause-values
to_values-change-requires-clause-values g c =
    let device = c.self.inside in
    ap length (c.as_slice.ensures.value ∙ (rows_made device.plan device.state.controls.values _ _ _ c.args.touch.rows c.write_rows.ensures c.in_ok-values.ensures.room c.rows.ensures)) ∙ length_written device.plan device.state.controls.values c.args.touch.rows
    ∙ values_kept g.D.Validates.verdict g.D.Notifies.told device.plan device.steps.items _ c.self.invariant
    ∙ sym (ap (λ (m : ControlsData). length m.ranges) (c.controls.ensures ∙ ap (λ (s : StateData). s.controls) c.in_ok-values.ensures.same) ∙ (ranges_kept g.D.Validates.verdict g.D.Notifies.told device.plan device.steps.items _ c.self.invariant).many)

-- there is a word for each cluster
pub notify_between-requires-clause-words : goal.notify_between-requires-clause-words
notify_between-requires-clause-words g c = rw c.to_values-change.ensures.plan c.self.invariant.words.each

-- nothing differs outside of the clusters that the list touches
pub notify_between-requires-clause-touched : goal.notify_between-requires-clause-touched
notify_between-requires-clause-touched g c =
    let device = c.self.inside in
    let change = c.to_values-change in
    let settable = rw (← c.self.view_is) at c.requires.settable in
    let lays : c.write_rows.new.values.items ≡ laid g.D.Validates.verdict device.plan device.state.controls c.args.touch.pairs =
    set_lays g.D.Validates.verdict device.plan device.steps.items device.state c.write_rows.new.values.items c.args.fh c.args.touch c.self.invariant.made settable (rows_made device.plan device.state.controls.values _ _ _ c.args.touch.rows c.write_rows.ensures c.in_ok-values.ensures.room c.rows.ensures) in
    let within : DifferWithin change.result.before.plan.now c.clusters-clusters.result.now (parts change.result.before) (parts_after change.result) c.pairs.result.now =
    within_same _ device.plan _ (clusters_of c.args.touch.rows) _ device.state.controls _ (record device.state.controls { values = laid g.D.Validates.verdict device.plan device.state.controls c.args.touch.pairs }) _ c.args.touch.pairs
    change.ensures.plan c.clusters-clusters.ensures (change.ensures.before ∙ c.controls.ensures ∙ ap (λ (s : StateData). s.controls) c.in_ok-values.ensures.same)
    (change.ensures.after ∙ ap (λ (m : ControlsData). record m { values = c.as_slice.result.now }) (c.controls.ensures ∙ ap (λ (s : StateData). s.controls) c.in_ok-values.ensures.same) ∙ ap (λ (vs : Values). record device.state.controls { values = vs }) (c.as_slice.ensures.value ∙ lays)) c.pairs.ensures
    (set_within g.D.Validates.verdict device.plan device.state.controls (clusters_of c.args.touch.rows) c.args.touch.pairs (set_cover g.D.Validates.verdict device.plan (past device.steps.items) c.args.fh c.args.touch settable)) in
    λ k outside. unmoved change.result.before.plan.now c.clusters-clusters.result.now (parts change.result.before) (parts_after change.result) c.pairs.result.now k change.result.before.planned.is_plan within outside

-- the rows are of other clusters each
pub write_rows-requires-clause-rows : goal.write_rows-requires-clause-rows
write_rows-requires-clause-rows g c =
    let device = c.self.inside in
    let sets = rw (← c.self.view_is) at c.requires.settable in
    rw c.rows.ensures (new_rows g.D.Validates.verdict device.plan (ranges_now device.plan (past device.steps.items)) _ _ c.args.touch.pairs c.args.touch.rows sets.judged)

-- the state is ready for a step
pub set-requires-clause-ready : goal.set-requires-clause-ready
set-requires-clause-ready g c =
    subst (λ (s : StateData). IsReady c.self.inside.plan s) (sym c.in_ok-values.ensures.same) (ready g.D.Validates.verdict g.D.Notifies.told c.self.inside.plan c.self.inside.steps.items _ c.self.invariant)

-- the clusters of the rows cover the pairs
pub set-requires-clause-cover : goal.set-requires-clause-cover
set-requires-clause-cover g c =
    let device = c.self.inside in
    rw (c.clusters-clusters.ensures, c.pairs-2.ensures) (set_cover g.D.Validates.verdict device.plan (past device.steps.items) c.args.fh c.args.touch (rw (← c.self.view_is) at c.requires.settable))

-- the values are what the set lays over those before it
pub set-requires-clause-laid : goal.set-requires-clause-laid
set-requires-clause-laid g c =
    let device = c.self.inside in
    rw (c.in_ok-values.ensures.same, c.pairs-2.ensures)
    (set_lays g.D.Validates.verdict device.plan device.steps.items device.state c.write_rows.new.values.items c.args.fh c.args.touch c.self.invariant.made (rw (← c.self.view_is) at c.requires.settable) (rows_made device.plan device.state.controls.values _ _ _ c.args.touch.rows c.write_rows.ensures c.in_ok-values.ensures.room c.rows.ensures))

-- the step
pushed : (g : _) (c : goal.After-push_reserved g) → c.push_reserved.new.self.items ≡ c.self.inside.steps.items ++ record { seat = c.args.seat; step = Set c.args.fh c.args.touch.pairs } ∷ []
pushed g c =
    let with : List Pair → Entry Step = λ pairs. record { seat = c.args.seat; step = Set c.args.fh pairs } in
    c.push_reserved.ensures.items
    ∙ ap (λ (s : List (Entry Step)). s ++ with c.from_vec.result ∷ []) c.reserve.ensures.items
    ∙ ap (λ (pairs : List Pair). c.self.inside.steps.items ++ with pairs ∷ []) (c.from_vec.ensures ∙ c.into_parts-controls.ensures.pairs)

-- the state is what the set makes of it, and those are told whose cluster it changes
pub invariant_of-self-2 : goal.invariant_of-self-2
invariant_of-self-2 g c =
    let device = c.self.inside in
    let change = c.to_values-change in
    let settable = rw (← c.self.view_is) at c.requires.settable in
    let values : change.result.values.now ≡ c.set.new.self.controls.values = ap (λ (m : ControlsData). m.values) change.ensures.after ∙ c.as_slice.ensures.value ∙ sym (ap (λ (m : ControlsData). m.values) c.set.ensures.controls) in
    let words : AreNotified g.D.Notifies.told change.result.before.plan.now (members_change change.result.before.plan.now change.result.before.values.now change.result.values.now c.pairs.result.now)
    (λ k. row_of change.result.values.now (members change.result.before.plan.now k)) device.words.items c.notify_between.new.words.items = c.notify_between.ensures.words in
    kept_set g.D.Validates.verdict g.D.Notifies.told device.plan device.steps.items _ _ c.set.new.self _ _ c.args.seat c.args.fh c.args.touch c.self.invariant settable (pushed g c)
    (subst (λ (s : StateData). Makes g.D.Validates.verdict device.plan (length device.steps.items) (Set c.args.fh c.args.touch.pairs) s c.set.new.self) c.in_ok-values.ensures.same
    (subst (λ (ps : List Pair). Makes g.D.Validates.verdict device.plan (length device.steps.items) (Set c.args.fh ps) c.reserve_values.new.self c.set.new.self) c.pairs-2.ensures (c.set.ensures.makes (length device.steps.items))))
    (subst (λ (v : Values). AreNotified g.D.Notifies.told device.plan (members_change device.plan device.state.controls.values v c.args.touch.pairs) (λ k. row_of v (members device.plan k)) device.words.items c.notify_between.new.words.items) values
    (rw (change.ensures.plan, ap (λ (m : ControlsData). m.values) (change.ensures.before ∙ c.controls.ensures ∙ ap (λ (s : StateData). s.controls) c.in_ok-values.ensures.same), c.pairs.ensures) at words))
    ((rw c.at.ensures.plan at c.renew.ensures.frames) ∙ board_same g.D.Validates.verdict device.plan (all_of {a = parts c.at.result} {b = c.set.new.self.controls} c.at.ensures.ranges c.at.ensures.values c.at.ensures.grabs) refl)

-- the clusters of the rows are there
pub renew-requires-clause-clusters : goal.renew-requires-clause-clusters
renew-requires-clause-clusters g c =
    let device = c.self.inside in
    let settable = rw (← c.self.view_is) at c.requires.settable in
    rw (c.at.ensures.plan, c.clusters-clusters.ensures) (All-map (λ k. k < length device.plan.clusters) (λ (r : NewRow). r.cluster) c.args.touch.rows settable.judged.within)

-- the values differ in these clusters alone
pub renew-requires-clause-kept : goal.renew-requires-clause-kept
renew-requires-clause-kept g c =
    let device = c.self.inside in
    let made = c.self.invariant.made in
    let P : List (Entry Step) = past device.steps.items in
    let rows : List NewRow = c.args.touch.rows in
    rw (c.at.ensures.plan, c.at.ensures.ranges, c.at.ensures.values, c.at.ensures.grabs, c.clusters-clusters.ensures, ap (λ (m : ControlsData). m.ranges) (given_values device.state _ c.set.new.self.controls _ _ c.set.ensures.controls c.in_ok-values.ensures.same (rows_made device.plan device.state.controls.values _ _ _ c.args.touch.rows c.write_rows.ensures c.in_ok-values.ensures.room c.rows.ensures)), ap (λ (m : ControlsData). m.grabs) (given_values device.state _ c.set.new.self.controls _ _ c.set.ensures.controls c.in_ok-values.ensures.same (rows_made device.plan device.state.controls.values _ _ _ c.args.touch.rows c.write_rows.ensures c.in_ok-values.ensures.room c.rows.ensures)))
    ((
      device.state.controls.values,
      board_own g.D.Validates.verdict device.plan (queued_frames device.plan P) device.board c.self.invariant.board made.controls,
      record {
        many = sym (ap (λ (m : ControlsData). length m.values) (given_values device.state _ c.set.new.self.controls _ _ c.set.ensures.controls c.in_ok-values.ensures.same (rows_made device.plan device.state.controls.values _ _ _ c.args.touch.rows c.write_rows.ensures c.in_ok-values.ensures.room c.rows.ensures)) ∙ length_written device.plan device.state.controls.values rows);
        values_stay = λ d apart. written_apart device.plan device.state.controls.values rows d apart ∙ sym (ap (λ (m : ControlsData). value_at m.values d) (given_values device.state _ c.set.new.self.controls _ _ c.set.ensures.controls c.in_ok-values.ensures.same (rows_made device.plan device.state.controls.values _ _ _ c.args.touch.rows c.write_rows.ensures c.in_ok-values.ensures.room c.rows.ensures)));
      },
    ))

-- each touched cluster has its row, and the frames that name it follow
pub returns-clause-ok : goal.returns-clause-ok
returns-clause-ok g c =
    let device = c.self.inside in
    let queued : List QueuedData = queued_frames device.plan (past device.steps.items) in
    let own : c.clusters-clusters.result.now ≡ clusters_of c.args.touch.rows = c.clusters-clusters.ensures in
    let renewed : c.renew.new.work.asked ≤ named_by_frames device.plan queued (clusters_of c.args.touch.rows) =
    omega (
      arith,
      rw c.at.ensures.plan at c.renew.ensures.asked,
      ap (λ (w : Work). w.asked) c.new-work.ensures,
      ap (λ (b : BoardData). named_by_frames device.plan b.queued c.clusters-clusters.result.now) c.self.invariant.board,
      ap (named_by_frames device.plan queued) own,
    ) in
    let kept : c.notify_between.new.work.asked ≡ device.work.asked = ap (λ (w : Work). w.asked) c.notify_between.ensures.work in
    let P : List (Entry Step) = past device.steps.items in
    let change = c.to_values-change in
    let settable = rw (← c.self.view_is) at c.requires.settable in
    let before : change.result.before.values.now ≡ now g.D.Validates.verdict device.plan P = ap (λ (m : ControlsData). m.values) (change.ensures.before ∙ c.controls.ensures ∙ ap (λ (s : StateData). s.controls) c.in_ok-values.ensures.same) ∙ (values_of c.self.invariant.made.controls) in
    let values : change.result.values.now ≡ values_then g.D.Validates.verdict device.plan P (Set c.args.fh c.args.touch.pairs) =
    ap (λ (m : ControlsData). m.values) change.ensures.after ∙ c.as_slice.ensures.value ∙ (rows_made device.plan device.state.controls.values _ _ _ c.args.touch.rows c.write_rows.ensures c.in_ok-values.ensures.room c.rows.ensures) ∙ set_then g.D.Validates.verdict device.plan P device.state.controls.values c.args.fh c.args.touch settable (values_of c.self.invariant.made.controls) in
    let words : AreNotified g.D.Notifies.told change.result.before.plan.now (members_change change.result.before.plan.now change.result.before.values.now change.result.values.now c.pairs.result.now)
    (λ k. row_of change.result.values.now (members change.result.before.plan.now k)) device.words.items c.notify_between.new.words.items = c.notify_between.ensures.words in
    let counted : PlanData → Values → Values → List Pair → ℕ = λ p old new pairs. notified_count p (members_change p old new pairs) in
    rw (← c.self.view_is) (
      record {
        plan = refl;
        steps = pushed g c;
        words = rw (change.ensures.plan, before, values, c.pairs.ensures) at words;
        notified =
            ap (λ (w : Work). w.told) c.notify_between.ensures.work
            ∙ ap (λ (p : PlanData). counted p change.result.before.values.now change.result.values.now c.pairs.result.now) change.ensures.plan
            ∙ ap (λ (v : Values). counted device.plan v change.result.values.now c.pairs.result.now) before
            ∙ ap (λ (v : Values). counted device.plan (now g.D.Validates.verdict device.plan P) v c.pairs.result.now) values
            ∙ ap (counted device.plan (now g.D.Validates.verdict device.plan P) (values_then g.D.Validates.verdict device.plan P (Set c.args.fh c.args.touch.pairs))) c.pairs.ensures;
        asked = omega (arith, renewed, kept, c.saturating_add-self-inside.ensures);
      },
      omega (arith, kept, c.saturating_add-self-inside.ensures),
    )
