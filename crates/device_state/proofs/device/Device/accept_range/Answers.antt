use Rattle.std.proofs.Common.{rules, to_z, of_z, w64, ℕ, not, List, [], ◌∷◌, ◌++◌, ◌≡◌, ◌<◌, length, get_or, slice_set, refl, sym, ap, subst, ◌∙◌, arith}
use Rattle.std.proofs.lemmas.List.{length-set}
use Rattle.std.proofs.lemmas.List.Elements.{All-cons}
use Rattle.ctrl_types.specs.Values.{zero_value, is_same}
use Rattle.history.specs.declared.entry.Entry.{Entry}
use Rattle.history.specs.Past.{past}
use Rattle.ctrl_types.specs.declared.value.CtrlValue.{CtrlValue}
use Rattle.ctrl_calls.specs.declared.work.Work.{Work}
use Rattle.ctrl_settle.specs.Control.{Control, with_range}
use Rattle.ctrl_settle.specs.Settle.{settled_anew}
use Rattle.ctrl_handlers.specs.Plan.{PlanData, control_in, members, no_control}
use Rattle.ctrl_clusters.specs.ControlsData.{ControlsData}
use Rattle.ctrl_clusters.specs.Notified.{IsNotified, after_change}
use Rattle.ctrl_clusters.specs.Rows.{AreControlsOf, is_grabbed, row_of, value_at}
use Rattle.ctrl_forecast.specs.Boards.{BoardData}
use Rattle.ctrl_forecast.specs.Forecasts.{named_by_frames}
use Rattle.device_history.specs.declared.ask.Step.{Step}
use Rattle.device_history.specs.declared.ask.Step.TheVariants.{ModifyRange}
use Rattle.device_history.specs.Forecasts.{queued_frames}
use Rattle.device_history.proofs.RangeLemmas.{ranges_more, ranges_own}
use Rattle.device_history.proofs.ControlsLemmas.{ranges_of, values_of, all_of}
use Rattle.device_state.specs.Device.{cluster_asks}
use Rattle.device_state.specs.Changed.{values_then}
use Rattle.device_state.specs.Ranging.{range_step}
use Rattle.device_parts.proofs.CoverLemmas.{set_apart}
use Rattle.device_state.proofs.BoardLemmas.{board_own, board_same}
use Rattle.device_state.proofs.KeptLemmas.{ranges_kept, ready}
use Rattle.device_state.proofs.RangingLemmas.{counted_alone, kept_range, range_known, ranges_ranged, told_alone, values_ranged}
use Rattle.ctrl_clusters.specs.Moments.{parts}
use Rattle.device_state.proofs.device.Device.accept_range.Goals as goal

-- the state is ready for a step
pub modify_range-requires-clause-ready : goal.modify_range-requires-clause-ready
modify_range-requires-clause-ready g c = ready g.D.Validates.verdict g.D.Notifies.told c.self.inside.plan c.self.inside.steps.items _ c.self.invariant

-- what is kept fits the plan afterwards
pub at-after-requires : goal.at-after-requires
at-after-requires g c =
    let device = c.self.inside in
    let P : List (Entry Step) = past device.steps.items in
    let entry : Entry Step = record { seat = c.args.seat; step = range_step c.args.control c.args.changed } in
    let ranged = rw (← c.self.view_is) at c.requires.ranged in
    subst (AreControlsOf device.plan)
    (ranges_more device.plan entry P
    ∙ sym (ranges_ranged device.plan P c.args.control c.args.changed device.state.controls.ranges c.modify_range.new.self.controls.ranges ranged (ranges_of c.self.invariant.made.controls) (ap (λ (m : ControlsData). m.ranges) c.modify_range.ensures.controls)))
    (ranges_own device.plan (entry ∷ P))

-- the control is there
pub value-before-requires : goal.value-before-requires
value-before-requires g c =
    let device = c.self.inside in
    let known = range_known device.plan (past device.steps.items) c.args.control c.args.changed (rw (← c.self.view_is) at c.requires.ranged) in
    omega (arith, known, (ranges_kept g.D.Validates.verdict g.D.Notifies.told device.plan device.steps.items _ c.self.invariant).many, ap (λ (m : ControlsData). length m.ranges) c.controls.ensures)

pub value-requires : goal.value-requires
value-requires g c =
    let device = c.self.inside in
    let known = range_known device.plan (past device.steps.items) c.args.control c.args.changed (rw (← c.self.view_is) at c.requires.ranged) in
    let stays : length c.modify_range.new.self.controls.ranges ≡ length device.state.controls.ranges =
    ap (λ (m : ControlsData). length m.ranges) c.modify_range.ensures.controls ∙ length-set device.state.controls.ranges c.args.control c.args.changed in
    omega (arith, known, stays, (ranges_kept g.D.Validates.verdict g.D.Notifies.told device.plan device.steps.items _ c.self.invariant).many, ap (λ (m : ControlsData). length m.ranges) c.controls-2.ensures)

-- ranges and values differ in the control's cluster alone
pub rejudge-requires-clause-kept : goal.rejudge-requires-clause-kept
rejudge-requires-clause-kept g c =
    let device = c.self.inside in
    let P : List (Entry Step) = past device.steps.items in
    let v : CtrlValue = settled_anew c.args.changed (value_at device.state.controls.values c.args.control) in
    let given = c.modify_range.ensures.controls in
    rw (c.at-after.ensures.plan, c.at-after.ensures.ranges, c.at-after.ensures.values, c.at-after.ensures.grabs)
    ((
      device.state.controls.ranges,
      device.state.controls.values,
      device.state.controls.grabs,
      board_own g.D.Validates.verdict device.plan (queued_frames device.plan P) device.board c.self.invariant.board c.self.invariant.made.controls,
      record {
        many = sym (ap (λ (m : ControlsData). length m.values) given ∙ length-set device.state.controls.values c.args.control v);
        ranges_stay = λ d apart.
            set_apart device.plan device.state.controls.ranges no_control c.args.control c.cluster_of-cluster.result c.args.changed d c.cluster_of-cluster.ensures.cluster apart
            ∙ sym (ap (λ (m : ControlsData). get_or m.ranges d no_control) given);
        values_stay = λ d apart.
            set_apart device.plan device.state.controls.values zero_value c.args.control c.cluster_of-cluster.result v d c.cluster_of-cluster.ensures.cluster apart
            ∙ sym (ap (λ (m : ControlsData). value_at m.values d) given);
        grabs_stay = λ d apart. ap (λ (m : ControlsData). is_grabbed m.grabs d) (sym given);
      },
    ))

pub rejudge-requires-clause-clusters : goal.rejudge-requires-clause-clusters
rejudge-requires-clause-clusters g c =
    rw c.at-after.ensures.plan (All-cons (λ k. k < length c.self.inside.plan.clusters) c.cluster_of-cluster.result [] c.cluster_of-cluster.ensures.within (λ k d lt. absurd (omega (arith, lt))))

pub notify_cluster-requires-clause-known : goal.notify_cluster-requires-clause-known
notify_cluster-requires-clause-known g c = rw c.at-after.ensures.plan c.cluster_of-cluster.ensures.within

pub notify_cluster-requires-clause-words : goal.notify_cluster-requires-clause-words
notify_cluster-requires-clause-words g c = rw c.at-after.ensures.plan c.self.invariant.words.each

-- whether the value differs
differs : (g : _) (c : goal.After-push_reserved g) → not c.is_same.result ≡ not (is_same (value_at c.self.inside.state.controls.values c.args.control) (value_at c.modify_range.new.self.controls.values c.args.control))
differs g c =
    ap not c.is_same.ensures ∙ ap (λ (x : CtrlValue). not (is_same x c.value.result)) (c.value-before.ensures ∙ ap (λ (m : ControlsData). value_at m.values c.args.control) c.controls.ensures)
    ∙ ap (λ (x : CtrlValue). not (is_same (value_at c.self.inside.state.controls.values c.args.control) x)) (c.value.ensures ∙ ap (λ (m : ControlsData). value_at m.values c.args.control) c.controls-2.ensures)

-- the cluster's word, of its row of the values afterwards
spoken : (g : _) (c : goal.After-push_reserved g)
    → IsNotified g.D.Notifies.told c.self.inside.plan c.cluster_of-cluster.result (not c.is_same.result) (row_of c.modify_range.new.self.controls.values (members c.self.inside.plan c.cluster_of-cluster.result)) c.self.inside.words.items c.notify_cluster.new.words.items
spoken g c = rw (c.at-after.ensures.plan, c.at-after.ensures.values) at c.notify_cluster.ensures.words

-- the step
pushed : (g : _) (c : goal.After-push_reserved g) → c.push_reserved.new.self.items ≡ c.self.inside.steps.items ++ record { seat = c.args.seat; step = range_step c.args.control c.args.changed } ∷ []
pushed g c =
    c.push_reserved.ensures.items
    ∙ ap (λ (s : List (Entry Step)). s ++ record { seat = c.args.seat; step = ModifyRange c.args.control (to_z w64 (of_z w64 c.minimum.result)) (to_z w64 (of_z w64 c.maximum.result)) c.step.result (to_z w64 (of_z w64 c.default_value.result)) } ∷ []) c.reserve.ensures.items
    ∙ (λ i. c.self.inside.steps.items ++ record { seat = c.args.seat; step = ModifyRange c.args.control (low i) (high i) (c.step.ensures i) (value i) } ∷ [])
  where
    low_read : to_z w64 (of_z w64 c.minimum.result) ≡ c.minimum.result
    low_read = search rules

    high_read : to_z w64 (of_z w64 c.maximum.result) ≡ c.maximum.result
    high_read = search rules

    value_read : to_z w64 (of_z w64 c.default_value.result) ≡ c.default_value.result
    value_read = search rules

    low : to_z w64 (of_z w64 c.minimum.result) ≡ c.args.changed.minimum
    low = low_read ∙ c.minimum.ensures

    high : to_z w64 (of_z w64 c.maximum.result) ≡ c.args.changed.maximum
    high = high_read ∙ c.maximum.ensures

    value : to_z w64 (of_z w64 c.default_value.result) ≡ c.args.changed.default_value
    value = value_read ∙ c.default_value.ensures

-- the control has its range, its value settled by it, its cluster a word of its row, and those are told for whom something changed
pub invariant_of-self-2 : goal.invariant_of-self-2
invariant_of-self-2 g c =
    let device = c.self.inside in
    let P : List (Entry Step) = past device.steps.items in
    let control : ℕ = c.args.control in
    let changed : Control = c.args.changed in
    let entry : Entry Step = record { seat = c.args.seat; step = range_step control changed } in
    let ranged = rw (← c.self.view_is) at c.requires.ranged in
    let v : CtrlValue = settled_anew changed (value_at device.state.controls.values control) in
    kept_range g.D.Validates.verdict g.D.Notifies.told device.plan device.steps.items _ _ c.modify_range.new.self _ _ c.args.seat control changed c.self.invariant ranged (pushed g c)
    (c.modify_range.ensures.makes (length device.steps.items) changed.minimum changed.maximum changed.step changed.default_value
    (ranged.its_own ∙ ap (λ (cs : List Control). with_range (control_in cs control) changed.minimum changed.maximum changed.step changed.default_value) (sym (ranges_of c.self.invariant.made.controls))))
    (told_alone g.D.Notifies.told device.plan device.state.controls.values c.modify_range.new.self.controls.values control c.cluster_of-cluster.result v _ device.words.items c.notify_cluster.new.words.items c.self.invariant.plans.is_plan c.cluster_of-cluster.ensures.cluster
    (ap (λ (m : ControlsData). m.values) c.modify_range.ensures.controls) (differs g c) (spoken g c))
    ((rw c.at-after.ensures.plan at c.rejudge.ensures.frames) ∙ board_same g.D.Validates.verdict device.plan (all_of {a = parts c.at-after.result} {b = c.modify_range.new.self.controls} c.at-after.ensures.ranges c.at-after.ensures.values c.at-after.ensures.grabs) refl)

-- the control's own cluster is told where its value differs, and the frames that name it are judged anew
pub returns-clause-ok : goal.returns-clause-ok
returns-clause-ok g c =
    let device = c.self.inside in
    let P : List (Entry Step) = past device.steps.items in
    let control : ℕ = c.args.control in
    let changed : Control = c.args.changed in
    let k : ℕ = c.cluster_of-cluster.result in
    let ranged = rw (← c.self.view_is) at c.requires.ranged in
    let v : CtrlValue = settled_anew changed (value_at device.state.controls.values control) in
    let set : c.modify_range.new.self.controls.values ≡ slice_set device.state.controls.values control v = ap (λ (m : ControlsData). m.values) c.modify_range.ensures.controls in
    let then : c.modify_range.new.self.controls.values ≡ values_then g.D.Validates.verdict device.plan P (range_step control changed) =
    values_ranged g.D.Validates.verdict device.plan P control changed device.state.controls.values c.modify_range.new.self.controls.values ranged (values_of c.self.invariant.made.controls) set in
    let fresh : device.work.told ≡ 0 = rw (← c.self.view_is) at c.requires.fresh in
    let told : c.rejudge.new.work.told ≡ after_change device.plan k (not c.is_same.result) device.work.told =
    c.rejudge.ensures.told ∙ ap (λ (w : Work). w.told) c.notify_cluster.ensures.work ∙ ap (λ (p : PlanData). after_change p k (not c.is_same.result) device.work.told) c.at-after.ensures.plan in
    rw (← c.self.view_is)
    (record {
      plan = refl;
      steps = pushed g c;
      words =
          rw ((values_of c.self.invariant.made.controls), then)
          at (told_alone g.D.Notifies.told device.plan device.state.controls.values c.modify_range.new.self.controls.values control k v _ device.words.items c.notify_cluster.new.words.items c.self.invariant.plans.is_plan c.cluster_of-cluster.ensures.cluster
          set (differs g c) (spoken g c));
      notified =
          rw ((values_of c.self.invariant.made.controls), then)
          at (counted_alone device.plan device.state.controls.values c.modify_range.new.self.controls.values control k v _ c.rejudge.new.work.told device.work.told c.self.invariant.plans.is_plan c.cluster_of-cluster.ensures.cluster
          set (differs g c) fresh told);
      asked = omega (
        arith,
        rw c.at-after.ensures.plan at c.rejudge.ensures.asked,
        ap (λ (w : Work). w.asked) c.notify_cluster.ensures.work,
        ap (λ (b : BoardData). named_by_frames device.plan b.queued (k ∷ [])) c.self.invariant.board,
        ap (cluster_asks device.plan P) c.cluster_of-cluster.ensures.cluster,
      );
    })
