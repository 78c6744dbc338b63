use Rattle.std.proofs.Common.{ℕ, false, List, [], ◌∷◌, ◌++◌, ◌≡◌, ◌<◌, length, slice_set, None, refl, sym, ap, subst, ◌∙◌, arith}
use Rattle.history.specs.declared.entry.Entry.{Entry}
use Rattle.history.specs.Past.{past}
use Rattle.std.proofs.lemmas.List.Elements.{All-cons}
use Rattle.ctrl_clusters.specs.ControlsData.{ControlsData}
use Rattle.ctrl_clusters.specs.Rows.{AreControlsOf, is_grabbed, value_at}
use Rattle.ctrl_handlers.specs.Plan.{control_in}
use Rattle.ctrl_forecast.specs.Boards.{BoardData}
use Rattle.ctrl_forecast.specs.Forecasts.{named_by_frames}
use Rattle.device_history.specs.declared.ask.Step.{Step}
use Rattle.device_history.specs.declared.ask.Step.TheVariants.{Grab}
use Rattle.device_history.specs.Grabs.{grab_check}
use Rattle.device_history.specs.Refusals.{step_check}
use Rattle.device_history.specs.Forecasts.{queued_frames}
use Rattle.device_parts.specs.Makes.{Makes}
use Rattle.device_parts.specs.State.{IsReady, StateData}
use Rattle.device_state.specs.Device.{DeviceData, cluster_asks}
use Rattle.device_parts.proofs.CoverLemmas.{set_apart}
use Rattle.device_state.proofs.BoardLemmas.{board_own, board_same}
use Rattle.device_state.proofs.KeptLemmas.{grab_known, kept_grab, ranges_kept, ready}
use Rattle.ctrl_clusters.specs.Moments.{parts}
use Rattle.device_history.proofs.ControlsLemmas.{all_of}
use Rattle.device_state.proofs.device.Device.accept_grab.Goals as goal

-- the state is ready for a step
pub grab-requires-clause-ready : goal.grab-requires-clause-ready
grab-requires-clause-ready g c =
    subst (λ (s : StateData). IsReady c.self.inside.plan s) (sym c.in_ok-room.ensures.same) (ready g.D.Validates.verdict g.D.Notifies.told c.self.inside.plan c.self.inside.steps.items _ c.self.invariant)

-- the control is there
pub grab-requires-clause-known : goal.grab-requires-clause-known
grab-requires-clause-known g c =
    grab_known c.self.inside.plan c.self.inside.steps.items c.args.control (subst (λ (d : DeviceData). step_check (past d.steps) (grab_check d.plan c.args.control) ≡ None) (sym c.self.view_is) c.requires)

-- what is kept fits the plan afterwards
pub at-requires : goal.at-requires
at-requires g c =
    let same : c.grab.new.self.controls.ranges ≡ c.self.inside.state.controls.ranges = ap (λ (m : ControlsData). m.ranges) c.grab.ensures.controls ∙ ap (λ (s : StateData). s.controls.ranges) c.in_ok-room.ensures.same in
    subst (AreControlsOf c.self.inside.plan) (sym same) (ranges_kept g.D.Validates.verdict g.D.Notifies.told c.self.inside.plan c.self.inside.steps.items _ c.self.invariant)

-- the grabs differ in the control's cluster alone
pub rejudge-requires-clause-kept : goal.rejudge-requires-clause-kept
rejudge-requires-clause-kept g c =
    let device = c.self.inside in
    let made = c.self.invariant.made in
    let P : List (Entry Step) = past device.steps.items in
    let then : c.grab.new.self.controls ≡ record device.state.controls { grabs = slice_set device.state.controls.grabs c.args.control c.args.on } =
    c.grab.ensures.controls ∙ ap (λ (s : StateData). record s.controls { grabs = slice_set s.controls.grabs c.args.control c.args.on }) c.in_ok-room.ensures.same in
    rw (c.at.ensures.plan, c.at.ensures.ranges, c.at.ensures.values, c.at.ensures.grabs)
    ((
      device.state.controls.ranges,
      device.state.controls.values,
      device.state.controls.grabs,
      board_own g.D.Validates.verdict device.plan (queued_frames device.plan P) device.board c.self.invariant.board made.controls,
      record {
        many = ap (λ (m : ControlsData). length m.values) (sym then);
        ranges_stay = λ d apart. ap (λ (m : ControlsData). control_in m.ranges d) (sym then);
        values_stay = λ d apart. ap (λ (m : ControlsData). value_at m.values d) (sym then);
        grabs_stay = λ d apart.
            set_apart device.plan device.state.controls.grabs false c.args.control c.cluster_of-cluster.result c.args.on d c.cluster_of-cluster.ensures.cluster apart
            ∙ ap (λ (m : ControlsData). is_grabbed m.grabs d) (sym then);
      },
    ))

-- the cluster is there
pub rejudge-requires-clause-clusters : goal.rejudge-requires-clause-clusters
rejudge-requires-clause-clusters g c = rw c.at.ensures.plan (All-cons (λ k. k < length c.self.inside.plan.clusters) c.cluster_of-cluster.result [] c.cluster_of-cluster.ensures.within (λ k d lt. absurd (omega (arith, lt))))

-- the control is grabbed now, or let go, and the frames that name its cluster are judged anew
pub invariant_of-self-2 : goal.invariant_of-self-2
invariant_of-self-2 g c =
    let device = c.self.inside in
    let entry : Entry Step = record { seat = c.args.seat; step = Grab c.args.control c.args.on } in
    let accepted : step_check (past device.steps.items) (grab_check device.plan c.args.control) ≡ None =
    subst (λ (d : DeviceData). step_check (past d.steps) (grab_check d.plan c.args.control) ≡ None) (sym c.self.view_is) c.requires in
    let then : c.grab.new.self.controls ≡ record device.state.controls { grabs = slice_set device.state.controls.grabs c.args.control c.args.on } =
    c.grab.ensures.controls ∙ ap (λ (s : StateData). record s.controls { grabs = slice_set s.controls.grabs c.args.control c.args.on }) c.in_ok-room.ensures.same in
    kept_grab g.D.Validates.verdict g.D.Notifies.told device.plan device.steps.items _ _ c.grab.new.self _ c.args.seat c.args.control c.args.on c.self.invariant accepted
    (c.push_reserved.ensures.items ∙ ap (λ (s : List (Entry Step)). s ++ entry ∷ []) c.reserve.ensures.items)
    (subst (λ (s : StateData). Makes g.D.Validates.verdict device.plan (length device.steps.items) (Grab c.args.control c.args.on) s c.grab.new.self) c.in_ok-room.ensures.same (c.grab.ensures.makes (length device.steps.items)))
    then
    ((rw c.at.ensures.plan at c.rejudge.ensures.frames) ∙ board_same g.D.Validates.verdict device.plan (all_of {a = parts c.at.result} {b = c.grab.new.self.controls} c.at.ensures.ranges c.at.ensures.values c.at.ensures.grabs) refl)

-- the frames that name the cluster are judged anew
pub returns-clause-asked : goal.returns-clause-asked
returns-clause-asked g c =
    let device = c.self.inside in
    let k : ℕ = c.cluster_of-cluster.result in
    rw (← c.self.view_is)
    (omega (
      arith,
      rw c.at.ensures.plan at c.rejudge.ensures.asked,
      ap (λ (b : BoardData). named_by_frames device.plan b.queued (k ∷ [])) c.self.invariant.board,
      ap (cluster_asks device.plan (past device.steps.items)) c.cluster_of-cluster.ensures.cluster,
    ))
