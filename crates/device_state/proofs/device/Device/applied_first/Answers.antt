use Rattle.std.proofs.Common.{◌≡◌, ◌<◌, ℕ, true, None, Some, Option, refl, List, length, is_some, ap, sym, subst, ◌∙◌}
use Rattle.std.specs.List.{All}
use Rattle.std.specs.Option.{option_map}
use Rattle.std.proofs.lemmas.Result.{IfOk-weaker}
use Rattle.history.specs.Past.{past}
use Rattle.ctrl_types.specs.declared.ids.Pair.{Pair}
use Rattle.ctrl_clusters.specs.Rows.{Values}
use Rattle.ctrl_forecast.specs.Applied.{applied_pairs}
use Rattle.ctrl_forecast.specs.Looks.{seen}
use Rattle.req_book.proofs.SettingLemmas.{known_latest}
use Rattle.device_history.specs.Requests.{since, stored}
use Rattle.device_history.specs.Snapshots.{begun_refused, begun_values}
use Rattle.device_history.proofs.RequestLemmas.{first_queued}
use Rattle.device_state.specs.Device.{DeviceData}
use Rattle.device_state.proofs.BeginLemmas.{begun_first, begun_some, length_begun}
use Rattle.device_state.proofs.device.Device.applied_first.Goals as goal

-- the first frame has a row
pub unwrap-row-requires : goal.unwrap-row-requires
unwrap-row-requires g c =
    let d : DeviceData = c.args.self.now in
    there c.row.result (λ none. begun_some g.D.Validates.verdict d.plan (past d.steps) c.args.request.0 c.requires.first (sym c.row.ensures ∙ ap (option_map seen) none))
  where
    there : {X : Type 0} (o : Option X) → (o ≡ None → ⊥) → is_some o ≡ true
    there None h = absurd (h refl)
    there (Some x) h = refl

-- the first that waits is there
pub asked_by-pairs-requires : goal.asked_by-pairs-requires
asked_by-pairs-requires g c = ap is_some (first_queued (past c.args.self.now.steps) c.args.request.0 c.requires.first)

-- there is a value for each control
pub applied-requires-clause-values : goal.applied-requires-clause-values
applied-requires-clause-values g c =
    let d : DeviceData = c.args.self.now in
    let first = begun_first g.D.Validates.verdict d.plan (past d.steps) c.args.request.0 (seen c.unwrap-row.result) c.requires.free c.requires.first (sym c.row.ensures ∙ ap (option_map seen) c.unwrap-row.ensures) in
    ap length first.0 ∙ length_begun g.D.Validates.verdict d.plan (past d.steps) c.args.request.0 ∙ ap (λ (x : DeviceData). length x.plan.controls) (sym c.self.view_is)

-- it asks for controls that are there
pub applied-requires-clause-pairs : goal.applied-requires-clause-pairs
applied-requires-clause-pairs g c =
    let device = c.self.inside in
    let asks = rw (← c.self.view_is) at c.asked_by-pairs.ensures in
    subst (λ (l : List Pair). All (λ p. p.control < length device.plan.controls) l) (sym asks)
    (known_latest (length device.plan.controls) (stored c.args.request.0 (since c.args.request.0 (past device.steps.items))))

-- what is applied is what the row says
pub returns : goal.returns
returns g c =
    let d : DeviceData = c.args.self.now in
    let first = begun_first g.D.Validates.verdict d.plan (past d.steps) c.args.request.0 (seen c.unwrap-row.result) c.requires.free c.requires.first (sym c.row.ensures ∙ ap (option_map seen) c.unwrap-row.ensures) in
    IfOk-weaker c.applied.result _ _
    (λ a h.
    h
    ∙ ap (λ (x : DeviceData). applied_pairs x.plan c.unwrap-row.result.values.now c.unwrap-row.result.refused.now c.asked_by-pairs.result.now) c.self.view_is
    ∙ ap (λ (v : Values). applied_pairs d.plan v c.unwrap-row.result.refused.now c.asked_by-pairs.result.now) first.0
    ∙ ap (λ (l : List ℕ). applied_pairs d.plan (begun_values g.D.Validates.verdict d.plan (past d.steps) c.args.request.0) l c.asked_by-pairs.result.now) first.1
    ∙ ap (λ (ps : List Pair). applied_pairs d.plan (begun_values g.D.Validates.verdict d.plan (past d.steps) c.args.request.0) (begun_refused g.D.Validates.verdict d.plan (past d.steps) c.args.request.0) ps) c.asked_by-pairs.ensures)
    c.applied.ensures
