use Rattle.std.proofs.Common.{List, [], ◌∷◌, ◌++◌, ℕ, length, ◌≡◌, ap, subst, ◌∙◌, arith}
use Rattle.history.specs.declared.entry.Entry.{Entry}
use Rattle.history.specs.Past.{past}
use Rattle.ctrl_calls.specs.declared.work.Work.{Work}
use Rattle.ctrl_forecast.specs.Boards.{BoardData}
use Rattle.device_history.specs.declared.ask.Step.{Step}
use Rattle.device_history.specs.Forecasts.{queued_frames}
use Rattle.device_parts.specs.Leaving.{FitsIn}
use Rattle.device_parts.specs.Makes.{Makes}
use Rattle.device_parts.proofs.FitLemmas.{fits_in}
use Rattle.device_state.proofs.BoardLemmas.{board_own, line_bound, queued_once}
use Rattle.device_state.proofs.KeptLemmas.{kept_controls_left, ready}
use Rattle.device_state.proofs.device.Device.accept.Goals as goal

-- the state is ready for a step
pub change_with_forecasts-changed-requires-clause-ready : goal.change_with_forecasts-changed-requires-clause-ready
change_with_forecasts-changed-requires-clause-ready g c = ready g.D.Validates.verdict g.D.Notifies.told c.self.inside.plan c.self.inside.steps.items _ c.self.invariant

-- the step fits what is kept
pub change_with_forecasts-changed-requires-clause-fits : goal.change_with_forecasts-changed-requires-clause-fits
change_with_forecasts-changed-requires-clause-fits g c =
    let device = c.self.inside in
    let number : length device.steps.items ≡ c.len-number.result = omega (arith, c.len-number.ensures, device.steps.ok.0) in
    subst (λ (n : ℕ). FitsIn n c.args.step device.state.frames) number
    (fits_in g.D.Validates.verdict device.plan device.steps.items device.state.frames c.args.step c.self.invariant.made.frames c.self.invariant.made.legal (rw (← c.self.view_is) at c.requires.follows) c.requires.leaves (rw (← c.self.view_is) at c.requires.known))

pub change_with_forecasts-changed-requires-clause-known : goal.change_with_forecasts-changed-requires-clause-known
change_with_forecasts-changed-requires-clause-known g c = rw (← c.self.view_is) at c.requires.known

-- the board is of what is kept beside it, and no request is queued twice
pub change_with_forecasts-changed-requires-clause-board : goal.change_with_forecasts-changed-requires-clause-board
change_with_forecasts-changed-requires-clause-board g c =
    let device = c.self.inside in
    let P : List (Entry Step) = past device.steps.items in
    let made = c.self.invariant.made in
    board_own g.D.Validates.verdict device.plan (queued_frames device.plan P) device.board c.self.invariant.board made.controls

pub change_with_forecasts-changed-requires-clause-once : goal.change_with_forecasts-changed-requires-clause-once
change_with_forecasts-changed-requires-clause-once g c =
    let device = c.self.inside in
    queued_once g.D.Validates.verdict device.plan (past device.steps.items) device.board.queued c.self.invariant.made.legal (ap (λ (b : BoardData). b.queued) c.self.invariant.board)

-- the state and its forecasts are what the step makes of them
pub invariant_of-self-in-Ok : goal.invariant_of-self-in-Ok
invariant_of-self-in-Ok g c =
    let device = c.self.inside in
    let entry : Entry Step = record { seat = c.args.seat; step = c.args.step } in
    let number : c.len-number.result ≡ length device.steps.items = omega (arith, c.len-number.ensures, device.steps.ok.0) in
    kept_controls_left g.D.Validates.verdict g.D.Notifies.told device.plan device.steps.items _ _ c.change_with_forecasts-changed.new.self _ c.args.seat c.args.step c.self.invariant (rw (← c.self.view_is) at c.requires.room) (rw (← c.self.view_is) at c.requires.follows) c.requires.leaves
    (c.push_reserved.ensures.items ∙ ap (λ (s : List (Entry Step)). s ++ entry ∷ []) c.reserve.ensures.items)
    (subst (λ (n : ℕ). Makes g.D.Validates.verdict device.plan n c.args.step device.state c.change_with_forecasts-changed.new.self) number c.in-Ok.ensures.makes)
    c.change_with_forecasts-changed.ensures.controls c.in-Ok.ensures.board

-- validators are asked as often as is said
pub returns-in-Ok-clause-asked : goal.returns-in-Ok-clause-asked
returns-in-Ok-clause-asked g c =
    let device = c.self.inside in
    let most =
    line_bound g.D.Validates.verdict device.plan (past device.steps.items) c.args.step device.state.frames device.board.queued c.self.invariant.made.frames
    (ap (λ (b : BoardData). b.queued) c.self.invariant.board) in
    rw (← c.self.view_is) (omega (arith, c.saturating_add-self-inside.ensures, c.change_with_forecasts-changed.ensures.asked, ap (λ (w : Work). w.asked) c.new-work.ensures, most))

pub returns-in-Err-clause-asked : goal.returns-in-Err-clause-asked
returns-in-Err-clause-asked g c =
    let device = c.self.inside in
    let most =
    line_bound g.D.Validates.verdict device.plan (past device.steps.items) c.args.step device.state.frames device.board.queued c.self.invariant.made.frames
    (ap (λ (b : BoardData). b.queued) c.self.invariant.board) in
    rw (← c.self.view_is) (omega (arith, c.saturating_add-self-inside.ensures, c.change_with_forecasts-changed.ensures.asked, ap (λ (w : Work). w.asked) c.new-work.ensures, most))
