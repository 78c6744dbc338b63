use Rattle.std.proofs.Common.{rules, ◌≡◌, ℕ, List, [], ◌∷◌, ◌++◌, length, None, sym, ap, subst, ◌∙◌, nat_eq, arith}
use Rattle.std.specs.Map.{lookup}
use Rattle.history.specs.declared.entry.Entry.{Entry}
use Rattle.history.specs.Past.{past}
use Rattle.device_history.specs.declared.ask.Step.{Step}
use Rattle.device_history.specs.declared.ask.Step.TheVariants.{OpenFh}
use Rattle.device_history.specs.Handles.{open_check}
use Rattle.device_history.specs.Refusals.{step_check}
use Rattle.device_parts.specs.Makes.{Makes}
use Rattle.device_parts.specs.State.{StateData}
use Rattle.device_state.specs.Device.{DeviceData}
use Rattle.device_state.proofs.KeptLemmas.{kept_open, kept_fresh}
use Rattle.device_state.proofs.device.Device.accept_open.Goals as goal

-- its id is new
pub open-requires : goal.open-requires
open-requires g c =
    let device = c.self.inside in
    let number : c.len-number.result ≡ length device.steps.items = omega (arith, c.len-number.ensures, device.steps.ok.0) in
    ap (λ (n : ℕ). lookup (nat_eq n) device.state.file_handles) number ∙ kept_fresh g.D.Validates.verdict g.D.Notifies.told device.plan device.steps.items _ c.self.invariant

-- one more file handle is open
pub invariant_of-self-2 : goal.invariant_of-self-2
invariant_of-self-2 g c =
    let device = c.self.inside in
    let entry : Entry Step = record { seat = c.args.seat; step = OpenFh c.args.handler } in
    let number : c.len-number.result ≡ length device.steps.items = omega (arith, c.len-number.ensures, device.steps.ok.0) in
    let accepted : step_check (past device.steps.items) (open_check device.plan (past device.steps.items) c.args.handler) ≡ None =
    subst (λ (d : DeviceData). step_check (past d.steps) (open_check d.plan (past d.steps) c.args.handler) ≡ None) (sym c.self.view_is) c.requires in
    kept_open g.D.Validates.verdict g.D.Notifies.told device.plan device.steps.items _ _ c.open.new.self c.args.seat c.args.handler c.self.invariant accepted
    (c.push_reserved.ensures.items ∙ ap (λ (s : List (Entry Step)). s ++ entry ∷ []) c.reserve.ensures.items)
    (subst (λ (n : ℕ). Makes g.D.Validates.verdict device.plan n (OpenFh c.args.handler) device.state c.open.new.self) number (c.in_ok-open.ensures.makes g.D.Validates.verdict device.plan))
    (ap (λ (s : StateData). s.controls) c.in_ok-open.ensures.ok)

pub returns-clause-ok : goal.returns-clause-ok
returns-clause-ok g c = search rules
