use Rattle.std.proofs.Common.{List, [], ◌∷◌, ◌++◌, ◌≡◌, length, None, sym, ap, subst, ◌∙◌}
use Rattle.history.specs.declared.entry.Entry.{Entry}
use Rattle.history.specs.Past.{past}
use Rattle.device_history.specs.declared.ask.Step.{Step}
use Rattle.device_history.specs.declared.ask.Step.TheVariants.{CloseFh}
use Rattle.device_history.specs.Handles.{through}
use Rattle.device_history.specs.Refusals.{step_check}
use Rattle.device_state.specs.Device.{DeviceData}
use Rattle.device_state.proofs.KeptLemmas.{kept_close}
use Rattle.device_state.proofs.device.Device.accept_close.Goals as goal

-- the file handle is open no longer
pub invariant_of-self-2 : goal.invariant_of-self-2
invariant_of-self-2 g c =
    let device = c.self.inside in
    let entry : Entry Step = record { seat = c.args.seat; step = CloseFh c.args.fh } in
    let accepted : step_check (past device.steps.items) (through (past device.steps.items) c.args.fh None) ≡ None =
    subst (λ (d : DeviceData). step_check (past d.steps) (through (past d.steps) c.args.fh None) ≡ None) (sym c.self.view_is) c.requires in
    kept_close g.D.Validates.verdict g.D.Notifies.told device.plan device.steps.items _ _ c.close.new.self c.args.seat c.args.fh c.self.invariant accepted
    (c.push_reserved.ensures.items ∙ ap (λ (s : List (Entry Step)). s ++ entry ∷ []) c.reserve.ensures.items)
    (c.close.ensures.makes (length device.steps.items) g.D.Validates.verdict device.plan) c.close.ensures.controls
