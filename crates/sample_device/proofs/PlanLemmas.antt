-- The sample device's controls are made as they are described, and its plan is finished with each other control alone.
use Rattle.std.proofs.Common.{◌≡◌, ℕ, ℤ, pos, Bool, false, ap, sym, subst, refl, Result, Ok, Err, IsOk, IfOk, ◌↔◌}
use Rattle.ctrl_calls.specs.declared.relation.Relations.{Relations}
use Rattle.ctrl_types.specs.declared.flags.Flags.{Flags}
use Rattle.ctrl_types.specs.declared.ids.CtrlId.{CtrlId}
use Rattle.ctrl_types.specs.declared.kind.Kind.{Kind}
use Rattle.ctrl_settle.proofs.WellFormed.{IsWellFormed-test}
use Rattle.ctrl_settle.specs.Control.{Control, described, described_array}
use Rattle.ctrl_settle.specs.Faults.{IsWellFormed}
use Rattle.ctrl_settle.specs.declared.fault.CtrlFault.{CtrlFault}
use Rattle.ctrl_handlers.specs.Plan.{finished}
use Rattle.sample_device.specs.Sample.{no_flags, sample, weights, whole_sample}

-- a set without a bit is the set without flags
none_is : (f : Flags) → f.0 ≡ 0 → no_flags ≡ f
none_is f e = ap (λ (n : ℕ). let g : Flags = record { 0 = n } in g) (sym e)

made : (c : Control) (r : Result Control CtrlFault) → IsWellFormed c → (IsWellFormed c → IsOk r) → IfOk r (λ x. x ≡ c) → r ≡ Ok c
made c (Ok x) fits ok value = ap (λ (y : Control). let q : Result Control CtrlFault = Ok y in q) value
made c (Err e) fits ok value = let bad : IsOk {T = Control} {E = CtrlFault} (Err e) = ok fits in cc

-- a description that is well formed makes the control that it describes
pub plain_made : (id : CtrlId) (kind : Kind) (minimum maximum : ℤ) (step : ℕ) (default_value : ℤ) (skip : ℕ) (is_private : Bool) (f : Flags) (r : Result Control CtrlFault) → f.0 ≡ 0
    → IsWellFormed (described id kind minimum maximum step default_value skip no_flags is_private)
    → (IsOk r ↔ IsWellFormed (described id kind minimum maximum step default_value skip f is_private))
    → IfOk r (λ c. c ≡ described id kind minimum maximum step default_value skip f is_private)
    → r ≡ Ok (described id kind minimum maximum step default_value skip no_flags is_private)
plain_made id kind minimum maximum step default_value skip is_private f r e fits ok value =
    let P : Flags → Type 0 = λ g. (IsOk r ↔ IsWellFormed (described id kind minimum maximum step default_value skip g is_private))
    → IfOk r (λ c. c ≡ described id kind minimum maximum step default_value skip g is_private) → r ≡ Ok (described id kind minimum maximum step default_value skip no_flags is_private) in
    subst P (none_is f e) (λ o v. made (described id kind minimum maximum step default_value skip no_flags is_private) r fits o.1 v) ok value

-- so does that of weights
pub weights_made : (f : Flags) (r : Result Control CtrlFault) → f.0 ≡ 0
    → (IsOk r ↔ IsWellFormed (described_array (record { 0 = 0x00981000 }) 4 (pos 0) (pos 250) 10 (pos 0) f false))
    → IfOk r (λ c. c ≡ described_array (record { 0 = 0x00981000 }) 4 (pos 0) (pos 250) 10 (pos 0) f false)
    → r ≡ Ok weights
weights_made f r e ok value =
    let P : Flags → Type 0 = λ g. (IsOk r ↔ IsWellFormed (described_array (record { 0 = 0x00981000 }) 4 (pos 0) (pos 250) 10 (pos 0) g false))
    → IfOk r (λ c. c ≡ described_array (record { 0 = 0x00981000 }) 4 (pos 0) (pos 250) 10 (pos 0) g false) → r ≡ Ok weights in
    subst P (none_is f e) (λ o v. made weights r (IsWellFormed-test weights refl) o.1 v) ok value

-- hflip, vflip, hue and power are in no named cluster
pub finished_sample : (of_gain of_balance of_button of_brightness : Relations)
    → finished (sample of_gain of_balance of_button of_brightness) ≡ whole_sample of_gain of_balance of_button of_brightness
finished_sample of_gain of_balance of_button of_brightness = refl
