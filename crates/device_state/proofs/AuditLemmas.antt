-- What an audit makes of a device's own steps.
use Rattle.std.proofs.Common.{◌≡◌, ℕ, suc, zero, ◌<◌, List, [], ◌∷◌, ◌++◌, length, map, take, slice_get, Some, refl, ap, sym, ◌∙◌, subst, arith}
use Rattle.history.specs.Past.{past}
use Rattle.ctrl_calls.specs.Meanings.{Verdicts}
use Rattle.ctrl_clusters.specs.ControlsData.{ControlsData}
use Rattle.ctrl_handlers.specs.Plan.{PlanData}
use Rattle.device_history.specs.Steps.{History, Past}
use Rattle.device_history.specs.Legal.{IsLegal}
use Rattle.device_history.proofs.PastLemmas.{legal_front, legal_last}
use Rattle.history_audit.specs.declared.fault.AuditFault.{AuditFault}
use Rattle.history_audit.specs.declared.fault.AuditFault.TheVariants as faults
use Rattle.history_audit.specs.Fault.{IsFault, StopsAt}
use Rattle.ctrl_clusters.specs.Rows.{Grabs, Values}
use Rattle.req_book.specs.Alike.{compared}
use Rattle.frame_queue.specs.Frames.{FramesData}
use Rattle.frame_queue.specs.Like.{IsLike}
use Rattle.device_history.specs.Grabs.{grabbed}
use Rattle.device_history.specs.Ranges.{ranges_now}
use Rattle.device_history.specs.Snapshots.{frames}
use Rattle.device_history.specs.Values.{now}
use Rattle.device_history.specs.Forecasts.{forecast}
use Rattle.ctrl_forecast.specs.declared.board.Forecast.{Forecast}
use Rattle.ctrl_events.specs.Events.{EventsData}
use Rattle.history_audit.specs.Scratch.{Agrees, HasParts, ScratchData, all_events, all_flags, flags_of_all, open_events, scratch}
use Rattle.device_state.specs.Device.{DeviceData}

-- an entry at a place, those before it, and those behind it
split : {X : Type 0} (xs : List X) (n : ℕ) → n < length xs → (x : X) × (more : List X) × (slice_get xs n ≡ Some x) × (xs ≡ (take n xs ++ x ∷ []) ++ more)
split [] n h = absurd (omega (arith, h))
split (x ∷ xs) zero h = (x, xs, refl, refl)
split (x ∷ xs) (suc n) h = let rest = split xs n (omega (arith, h)) in (rest.0, rest.1, rest.2, ap (λ (ys : List _). x ∷ ys) rest.3)

-- each step of a legal history may follow those before it
stops_nowhere : (verdicts : Verdicts) (plan : PlanData) (steps : History) (index : ℕ) → IsLegal verdicts plan (past steps) → StopsAt verdicts plan steps index → ⊥
stops_nowhere verdicts plan steps index legal stops =
    let at = split steps index stops.within in
    stops.ends at.0 at.2
    (legal_last verdicts plan (take index steps) at.0
    (legal_front verdicts plan (take index steps ++ at.0 ∷ []) at.1 (subst (λ (s : History). IsLegal verdicts plan (past s)) at.3 legal)))

-- an audit of legal steps only wants memory
pub own_fault : (verdicts : Verdicts) (device : DeviceData) (fault : AuditFault) → IsLegal verdicts device.plan (past device.steps) → IsFault verdicts device.plan device.steps fault → fault ≡ faults.Memory
own_fault verdicts device (faults.NotLegal index) legal is = absurd (stops_nowhere verdicts device.plan device.steps index legal is)
own_fault verdicts device faults.Memory legal is = refl

-- what is equal is alike
same_alike : {a b : FramesData} → a ≡ b → IsLike a b
same_alike is = record {
  requests = record { controls = ap (λ (f : FramesData). f.requests.controls) is; requests = ap (λ (f : FramesData). map compared f.requests.all) is };
  queue = ap (λ (f : FramesData). f.queue) is;
  running = ap (λ (f : FramesData). f.running) is;
}

-- what it works out agrees
pub own_agrees : (verdicts : Verdicts) (device : DeviceData) (s : ScratchData) → s ≡ scratch verdicts device.plan (past device.steps) → Agrees verdicts device.plan (past device.steps) s
own_agrees verdicts device s is = record { ranges = ap (λ (d : ScratchData). d.ranges) is; values = ap (λ (d : ScratchData). d.values) is; flags = ap (λ (d : ScratchData). d.flags) is; frames = same_alike (ap (λ (d : ScratchData). d.frames) is); forecasts = ap (λ (d : ScratchData). d.forecasts) is; events = ap (λ (d : ScratchData). d.events) is }

-- parts that are what a history makes are those of a scratch exactly where it agrees
pub agrees_both : (verdicts : Verdicts) (plan : PlanData) (past : Past) (s : ScratchData) (controls : ControlsData) (requests : FramesData) (rows : List Forecast) (handles : List (ℕ × ℕ)) (kept : EventsData) → controls.ranges ≡ ranges_now plan past → controls.values ≡ now verdicts plan past
    → controls.grabs ≡ grabbed plan past → requests ≡ frames verdicts plan past → rows ≡ forecast verdicts plan past → open_events kept handles ≡ all_events verdicts plan past
    → (HasParts s plan controls requests rows handles kept → Agrees verdicts plan past s) × (Agrees verdicts plan past s → HasParts s plan controls requests rows handles kept)
agrees_both verdicts plan past s controls requests rows handles kept r v g f b e = (
  λ has. record { ranges = has.ranges ∙ r; values = has.values ∙ v; flags = has.flags ∙ same; frames = subst (IsLike s.frames) f has.frames; forecasts = has.forecasts ∙ b; events = has.events ∙ e },
  λ agrees. record { ranges = agrees.ranges ∙ sym r; values = agrees.values ∙ sym v; flags = agrees.flags ∙ sym same; frames = subst (IsLike s.frames) (sym f) agrees.frames; forecasts = agrees.forecasts ∙ sym b; events = agrees.events ∙ sym e },
)
  where
    same : flags_of_all plan controls.values controls.grabs ≡ all_flags verdicts plan past
    same = ap (λ (vs : Values). flags_of_all plan vs controls.grabs) v ∙ ap (λ (gs : Grabs). flags_of_all plan (now verdicts plan past) gs) g
