-- What `==` says of events that wait.
use Rattle.std.proofs.Common.{rules, ◌≡◌, ℕ, Bool, false, ap}
use Rattle.std.specs.Bool.{Decides}
use Rattle.std.proofs.lemmas.Bool.Decides.{Decides-at, Decides-eqb, Decides-int_eq, Decides-and}
use denote.Enum.Bare.{sameb}
use Rattle.ctrl_types.specs.contracts.kind.Kind.{the_type}
use Rattle.ctrl_types.specs.declared.kind.Kind.{Kind}
use Rattle.ctrl_events.specs.contracts.event.PayloadPartialEq.TheImpl.{eq-value as payload_eq}
use Rattle.ctrl_events.specs.contracts.event.LatestPartialEq.TheImpl.{eq-value as latest_eq}
use Rattle.ctrl_events.specs.declared.event.Payload.{Payload}
use Rattle.ctrl_events.specs.declared.event.Latest.{Latest}
use Rattle.ctrl_events.specs.Events.{Waiting}
use Rattle.ctrl_events.specs.Queue.{waiting_from}

kinds : (a b : Kind) (r : Bool) → r ≡ sameb the_type a b → Decides r (a ≡ b)
kinds a b r is = search rules

-- payloads with the same parts are the same
abbrev SamePayload : Payload → Payload → Type 0
SamePayload a b = (a.id.0 ≡ b.id.0) × ((a.kind ≡ b.kind) × ((a.value ≡ b.value) × ((a.flags.0 ≡ b.flags.0) × ((a.minimum ≡ b.minimum) × ((a.maximum ≡ b.maximum) × ((a.step ≡ b.step) × (a.default_value ≡ b.default_value)))))))

payload_parts : (a b : Payload) → Decides (payload_eq.it a b) (SamePayload a b)
payload_parts a b =
    Decides-and _ _ (Decides-eqb a.id.0 b.id.0) (
    Decides-and _ _ (kinds a.kind b.kind _ (λ i. sameb the_type a.kind b.kind)) (
    Decides-and _ _ (Decides-int_eq a.value b.value) (
    Decides-and _ _ (Decides-eqb a.flags.0 b.flags.0) (
    Decides-and _ _ (Decides-int_eq a.minimum b.minimum) (
    Decides-and _ _ (Decides-int_eq a.maximum b.maximum) (Decides-and _ _ (Decides-eqb a.step b.step) (Decides-int_eq a.default_value b.default_value))
    )
    )
    )
    )
    )

whole_payload : (a b : Payload) → SamePayload a b → a ≡ b
whole_payload a b same = λ i. record { id = record { 0 = same.0 i }; kind = same.1.0 i; value = same.1.1.0 i; flags = record { 0 = same.1.1.1.0 i }; minimum = same.1.1.1.1.0 i; maximum = same.1.1.1.1.1.0 i; step = same.1.1.1.1.1.1.0 i; default_value = same.1.1.1.1.1.1.1 i }

payload_fields : (a b : Payload) → a ≡ b → SamePayload a b
payload_fields a b is = (
  ap (λ (p : Payload). p.id.0) is,
  (ap (λ (p : Payload). p.kind) is, (ap (λ (p : Payload). p.value) is, (ap (λ (p : Payload). p.flags.0) is, (ap (λ (p : Payload). p.minimum) is, (ap (λ (p : Payload). p.maximum) is, (ap (λ (p : Payload). p.step) is, ap (λ (p : Payload). p.default_value) is)))))),
)

payloads : (a b : Payload) → Decides (payload_eq.it a b) (a ≡ b)
payloads a b = (λ h. whole_payload a b ((payload_parts a b).0 h), λ is. (payload_parts a b).1 (payload_fields a b is))

-- so is what was raised last of controls
abbrev SameLatest : Latest → Latest → Type 0
SameLatest a b = (a.changes.0 ≡ b.changes.0) × ((a.payload ≡ b.payload) × (a.sequence ≡ b.sequence))

latest_parts : (a b : Latest) → Decides (latest_eq.it a b) (SameLatest a b)
latest_parts a b = Decides-and _ _ (Decides-eqb a.changes.0 b.changes.0) (Decides-and _ _ (payloads a.payload b.payload) (Decides-eqb a.sequence b.sequence))

-- events of one control that wait are the same where the same was raised last of it
pub same_waiting : (c d : ℕ) (a b : Latest) (r : Bool) → c ≡ d → r ≡ latest_eq.it a b → Decides r (waiting_from c a ≡ waiting_from d b)
same_waiting c d a b r same is =
    let parts : Decides r (SameLatest a b) = Decides-at r (latest_eq.it a b) is (latest_parts a b) in (
      λ h. let alike = parts.0 h in λ i. record { control = same i; changes = record { 0 = alike.0 i }; payload = alike.1.0 i; sequence = alike.1.1 i },
      λ alike. parts.1 (ap (λ (w : Waiting). w.changes.0) alike, (ap (λ (w : Waiting). w.payload) alike, ap (λ (w : Waiting). w.sequence) alike)),
    )

pub other_waiting : (c d : ℕ) (a b : Latest) → (c ≡ d → ⊥) → Decides false (waiting_from c a ≡ waiting_from d b)
other_waiting c d a b apart = (λ h. cc, λ alike. absurd (apart (ap (λ (w : Waiting). w.control) alike)))
