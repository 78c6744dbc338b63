-- How bytes are read as a message, and what follows of one that isn't one of some.
use Rattle.std.proofs.Common.{arith, ◌≡◌, ◌≢◌, ◌≤◌, ◌∙◌, ℕ, List, Option, ap, inr, length, refl}
use Rattle.std.specs.Borrow.{Bor}
use Rattle.std.specs.List.{between}
use Rattle.std.proofs.lemmas.Slice.{between_to_end}
use Rattle.ctrl_types.specs.declared.ids.FhId.{FhId}
use Rattle.ctrl_types.specs.declared.ids.RequestId.{RequestId}
use Rattle.ctl_session.specs.Calls.{plan_in}
use Rattle.ctl_session.specs.Session.{SessionData}
use Rattle.camera_messages.specs.declared.message.Message.{Message}
use Rattle.camera_messages.specs.declared.message.Message.TheVariants.{Call, Values, Waits, Line, Renew, Counts, Events}
use Rattle.ioctl_bytes.specs.Fields.{u32_in}
use Rattle.camera_messages.specs.declared.message.Numbers.{Numbers}
use Rattle.camera_messages.specs.Reading.{IsReadAs, message_by}
use Rattle.camera_messages.specs.Messages.{AnswersMessage, IsAskedOrTold, IsTold, ask_of, last_handler}
use Rattle.camera_messages.specs.Replies.{ReplyData}

-- the four numbers were read at their places
pub read_as : (bytes : List ℕ) (what a b c : ℕ) (payload : Bor (List ℕ)) (read : Option Message) → 16 ≤ length bytes → what ≡ u32_in 0 bytes → a ≡ u32_in 4 bytes → b ≡ u32_in 8 bytes
    → c ≡ u32_in 12 bytes → read ≡ message_by (record { what = what; a = a; b = b; c = c }) payload → payload.now ≡ between 16 (length bytes) bytes → IsReadAs bytes read
read_as bytes what a b c payload read long is0 is4 is8 is12 reads rest =
    let numbers : ℕ → ℕ → ℕ → ℕ → Numbers = λ w x y z. record { what = w; a = x; b = y; c = z } in
    inr (
      long,
      (
        payload,
        rest ∙ between_to_end bytes 16 (length bytes) (omega arith),
        reads
            ∙ ap (λ n. message_by (numbers n a b c) payload) is0
            ∙ ap (λ n. message_by (numbers (u32_in 0 bytes) n b c) payload) is4
            ∙ ap (λ n. message_by (numbers (u32_in 0 bytes) (u32_in 4 bytes) n c) payload) is8
            ∙ ap (λ n. message_by (numbers (u32_in 0 bytes) (u32_in 4 bytes) (u32_in 8 bytes) n) payload) is12,
      ),
    )

-- it is no control call and doesn't begin the history anew
pub answers_other : (old new : SessionData) (message : Message) (reply : ReplyData)
    → ((fh : FhId) (request : Option RequestId) (number : ℕ) (arg : Bor (List ℕ)) → message ≡ Call fh request number arg → ⊥) → message ≢ Renew
    → IsAskedOrTold old message (ask_of (last_handler (plan_in old)) message) new reply → AnswersMessage old message new reply
answers_other old new (Call fh request number arg) reply call renew told = absurd (call fh request number arg refl)
answers_other old new (Line line) reply call renew told = tt
answers_other old new Renew reply call renew told = absurd (renew refl)
answers_other old new _ reply call renew told = told

-- it reads neither the values, nor what waits, nor the counts, nor the events
pub told_nothing : (session : SessionData) (message : Message) (reply : ReplyData) → message ≢ Values → ((fh : FhId) → message ≡ Waits fh → ⊥) → message ≢ Counts
    → ((fh : FhId) → message ≡ Events fh → ⊥) → IsTold session message reply
told_nothing session Values reply values waits counts events = absurd (values refl)
told_nothing session (Waits fh) reply values waits counts events = absurd (waits fh refl)
told_nothing session Counts reply values waits counts events = absurd (counts refl)
told_nothing session (Events fh) reply values waits counts events = absurd (events fh refl)
told_nothing session _ reply values waits counts events = tt
