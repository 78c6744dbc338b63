-- What a message asks, and what its reply says (Linux userspace API, "Request API", "ioctl MEDIA_IOC_REQUEST_ALLOC", "ioctl MEDIA_REQUEST_IOC_QUEUE", "ioctl
-- MEDIA_REQUEST_IOC_REINIT"; the messages are of this project).
use Rattle.std.specs.Prelude.{◌≡◌, ◌⊎◌, ◌<◌, ℕ, ◌-◌, true, false, if◌then◌else◌, List, [], length, Option, None, Some, is_some, unwrap_or, Ok, Err}
use Rattle.ctrl_types.specs.Numbers.{errno_number}
use Rattle.ctrl_types.specs.declared.ids.FhId.{FhId}
use Rattle.ctrl_types.specs.declared.ids.RequestId.{RequestId}
use Rattle.history.specs.Past.{past}
use Rattle.ctrl_events.specs.Events.{event_at}
use Rattle.ctrl_handlers.specs.Plan.{PlanData}
use Rattle.data_driver.specs.Data.{data_verdict}
use Rattle.req_book.specs.declared.state.RequestState.{RequestState}
use Rattle.req_book.specs.declared.state.RequestState.TheVariants.{Idle, Queued, Running, Complete}
use Rattle.device_history.specs.declared.ask.Ask.{Ask}
use Rattle.device_history.specs.declared.ask.Ask.TheVariants as asks
use Rattle.device_history.specs.declared.ask.Reply.{Reply}
use Rattle.device_history.specs.declared.ask.Reply.TheVariants as replies
use Rattle.device_history.specs.declared.info.CtrlInfo.{CtrlInfo}
use Rattle.device_history.specs.Refusals.{Answer}
use Rattle.device_history.specs.Events.{next_sequence, pending}
use Rattle.device_history.specs.Handles.{opened}
use Rattle.device_history.specs.Values.{now}
use Rattle.device_renewal.specs.Alike.{StandAlike}
use Rattle.device_renewal.specs.Quiet.{IsQuiet}
use Rattle.ctl_session.specs.Calls.{Calls, call_of, plan_in, subscribed_controls}
use Rattle.ctl_session.specs.Session.{Asked, SessionData}
use Rattle.camera_messages.specs.declared.message.Message.{Message}
use Rattle.camera_messages.specs.declared.message.Message.TheVariants as messages
use Rattle.camera_messages.specs.declared.reply_buffer.Head.{Head}
use Rattle.camera_messages.specs.Replies.{ReplyData, Says, accepted, counted, errno_alone, values_told}

-- the number of the last handler
abbrev pub last_handler : PlanData → ℕ
last_handler plan = length plan.handlers - 1

-- the ask that a message is, where it is one; a file handle is opened on the last handler where none is named
abbrev pub ask_of : ℕ → Message → Option Ask
ask_of last (messages.Open handler) = Some (asks.OpenFh (unwrap_or handler last))
ask_of last (messages.Close fh) = Some (asks.CloseFh fh)
ask_of last messages.Alloc = Some asks.Alloc
ask_of last (messages.Free request) = Some (asks.Free request)
ask_of last (messages.AddBuffer request buffer) = Some (asks.AddBuffer request buffer)
ask_of last (messages.Queue request) = Some (asks.Queue request)
ask_of last (messages.Reinit request) = Some (asks.Reinit request)
ask_of last messages.Begin = Some asks.Begin
ask_of last messages.Complete = Some asks.Complete
ask_of last messages.StreamOff = Some asks.StreamOff
ask_of last (messages.State request) = Some (asks.StateOf request)
ask_of last (messages.Forecast place) = Some (asks.Forecast place)
ask_of last _ = None

-- the number of a request's state
abbrev pub state_number : RequestState → ℕ
state_number Idle = 0
state_number Queued = 1
state_number Running = 2
state_number Complete = 3

-- what the reply to an accepted ask says in front of its payload
abbrev pub head_of_reply : Reply → Head
head_of_reply (replies.Fh fh) = accepted fh.0 0 0
head_of_reply (replies.Request request) = accepted request.0 0 0
head_of_reply (replies.State state) = accepted (state_number state) 0 0
head_of_reply (replies.Frame request buffer refused) = accepted request.0 buffer (counted (length refused))
head_of_reply (replies.Forecast row) = accepted row.request.0 row.buffer (counted (length row.refused))
head_of_reply _ = accepted 0 0 0

-- the head of an answer, be it a reply or a fault
abbrev pub answer_head : Answer → Head
answer_head (Ok reply) = head_of_reply reply
answer_head (Err fault) = errno_alone (errno_number fault.errno)

-- its payload: a forecast tells its values
abbrev pub answer_payload : Answer → List ℕ
answer_payload (Ok (replies.Forecast row)) = values_told row.values
answer_payload _ = []

-- The session is asked, and the reply says what it answered.
abbrev pub IsAsked : SessionData → Ask → SessionData → ReplyData → Type 0
IsAsked old ask new reply = (answer : Answer) × Asked data_verdict old new ask answer × Says reply (answer_head answer) (answer_payload answer)

-- A control call is made, and the reply has its errno and its struct; or there was no room for the struct, and it isn't made.
abbrev pub IsCalled : SessionData → FhId → Option RequestId → ℕ → List ℕ → SessionData → ReplyData → Type 0
IsCalled old fh request number bytes new reply =
    ((name : CtrlInfo → List ℕ) × (reply.is_whole ≡ true) × (reply.head ≡ errno_alone reply.head.errno)
    × Calls data_verdict old (call_of data_verdict old name fh request number bytes) new (reply.head.errno, reply.payload))
    ⊎ ((reply.is_whole ≡ false) × (new ≡ old))

-- The history is begun anew, at a quiet moment, and the camera stands as it stood, and owes what it owed; or that is refused, and nothing changed.
abbrev pub IsRenewed : SessionData → SessionData → ReplyData → Type 0
IsRenewed old new reply =
    ((reply.head.errno ≡ 0) × StandAlike data_verdict old.device new.device × IsQuiet data_verdict old.device × (new.followers ≡ old.followers) × (new.owed ≡ old.owed))
    ⊎ ((0 < reply.head.errno) × (new ≡ old))

-- What a message is told that only reads: the present values; whether an event waits for a file handle; how many steps there are, and how many file handles are open; how many
-- events were raised for a file handle, and how many controls it is subscribed to. Of the others nothing is said here.
abbrev pub IsTold : SessionData → Message → ReplyData → Type 0
IsTold session messages.Values reply = Says reply (errno_alone 0) (values_told (now data_verdict (plan_in session) (past session.device.steps)))
IsTold session (messages.Waits fh) reply =
    reply.head ≡ accepted (if is_some (event_at (pending data_verdict (plan_in session) (past session.device.steps) fh) 0) then 1 else 0) 0 0
IsTold session messages.Counts reply =
    (reply.head.x ≡ counted (length session.device.steps)) × (reply.head.y ≡ counted (length (opened (past session.device.steps))))
IsTold session (messages.Events fh) reply =
    reply.head ≡ accepted (next_sequence data_verdict (plan_in session) (past session.device.steps) fh) (counted (length (subscribed_controls session.device fh))) 0
IsTold session _ reply = Unit {0}

-- An ask is asked; a message that is none leaves the session as it is, and is told what it reads.
abbrev pub IsAskedOrTold : SessionData → Message → Option Ask → SessionData → ReplyData → Type 0
IsAskedOrTold old message (Some ask) new reply = IsAsked old ask new reply
IsAskedOrTold old message None new reply = (new ≡ old) × IsTold old message reply

-- What a message does, and what its reply says; of a line of a script nothing is said here.
abbrev pub AnswersMessage : SessionData → Message → SessionData → ReplyData → Type 0
AnswersMessage old (messages.Call fh request number arg) new reply = IsCalled old fh request number arg.now new reply
AnswersMessage old (messages.Line line) new reply = Unit {0}
AnswersMessage old messages.Renew new reply = IsRenewed old new reply
AnswersMessage old message new reply = IsAskedOrTold old message (ask_of (last_handler (plan_in old)) message) new reply
