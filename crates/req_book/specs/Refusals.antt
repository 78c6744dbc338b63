-- When the calls of a store of requests refuse (Linux userspace API, "Request API"; that a request has one buffer, and that no two hold a
-- number, is of this project).
use Rattle.std.specs.Prelude.{ℕ, not, List, length, nat_le, Option, None, Some, is_some, Result, Ok, Err, if◌then◌else◌}
use Rattle.std.specs.Option.{is_none}
use Rattle.ctrl_types.specs.declared.value.CtrlValue.{CtrlValue}
use Rattle.ctrl_types.specs.declared.errno.Errno.{Errno}
use Rattle.ctrl_types.specs.declared.check.Check.{Check}
use Rattle.ctrl_types.specs.declared.check.Check.TheVariants.{ControlMissing, TooManyRequests, RequestMissing, NotIdle, AlreadyHasBuffer, BufferHeld, BufferMissing, StillPending, NotComplete}
use Rattle.ctrl_types.specs.Checks.{errno_of}
use Rattle.ctrl_types.specs.declared.ids.Pair.{Pair}
use Rattle.req_book.specs.declared.state.RequestState.{RequestState}
use Rattle.req_book.specs.declared.limits.TheConstants.{MAX_REQUESTS}
use Rattle.req_book.specs.Requests.{RequestData, value_of_control, is_idle, is_complete, is_pending, is_number_held}

-- Why no further request is made: there are as many as there can be.
abbrev pub alloc_check : List RequestData → Option Check
alloc_check rs = if nat_le MAX_REQUESTS (length rs) then Some TooManyRequests else None

-- Why a request takes no settings: it isn't there; it isn't idle.
abbrev pub store_check : Option RequestData → Option Check
store_check None = Some RequestMissing
store_check (Some r) = if is_idle r.state then None else Some NotIdle

-- Why a request takes no buffer: it isn't there; it isn't idle; it has one; another holds the number.
abbrev pub buffer_check : List RequestData → ℕ → Option RequestData → Option Check
buffer_check rs number None = Some RequestMissing
buffer_check rs number (Some r) =
    if not (is_idle r.state) then Some NotIdle
    else if is_some r.buffer then Some AlreadyHasBuffer
    else if is_number_held rs number then Some BufferHeld
    else None

-- Why a request isn't queued: it isn't there; it isn't idle; it has no buffer.
abbrev pub queue_check : Option RequestData → Option Check
queue_check None = Some RequestMissing
queue_check (Some r) =
    if not (is_idle r.state) then Some NotIdle
    else if is_none r.buffer then Some BufferMissing
    else None

-- Why a request is neither emptied nor freed: it isn't there; it is queued or running.
abbrev pub clear_check : Option RequestData → Option Check
clear_check None = Some RequestMissing
clear_check (Some r) = if is_pending r.state then Some StillPending else None

-- a request's state
abbrev pub state_answer : Option RequestData → Result RequestState Errno
state_answer None = Err (errno_of RequestMissing)
state_answer (Some r) = Ok r.state

-- the number of its buffer, where it has one
abbrev pub buffer_answer : Option RequestData → Result (Option ℕ) Errno
buffer_answer None = Err (errno_of RequestMissing)
buffer_answer (Some r) = Ok r.buffer

-- what it asks for
abbrev pub asked_answer : Option RequestData → Result (List Pair) Errno
asked_answer None = Err (errno_of RequestMissing)
asked_answer (Some r) = Ok r.pairs

-- The values that a frame had: of a complete request alone.
abbrev pub snapshot_answer : Option RequestData → Result (List CtrlValue) Errno
snapshot_answer None = Err (errno_of RequestMissing)
snapshot_answer (Some r) = if is_complete r.state then Ok r.snapshot else Err (errno_of NotComplete)

-- the same, of a control: refused where there is no such request, then where there is no such control, then where the request isn't complete
abbrev pub value_answer : ℕ → ℕ → Option RequestData → Result CtrlValue Errno
value_answer controls c None = Err (errno_of RequestMissing)
value_answer controls c (Some r) =
    if nat_le controls c then Err (errno_of ControlMissing)
    else if is_complete r.state then Ok (value_of_control r.snapshot c)
    else Err (errno_of NotComplete)
