-- The queue of frames, and what its calls make of it (Linux userspace API, "Request API").
use Rattle.std.specs.Prelude.{◌≡◌, ℕ, Bool, true, false, not, List, [], ◌∷◌, ◌++◌, map, filter, Option, None, Some, is_some, Result, Ok, Err, nat_eq, if◌then◌else◌, unwrap_or}
use Rattle.std.specs.List.{list_any}
use Rattle.std.specs.Option.{is_none}
use Rattle.std.specs.Result.{result_err}
use Rattle.ctrl_types.specs.declared.value.CtrlValue.{CtrlValue}
use Rattle.ctrl_types.specs.declared.errno.Errno.{Errno}
use Rattle.ctrl_types.specs.declared.check.Check.{Check}
use Rattle.ctrl_types.specs.declared.check.Check.TheVariants.{RequestMissing, FrameRunning, QueueEmpty, NoFrameRunning, RequestRunning, NotQueued}
use Rattle.ctrl_types.specs.Checks.{with_errno}
use Rattle.ctrl_types.specs.declared.ids.Pair.{Pair}
use Rattle.req_book.specs.declared.state.RequestState.{RequestState}
use Rattle.req_book.specs.declared.state.RequestState.TheVariants.{Queued, Running}
use Rattle.req_book.specs.Requests.{RequestData, RequestsData, find, with_changed, queued, begun, completed, is_pending, is_number}

-- the requests; those that wait for their frames, in the order in which they were queued; and the one whose frame is being made
pub record FramesData : Type 0 where
  pub requests : RequestsData
  pub queue : List ℕ
  pub running : Option ℕ

abbrev pub is_queued : RequestState → Bool
is_queued Queued = true
is_queued _ = false

abbrev pub is_running : RequestState → Bool
is_running Running = true
is_running _ = false

-- whether a request is there, in such a state
abbrev pub is_in : (RequestState → Bool) → Option RequestData → Bool
is_in test None = false
is_in test (Some r) = test r.state

-- no number stands twice
abbrev pub AreOnce : List ℕ → Type 0
AreOnce [] = Unit {0}
AreOnce (id ∷ ids) = (list_any (nat_eq id) ids ≡ false) × AreOnce ids

-- The queue has exactly the queued requests, each once; the one that runs is exactly the running one; and each that waits holds a buffer.
pub record QueueFitsRequests (f : FramesData) : Type 0 where
  pub once : AreOnce f.queue
  pub waits : (id : ℕ) → list_any (nat_eq id) f.queue ≡ is_in is_queued (find f.requests.all id)
  pub runs : (id : ℕ) → is_number f.running id ≡ is_in is_running (find f.requests.all id)
  pub buffers : (id : ℕ) (r : RequestData) → find f.requests.all id ≡ Some r → is_queued r.state ≡ true → is_some r.buffer ≡ true

-- other requests, with the same queue
abbrev pub with_requests : FramesData → RequestsData → FramesData
with_requests f requests = record f { requests = requests }

-- a request waits, the last
abbrev pub queued_last : FramesData → ℕ → FramesData
queued_last f id = record { requests = with_changed f.requests id (queued f.requests.controls); queue = f.queue ++ id ∷ []; running = f.running }

-- the number of the buffer that a request holds; each one that waits holds one
abbrev pub buffer_number : Option RequestData → ℕ
buffer_number None = 0
buffer_number (Some r) = unwrap_or r.buffer 0

-- the first that waits, with its buffer
abbrev pub first_waiting : List RequestData → List ℕ → Result (ℕ × ℕ) Check
first_waiting rs [] = Err QueueEmpty
first_waiting rs (id ∷ ids) = Ok (id, buffer_number (find rs id))

-- The frame that is begun next: none where one runs, or none waits; else that of the first that waits, with its buffer.
abbrev pub next_frame : FramesData → Result (ℕ × ℕ) Check
next_frame f = if is_some f.running then Err FrameRunning else first_waiting f.requests.all f.queue

-- what a begin answers
abbrev pub begin_answer : FramesData → Result (ℕ × ℕ) Errno
begin_answer f = with_errno (next_frame f)

-- why no frame is begun
abbrev pub begin_check : FramesData → Option Check
begin_check f = result_err (next_frame f)

-- what it leaves: the first that waits runs, and its controls got these values
abbrev pub first_begun : List Pair → RequestsData → List ℕ → FramesData
first_begun applied requests [] = record { requests = requests; queue = []; running = None }
first_begun applied requests (id ∷ ids) = record { requests = with_changed requests id (begun requests.controls applied); queue = ids; running = Some id }

abbrev pub after_begin : FramesData → List Pair → FramesData
after_begin f applied = if is_some f.running then f else first_begun applied f.requests f.queue

-- why no frame is completed: none runs
abbrev pub complete_check : FramesData → Option Check
complete_check f = if is_none f.running then Some NoFrameRunning else None

-- what is left once the frame that runs, where one does, ended at these values
abbrev pub running_done : List CtrlValue → RequestsData → List ℕ → Option ℕ → FramesData
running_done values requests queue None = record { requests = requests; queue = queue; running = None }
running_done values requests queue (Some id) = record { requests = with_changed requests id (completed values); queue = queue; running = None }

abbrev pub after_complete : FramesData → List CtrlValue → FramesData
after_complete f values = running_done values f.requests f.queue f.running

-- Why a request isn't taken from the queue: it isn't there; it runs; it doesn't wait.
abbrev pub cancel_check : Option RequestData → Option Check
cancel_check None = Some RequestMissing
cancel_check (Some r) = if is_running r.state then Some RequestRunning else if is_queued r.state then None else Some NotQueued

-- what is left once it was taken from the queue, at these values
abbrev pub cancelled : FramesData → ℕ → List CtrlValue → FramesData
cancelled f id values = record { requests = with_changed f.requests id (completed values); queue = filter (λ j. not (nat_eq id j)) f.queue; running = f.running }

-- a request as it is once the stream is off: one that waits or runs is complete
abbrev pub ended_request : List CtrlValue → RequestData → RequestData
ended_request values r = if is_pending r.state then completed values r else r

-- what is left once the stream is off: each request that waits or runs is complete, nothing waits, and nothing runs
abbrev pub after_off : FramesData → List CtrlValue → FramesData
after_off f values = record { requests = record f.requests { all = map (ended_request values) f.requests.all }; queue = []; running = None }
