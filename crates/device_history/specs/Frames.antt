-- The queue of frames after a history, and the frame that is being made (Linux userspace API, "Request API").
use Rattle.std.specs.Prelude.{ℕ, Bool, false, not, nat_eq, cond, List, [], ◌∷◌, ◌++◌, length, map, filter, Option, None, Some}
use Rattle.std.specs.List.{list_any}
use Rattle.std.specs.Option.{option_or}
use Rattle.req_book.specs.declared.state.RequestState.{RequestState}
use Rattle.frame_queue.specs.Frames.{is_queued, is_running}
use Rattle.device_history.specs.declared.ask.Step.{Step}
use Rattle.device_history.specs.declared.ask.Step.TheVariants as steps
use Rattle.device_history.specs.Steps.{Past}
use Rattle.device_history.specs.Handles.{behind}
use Rattle.device_history.specs.Requests.{state, is_there, request_left}

-- the queueing that the step with a number makes: this number, with the request that it queues
abbrev pub queueing : ℕ → Step → List (ℕ × ℕ)
queueing n (steps.Queue r) = (n, r.0) ∷ []
queueing n _ = []

-- the queueings of a history, oldest first
unfoldable pub queueings : Past → List (ℕ × ℕ)
queueings [] = []
queueings (e ∷ older) = queueings older ++ queueing (length older) e.step

-- a step queues a request
abbrev pub queues : ℕ → Step → Bool
queues r (steps.Queue id) = nat_eq id.0 r
queues r _ = false

-- a step behind a queueing queues its request again
abbrev pub is_queued_again : Past → ℕ × ℕ → Bool
is_queued_again past q = list_any (λ e. queues q.1 e.step) (behind q.0 past)

-- The requests that were ever queued, in the order of their last queueing: those of the queueings behind which no step queues the same request again.
unfoldable pub ever_queued : Past → List ℕ
ever_queued past = map (λ q. q.1) (filter (λ q. not (is_queued_again past q)) (queueings past))

-- The queue: the requests that are queued, in the order of their last queueing.
abbrev pub queue : Past → List ℕ
queue past = filter (λ r. is_there is_queued (state past r)) (ever_queued past)

-- the request whose frame a step begins
abbrev pub begun_by : Step → Option ℕ
begun_by (steps.Begin r) = Some r.0
begun_by _ = None

-- the one whose frame was begun last
unfoldable pub last_begun : Past → Option ℕ
last_begun [] = None
last_begun (e ∷ older) = option_or (begun_by e.step) (last_begun older)

-- a request, if it is running
abbrev pub if_running : Past → Option ℕ → Option ℕ
if_running past None = None
if_running past (Some r) = cond (is_there is_running (state past r)) (Some r) None

-- The request whose frame is being made: the one whose frame was begun last, if it is running still.
abbrev pub running : Past → Option ℕ
running past = if_running past (last_begun past)

-- the first of some numbers
abbrev pub first_of : List ℕ → Option ℕ
first_of [] = None
first_of (r ∷ rest) = Some r

-- numbers without one
abbrev pub all_but : ℕ → List ℕ → List ℕ
all_but r ids = filter (λ j. not (nat_eq r j)) ids

-- numbers without the one that a step names
abbrev pub but_named : Option (ℕ × Option RequestState) → List ℕ → List ℕ
but_named None ids = ids
but_named (Some named) ids = all_but named.0 ids

-- What a step makes of the queue, as the law `queued_requests` says: it takes out the request that it names; a queueing puts it last; the end
-- of the stream empties the queue.
abbrev pub queue_after : ℕ → Step → List ℕ → List ℕ
queue_after n steps.StreamOff ids = []
queue_after n (steps.Queue r) ids = all_but r.0 ids ++ r.0 ∷ []
queue_after n step ids = but_named (request_left n step) ids

-- a number, unless it is this one
abbrev pub unless_equal : ℕ → Option ℕ → Option ℕ
unless_equal r None = None
unless_equal r (Some k) = cond (nat_eq r k) None (Some k)

-- a number, unless a step names it
abbrev pub unless_named : Option (ℕ × Option RequestState) → Option ℕ → Option ℕ
unless_named None before = before
unless_named (Some named) before = unless_equal named.0 before

-- What a step makes of the request whose frame is being made: its begin puts it there; a step that names it, and the end of the stream, end it.
abbrev pub running_after : ℕ → Step → Option ℕ → Option ℕ
running_after n steps.StreamOff before = None
running_after n (steps.Begin r) before = Some r.0
running_after n step before = unless_named (request_left n step) before
