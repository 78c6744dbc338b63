-- Media requests: which there are after a history, the state that each is in, the buffer that it holds and what it asks for (Linux
-- userspace API, "Request API"; buffers and freeing are of this project).
use Rattle.std.specs.Prelude.{ℕ, Bool, true, false, ◌||◌, nat_eq, cond, List, [], ◌∷◌, ◌++◌, length, Option, None, Some, is_some, unwrap_or}
use Rattle.std.specs.Option.{option_map, option_or}
use Rattle.ctrl_types.specs.declared.ids.Pair.{Pair}
use Rattle.req_book.specs.declared.state.RequestState.{RequestState}
use Rattle.req_book.specs.declared.state.RequestState.TheVariants.{Idle, Queued, Running, Complete}
use Rattle.req_book.specs.Requests.{latest}
use Rattle.ctrl_handlers.specs.Plan.{PlanData}
use Rattle.device_history.specs.declared.ask.Step.{Step}
use Rattle.device_history.specs.declared.ask.Step.TheVariants as steps
use Rattle.device_history.specs.Steps.{Past}

-- The request that the step with a number names, and the state that it leaves it in: none where the request is there no longer. An
-- allocation names the request that it makes, whose id is its own number.
abbrev pub request_left : ℕ → Step → Option (ℕ × Option RequestState)
request_left n steps.Alloc = Some (n, Some Idle)
request_left n (steps.Store r pairs) = Some (r.0, Some Idle)
request_left n (steps.Buffer r number) = Some (r.0, Some Idle)
request_left n (steps.Queue r) = Some (r.0, Some Queued)
request_left n (steps.Begin r) = Some (r.0, Some Running)
request_left n (steps.Complete r) = Some (r.0, Some Complete)
request_left n (steps.Cancel r) = Some (r.0, Some Complete)
request_left n (steps.Reinit r) = Some (r.0, Some Idle)
request_left n (steps.Free r) = Some (r.0, None)
request_left n _ = None

-- the state that a step leaves a request in, where it names it
abbrev pub state_of_named : ℕ → Option (ℕ × Option RequestState) → Option (Option RequestState)
state_of_named r None = None
state_of_named r (Some named) = cond (nat_eq named.0 r) (Some named.1) None

-- the same, of the step with a number
abbrev pub state_left : ℕ → ℕ → Step → Option (Option RequestState)
state_left r n step = state_of_named r (request_left n step)

abbrev pub is_off : Step → Bool
is_off steps.StreamOff = true
is_off _ = false

-- the state that the last step which names a request left it in; where none does, there is no such request (in a legal history the first step
-- that names one is its allocation)
unfoldable pub last_state_left : ℕ → Past → Option RequestState
last_state_left r [] = None
last_state_left r (e ∷ older) = unwrap_or (state_left r (length older) e.step) (last_state_left r older)

-- the stream was stopped behind the last step that names a request
unfoldable pub is_off_since : ℕ → Past → Bool
is_off_since r [] = false
is_off_since r (e ∷ older) = cond (is_some (state_left r (length older) e.step)) false (is_off e.step || is_off_since r older)

-- what the end of the stream makes of a state: what waits or runs is complete
abbrev pub ended_state : RequestState → RequestState
ended_state Queued = Complete
ended_state Running = Complete
ended_state state = state

-- the same, where the stream was stopped
abbrev pub ended_if_off : Bool → Option RequestState → Option RequestState
ended_if_off true state = option_map ended_state state
ended_if_off false state = state

-- A request's state, read off the last step that names it: none where there is no such request. A request that was queued or running
-- is complete where the stream was stopped since.
abbrev pub state : Past → ℕ → Option RequestState
state past r = ended_if_off (is_off_since r past) (last_state_left r past)

-- what the step with a number makes of a request's state, as the law `request_states` says
abbrev pub state_after : ℕ → Step → ℕ → Option RequestState → Option RequestState
state_after n step r before = unwrap_or (state_left r n step) (ended_if_off (is_off step) before)

-- a request is there, in such a state
abbrev pub is_there : (RequestState → Bool) → Option RequestState → Bool
is_there test None = false
is_there test (Some state) = test state

-- a step makes a request, or makes it as new
abbrev pub makes_new : ℕ → ℕ → Step → Bool
makes_new r n steps.Alloc = nat_eq n r
makes_new r n (steps.Reinit id) = nat_eq id.0 r
makes_new r n _ = false

-- what was entered since a request was made, or made as new
unfoldable pub since : ℕ → Past → Past
since r [] = []
since r (e ∷ older) = cond (makes_new r (length older) e.step) [] (e ∷ since r older)

-- the pairs that a step stores in a request
abbrev pub stored_by : ℕ → Step → List Pair
stored_by r (steps.Store id pairs) = cond (nat_eq id.0 r) pairs []
stored_by r _ = []

-- the pairs that were stored in a request, oldest first
unfoldable pub stored : ℕ → Past → List Pair
stored r [] = []
stored r (e ∷ older) = stored r older ++ stored_by r e.step

-- What a request asks for: of each control the last pair that was stored since the request was made, or made as new, in order of
-- control numbers.
abbrev pub asked : PlanData → Past → ℕ → List Pair
asked plan past r = latest (length plan.controls) (stored r (since r past))

-- what the step with a number makes of it, as the law `asked_pairs` says
abbrev pub asked_after : PlanData → ℕ → Step → ℕ → List Pair → List Pair
asked_after plan n step r before = cond (makes_new r n step) [] (latest (length plan.controls) (before ++ stored_by r step))

-- the buffer that a step gives a request
abbrev pub buffer_by : ℕ → Step → Option ℕ
buffer_by r (steps.Buffer id number) = cond (nat_eq id.0 r) (Some number) None
buffer_by r _ = None

-- the last one that a request was given
unfoldable pub last_buffer : ℕ → Past → Option ℕ
last_buffer r [] = None
last_buffer r (e ∷ older) = option_or (buffer_by r e.step) (last_buffer r older)

-- The number of a request's buffer: the one that it was given since it was made, or made as new.
abbrev pub buffer : Past → ℕ → Option ℕ
buffer past r = last_buffer r (since r past)

-- what the step with a number makes of it, as the law `request_buffers` says
abbrev pub buffer_after : ℕ → Step → ℕ → Option ℕ → Option ℕ
buffer_after n step r before = cond (makes_new r n step) None (option_or (buffer_by r step) before)

-- the request that the step with a number makes
abbrev pub made : ℕ → Step → List ℕ
made n steps.Alloc = n ∷ []
made n _ = []

-- the requests that were ever made, in the order of their making
unfoldable pub ever_made : Past → List ℕ
ever_made [] = []
ever_made (e ∷ older) = ever_made older ++ made (length older) e.step
