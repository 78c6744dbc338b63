-- Media requests, as their store is seen, and what its calls make of them (Linux userspace API, "Request API").
use Rattle.std.specs.Prelude.{◌≡◌, ℕ, Bool, true, false, not, ◌&&◌, List, [], ◌∷◌, ◌++◌, length, map, filter, filter_map, replicate, Option, None, Some, nat_eq, if◌then◌else◌, slice_index_or, unwrap_or}
use Rattle.std.specs.List.{list_any, range_with_len}
use Rattle.std.specs.Option.{option_map}
use Rattle.ctrl_types.specs.Values.{zero_value}
use Rattle.ctrl_types.specs.declared.value.CtrlValue.{CtrlValue}
use Rattle.ctrl_types.specs.Pairs.{last_value}
use Rattle.ctrl_types.specs.declared.ids.Pair.{Pair}
use Rattle.req_book.specs.declared.state.RequestState.{RequestState}
use Rattle.req_book.specs.declared.state.RequestState.TheVariants.{Idle, Queued, Running, Complete}

-- a media request
pub record RequestData : Type 0 where
  -- its number
  pub id : ℕ
  pub state : RequestState
  -- the number of the buffer that it holds
  pub buffer : Option ℕ
  -- what it asks for: of each control the last stored pair, in order of control numbers
  pub pairs : List Pair
  -- from its queueing on: what each control got at the begin of its frame, where it did
  pub applied : List (Option CtrlValue)
  -- of a complete one: the value of each control that its frame had
  pub snapshot : List CtrlValue

-- the requests of a device with so many controls, in the order in which they were allocated
pub record RequestsData : Type 0 where
  pub controls : ℕ
  pub all : List RequestData

-- the request with an id, where there is one
abbrev pub find : List RequestData → ℕ → Option RequestData
find [] id = None
find (r ∷ rs) id = if nat_eq id r.id then Some r else find rs id

-- the number of the buffer of a request, where it is there and has one
abbrev pub buffer_in : Option RequestData → Option ℕ
buffer_in None = None
buffer_in (Some r) = r.buffer

-- No two requests have an id in common: behind each of them none is found under its id.
abbrev pub HaveOwnIds : List RequestData → Type 0
HaveOwnIds [] = Unit {0}
HaveOwnIds (r ∷ rs) = (find rs r.id ≡ None) × HaveOwnIds rs

abbrev pub is_idle : RequestState → Bool
is_idle Idle = true
is_idle _ = false

abbrev pub is_complete : RequestState → Bool
is_complete Complete = true
is_complete _ = false

-- it waits for its frame, or its frame is being made
abbrev pub is_pending : RequestState → Bool
is_pending Queued = true
is_pending Running = true
is_pending _ = false

-- whether this is the number
abbrev pub is_number : Option ℕ → ℕ → Bool
is_number None number = false
is_number (Some n) number = nat_eq n number

-- a request holds a buffer number until it is complete
abbrev pub holds_number : ℕ → RequestData → Bool
holds_number number r = is_number r.buffer number && not (is_complete r.state)

-- some request holds it
abbrev pub is_number_held : List RequestData → ℕ → Bool
is_number_held rs number = list_any (holds_number number) rs

-- a new request: idle, without a buffer, and with nothing asked
abbrev pub new_request : ℕ → RequestData
new_request id = record { id = id; state = Idle; buffer = None; pairs = []; applied = []; snapshot = [] }

-- the pair of a control that has a value
abbrev pub pair_of : ℕ → Option CtrlValue → Option Pair
pair_of c value = option_map (λ v. record { control = c; value = v }) value

-- of each control the last of these pairs, in order of control numbers
unfoldable pub latest : ℕ → List Pair → List Pair
latest controls pairs = filter_map (λ c. pair_of c (last_value pairs c)) (range_with_len 0 controls)

-- what a request asks for, once pairs were stored behind those that it has
abbrev pub with_pairs : ℕ → List Pair → RequestData → RequestData
with_pairs controls more r = record r { pairs = latest controls (r.pairs ++ more) }

-- one that asks for these pairs
abbrev pub asking : List Pair → RequestData → RequestData
asking pairs r = record r { pairs = pairs }

abbrev pub with_buffer : ℕ → RequestData → RequestData
with_buffer number r = record r { buffer = Some number }

abbrev pub cleared : RequestData → RequestData
cleared r = new_request r.id

-- a queued one: no control got anything yet
abbrev pub queued : ℕ → RequestData → RequestData
queued controls r = record r { state = Queued; applied = replicate controls None }

-- a running one: each control got the last value that the pairs give it, where they do
abbrev pub begun : ℕ → List Pair → RequestData → RequestData
begun controls pairs r = record r { state = Running; applied = map (last_value pairs) (range_with_len 0 controls) }

-- the value of a control among a value for each
abbrev pub value_of_control : List CtrlValue → ℕ → CtrlValue
value_of_control values c = slice_index_or values c zero_value

-- The values of a frame: of a control that got one at the begin that value, of any other the value at completion.
unfoldable pub snapshot_of : List (Option CtrlValue) → List CtrlValue → List CtrlValue
snapshot_of applied values = map (λ c. unwrap_or (slice_index_or applied c None) (value_of_control values c)) (range_with_len 0 (length values))

-- a complete one
abbrev pub completed : List CtrlValue → RequestData → RequestData
completed values r = record r { state = Complete; snapshot = snapshot_of r.applied values }

-- the requests, where the one with an id is changed
abbrev pub with_request : ℕ → (RequestData → RequestData) → List RequestData → List RequestData
with_request id f [] = []
with_request id f (r ∷ rs) = if nat_eq id r.id then f r ∷ rs else r ∷ with_request id f rs

-- the requests without the one with an id
abbrev pub without : ℕ → List RequestData → List RequestData
without id rs = filter (λ r. not (nat_eq id r.id)) rs

-- the same of a whole store
abbrev pub with_changed : RequestsData → ℕ → (RequestData → RequestData) → RequestsData
with_changed r id f = record r { all = with_request id f r.all }
