-- How request objects lie in their table: under keys, which ids name.
use Rattle.std.specs.Prelude.{◌≡◌, ℕ, Bool, false, not, ◌&&◌, ◌||◌, List, [], ◌∷◌, length, filter_map, Option, None, Some, nat_eq}
use Rattle.std.specs.List.{list_any}
use Rattle.std.specs.Option.{option_map}
use Rattle.slab.specs.Slab.{Slab, get, slab_len}
use Rattle.ctrl_types.specs.declared.value.CtrlValue.{CtrlValue}
use Rattle.req_book.specs.declared.object.Object.{Object}
use Rattle.req_book.specs.declared.state.RequestState.{RequestState}
use Rattle.req_book.specs.declared.state.RequestState.TheVariants.{Idle, Complete}
use Rattle.req_book.specs.Requests.{RequestData, is_number, is_complete}

-- the values of a request that is complete; before, there are none to be seen
abbrev pub snapshot_seen : RequestState → List CtrlValue → List CtrlValue
snapshot_seen Complete values = values
snapshot_seen _ values = []

-- the request that an object is, under an id
abbrev pub request_at : ℕ → Object → RequestData
request_at id o = record { id = id; state = o.state; buffer = o.buffer; pairs = o.pairs.items; applied = o.applied.items; snapshot = snapshot_seen o.state o.values.items }

-- whether an object holds a buffer number, where there is one
abbrev pub held_by : ℕ → Option Object → Bool
held_by number None = false
held_by number (Some o) = is_number o.buffer number && not (is_complete o.state)

-- the request of an entry: an id with the key of its object
abbrev pub request_of_entry : Slab Object → ℕ × ℕ → Option RequestData
request_of_entry slots e = option_map (request_at e.0) (get slots e.1)

-- the requests of all entries
unfoldable pub requests_of_entries : Slab Object → List (ℕ × ℕ) → List RequestData
requests_of_entries slots es = filter_map (request_of_entry slots) es

-- an id or a key that another entry has
abbrev pub is_shared : ℕ × ℕ → List (ℕ × ℕ) → Bool
is_shared e es = list_any (λ o. nat_eq e.0 o.0 || nat_eq e.1 o.1) es

-- from its queueing on, an object has room for each control
abbrev pub HasFrameRoom : ℕ → RequestState → List (Option CtrlValue) → List CtrlValue → Type 0
HasFrameRoom controls Idle applied values = Unit {0}
HasFrameRoom controls _ applied values = (length applied ≡ controls) × (length values ≡ controls)

-- there is an object, with its room
abbrev pub IsObject : ℕ → Option Object → Type 0
IsObject controls None = ⊥
IsObject controls (Some o) = HasFrameRoom controls o.state o.applied.items o.values.items

-- Each entry has an object, and no two have an id or a key in common
abbrev pub AreObjects : ℕ → Slab Object → List (ℕ × ℕ) → Type 0
AreObjects controls slots [] = Unit {0}
AreObjects controls slots (e ∷ es) = IsObject controls (get slots e.1) × (is_shared e es ≡ false) × AreObjects controls slots es

-- and no object is there that no entry names: there are as many
pub record IsObjectTable (controls : ℕ) (slots : Slab Object) (es : List (ℕ × ℕ)) : Type 0 where
  pub named : AreObjects controls slots es
  pub counted : slab_len slots ≡ length es
