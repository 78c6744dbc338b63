-- What each kind of step tells the seat that makes it.
use Rattle.std.specs.Prelude.{◌≡◌, ◌≢◌, ◌<◌, ◌≤◌, ℕ, List, [], ◌∷◌, ◌++◌, Option, Some, None, map, length, max, ◌+◌}
use Rattle.history.specs.declared.entry.Entry.{Entry}
use Rattle.history.specs.Past.{own}
use Rattle.history.specs.Prefix.{IsPrefix}
use Rattle.atomic_table.specs.Table.{Me, Step}
use Rattle.turn_desk.specs.declared.rule.Account.{Account}
use Rattle.turn_desk.specs.declared.rule.Place.{Place}
use Rattle.turn_desk.specs.declared.rule.View.{View}
use Rattle.turn_desk.specs.declared.rule.TheConstants.{CLOSED}
use Rattle.turn_desk.specs.declared.seat.TheConstants.{MOST_SEATS}
use Rattle.turn_desk.specs.Views.{times}
use Rattle.turn_desk.specs.Rule.{Each, IsAccount, numbers, place_of}

module _ {S : Type 0} where
  abbrev pub account : ℕ → List (Entry S) → Account S
  account n seen = record { number = n; seen = seen }

  abbrev pub first_of : List (Account S) → List (Account S)
  first_of [] = []
  first_of (a ∷ others) = a ∷ []

  abbrev pub rest_of : List (Account S) → List (Account S)
  rest_of [] = []
  rest_of (a ∷ others) = others

  -- more seats were made than the number of the first account
  abbrev pub above_first : List (Account S) → ℕ
  above_first [] = 0
  above_first (a ∷ others) = a.number + 1

module _ {P S : Type 0} where
  -- the first seat's view
  abbrev pub opener : P → View P S
  opener plan = record { plan = Some plan; seen = []; heard = []; accounts = account 0 [] ∷ []; holding = None; closing = None; fewest = 0 }

  -- a view with no account, of a seat that closes the desk, or that is spent
  abbrev pub bare : Option P → Option ℕ → View P S
  bare plan closing = record { plan = plan; seen = []; heard = []; accounts = []; holding = None; closing = closing; fewest = 0 }

  -- the whole history was seen
  abbrev pub caught_up : List (Entry S) → View P S → View P S
  caught_up h v = record { plan = v.plan; seen = h; heard = v.heard; accounts = map (λ a. account a.number h) v.accounts; holding = v.holding; closing = v.closing; fewest = v.fewest }

  abbrev pub with_holding : Option (List (Entry S)) → View P S → View P S
  with_holding h v = record { plan = v.plan; seen = v.seen; heard = v.heard; accounts = v.accounts; holding = h; closing = v.closing; fewest = v.fewest }

  abbrev pub with_accounts : List (Account S) → View P S → View P S
  with_accounts accounts v = record { plan = v.plan; seen = v.seen; heard = v.heard; accounts = accounts; holding = v.holding; closing = v.closing; fewest = v.fewest }

  abbrev pub with_closing : Option ℕ → View P S → View P S
  with_closing closing v = record { plan = v.plan; seen = v.seen; heard = v.heard; accounts = v.accounts; holding = v.holding; closing = closing; fewest = v.fewest }

  -- a view is cut into one with its first account, and one with the others
  abbrev pub kept_part : View P S → View P S
  kept_part v = with_accounts (first_of v.accounts) v

  abbrev pub cut_part : View P S → View P S
  cut_part v = record { plan = v.plan; seen = v.seen; heard = v.heard; accounts = rest_of v.accounts; holding = None; closing = None; fewest = v.fewest }

  -- a view stays whole, and a messenger knows that more seats were made than its number
  abbrev pub whole_part : View P S → View P S
  whole_part v = v

  abbrev pub count_part : View P S → View P S
  count_part v = record { plan = v.plan; seen = []; heard = []; accounts = []; holding = None; closing = None; fewest = above_first v.accounts }

  -- the second view's accounts come to the first, which has heard what the second had seen
  abbrev pub gathered : View P S → View P S → View P S
  gathered v w = record { plan = v.plan; seen = v.seen; heard = w.seen; accounts = w.accounts ++ v.accounts; holding = v.holding; closing = v.closing; fewest = max v.fewest w.fewest }

module _ {P S : Type 0} (is_legal : P → List (Entry S) → Type 0) where
  -- the history h is legal, and goes on from all that the view knows
  pub record Shows (v : View P S) (h : List (Entry S)) : Type 0 where
    pub legal : (p : P) → v.plan ≡ Some p → is_legal p h
    pub later : IsPrefix v.seen h
    pub learned : IsPrefix v.heard h
    pub whole : Each (IsAccount h) v.accounts
    pub held : (g : List (Entry S)) → v.holding ≡ Some g → g ≡ h

module _ {T P S : Type 0} where
  pub record Takes (is_legal : P → List (Entry S) → Type 0) (plan_of : T → P) (steps_of : T → List (Entry S)) (m m' : Me (Place T) (View P S)) : Type 0 where
    pub object : T
    pub carried : m'.1 ≡ (0, place_of object) ∷ m.1
    pub view : m'.0 ≡ with_holding (Some (steps_of object)) m.0
    pub shows : Shows is_legal m.0 (steps_of object)
    pub planned : (p : P) → m.0.plan ≡ Some p → plan_of object ≡ p

  abbrev pub tried : (P → List (Entry S) → Type 0) → (T → P) → (T → List (Entry S)) → Step (Place T) → Me (Place T) (View P S) → ℕ → Me (Place T) (View P S) → Type 0
  tried is_legal plan_of steps_of st m r m' = (r ≡ 0 → Takes is_legal plan_of steps_of m m') × (r ≢ 0 → m' ≡ m)

  abbrev pub stayed : Step (Place T) → Me (Place T) (View P S) → ℕ → Me (Place T) (View P S) → Type 0
  stayed st m r m' = m' ≡ m

  pub record Looks (is_legal : P → List (Entry S) → Type 0) (m : Me (Place T) (View P S)) (r : ℕ) (m' : Me (Place T) (View P S)) : Type 0 where
    pub history : List (Entry S)
    pub front : r ≡ length history
    pub shows : Shows is_legal m.0 history
    -- no number stands in two accounts
    pub once : (x : ℕ) → times x (numbers m.0.accounts) ≤ 1
    pub after : m' ≡ (caught_up history m.0, m.1)

  abbrev pub looked : (P → List (Entry S) → Type 0) → Step (Place T) → Me (Place T) (View P S) → ℕ → Me (Place T) (View P S) → Type 0
  looked is_legal st m r m' = Looks is_legal m r m'

  -- the entry that the object in the slot has taken was entered
  abbrev pub entering : (T → List (Entry S)) → Step (Place T) → Me (Place T) (View P S) → ℕ → Me (Place T) (View P S) → Type 0
  entering steps_of st m r m' = (d : T) → m.1 ≡ (0, place_of d) ∷ [] → m' ≡ (with_holding (Some (steps_of d)) (caught_up (steps_of d) m.0), m.1)

  abbrev pub left : Step (Place T) → Me (Place T) (View P S) → ℕ → Me (Place T) (View P S) → Type 0
  left st m r m' = m' ≡ (with_holding None m.0, [])

  -- the view has come to have an account of a number above all that it knows
  pub record Numbers (n : ℕ) (m m' : Me (Place T) (View P S)) : Type 0 where
    pub after : m' ≡ (with_accounts (m.0.accounts ++ account n m.0.seen ∷ []) m.0, m.1)
    pub none : own n m.0.seen ≡ []
    pub new : (x : ℕ) → n ≤ x → times x (numbers m.0.accounts) ≡ 0
    pub older : Each (λ e. e.seat < n) m.0.seen

  abbrev pub numbering : Step (Place T) → Me (Place T) (View P S) → ℕ → Me (Place T) (View P S) → Type 0
  numbering st m r m' = (r ≡ st.first → Numbers st.first m m') × (r ≢ st.first → m' ≡ m)

  abbrev pub closing : Step (Place T) → Me (Place T) (View P S) → ℕ → Me (Place T) (View P S) → Type 0
  closing st m r m' = (r ≡ CLOSED → m' ≡ (bare m.0.plan None, [])) × (r ≢ CLOSED → (r ≤ MOST_SEATS) × (m' ≡ (bare m.0.plan (Some r), [])))

  abbrev pub opening_again : Step (Place T) → Me (Place T) (View P S) → ℕ → Me (Place T) (View P S) → Type 0
  opening_again st m r m' = (m.0.fewest ≤ MOST_SEATS) × (m.0.fewest ≤ st.second)
