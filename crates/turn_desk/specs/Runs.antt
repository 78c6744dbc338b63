-- What a client asked and heard at a seat, and what its calls made of the seat.
use Rattle.std.specs.Prelude.{◌≡◌, ℕ, List, [], ◌∷◌, ◌++◌, map, Option, Some, None}
use Rattle.history.specs.declared.entry.Entry.{Entry}
use Rattle.history.specs.Past.{own, entered}
use Rattle.history.specs.Prefix.{IsPrefix}
use Rattle.turn_desk.specs.Views.{SeatView, StaysAt}
use Rattle.turn_desk.specs.Calls.{IsCall}

-- A transcript has each ask with its answer, and None where that is still to come.
module _ {Ask Answer : Type 0} where
  -- one ask more, which has no answer yet
  pub record HasAsked (said after : List (Ask × Option Answer)) : Type 0 where
    pub ask : Ask
    pub last : after ≡ said ++ (ask, None) ∷ []

  -- the last ask has no answer yet
  pub record Awaits (said : List (Ask × Option Answer)) : Type 0 where
    pub before : List (Ask × Option Answer)
    pub ask : Ask
    pub last : said ≡ before ++ (ask, None) ∷ []

  -- it is the last ask, which has no answer yet
  abbrev pub IsAwaited : Ask → List (Ask × Option Answer) → Type 0
  IsAwaited ask said = (before : List (Ask × Option Answer)) (last : Ask) → said ≡ before ++ (last, None) ∷ [] → ask ≡ last

  -- the last ask, which had no answer, has this one then
  abbrev pub IsAnswered : Answer → List (Ask × Option Answer) → List (Ask × Option Answer) → Type 0
  IsAnswered answer said after = (before : List (Ask × Option Answer)) (ask : Ask) → said ≡ before ++ (ask, None) ∷ [] → after ≡ before ++ (ask, Some answer) ∷ []

-- one call: what was asked and answered, and the step that was taken, if one was
pub record Made (Ask Answer S : Type 0) : Type 0 where
  pub ask : Ask
  pub answer : Answer
  pub step : Option S

module _ {Ask Answer S : Type 0} where
  -- what these calls add to a transcript
  abbrev pub said_in : List (Made Ask Answer S) → List (Ask × Option Answer)
  said_in made = map (λ m. (m.ask, Some m.answer)) made

  -- the entries of these calls under the seat's number: one for each that took a step, in order
  abbrev pub accepted : ℕ → List (Made Ask Answer S) → List (Entry S)
  accepted number [] = []
  accepted number (m ∷ ms) = entered number m.step ++ accepted number ms

module _ {P S Ask Answer : Type 0} (is_legal : P → List (Entry S) → Type 0) (answers : P → List (Entry S) → Ask → Answer → Type 0) (taken : P → List (Entry S) → Ask → Answer → Option S) (plan : P) where
  -- a call of a seat that had seen this, with the step that it took
  pub record IsMade (number : ℕ) (before : List (Entry S)) (m : Made Ask Answer S) (after : List (Entry S)) : Type 0 where
    pub call : IsCall is_legal answers taken plan number before m.ask m.answer after
    pub step : m.step ≡ taken plan call.past m.ask m.answer

  -- calls of one seat, one after another
  abbrev pub AreMade : ℕ → List (Entry S) → List (Made Ask Answer S) → List (Entry S) → Type 0
  AreMade number before [] after = after ≡ before
  AreMade number before (m ∷ ms) after = (seen : List (Entry S)) × IsMade number before m seen × AreMade number seen ms after

  -- a client's run: its seat and its transcript before, and both after
  pub record HasRun (before : SeatView P S) (said : List (Ask × Option Answer)) (after : SeatView P S) (said_after : List (Ask × Option Answer)) : Type 0 where
    pub stays : StaysAt before after
    pub made : List (Made Ask Answer S)
    -- each of its asks is one of these calls, in order, and has heard the call's answer
    pub transcript : said_after ≡ said ++ said_in made
    -- which the seat made one after another
    pub calls : AreMade before.number before.seen made after.seen
    -- the seat's own entries are those that it had, and those of the calls that took a step
    pub own : own before.number after.seen ≡ own before.number before.seen ++ accepted before.number made

  -- what a run has left in the steps of a closed desk
  pub record IsEntered (before : SeatView P S) (said said_after : List (Ask × Option Answer)) (steps : List (Entry S)) : Type 0 where
    pub made : List (Made Ask Answer S)
    pub transcript : said_after ≡ said ++ said_in made
    -- the calls were made at beginnings of the steps
    pub seen : List (Entry S)
    pub calls : AreMade before.number before.seen made seen
    pub later : IsPrefix seen steps
    -- of the steps, the seat's own are those that it had, and those of the calls that took one
    pub own : own before.number steps ≡ own before.number before.seen ++ accepted before.number made

  -- what a client's run at a new seat with this number has left in the steps of a closed desk
  pub record HasServed (number : ℕ) (said said_after : List (Ask × Option Answer)) (steps : List (Entry S)) : Type 0 where
    pub made : List (Made Ask Answer S)
    pub transcript : said_after ≡ said ++ said_in made
    -- the calls were made at beginnings of the steps
    pub seen : List (Entry S)
    pub calls : AreMade number [] made seen
    pub later : IsPrefix seen steps
    -- of the steps, those with the number are those that the calls took, in order
    pub own : own number steps ≡ accepted number made
