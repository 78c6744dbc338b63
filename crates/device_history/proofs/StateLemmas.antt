-- The state of a request, what it asks for and its buffer: at first, and after one more entry.
use Rattle.std.proofs.Common.{◌≡◌, ℕ, ◌+◌, zero, suc, Bool, true, false, ◌||◌, cond, [], ◌∷◌, ◌++◌, length, filter_map, Option, None, Some, is_some, unwrap_or, refl, sym, subst, append-nil, ◌∙◌, ap}
use Rattle.std.specs.List.{range_with_len}
use Rattle.std.specs.Option.{option_or}
use Rattle.history.specs.declared.entry.Entry.{Entry}
use Rattle.history.specs.Past.{past}
use Rattle.history.proofs.Pasts.{past_add, length_past}
use Rattle.ctrl_types.specs.Pairs.{last_value}
use Rattle.req_book.specs.declared.state.RequestState.{RequestState}
use Rattle.req_book.specs.declared.state.RequestState.TheVariants.{Idle, Queued, Running, Complete}
use Rattle.req_book.specs.Requests.{pair_of, latest}
use Rattle.req_book.proofs.SettingLemmas.{latest_again}
use Rattle.ctrl_handlers.specs.Plan.{PlanData}
use Rattle.device_history.specs.declared.ask.Step.{Step}
use Rattle.device_history.specs.Steps.{History, Past}
use Rattle.device_history.specs.Requests.{state_left, is_off, last_state_left, is_off_since, ended_if_off, state, state_after, makes_new, since, stored_by, stored, asked, asked_after, buffer_by, last_buffer, buffer, buffer_after}

-- the state after one more entry
pub state_more : (e : Entry Step) (older : Past) (r : ℕ) → state (e ∷ older) r ≡ state_after (length older) e.step r (state older r)
unfolding last_state_left is_off_since
state_more e older r = by (state_left r (length older) e.step) (is_off e.step) (is_off_since r older) (last_state_left r older)
  where
    by : (named : Option (Option RequestState)) (off behind : Bool) (last : Option RequestState)
        → ended_if_off (cond (is_some named) false (off || behind)) (unwrap_or named last) ≡ unwrap_or named (ended_if_off off (ended_if_off behind last))
    by (Some s) off behind last = refl
    by None false behind last = refl
    by None true false last = refl
    by None true true None = refl
    by None true true (Some Idle) = refl
    by None true true (Some Queued) = refl
    by None true true (Some Running) = refl
    by None true true (Some Complete) = refl

-- of no pairs none is kept
latest_none : (controls : ℕ) → latest controls [] ≡ []
unfolding latest
latest_none controls = none 0 controls
  where
    none : (a n : ℕ) → filter_map (λ c. pair_of c (last_value [] c)) (range_with_len a n) ≡ []
    none a zero = refl
    none a (suc n) = none (a + 1) n

-- what a request asks for after one more entry
pub asked_more : (plan : PlanData) (e : Entry Step) (older : Past) (r : ℕ) → asked plan (e ∷ older) r ≡ asked_after plan (length older) e.step r (asked plan older r)
unfolding since stored
asked_more plan e older r = by (makes_new r (length older) e.step)
  where
    by : (new : Bool) → latest (length plan.controls) (stored r (cond new [] (e ∷ since r older)))
        ≡ cond new [] (latest (length plan.controls) (latest (length plan.controls) (stored r (since r older)) ++ stored_by r e.step))
    by true = latest_none (length plan.controls)
    by false = sym (latest_again (length plan.controls) (stored r (since r older)) (stored_by r e.step))

-- its buffer after one more entry
pub buffer_more : (e : Entry Step) (older : Past) (r : ℕ) → buffer (e ∷ older) r ≡ buffer_after (length older) e.step r (buffer older r)
unfolding since last_buffer
buffer_more e older r = by (makes_new r (length older) e.step)
  where
    by : (new : Bool) → last_buffer r (cond new [] (e ∷ since r older)) ≡ cond new None (option_or (buffer_by r e.step) (last_buffer r (since r older)))
    by true = refl
    by false = refl

-- nothing that is stored is kept once more
pub asked_same : (plan : PlanData) (past : Past) (r : ℕ) → latest (length plan.controls) (asked plan past r ++ []) ≡ asked plan past r
asked_same plan past r = latest_again (length plan.controls) (stored r (since r past)) [] ∙ ap (latest (length plan.controls)) (append-nil (stored r (since r past)))

-- before the first entry
pub state_start : (r : ℕ) → state (past []) r ≡ None
unfolding last_state_left is_off_since
state_start r = refl

pub asked_start : (plan : PlanData) (r : ℕ) → asked plan (past []) r ≡ []
unfolding since stored
asked_start plan r = latest_none (length plan.controls)

pub buffer_start : (r : ℕ) → buffer (past []) r ≡ None
unfolding since last_buffer
buffer_start r = refl

-- after one more entry
pub state_add : (steps : History) (e : Entry Step) (r : ℕ) → state (past (steps ++ e ∷ [])) r ≡ state_after (length steps) e.step r (state (past steps) r)
state_add steps e r = rw (past_add steps e)
    (subst (λ (n : ℕ). state (e ∷ past steps) r ≡ state_after n e.step r (state (past steps) r)) (length_past steps) (state_more e (past steps) r))

pub asked_add : (plan : PlanData) (steps : History) (e : Entry Step) (r : ℕ) → asked plan (past (steps ++ e ∷ [])) r ≡ asked_after plan (length steps) e.step r (asked plan (past steps) r)
asked_add plan steps e r = rw (past_add steps e)
    (subst (λ (n : ℕ). asked plan (e ∷ past steps) r ≡ asked_after plan n e.step r (asked plan (past steps) r)) (length_past steps) (asked_more plan e (past steps) r))

pub buffer_add : (steps : History) (e : Entry Step) (r : ℕ) → buffer (past (steps ++ e ∷ [])) r ≡ buffer_after (length steps) e.step r (buffer (past steps) r)
buffer_add steps e r = rw (past_add steps e)
    (subst (λ (n : ℕ). buffer (e ∷ past steps) r ≡ buffer_after n e.step r (buffer (past steps) r)) (length_past steps) (buffer_more e (past steps) r))
