-- The loops over a row.
use Rattle.std.proofs.Common.{◌≡◌, ◌≢◌, ℕ, suc, eq-eqb, slice_get, ◌∙◌, ◌<◌, ◌+◌, ◌==◌, ◌&&◌, ◌||◌, Bool, true, false, List, [], ◌∷◌, ◌++◌, length, take, drop, get_or, set, if◌then◌else◌, Option, None, Some, is_some, unwrap_or, Result, Ok, Err, refl, sym, ap}
use Rattle.std.proofs.lemmas.Option.{get_or_from_slice_get}
use Rattle.std.proofs.lemmas.List.{append-nil, append_assoc, take_more_set, drop_more}
use Rattle.std.specs.Option.{option_or}
use Rattle.std.specs.Result.{is_ok}
use Rattle.ctrl_types.specs.declared.value.CtrlValue.{CtrlValue}
use Rattle.ctrl_types.specs.Pairs.{last_value}
use Rattle.ctrl_types.specs.Values.{zero_value}
use Rattle.ctrl_types.specs.declared.errno.Errno.{Errno}
use Rattle.ctrl_types.specs.declared.ids.Pair.{Pair}
use Rattle.ctrl_calls.specs.declared.relation.Relation.{Relation}
use Rattle.ctrl_settle.specs.Control.{Control}
use Rattle.ctrl_settle.specs.Settle.{settle}
use Rattle.ctrl_handlers.specs.Plan.{PlanData, control_in}
use Rattle.ctrl_clusters.specs.Changes.{is_changed, row_changes}
use Rattle.ctrl_clusters.specs.Rows.{Values, value_at, row_of, overwritten, settle_row, settled_before, member_value}
use Rattle.ctrl_clusters.specs.Judging.{after_judging, is_value, takes_row, with_call}

-- what is asked of a control
abbrev pub asked : Values → List Pair → ℕ → CtrlValue
asked values pairs c = unwrap_or (last_value pairs c) (value_at values c)

-- values that are settled, before what the others settle to
abbrev pub before : List CtrlValue → Result (List CtrlValue) Errno → Result (List CtrlValue) Errno
before vs (Ok rest) = Ok (vs ++ rest)
before vs (Err errno) = Err errno

-- one more value settles
pub before_more : (vs : List CtrlValue) (v : CtrlValue) (rest : Result (List CtrlValue) Errno) → before vs (settled_before (Ok v) rest) ≡ before (vs ++ v ∷ []) rest
before_more vs v (Ok rest) = ap Ok (sym (append_assoc vs (v ∷ []) rest))
before_more vs v (Err errno) = refl

-- none is left
pub before_end : (vs : List CtrlValue) → before vs (Ok []) ≡ Ok vs
before_end vs = ap Ok (append-nil vs)

-- a row of another length isn't taken
pub takes_length : (controls : List Control) (members : List ℕ) (row : List CtrlValue) → length row ≢ length members → takes_row controls members row ≡ false
takes_length controls [] [] other = absurd (other refl)
takes_length controls [] (v ∷ vs) other = refl
takes_length controls (c ∷ cs) [] other = refl
takes_length controls (c ∷ cs) (v ∷ vs) other = rw (takes_length controls cs vs (λ e. other (ap suc e))) (and_false _)
  where
    and_false : (b : Bool) → (b && false) ≡ false
    and_false true = refl
    and_false false = refl

-- the next member settles, and then the others
pub settle_next : (controls : List Control) (values : Values) (pairs : List Pair) (members : List ℕ) (i : ℕ) → i < length members
    → settle_row controls (drop i members) (overwritten values pairs (drop i members))
    ≡ settled_before (settle (control_in controls (get_or members i 0)) (asked values pairs (get_or members i 0))) (settle_row controls (drop (i + 1) members) (overwritten values pairs (drop (i + 1) members)))
settle_next controls values pairs members i within = rw (drop_more members i 0 within) refl

-- the settled values so far, with one more
pub settle_step : (controls : List Control) (values : Values) (pairs : List Pair) (members : List ℕ) (settled : List CtrlValue) (i : ℕ) (v : CtrlValue) → i < length members → i < length settled
    → settle (control_in controls (get_or members i 0)) (asked values pairs (get_or members i 0)) ≡ Ok v
    → before (take (i + 1) (set settled i v)) (settle_row controls (drop (i + 1) members) (overwritten values pairs (drop (i + 1) members)))
    ≡ before (take i settled) (settle_row controls (drop i members) (overwritten values pairs (drop i members)))
settle_step controls values pairs members settled i v within place settles =
    sym
    (rw (settle_next controls values pairs members i within, settles, take_more_set settled i v place)
    (before_more (take i settled) v (settle_row controls (drop (i + 1) members) (overwritten values pairs (drop (i + 1) members)))))

-- the first that doesn't settle
pub settle_stop : (controls : List Control) (values : Values) (pairs : List Pair) (members : List ℕ) (settled : List CtrlValue) (i : ℕ) (errno : Errno) → i < length members
    → settle (control_in controls (get_or members i 0)) (asked values pairs (get_or members i 0)) ≡ Err errno
    → before (take i settled) (settle_row controls (drop i members) (overwritten values pairs (drop i members))) ≡ Err errno
settle_stop controls values pairs members settled i errno within settles = rw (settle_next controls values pairs members i within, settles) refl

-- the next pair counts where it is one of the control, and then the others
pub asked_next : (pairs : List Pair) (c i : ℕ) (p : Pair) (v : CtrlValue) → i < length pairs → p ≡ get_or pairs i p
    → unwrap_or (last_value (drop i pairs) c) v ≡ unwrap_or (last_value (drop (i + 1) pairs) c) (if p.control == c then p.value else v)
asked_next pairs c i p v within at = rw (drop_more pairs i p within, ← at) (by (last_value (drop (i + 1) pairs) c) (p.control == c))
  where
    by : (later : Option CtrlValue) (own : Bool) → unwrap_or (option_or later (if own then Some p.value else None)) v ≡ unwrap_or later (if own then p.value else v)
    by None true = refl
    by None false = refl
    by (Some x) true = refl
    by (Some x) false = refl

-- the next member takes its value, and then the others
pub takes_next : (controls : List Control) (members : List ℕ) (row : List CtrlValue) (i : ℕ) → i < length members → i < length row
    → takes_row controls (drop i members) (drop i row)
    ≡ (is_value (settle (control_in controls (get_or members i 0)) (value_at row i)) (value_at row i) && takes_row controls (drop (i + 1) members) (drop (i + 1) row))
takes_next controls members row i within there = rw (drop_more members i 0 within, drop_more row i zero_value there) refl

-- the next member is the control, or another is
pub given_next : (members : List ℕ) (row : List CtrlValue) (c i : ℕ) → i < length members → i < length row
    → member_value (drop i members) (drop i row) c ≡ (if get_or members i 0 == c then Some (value_at row i) else member_value (drop (i + 1) members) (drop (i + 1) row) c)
given_next members row c i within there = rw (drop_more members i 0 within, drop_more row i zero_value there) refl

-- the control is the next member
pub given_here : (members : List ℕ) (row : List CtrlValue) (c i : ℕ) (v : CtrlValue) → i < length members → i < length row → get_or members i 0 ≡ c → slice_get row i ≡ Some v
    → member_value (drop i members) (drop i row) c ≡ member_value members row c → Some v ≡ member_value members row c
given_here members row c i v within there is has left =
    let found : member_value (drop i members) (drop i row) c ≡ Some v =
    given_next members row c i within there ∙ rw (eq-eqb (get_or members i 0) c is) (ap Some (get_or_from_slice_get row i v zero_value has)) in
    sym found ∙ left

-- the next member is changed, or one of the others
pub moved_next : (plan : PlanData) (values after : Values) (pairs : List Pair) (members : List ℕ) (i : ℕ) → i < length members
    → row_changes plan values pairs (drop i members) (row_of after (drop i members))
    ≡ (is_changed plan values pairs (get_or members i 0) (value_at after (get_or members i 0)) || row_changes plan values pairs (drop (i + 1) members) (row_of after (drop (i + 1) members)))
moved_next plan values after pairs members i within = rw (drop_more members i 0 within) refl

-- members that settle are judged, where there is a validator by asking it
pub asked_settled : (o : Option Relation) (settled : Result (List CtrlValue) Errno) (row : List CtrlValue) (count : ℕ) → settled ≡ Ok row → after_judging o count ≡ with_call (is_some o && is_ok settled) count
asked_settled None settled row count is = refl
asked_settled (Some relation) settled row count is = rw is refl

-- and where one doesn't, nobody is asked
pub asked_unsettled : (o : Option Relation) (settled : Result (List CtrlValue) Errno) (errno : Errno) (count : ℕ) → settled ≡ Err errno → count ≡ with_call (is_some o && is_ok settled) count
asked_unsettled None settled errno count is = refl
asked_unsettled (Some relation) settled errno count is = rw is refl
