-- The reason of a cluster tells what its row is.
use Rattle.std.proofs.Common.{◌≡◌, ◌<◌, ◌+◌, ℕ, true, false, Bool, ◌||◌, ◌&&◌, if◌then◌else◌, List, [], ◌∷◌, ◌++◌, length, take, drop, get_or, set, Option, None, Some, is_some, Result, Ok, Err, ap, refl, sym, ◌∙◌}
use Rattle.std.proofs.lemmas.List.{append_assoc, take_more_set, drop_more}
use Rattle.std.specs.Result.{result_map_both}
use Rattle.ctrl_types.specs.Checks.{errno_of, with_errno}
use Rattle.ctrl_types.specs.declared.check.Check.{Check}
use Rattle.ctrl_types.specs.declared.errno.Errno.{Errno}
use Rattle.ctrl_types.specs.declared.errno.Errno.TheVariants.{EBUSY, EINVAL}
use Rattle.ctrl_types.specs.declared.ids.Pair.{Pair}
use Rattle.ctrl_types.specs.declared.value.CtrlValue.{CtrlValue}
use Rattle.ctrl_calls.specs.Meanings.{Verdicts}
use Rattle.ctrl_settle.specs.Control.{Control}
use Rattle.ctrl_settle.specs.Settle.{settle, settle_value}
use Rattle.ctrl_handlers.specs.Plan.{PlanData, control_in, members}
use Rattle.ctrl_clusters.specs.Rows.{Values, Grabs, is_grabbed, overwritten, settle_row, settled_before}
use Rattle.ctrl_clusters.specs.Judging.{judge_settled, validated_row}
use Rattle.ctrl_clusters.specs.Overlay.{is_among, is_touched, names_grabbed, row_after}
use Rattle.frame_reasons.specs.declared.refused.ClusterReason.{ClusterReason}
use Rattle.frame_reasons.specs.declared.refused.ClusterReason.TheVariants.{Grabbed, ValueNotTaken, RowNotTaken}
use Rattle.frame_reasons.specs.Refused.{cluster_reason, first_grabbed, first_reason, row_by, row_reason, taken_before, taken_row, value_taken, wanted}

-- a member is grabbed where a first one is
grabbed_found : (grabs : Grabs) (pairs : List Pair) (cs : List ℕ) → names_grabbed grabs pairs cs ≡ is_some (first_grabbed grabs pairs cs)
grabbed_found grabs pairs [] = refl
grabbed_found grabs pairs (c ∷ cs) = by (is_among pairs c && is_grabbed grabs c) (grabbed_found grabs pairs cs)
  where
    by : (b : Bool) → names_grabbed grabs pairs cs ≡ is_some (first_grabbed grabs pairs cs) → (b || names_grabbed grabs pairs cs) ≡ is_some (if b then Some c else first_grabbed grabs pairs cs)
    by true rest = refl
    by false rest = rest

-- the next member is among the pairs, and grabbed
pub grabbed_here : (grabs : Grabs) (pairs : List Pair) (members : List ℕ) (i : ℕ) → i < length members → true ≡ is_among pairs (get_or members i 0) → true ≡ is_grabbed grabs (get_or members i 0)
    → first_grabbed grabs pairs members ≡ first_grabbed grabs pairs (drop i members) → Some (get_or members i 0) ≡ first_grabbed grabs pairs members
grabbed_here grabs pairs members i within among is left = sym (left ∙ rw (drop_more members i 0 within, ← among, ← is) refl)

-- the errno of a reason that a member takes nothing for
abbrev errno_by : ClusterReason → Errno
errno_by (Grabbed c) = EBUSY
errno_by (ValueNotTaken c v check) = errno_of check
errno_by (RowNotTaken row) = EINVAL

-- what members take, with the errno
abbrev errnos : Result (List CtrlValue) ClusterReason → Result (List CtrlValue) Errno
errnos row = result_map_both (λ r. r) errno_by row

-- one value before others
before_so : (c : ℕ) (v : CtrlValue) (one : Result CtrlValue Check) (rest : Result (List CtrlValue) ClusterReason)
    → settled_before (with_errno one) (errnos rest) ≡ errnos (taken_before (result_map_both (λ taken. taken) (ValueNotTaken c v) one) rest)
before_so c v (Err check) rest = refl
before_so c v (Ok taken) (Err reason) = refl
before_so c v (Ok taken) (Ok row) = refl

-- the row settles to what the members take
settles_so : (controls : List Control) (values : Values) (pairs : List Pair) (cs : List ℕ) → settle_row controls cs (overwritten values pairs cs) ≡ errnos (taken_row controls values pairs cs)
unfolding settle
settles_so controls values pairs [] = refl
settles_so controls values pairs (c ∷ cs) =
    ap (settled_before (settle (control_in controls c) (wanted values pairs c))) (settles_so controls values pairs cs)
    ∙ before_so c (wanted values pairs c) (settle_value (control_in controls c).kind (control_in controls c) (wanted values pairs c)) (taken_row controls values pairs cs)

-- a member that takes nothing is meant by name
data Names : Result (List CtrlValue) ClusterReason → Type 0 where
  names_row : (vs : List CtrlValue) → Names (Ok vs)
  names_value : (c : ℕ) (v : CtrlValue) (check : Check) → Names (Err (ValueNotTaken c v check))

names_so : (controls : List Control) (values : Values) (pairs : List Pair) (cs : List ℕ) → Names (taken_row controls values pairs cs)
names_so controls values pairs [] = names_row []
names_so controls values pairs (c ∷ cs) =
    by (settle_value (control_in controls c).kind (control_in controls c) (wanted values pairs c)) (taken_row controls values pairs cs) (names_so controls values pairs cs)
  where
    by : (one : Result CtrlValue Check) (rest : Result (List CtrlValue) ClusterReason) → Names rest → Names (taken_before (result_map_both (λ taken. taken) (ValueNotTaken c (wanted values pairs c)) one) rest)
    by (Err check) rest named = names_value c (wanted values pairs c) check
    by (Ok taken) (Err reason) named = named
    by (Ok taken) (Ok vs) named = names_row (taken ∷ vs)

-- a row that is judged, or doesn't settle
judged_so : (verdicts : Verdicts) (plan : PlanData) (controls : List Control) (k : ℕ) (taken : Result (List CtrlValue) ClusterReason) → Names taken
    → judge_settled verdicts plan controls k (errnos taken) ≡ row_by verdicts plan controls k (row_reason taken)
judged_so verdicts plan controls k (Ok vs) named = refl
judged_so verdicts plan controls k (Err reason) (names_value c v check) = refl

pub row_explained : (verdicts : Verdicts) (plan : PlanData) (controls : List Control) (values : Values) (grabs : Grabs) (pairs : List Pair) (k : ℕ) → is_touched pairs (members plan k) ≡ true
    → row_after verdicts plan controls values grabs pairs k ≡ row_by verdicts plan controls k (cluster_reason plan controls values grabs pairs k)
unfolding validated_row
row_explained verdicts plan controls values grabs pairs k touched =
    rw (touched, grabbed_found grabs pairs (members plan k)) (by (first_grabbed grabs pairs (members plan k)))
  where
    taken : Result (List CtrlValue) ClusterReason
    taken = taken_row controls values pairs (members plan k)

    by : (o : Option ℕ) → (if is_some o then Err EBUSY else validated_row verdicts plan controls values pairs k) ≡ row_by verdicts plan controls k (first_reason o (taken_row controls values pairs (members plan k)))
    by (Some c) = refl
    by None = ap (judge_settled verdicts plan controls k) (settles_so controls values pairs (members plan k)) ∙ judged_so verdicts plan controls k taken (names_so controls values pairs (members plan k))

-- values that members took, before what the others take
abbrev pub before : List CtrlValue → Result (List CtrlValue) ClusterReason → Result (List CtrlValue) ClusterReason
before vs (Ok rest) = Ok (vs ++ rest)
before vs (Err reason) = Err reason

-- one more member takes a value
before_more : (vs : List CtrlValue) (v : CtrlValue) (rest : Result (List CtrlValue) ClusterReason) → before vs (taken_before (Ok v) rest) ≡ before (vs ++ v ∷ []) rest
before_more vs v (Ok rest) = ap Ok (sym (append_assoc vs (v ∷ []) rest))
before_more vs v (Err reason) = refl

-- the next member, and then the others
taken_next : (controls : List Control) (values : Values) (pairs : List Pair) (members : List ℕ) (i c : ℕ) → i < length members → get_or members i 0 ≡ c
    → taken_row controls values pairs (drop i members) ≡ taken_before (value_taken controls values pairs c) (taken_row controls values pairs (drop (i + 1) members))
taken_next controls values pairs members i c within is = rw (drop_more members i 0 within, is) refl

-- one more member took a value
pub taken_step : (controls : List Control) (values : Values) (pairs : List Pair) (members : List ℕ) (row : List CtrlValue) (i c : ℕ) (v : CtrlValue) → i < length members → i < length row
    → get_or members i 0 ≡ c → value_taken controls values pairs c ≡ Ok v
    → before (take i row) (taken_row controls values pairs (drop i members)) ≡ before (take (i + 1) (set row i v)) (taken_row controls values pairs (drop (i + 1) members))
taken_step controls values pairs members row i c v within place is takes =
    rw (taken_next controls values pairs members i c within is, takes, take_more_set row i v place)
    (before_more (take i row) v (taken_row controls values pairs (drop (i + 1) members)))
