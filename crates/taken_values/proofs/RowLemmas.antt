-- What a cluster's row becomes its members take as it is, and so each control takes its value behind pairs that are laid over values.
use Rattle.std.proofs.Common.{◌≡◌, ◌≢◌, ℕ, ◌<◌, ◌==◌, ◌&&◌, not, Bool, true, false, cond, List, [], ◌∷◌, length, Option, None, Some, unwrap_or, Result, Ok, Err, inl, inr, ◌⊎◌, refl, ap, sym, subst}
use Rattle.std.proofs.lemmas.Bool.Decides.{eqb_tells}
use Rattle.ctrl_types.specs.declared.value.CtrlValue.{CtrlValue}
use Rattle.ctrl_types.specs.declared.errno.Errno.{Errno}
use Rattle.ctrl_types.specs.declared.errno.Errno.TheVariants.{EBUSY, EINVAL}
use Rattle.ctrl_types.specs.declared.ids.Pair.{Pair}
use Rattle.ctrl_types.proofs.ValueLemmas.{Decides-same}
use Rattle.ctrl_calls.specs.Meanings.{Verdicts}
use Rattle.ctrl_calls.specs.declared.relation.Relation.{Relation}
use Rattle.ctrl_calls.specs.declared.verdict.Verdict.{Verdict}
use Rattle.ctrl_calls.specs.declared.verdict.Verdict.TheVariants.{Accept, Refuse}
use Rattle.ctrl_settle.specs.Control.{Control}
use Rattle.ctrl_settle.specs.Faults.{IsWellFormed}
use Rattle.ctrl_settle.specs.Settle.{IsSettled, settle}
use Rattle.ctrl_settle.proofs.Settling.{settle-settled}
use Rattle.ctrl_handlers.specs.Plan.{PlanData, calls_of, cluster_of, control_in, members}
use Rattle.ctrl_clusters.specs.Rows.{Grabs, Values, member_value, overwritten, row_of, settle_row, settled_before, value_at}
use Rattle.ctrl_clusters.specs.Judging.{is_value, judge, judge_by, judge_settled, judged, takes_row, validated_row}
use Rattle.ctrl_clusters.specs.Overlay.{is_touched, names_grabbed, overlay, result_value, result_value_in, row_after, value_after}
use Rattle.ctrl_clusters.proofs.OverlayLemmas.{overlay_at, value_own}

-- nothing is wrong with any of the controls
abbrev pub AreSound : List Control → Type 0
AreSound controls = (c : ℕ) → IsWellFormed (control_in controls c)

-- members take the values of a row as they are
abbrev pub AreTaken : List Control → List ℕ → List CtrlValue → Type 0
AreTaken controls [] row = Unit {0}
AreTaken controls (c ∷ cs) [] = Unit {0}
AreTaken controls (c ∷ cs) (v ∷ vs) = IsSettled (control_in controls c) v × AreTaken controls cs vs

-- a row that isn't refused
abbrev ok_row : List CtrlValue → Result (List CtrlValue) Errno
ok_row row = Ok row

same_row : (a b : List CtrlValue) → ok_row a ≡ Ok b → a ≡ b
same_row a b e = cc

-- what members settle to they take as it is
settled_taken : (controls : List Control) (ms : List ℕ) (row settled : List CtrlValue) → AreSound controls → settle_row controls ms row ≡ Ok settled → AreTaken controls ms settled
settled_taken controls [] row settled sound h = tt
settled_taken controls (c ∷ cs) [] settled sound h = absurd (cc)
settled_taken controls (c ∷ cs) (v ∷ vs) settled sound h = by (settle (control_in controls c) v) (settle_row controls cs vs) refl (λ s e. settled_taken controls cs vs s sound e) h
  where
    by : (first : Result CtrlValue Errno) (rest : Result (List CtrlValue) Errno) → settle (control_in controls c) v ≡ first → ((s : List CtrlValue) → rest ≡ Ok s → AreTaken controls cs s)
        → settled_before first rest ≡ Ok settled → AreTaken controls (c ∷ cs) settled
    by (Err errno) rest is others e = absurd (cc)
    by (Ok x) (Err errno) is others e = absurd (cc)
    by (Ok x) (Ok xs) is others e = subst (AreTaken controls (c ∷ cs)) (same_row (x ∷ xs) settled e) (settle-settled (control_in controls c) v x (sound c) is, others xs refl)

-- a value that a control settles to itself it takes as it is
value_taken : (r : Result CtrlValue Errno) (v : CtrlValue) → is_value r v ≡ true → r ≡ Ok v
value_taken (Ok w) v h = ap Ok ((Decides-same w v).0 h)
value_taken (Err errno) v h = absurd (cc)

both : (a b : Bool) → (a && b) ≡ true → (a ≡ true) × (b ≡ true)
both true b h = (refl, h)
both false b h = absurd (cc)

-- a row is judged to be one that the members take
judged_taken : (controls : List Control) (ms : List ℕ) (row : List CtrlValue) → takes_row controls ms row ≡ true → AreTaken controls ms row
judged_taken controls [] row h = tt
judged_taken controls (c ∷ cs) [] h = tt
judged_taken controls (c ∷ cs) (v ∷ vs) h =
    let parts = both (is_value (settle (control_in controls c) v) v) (takes_row controls cs vs) h in
    (value_taken (settle (control_in controls c) v) v parts.0, judged_taken controls cs vs parts.1)

-- so is a row that a verdict makes: one of which a validator changed values is accepted only where the members take them
verdict_taken : (controls : List Control) (ms : List ℕ) (verdict : Verdict) (row : List CtrlValue) → judged controls ms verdict ≡ Ok row → AreTaken controls ms row
verdict_taken controls ms (Refuse errno) row h = absurd (cc)
verdict_taken controls ms (Accept answer) row h = by (takes_row controls ms answer) refl h
  where
    by : (b : Bool) → takes_row controls ms answer ≡ b → cond b (Ok answer) (Err EINVAL) ≡ Ok row → AreTaken controls ms row
    by true takes e = subst (AreTaken controls ms) (same_row answer row e) (judged_taken controls ms answer takes)
    by false takes e = absurd (cc)

-- so is a validated row
validated_taken : (verdicts : Verdicts) (plan : PlanData) (controls : List Control) (values : Values) (pairs : List Pair) (k : ℕ) (row : List CtrlValue) → AreSound controls
    → validated_row verdicts plan controls values pairs k ≡ Ok row → AreTaken controls (members plan k) row
unfolding validated_row judge
validated_taken verdicts plan controls values pairs k row sound h = by (settle_row controls (members plan k) (overwritten values pairs (members plan k))) refl h
  where
    judging : (o : Option Relation) (settled : List CtrlValue) → AreTaken controls (members plan k) settled → judge_by verdicts controls (members plan k) o settled ≡ Ok row → AreTaken controls (members plan k) row
    judging None settled taken e = subst (AreTaken controls (members plan k)) (same_row settled row e) taken
    judging (Some relation) settled taken e = verdict_taken controls (members plan k) (verdicts relation settled) row e

    by : (r : Result (List CtrlValue) Errno) → settle_row controls (members plan k) (overwritten values pairs (members plan k)) ≡ r → judge_settled verdicts plan controls k r ≡ Ok row → AreTaken controls (members plan k) row
    by (Err errno) settles e = absurd (cc)
    by (Ok settled) settles e = judging (calls_of plan k).validator settled (settled_taken controls (members plan k) (overwritten values pairs (members plan k)) settled sound settles) e

-- a value that such a row gives a member
member_taken : (controls : List Control) (ms : List ℕ) (row : List CtrlValue) (c : ℕ) (v : CtrlValue) → AreTaken controls ms row → member_value ms row c ≡ Some v → IsSettled (control_in controls c) v
member_taken controls [] row c v taken h = absurd (cc)
member_taken controls (m ∷ ms) [] c v taken h = absurd (cc)
member_taken controls (m ∷ ms) (x ∷ xs) c v taken h = by (λ e. member_taken controls ms xs c v taken.1 e) (eqb_tells m c)
  where
    same : (a b : CtrlValue) → Some a ≡ Some b → a ≡ b
    same a b e = cc

    by : (member_value ms xs c ≡ Some v → IsSettled (control_in controls c) v) → ((m == c) ≡ true × (m ≡ c)) ⊎ ((m == c) ≡ false × (m ≢ c)) → IsSettled (control_in controls c) v
    by rest (inl is) =
        let it : x ≡ v = same x v (rw is.0 at h) in
        subst (λ d. IsSettled (control_in controls d) v) is.1 (subst (IsSettled (control_in controls m)) it taken.0)
    by rest (inr is) = rest (rw is.0 at h)

-- the value of a control behind pairs
after_taken : (verdicts : Verdicts) (plan : PlanData) (controls : List Control) (values : Values) (grabs : Grabs) (pairs : List Pair) (c : ℕ) → AreSound controls → IsSettled (control_in controls c) (value_at values c)
    → IsSettled (control_in controls c) (value_after verdicts plan controls values grabs pairs c)
after_taken verdicts plan controls values grabs pairs c sound own = by (cluster_of plan c)
  where
    given : (k : ℕ) (row : List CtrlValue) → AreTaken controls (members plan k) row → (o : Option CtrlValue) → member_value (members plan k) row c ≡ o → IsSettled (control_in controls c) (unwrap_or o (value_at values c))
    given k row taken None is = own
    given k row taken (Some v) is = member_taken controls (members plan k) row c v taken is

    validated : (k : ℕ) (r : Result (List CtrlValue) Errno) → validated_row verdicts plan controls values pairs k ≡ r → IsSettled (control_in controls c) (unwrap_or (result_value (members plan k) r c) (value_at values c))
    validated k (Err errno) is = own
    validated k (Ok row) is = given k row (validated_taken verdicts plan controls values pairs k row sound is) (member_value (members plan k) row c) refl

    at : (k : ℕ) (touched held : Bool) → IsSettled (control_in controls c)
        (unwrap_or (result_value (members plan k) (cond (not touched) (Ok (row_of values (members plan k))) (cond held (Err EBUSY) (validated_row verdicts plan controls values pairs k))) c) (value_at values c))
    at k false held = subst (IsSettled (control_in controls c)) (sym (value_own values (members plan k) c)) own
    at k true true = own
    at k true false = validated k (validated_row verdicts plan controls values pairs k) refl

    by : (o : Option ℕ) → IsSettled (control_in controls c) (unwrap_or (result_value_in plan (row_after verdicts plan controls values grabs pairs) o c) (value_at values c))
    by None = own
    by (Some k) = at k (is_touched pairs (members plan k)) (names_grabbed grabs pairs (members plan k))

-- so is it of all values
pub overlay_taken : (verdicts : Verdicts) (plan : PlanData) (controls : List Control) (values : Values) (grabs : Grabs) (pairs : List Pair) (c : ℕ) → AreSound controls → c < length values → IsSettled (control_in controls c) (value_at values c)
    → IsSettled (control_in controls c) (value_at (overlay verdicts plan controls values grabs pairs) c)
overlay_taken verdicts plan controls values grabs pairs c sound lt own =
    subst (IsSettled (control_in controls c)) (sym (overlay_at verdicts plan controls values grabs pairs c lt)) (after_taken verdicts plan controls values grabs pairs c sound own)
