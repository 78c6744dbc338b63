-- What pairs make of the values: each cluster's row by itself, and the values control by control.
use Rattle.std.proofs.Common.{◌≡◌, ◌≢◌, ℕ, zero, suc, eq-eqb, ◌<◌, ◌≤◌, ◌+◌, ◌==◌, ◌&&◌, ◌||◌, not, Bool, true, false, cond, nat_eq, List, [], ◌∷◌, length, map, Option, None, Some, is_some, unwrap_or, Ok, Err, Result, is_err, inl, inr, ◌⊎◌, subst, refl, ap, sym, ◌∙◌, arith}
use Rattle.std.specs.List.{All, list_any, range_with_len}
use Rattle.std.specs.Option.{option_and_then, option_or}
use Rattle.std.specs.Result.{is_ok}
use Rattle.std.proofs.lemmas.Bool.Decides.{eqb_tells}
use Rattle.std.proofs.lemmas.List.Elements.{All-head, All-tail, All-weaker}
use Rattle.std.proofs.lemmas.List.{length-map}
use Rattle.std.proofs.lemmas.Map.Views.{any-filter_same}
use Rattle.std.proofs.lemmas.List.FromFn.{length-map-range_with_len, get_or-map-range_with_len}
use Rattle.ctrl_types.specs.Values.{zero_value}
use Rattle.ctrl_types.specs.declared.value.CtrlValue.{CtrlValue}
use Rattle.ctrl_types.specs.Pairs.{last_value}
use Rattle.ctrl_types.specs.declared.errno.Errno.{Errno}
use Rattle.ctrl_types.specs.declared.errno.Errno.TheVariants.{EBUSY, EINVAL}
use Rattle.ctrl_types.specs.declared.ids.Pair.{Pair}
use Rattle.ctrl_calls.specs.Meanings.{Verdicts}
use Rattle.ctrl_calls.specs.declared.relation.Relation.{Relation}
use Rattle.ctrl_calls.specs.declared.verdict.Verdict.{Verdict}
use Rattle.ctrl_calls.specs.declared.verdict.Verdict.TheVariants.{Accept, Refuse}
use Rattle.ctrl_settle.specs.Control.{Control}
use Rattle.ctrl_settle.specs.Settle.{settle}
use Rattle.ctrl_handlers.specs.Plan.{PlanData, IsPlan, cluster_of, members, names_twice, calls_of, control_in}
use Rattle.ctrl_handlers.proofs.ClusterLemmas.{or_false, or_false_right}
use Rattle.ctrl_clusters.specs.Rows.{Values, value_at, row_of, member_value, Grabs, is_grabbed, overwritten, settle_row, settled_before}
use Rattle.ctrl_clusters.specs.Judging.{asks_validator, validated_row, judge, judge_by, judge_settled, judged, takes_row}
use Rattle.ctrl_clusters.specs.Overlay.{is_among, is_touched, names_grabbed, row_after, result_value, result_value_in, value_after, overlay, refused_clusters}
use Rattle.ctrl_clusters.specs.NewRows.{clusters_of, row_among, value_among, written}
use Rattle.ctrl_clusters.specs.declared.new_row.NewRow.{NewRow}
use Rattle.ctrl_clusters.proofs.RowLemmas.{takes_length}
use Rattle.ctrl_clusters.proofs.NewRowLemmas.{same_values, not_equal, has_row, row_met, written_at, length_written}

pub or_true : (a b : Bool) → a ≡ true → (a || b) ≡ true
or_true a b h = rw h refl

pub or_true_right : (a b : Bool) → b ≡ true → (a || b) ≡ true
or_true_right true b h = refl
or_true_right false b h = h

-- where each of some numbers fails, none passes
pub none_any : (f : ℕ → Bool) (cs : List ℕ) → ((c : ℕ) → list_any (nat_eq c) cs ≡ true → f c ≡ false) → list_any f cs ≡ false
none_any f [] fails = refl
none_any f (c ∷ cs) fails =
    let first : f c ≡ false = fails c (or_true (nat_eq c c) (list_any (nat_eq c) cs) (eq-eqb c c refl)) in
    rw first (none_any f cs (λ d among. fails d (or_true_right (nat_eq d c) (list_any (nat_eq d) cs) among)))

-- the same of each member is the same of all
pub same_each : {X : Type 0} (f g : ℕ → X) (cs : List ℕ) → ((c : ℕ) → list_any (nat_eq c) cs ≡ true → f c ≡ g c) → map f cs ≡ map g cs
same_each f g [] each = refl
same_each f g (c ∷ cs) each =
    let first : f c ≡ g c = each c (or_true (nat_eq c c) (list_any (nat_eq c) cs) (eq-eqb c c refl)) in
    rw (first, same_each f g cs (λ d among. each d (or_true_right (nat_eq d c) (list_any (nat_eq d) cs) among))) refl

-- what is left where one of the members is another
apart_of : (c d : ℕ) (cs : List ℕ) → list_any (nat_eq c) cs ≡ false → list_any (nat_eq d) cs ≡ true → nat_eq c d ≡ false
apart_of c d cs none among = not_equal c d (λ e. absurd (clash (subst (λ (x : ℕ). list_any (nat_eq x) cs ≡ false) e none)))
  where
    clash : list_any (nat_eq d) cs ≡ false → ⊥
    clash h = cc

-- a row gives the members its values
pub row_read : (cs : List ℕ) (row : List CtrlValue) (f : ℕ → CtrlValue) → names_twice cs ≡ false → length row ≡ length cs → map (λ c. unwrap_or (member_value cs row c) (f c)) cs ≡ row
row_read [] [] f differ long = refl
row_read [] (v ∷ vs) f differ long = absurd (omega (arith, long))
row_read (c ∷ cs) [] f differ long = absurd (omega (arith, long))
row_read (c ∷ cs) (v ∷ vs) f differ long =
    let own : nat_eq c c ≡ true = eq-eqb c c refl in
    let rest : map (λ d. unwrap_or (member_value (c ∷ cs) (v ∷ vs) d) (f d)) cs ≡ vs =
    same_each (λ d. unwrap_or (member_value (c ∷ cs) (v ∷ vs) d) (f d)) (λ d. unwrap_or (member_value cs vs d) (f d)) cs
    (λ d among. let other : nat_eq c d ≡ false = apart_of c d cs (or_false (list_any (nat_eq c) cs) (names_twice cs) differ) among in rw other refl)
    ∙ row_read cs vs f (or_false_right (list_any (nat_eq c) cs) (names_twice cs) differ) (omega (arith, long)) in
    rw (own, rest) refl

-- the present row gives each control its own value
pub value_own : (values : Values) (cs : List ℕ) (c : ℕ) → unwrap_or (member_value cs (row_of values cs) c) (value_at values c) ≡ value_at values c
value_own values [] c = refl
value_own values (m ∷ ms) c = by (value_own values ms c) (eqb_tells m c)
  where
    by : unwrap_or (member_value ms (row_of values ms) c) (value_at values c) ≡ value_at values c → ((m == c) ≡ true × (m ≡ c)) ⊎ ((m == c) ≡ false × (m ≢ c))
        → unwrap_or (member_value (m ∷ ms) (row_of values (m ∷ ms)) c) (value_at values c) ≡ value_at values c
    by rest (inl h) = rw h.0 (ap (value_at values) h.1)
    by rest (inr h) = rw h.0 rest

-- a row that isn't refused
abbrev ok_row : List CtrlValue → Result (List CtrlValue) Errno
ok_row row = Ok row

pub same_ok : (a b : List CtrlValue) → ok_row a ≡ Ok b → a ≡ b
same_ok a b e = cc

-- what settles has a value for each member
settle_long : (controls : List Control) (ms : List ℕ) (row settled : List CtrlValue) → settle_row controls ms row ≡ Ok settled → length settled ≡ length ms
settle_long controls [] row settled h = let same : [] ≡ settled = same_ok [] settled h in sym (ap length same)
settle_long controls (c ∷ cs) [] settled h = cc
settle_long controls (c ∷ cs) (v ∷ vs) settled h = by (settle (control_in controls c) v) (settle_row controls cs vs) (λ s e. settle_long controls cs vs s e) h
  where
    by : (first : Result CtrlValue Errno) (rest : Result (List CtrlValue) Errno) → ((s : List CtrlValue) → rest ≡ Ok s → length s ≡ length cs) → settled_before first rest ≡ Ok settled → length settled ≡ length (c ∷ cs)
    by (Err errno) rest long e = cc
    by (Ok x) (Err errno) long e = cc
    by (Ok x) (Ok xs) long e = let same : x ∷ xs ≡ settled = same_ok (x ∷ xs) settled e in sym (ap length same) ∙ ap suc (long xs refl)

-- so has what a judge accepts
judged_long : (controls : List Control) (ms : List ℕ) (verdict : Verdict) (row : List CtrlValue) → judged controls ms verdict ≡ Ok row → length row ≡ length ms
judged_long controls ms (Refuse errno) row h = cc
judged_long controls ms (Accept answer) row h = by (takes_row controls ms answer) refl h
  where
    taken : takes_row controls ms answer ≡ true → ((length answer == length ms) ≡ true × (length answer ≡ length ms)) ⊎ ((length answer == length ms) ≡ false × (length answer ≢ length ms)) → length answer ≡ length ms
    taken takes (inl e) = e.1
    taken takes (inr e) = let not : takes_row controls ms answer ≡ false = takes_length controls ms answer e.1 in absurd (differ (sym takes ∙ not))
      where
        differ : true ≡ false → ⊥
        differ e = cc

    by : (b : Bool) → takes_row controls ms answer ≡ b → cond b (Ok answer) (Err EINVAL) ≡ Ok row → length row ≡ length ms
    by true takes e = let same : answer ≡ row = same_ok answer row e in sym (ap length same) ∙ taken takes (eqb_tells (length answer) (length ms))
    by false takes e = cc

-- and what a cluster's row becomes
pub becomes_long : (verdicts : Verdicts) (plan : PlanData) (controls : List Control) (values : Values) (pairs : List Pair) (k : ℕ) (row : List CtrlValue) → validated_row verdicts plan controls values pairs k ≡ Ok row → length row ≡ length (members plan k)
unfolding validated_row judge
becomes_long verdicts plan controls values pairs k row h = by (settle_row controls (members plan k) (overwritten values pairs (members plan k))) refl h
  where
    judging : (o : Option Relation) (settled : List CtrlValue) → length settled ≡ length (members plan k) → judge_by verdicts controls (members plan k) o settled ≡ Ok row → length row ≡ length (members plan k)
    judging None settled long e = let same : settled ≡ row = same_ok settled row e in sym (ap length same) ∙ long
    judging (Some relation) settled long e = judged_long controls (members plan k) (verdicts relation settled) row e

    by : (r : Result (List CtrlValue) Errno) → settle_row controls (members plan k) (overwritten values pairs (members plan k)) ≡ r → judge_settled verdicts plan controls k r ≡ Ok row → length row ≡ length (members plan k)
    by (Err errno) settles e = cc
    by (Ok settled) settles e =
        judging (calls_of plan k).validator settled (settle_long controls (members plan k) (overwritten values pairs (members plan k)) settled settles) e

-- the row of a cluster afterwards has a value for each member
pub row_after_long : (verdicts : Verdicts) (plan : PlanData) (controls : List Control) (values : Values) (grabs : Grabs) (pairs : List Pair) (k : ℕ) (row : List CtrlValue)
    → row_after verdicts plan controls values grabs pairs k ≡ Ok row → length row ≡ length (members plan k)
row_after_long verdicts plan controls values grabs pairs k row h = by (is_touched pairs (members plan k)) (names_grabbed grabs pairs (members plan k)) h
  where
    by : (b held : Bool) → cond (not b) (Ok (row_of values (members plan k))) (cond held (Err EBUSY) (validated_row verdicts plan controls values pairs k)) ≡ Ok row → length row ≡ length (members plan k)
    by false held e = let same : row_of values (members plan k) ≡ row = same_ok (row_of values (members plan k)) row e in sym (ap length same) ∙ length-map (members plan k) (value_at values)
    by true true e = cc
    by true false e = becomes_long verdicts plan controls values pairs k row e

pub length_overlay : (verdicts : Verdicts) (plan : PlanData) (controls : List Control) (values : Values) (grabs : Grabs) (pairs : List Pair) → length (overlay verdicts plan controls values grabs pairs) ≡ length values
unfolding overlay
length_overlay verdicts plan controls values grabs pairs = length-map-range_with_len (value_after verdicts plan controls values grabs pairs) 0 (length values)

pub overlay_at : (verdicts : Verdicts) (plan : PlanData) (controls : List Control) (values : Values) (grabs : Grabs) (pairs : List Pair) (c : ℕ) → c < length values
    → value_at (overlay verdicts plan controls values grabs pairs) c ≡ value_after verdicts plan controls values grabs pairs c
unfolding overlay
overlay_at verdicts plan controls values grabs pairs c lt = get_or-map-range_with_len (value_after verdicts plan controls values grabs pairs) 0 (length values) c c zero_value lt (omega arith)

-- what holds of each of some numbers holds of one of them
pub each_of : (n c : ℕ) (cs : List ℕ) → All (λ d. d < n) cs → list_any (nat_eq c) cs ≡ true → c < n
each_of n c [] all among = cc
each_of n c (d ∷ cs) all among = by (λ h. each_of n c cs (All-tail (λ d. d < n) d cs all) h) (eqb_tells c d)
  where
    by : (list_any (nat_eq c) cs ≡ true → c < n) → ((c == d) ≡ true × (c ≡ d)) ⊎ ((c == d) ≡ false × (c ≢ d)) → c < n
    by rest (inl e) = subst (λ (x : ℕ). x < n) (sym e.1) (All-head (λ d. d < n) d cs all)
    by rest (inr e) = rest (rw e.0 at among)

-- a member of a cluster has a value
member_there : (plan : PlanData) (values : Values) (k c : ℕ) → IsPlan plan → length values ≡ length plan.controls → list_any (nat_eq c) (members plan k) ≡ true → c < length values
member_there plan values k c is many among = omega (arith, many, each_of (length plan.controls) c (members plan k) (is.members_known k) among)

-- the value of a member afterwards
pub member_after : (verdicts : Verdicts) (plan : PlanData) (controls : List Control) (values : Values) (grabs : Grabs) (pairs : List Pair) (k c : ℕ) → IsPlan plan → length values ≡ length plan.controls → k < length plan.clusters
    → list_any (nat_eq c) (members plan k) ≡ true
    → value_at (overlay verdicts plan controls values grabs pairs) c ≡ unwrap_or (result_value (members plan k) (row_after verdicts plan controls values grabs pairs k) c) (value_at values c)
member_after verdicts plan controls values grabs pairs k c is many lt among =
    overlay_at verdicts plan controls values grabs pairs c (member_there plan values k c is many among)
    ∙ ap (λ (o : Option ℕ). unwrap_or (result_value_in plan (row_after verdicts plan controls values grabs pairs) o c) (value_at values c)) (is.members_apart k c lt among)

-- a cluster has the row that it has after the pairs
pub overlaid_row : (verdicts : Verdicts) (plan : PlanData) (controls : List Control) (values : Values) (grabs : Grabs) (pairs : List Pair) (k : ℕ) (row : List CtrlValue) → IsPlan plan → length values ≡ length plan.controls → k < length plan.clusters
    → row_after verdicts plan controls values grabs pairs k ≡ Ok row → row_of (overlay verdicts plan controls values grabs pairs) (members plan k) ≡ row
overlaid_row verdicts plan controls values grabs pairs k row is many lt after =
    same_each (value_at (overlay verdicts plan controls values grabs pairs)) (λ c. unwrap_or (member_value (members plan k) row c) (value_at values c)) (members plan k)
    (λ c among. member_after verdicts plan controls values grabs pairs k c is many lt among ∙ ap (λ (r : Result (List CtrlValue) Errno). unwrap_or (result_value (members plan k) r c) (value_at values c)) after)
    ∙ row_read (members plan k) row (value_at values) (is.members_differ k) (row_after_long verdicts plan controls values grabs pairs k row after)

-- a refused one keeps its own
pub refused_row : (verdicts : Verdicts) (plan : PlanData) (controls : List Control) (values : Values) (grabs : Grabs) (pairs : List Pair) (k : ℕ) (errno : Errno) → IsPlan plan → length values ≡ length plan.controls → k < length plan.clusters
    → row_after verdicts plan controls values grabs pairs k ≡ Err errno → row_of (overlay verdicts plan controls values grabs pairs) (members plan k) ≡ row_of values (members plan k)
refused_row verdicts plan controls values grabs pairs k errno is many lt after =
    same_each (value_at (overlay verdicts plan controls values grabs pairs)) (value_at values) (members plan k)
    (λ c among. member_after verdicts plan controls values grabs pairs k c is many lt among ∙ ap (λ (r : Result (List CtrlValue) Errno). unwrap_or (result_value (members plan k) r c) (value_at values c)) after)

-- a number within a range is among its numbers
among_range : (k a n : ℕ) → a ≤ k → k < a + n → list_any (nat_eq k) (range_with_len a n) ≡ true
among_range k a zero from below = absurd (omega (arith, from, below))
among_range k a (suc n) from below = by (eqb_tells k a) (λ further. among_range k (a + 1) n further (omega (arith, below)))
  where
    by : ((k == a) ≡ true × (k ≡ a)) ⊎ ((k == a) ≡ false × (k ≢ a)) → (a + 1 ≤ k → list_any (nat_eq k) (range_with_len (a + 1) n) ≡ true) → list_any (nat_eq k) (range_with_len a (suc n)) ≡ true
    by (inl e) rest = or_true (nat_eq k a) (list_any (nat_eq k) (range_with_len (a + 1) n)) e.0
    by (inr e) rest = or_true_right (nat_eq k a) (list_any (nat_eq k) (range_with_len (a + 1) n)) (rest (omega (arith, from, e.1)))

-- the refused clusters are those whose row is refused
pub refused_are : (verdicts : Verdicts) (plan : PlanData) (controls : List Control) (values : Values) (grabs : Grabs) (pairs : List Pair) (k : ℕ) → k < length plan.clusters
    → list_any (nat_eq k) (refused_clusters verdicts plan controls values grabs pairs) ≡ is_err (row_after verdicts plan controls values grabs pairs k)
unfolding refused_clusters
refused_are verdicts plan controls values grabs pairs k lt =
    any-filter_same (nat_eq k) fails (fails k) (λ j is. same j (eqb_tells k j) is) (range_with_len 0 (length plan.clusters))
    ∙ ap (λ (b : Bool). fails k && b) (among_range k 0 (length plan.clusters) (omega arith) (omega (arith, lt))) ∙ whole (fails k)
  where
    fails : ℕ → Bool
    fails j = is_err (row_after verdicts plan controls values grabs pairs j)

    same : (j : ℕ) → ((k == j) ≡ true × (k ≡ j)) ⊎ ((k == j) ≡ false × (k ≢ j)) → nat_eq k j ≡ true → fails j ≡ fails k
    same j (inl e) is = ap fails (sym e.1)
    same j (inr e) is = absurd (clash (sym is ∙ e.0))
      where
        clash : true ≡ false → ⊥
        clash h = cc

    whole : (b : Bool) → (b && true) ≡ b
    whole true = refl
    whole false = refl

-- a control is among pairs where they give it a value
among_is : (pairs : List Pair) (c : ℕ) → is_among pairs c ≡ is_some (last_value pairs c)
among_is [] c = refl
among_is (p ∷ pairs) c = by (p.control == c) (last_value pairs c) (among_is pairs c)
  where
    by : (b : Bool) (o : Option CtrlValue) → is_among pairs c ≡ is_some o → (b || is_among pairs c) ≡ is_some (option_or o (cond b (Some p.value) None))
    by true None h = refl
    by true (Some v) h = refl
    by false None h = h
    by false (Some v) h = h

-- two ways in which a cluster's members stand alike
pub Alike : List Control → List Control → Values → Values → Grabs → Grabs → List Pair → List Pair → ℕ → Type 0
Alike controls others values elsewhere grabs held pairs more c =
    (control_in controls c ≡ control_in others c) × (value_at values c ≡ value_at elsewhere c) × (is_grabbed grabs c ≡ is_grabbed held c) × (last_value pairs c ≡ last_value more c)

alike_any : (f g : ℕ → Bool) (P : ℕ → Type 0) (cs : List ℕ) → ((c : ℕ) → P c → f c ≡ g c) → All P cs → list_any f cs ≡ list_any g cs
alike_any f g P [] each all = refl
alike_any f g P (c ∷ cs) each all = rw (each c (All-head P c cs all), alike_any f g P cs each (All-tail P c cs all)) refl

alike_map : (f g : ℕ → CtrlValue) (P : ℕ → Type 0) (cs : List ℕ) → ((c : ℕ) → P c → f c ≡ g c) → All P cs → map f cs ≡ map g cs
alike_map f g P [] each all = refl
alike_map f g P (c ∷ cs) each all = rw (each c (All-head P c cs all), alike_map f g P cs each (All-tail P c cs all)) refl

alike_settle : (controls others : List Control) (cs : List ℕ) (row : List CtrlValue) → All (λ c. control_in controls c ≡ control_in others c) cs → settle_row controls cs row ≡ settle_row others cs row
alike_settle controls others [] row all = refl
alike_settle controls others (c ∷ cs) [] all = refl
alike_settle controls others (c ∷ cs) (v ∷ vs) all =
    rw (All-head (λ d. control_in controls d ≡ control_in others d) c cs all, alike_settle controls others cs vs (All-tail (λ d. control_in controls d ≡ control_in others d) c cs all)) refl

alike_takes : (controls others : List Control) (cs : List ℕ) (row : List CtrlValue) → All (λ c. control_in controls c ≡ control_in others c) cs → takes_row controls cs row ≡ takes_row others cs row
alike_takes controls others [] [] all = refl
alike_takes controls others [] (v ∷ vs) all = refl
alike_takes controls others (c ∷ cs) [] all = refl
alike_takes controls others (c ∷ cs) (v ∷ vs) all =
    rw (All-head (λ d. control_in controls d ≡ control_in others d) c cs all, alike_takes controls others cs vs (All-tail (λ d. control_in controls d ≡ control_in others d) c cs all)) refl

alike_judge : (verdicts : Verdicts) (controls others : List Control) (cs : List ℕ) (o : Option Relation) (row : List CtrlValue) → All (λ c. control_in controls c ≡ control_in others c) cs
    → judge_by verdicts controls cs o row ≡ judge_by verdicts others cs o row
alike_judge verdicts controls others cs None row all = refl
alike_judge verdicts controls others cs (Some relation) row all = by (verdicts relation row)
  where
    by : (verdict : Verdict) → judged controls cs verdict ≡ judged others cs verdict
    by (Refuse errno) = refl
    by (Accept answer) = rw (alike_takes controls others cs answer all) refl

-- whether a validator is asked hangs on the values of the cluster's members alone
pub asks_alike : (plan : PlanData) (controls : List Control) (values elsewhere : Values) (pairs : List Pair) (k : ℕ) → All (λ c. value_at values c ≡ value_at elsewhere c) (members plan k)
    → asks_validator plan controls values pairs k ≡ asks_validator plan controls elsewhere pairs k
unfolding asks_validator
asks_alike plan controls values elsewhere pairs k all =
    ap (λ (row : List CtrlValue). is_some (calls_of plan k).validator && is_ok (settle_row controls (members plan k) row)) over
  where
    over : overwritten values pairs (members plan k) ≡ overwritten elsewhere pairs (members plan k)
    over =
        alike_map (λ c. unwrap_or (last_value pairs c) (value_at values c)) (λ c. unwrap_or (last_value pairs c) (value_at elsewhere c)) (λ c. value_at values c ≡ value_at elsewhere c) (members plan k)
        (λ c h. rw h refl) all

-- clusters don't touch each other
pub separate : (verdicts : Verdicts) (plan : PlanData) (controls others : List Control) (values elsewhere : Values) (grabs held : Grabs) (pairs more : List Pair) (k : ℕ)
    → All (λ c. (control_in controls c ≡ control_in others c) × (value_at values c ≡ value_at elsewhere c) × (is_grabbed grabs c ≡ is_grabbed held c) × (last_value pairs c ≡ last_value more c)) (members plan k)
    → row_after verdicts plan controls values grabs pairs k ≡ row_after verdicts plan others elsewhere held more k
unfolding validated_row judge Alike
separate verdicts plan controls others values elsewhere grabs held pairs more k all =
    rw (touched, holds, own, becoming) refl
  where
    P : ℕ → Type 0
    P = Alike controls others values elsewhere grabs held pairs more

    cs : List ℕ
    cs = members plan k

    among : (c : ℕ) → P c → is_among pairs c ≡ is_among more c
    among c h = among_is pairs c ∙ ap is_some h.3 ∙ sym (among_is more c)

    touched : is_touched pairs cs ≡ is_touched more cs
    touched = alike_any (is_among pairs) (is_among more) P cs among all

    holds : names_grabbed grabs pairs cs ≡ names_grabbed held more cs
    holds = alike_any (λ c. is_among pairs c && is_grabbed grabs c) (λ c. is_among more c && is_grabbed held c) P cs (λ c h. rw (among c h, h.2) refl) all

    own : row_of values cs ≡ row_of elsewhere cs
    own = alike_map (value_at values) (value_at elsewhere) P cs (λ c h. h.1) all

    over : overwritten values pairs cs ≡ overwritten elsewhere more cs
    over = alike_map (λ c. unwrap_or (last_value pairs c) (value_at values c)) (λ c. unwrap_or (last_value more c) (value_at elsewhere c)) P cs (λ c h. rw (h.3, h.1) refl) all

    same : All (λ c. control_in controls c ≡ control_in others c) cs
    same = All-weaker P (λ c. control_in controls c ≡ control_in others c) (λ c h. h.0) cs all

    settled : (r : Result (List CtrlValue) Errno) → judge_settled verdicts plan controls k r ≡ judge_settled verdicts plan others k r
    settled (Err errno) = refl
    settled (Ok row) = alike_judge verdicts controls others cs (calls_of plan k).validator row same

    becoming : validated_row verdicts plan controls values pairs k ≡ validated_row verdicts plan others elsewhere more k
    becoming =
        ap (λ (row : List CtrlValue). judge_settled verdicts plan controls k (settle_row controls cs row)) over
        ∙ ap (judge_settled verdicts plan controls k) (alike_settle controls others cs (overwritten elsewhere more cs) same)
        ∙ settled (settle_row others cs (overwritten elsewhere more cs))

-- no cluster is held where no control of the pairs is grabbed
asked_free : (grabs : Grabs) (pairs : List Pair) (c : ℕ) → list_any (λ p. is_grabbed grabs p.control) pairs ≡ false → (is_among pairs c && is_grabbed grabs c) ≡ false
asked_free grabs [] c free = refl
asked_free grabs (p ∷ pairs) c free = by (asked_free grabs pairs c (or_false_right (is_grabbed grabs p.control) (list_any (λ p. is_grabbed grabs p.control) pairs) free)) (eqb_tells p.control c)
  where
    and_right : (a b : Bool) → b ≡ false → (a && b) ≡ false
    and_right true b h = h
    and_right false b h = refl

    first : is_grabbed grabs p.control ≡ false
    first = or_false (is_grabbed grabs p.control) (list_any (λ p. is_grabbed grabs p.control) pairs) free

    by : (is_among pairs c && is_grabbed grabs c) ≡ false → ((p.control == c) ≡ true × (p.control ≡ c)) ⊎ ((p.control == c) ≡ false × (p.control ≢ c)) → (is_among (p ∷ pairs) c && is_grabbed grabs c) ≡ false
    by others (inl h) = and_right (is_among (p ∷ pairs) c) (is_grabbed grabs c) (ap (is_grabbed grabs) (sym h.1) ∙ first)
    by others (inr h) = rw h.0 others

pub held_none : (grabs : Grabs) (pairs : List Pair) (cs : List ℕ) → list_any (λ p. is_grabbed grabs p.control) pairs ≡ false → names_grabbed grabs pairs cs ≡ false
held_none grabs pairs cs free = none_any (λ c. is_among pairs c && is_grabbed grabs c) cs (λ c among. asked_free grabs pairs c free)

-- pairs of which no control is grabbed, laid over values, are the rows that the touched clusters become, written
pub overlay_written : (verdicts : Verdicts) (plan : PlanData) (controls : List Control) (values : Values) (grabs : Grabs) (pairs : List Pair) (rows : List NewRow)
    → list_any (λ p. is_grabbed grabs p.control) pairs ≡ false → ((c k : ℕ) → cluster_of plan c ≡ Some k → is_touched pairs (members plan k) ≡ list_any (nat_eq k) (clusters_of rows))
    → All (λ r. validated_row verdicts plan controls values pairs r.cluster ≡ Ok r.row) rows → overlay verdicts plan controls values grabs pairs ≡ written plan values rows
overlay_written verdicts plan controls values grabs pairs rows free touched become =
    same_values (overlay verdicts plan controls values grabs pairs) (written plan values rows) (length_overlay verdicts plan controls values grabs pairs ∙ sym (length_written plan values rows))
    (λ i lt. let less : i < length values = omega (arith, lt, length_overlay verdicts plan controls values grabs pairs) in
    overlay_at verdicts plan controls values grabs pairs i less ∙ by i (cluster_of plan i) refl ∙ sym (written_at plan values rows i less))
  where
    at : (i k : ℕ) (o : Option (List CtrlValue)) → cluster_of plan i ≡ Some k → row_among rows k ≡ o
        → unwrap_or (result_value (members plan k) (row_after verdicts plan controls values grabs pairs k) i) (value_at values i) ≡ unwrap_or (option_and_then (λ row. member_value (members plan k) row i) o) (value_at values i)
    at i k None is found =
        let none : is_touched pairs (members plan k) ≡ false = touched i k is ∙ has_row rows k ∙ ap is_some found in
        rw none (value_own values (members plan k) i)
    at i k (Some row) is found =
        let some : is_touched pairs (members plan k) ≡ true = touched i k is ∙ has_row rows k ∙ ap is_some found in
        let becoming : validated_row verdicts plan controls values pairs k ≡ Ok row = row_met (λ (j : ℕ) (x : List CtrlValue). validated_row verdicts plan controls values pairs j ≡ Ok x) rows k row become found in
        rw (some, held_none grabs pairs (members plan k) free, becoming) refl

    by : (i : ℕ) (o : Option ℕ) → cluster_of plan i ≡ o
        → unwrap_or (result_value_in plan (row_after verdicts plan controls values grabs pairs) o i) (value_at values i) ≡ unwrap_or (value_among plan rows o i) (value_at values i)
    by i None is = refl
    by i (Some k) is = at i k (row_among rows k) is refl

-- one of some numbers passes
pub any_of : (f : ℕ → Bool) (cs : List ℕ) (c : ℕ) → list_any (nat_eq c) cs ≡ true → f c ≡ true → list_any f cs ≡ true
any_of f [] c among passes = cc
any_of f (d ∷ cs) c among passes = by (λ h. any_of f cs c h passes) (eqb_tells c d)
  where
    by : (list_any (nat_eq c) cs ≡ true → list_any f cs ≡ true) → ((c == d) ≡ true × (c ≡ d)) ⊎ ((c == d) ≡ false × (c ≢ d)) → list_any f (d ∷ cs) ≡ true
    by rest (inl h) = or_true (f d) (list_any f cs) (ap f (sym h.1) ∙ passes)
    by rest (inr h) = or_true_right (f d) (list_any f cs) (rest (rw h.0 at among))

-- a cluster with a member among the pairs that isn't held has the row that it becomes
pub row_after_free : (verdicts : Verdicts) (plan : PlanData) (controls : List Control) (values : Values) (grabs : Grabs) (pairs : List Pair) (k : ℕ) → is_touched pairs (members plan k) ≡ true
    → names_grabbed grabs pairs (members plan k) ≡ false → row_after verdicts plan controls values grabs pairs k ≡ validated_row verdicts plan controls values pairs k
row_after_free verdicts plan controls values grabs pairs k touched free = rw (touched, free) refl

-- where nothing is grabbed no cluster is held
pub held_not : (pairs : List Pair) (cs : List ℕ) → names_grabbed [] pairs cs ≡ false
held_not pairs cs = none_any (λ c. is_among pairs c && is_grabbed [] c) cs (λ c among. and_false (is_among pairs c))
  where
    and_false : (a : Bool) → (a && false) ≡ false
    and_false true = refl
    and_false false = refl
