-- What a frame gives once clusters are judged in it.
use Rattle.std.proofs.Common.{◌≡◌, ◌≢◌, ◌∙◌, ◌<◌, ◌==◌, ◌⊎◌, ◌||◌, ℕ, nat_eq, nat_lt, Bool, true, false, if◌then◌else◌, List, [], ◌∷◌, length, Option, None, Some, Result, Ok, Err, is_some, unwrap_or, inl, inr, refl, sym, ap, arith}
use Rattle.std.specs.List.{list_any}
use Rattle.std.specs.Option.{option_map}
use Rattle.std.proofs.lemmas.Bool.{eqb-true, ltb-false, ltb-true, true≢false}
use Rattle.std.proofs.lemmas.Bool.Decides.{eqb_tells}
use Rattle.std.proofs.lemmas.List.{get_or_past, length-map}
use Rattle.ctrl_types.specs.declared.errno.Errno.{Errno}
use Rattle.ctrl_types.specs.declared.ids.Pair.{Pair}
use Rattle.ctrl_types.specs.declared.value.CtrlValue.{CtrlValue}
use Rattle.ctrl_calls.specs.Meanings.{Verdicts}
use Rattle.ctrl_settle.specs.Control.{Control}
use Rattle.ctrl_handlers.specs.ClusterData.{ClusterData}
use Rattle.ctrl_handlers.specs.Plan.{PlanData, IsPlan, cluster_of, members, no_cluster}
use Rattle.ctrl_handlers.proofs.ClusterLemmas.{cluster_of_member}
use Rattle.ctrl_clusters.specs.Overlay.{overlay, result_value, result_value_in, row_after}
use Rattle.ctrl_clusters.specs.Rows.{Grabs, Values, member_value, row_of, value_at}
use Rattle.ctrl_clusters.proofs.OverlayLemmas.{overlay_at, row_after_long, value_own}
use Rattle.frame_forecast.specs.Sparse.{row_or, SparseFrame, judged_all, judged_frame, value_given, with_given, with_row_given}
use Rattle.frame_forecast.proofs.GivenLemmas.{given_asked}
use Rattle.frame_forecast.specs.Kept.{IsPaired}
use Rattle.frame_forecast.proofs.PlaceLemmas.{given_row, none_named, paired_next}

-- a control is a member of its own cluster alone
pub same_cluster : (plan : PlanData) (c k j : ℕ) → IsPlan plan → cluster_of plan c ≡ Some k → list_any (nat_eq c) (members plan j) ≡ true → k ≡ j
same_cluster plan c k j is in_it among = some-injective (sym in_it ∙ is.members_apart j c (within (nat_lt j (length plan.clusters)) refl) among)
  where
    within : (b : Bool) → nat_lt j (length plan.clusters) ≡ b → j < length plan.clusters
    within true lt = ltb-true j (length plan.clusters) lt
    within false lt = absurd (true≢false (sym among ∙ ap (λ (x : ClusterData). list_any (nat_eq c) x.members) (get_or_past plan.clusters j no_cluster (ltb-false j (length plan.clusters) lt))))

    some-injective : {a b : ℕ} → Some a ≡ Some b → a ≡ b
    some-injective e = ap (λ (o : Option ℕ). unwrap_or o 0) e

-- a row of as many values gives each member one
member_some : (cs : List ℕ) (row : List CtrlValue) (c : ℕ) → length row ≡ length cs → list_any (nat_eq c) cs ≡ true → is_some (member_value cs row c) ≡ true
member_some [] row c long among = cc
member_some (m ∷ ms) [] c long among = absurd (omega (arith, long))
member_some (m ∷ ms) (v ∷ vs) c long among = by (member_some ms vs c (omega (arith, long))) (eqb_tells m c)
  where
    by : (list_any (nat_eq c) ms ≡ true → is_some (member_value ms vs c) ≡ true) → ((m == c) ≡ true × (m ≡ c)) ⊎ ((m == c) ≡ false × (m ≢ c)) → is_some (if m == c then Some v else member_value ms vs c) ≡ true
    by rest (inl same) = ap (λ (b : Bool). is_some (if b then Some v else member_value ms vs c)) same.0
    by rest (inr other) = ap (λ (b : Bool). is_some (if b then Some v else member_value ms vs c)) other.0 ∙ rest (later (c == m) refl among)
      where
        later : (b : Bool) → (c == m) ≡ b → (b || list_any (nat_eq c) ms) ≡ true → list_any (nat_eq c) ms ≡ true
        later true same h = absurd (other.1 (sym (eqb-true c m same)))
        later false same h = h

-- what is there doesn't hang on what stands for it where it isn't
some_own : (o : Option CtrlValue) (v w : CtrlValue) → is_some o ≡ true → unwrap_or o v ≡ unwrap_or o w
some_own None v w h = absurd (true≢false (sym h))
some_own (Some x) v w h = refl

-- the value of a member in the row that its cluster is given is the one that the pairs leave it
row_value : (verdicts : Verdicts) (plan : PlanData) (controls : List Control) (grabs : Grabs) (base : Values) (pairs : List Pair) (k c : ℕ) (w : CtrlValue) → IsPlan plan → length base ≡ length plan.controls → c < length plan.controls
    → cluster_of plan c ≡ Some k
    → unwrap_or (member_value (members plan k) (row_or (row_of base (members plan k)) (row_after verdicts plan controls base grabs pairs k)) c) w ≡ value_at (overlay verdicts plan controls base grabs pairs) c
row_value verdicts plan controls grabs base pairs k c w is long lt in_it =
    by (row_after verdicts plan controls base grabs pairs k) refl
    ∙ sym (overlay_at verdicts plan controls base grabs pairs c (omega (arith, lt, long)) ∙ ap (λ (o : Option ℕ). unwrap_or (result_value_in plan (row_after verdicts plan controls base grabs pairs) o c) (value_at base c)) in_it)
  where
    among : list_any (nat_eq c) (members plan k) ≡ true
    among = cluster_of_member plan c k in_it

    by : (r : Result (List CtrlValue) Errno) → row_after verdicts plan controls base grabs pairs k ≡ r
        → unwrap_or (member_value (members plan k) (row_or (row_of base (members plan k)) r) c) w ≡ unwrap_or (result_value (members plan k) r c) (value_at base c)
    by (Ok row) made =
        some_own (member_value (members plan k) row c) w (value_at base c) (member_some (members plan k) row c (row_after_long verdicts plan controls base grabs pairs k row made) among)
    by (Err e) made =
        some_own (member_value (members plan k) (row_of base (members plan k)) c) w (value_at base c) (member_some (members plan k) (row_of base (members plan k)) c (length-map (members plan k) (value_at base)) among)
        ∙ value_own base (members plan k) c

-- a frame in which a cluster is judged gives each of its members that value,
judged_member : (verdicts : Verdicts) (plan : PlanData) (controls : List Control) (grabs : Grabs) (base : Values) (frame : SparseFrame) (k c : ℕ) → IsPlan plan → length base ≡ length plan.controls → c < length plan.controls
    → IsPaired frame → cluster_of plan c ≡ Some k
    → value_given (judged_frame verdicts plan controls grabs base k frame) c ≡ option_map (λ w. value_at (overlay verdicts plan controls base grabs frame.asked) c) (value_given frame c)
judged_member verdicts plan controls grabs base frame k c is long lt paired in_it =
    given_row frame (members plan k) row c paired (is.members_differ k) ∙ by (value_given frame c)
  where
    row : List CtrlValue
    row = row_or (row_of base (members plan k)) (row_after verdicts plan controls base grabs frame.asked k)

    by : (o : Option CtrlValue) → option_map (λ w. unwrap_or (member_value (members plan k) row c) w) o ≡ option_map (λ w. value_at (overlay verdicts plan controls base grabs frame.asked) c) o
    by None = refl
    by (Some w) = ap (λ (x : CtrlValue). Some x) (row_value verdicts plan controls grabs base frame.asked k c w is long lt in_it)

-- and every other control what it gave.
judged_apart : (verdicts : Verdicts) (plan : PlanData) (controls : List Control) (grabs : Grabs) (base : Values) (frame : SparseFrame) (k c : ℕ) → IsPlan plan → IsPaired frame
    → list_any (nat_eq c) (members plan k) ≡ false → value_given (judged_frame verdicts plan controls grabs base k frame) c ≡ value_given frame c
judged_apart verdicts plan controls grabs base frame k c is paired out =
    given_row frame (members plan k) row c paired (is.members_differ k) ∙ ap (λ (o : Option CtrlValue). option_map (λ w. unwrap_or o w) (value_given frame c)) (none_named (members plan k) row c out) ∙ same (value_given frame c)
  where
    row : List CtrlValue
    row = row_or (row_of base (members plan k)) (row_after verdicts plan controls base grabs frame.asked k)

    same : (o : Option CtrlValue) → option_map (λ w. w) o ≡ o
    same None = refl
    same (Some w) = refl

paired_row : (frame : SparseFrame) (cs : List ℕ) (row : List CtrlValue) → IsPaired frame → IsPaired (with_row_given frame cs row)
paired_row frame [] row is = is
paired_row frame (c ∷ cs) [] is = is
paired_row frame (c ∷ cs) (v ∷ row) is = paired_row (with_given frame c v) cs row (paired_next frame c v is)

pub paired_judged : (verdicts : Verdicts) (plan : PlanData) (controls : List Control) (grabs : Grabs) (base : Values) (frame : SparseFrame) (k : ℕ) → IsPaired frame → IsPaired (judged_frame verdicts plan controls grabs base k frame)
unfolding IsPaired
paired_judged verdicts plan controls grabs base frame k is = paired_row frame (members plan k) (row_or (row_of base (members plan k)) (row_after verdicts plan controls base grabs frame.asked k)) is

pub judged_asked : (verdicts : Verdicts) (plan : PlanData) (controls : List Control) (grabs : Grabs) (base : Values) (frame : SparseFrame) (k : ℕ) → (judged_frame verdicts plan controls grabs base k frame).asked ≡ frame.asked
judged_asked verdicts plan controls grabs base frame k = given_asked frame (members plan k) (row_or (row_of base (members plan k)) (row_after verdicts plan controls base grabs frame.asked k))

-- Once some clusters are judged, the frame gives their members what the pairs leave them, and every other control what it gave.
pub all_judged : (verdicts : Verdicts) (plan : PlanData) (controls : List Control) (grabs : Grabs) (base : Values) (frame : SparseFrame) (ks : List ℕ) (k c : ℕ) → IsPlan plan → length base ≡ length plan.controls → c < length plan.controls
    → IsPaired frame → cluster_of plan c ≡ Some k
    → value_given (judged_all verdicts plan controls grabs base ks frame) c
    ≡ (if list_any (nat_eq k) ks then option_map (λ w. value_at (overlay verdicts plan controls base grabs frame.asked) c) (value_given frame c) else value_given frame c)
all_judged verdicts plan controls grabs base frame [] k c is long lt paired in_it = refl
all_judged verdicts plan controls grabs base frame (j ∷ js) k c is long lt paired in_it =
    all_judged verdicts plan controls grabs base (judged_frame verdicts plan controls grabs base j frame) js k c is long lt (paired_judged verdicts plan controls grabs base frame j paired) in_it
    ∙ ap (λ (pairs : List Pair). if list_any (nat_eq k) js then option_map (λ w. value_at (overlay verdicts plan controls base grabs pairs) c) (value_given next c) else value_given next c) (judged_asked verdicts plan controls grabs base frame j)
    ∙ by (eqb_tells k j)
  where
    next : SparseFrame
    next = judged_frame verdicts plan controls grabs base j frame

    left : CtrlValue
    left = value_at (overlay verdicts plan controls base grabs frame.asked) c

    twice : (b : Bool) (o : Option CtrlValue) → (if b then option_map (λ w. left) (option_map (λ w. left) o) else option_map (λ w. left) o) ≡ option_map (λ w. left) o
    twice true None = refl
    twice true (Some w) = refl
    twice false o = refl

    elsewhere : k ≢ j → list_any (nat_eq c) (members plan j) ≡ false
    elsewhere apart = no (list_any (nat_eq c) (members plan j)) refl
      where
        no : (b : Bool) → list_any (nat_eq c) (members plan j) ≡ b → b ≡ false
        no false h = refl
        no true h = absurd (apart (same_cluster plan c k j is in_it h))

    by : ((k == j) ≡ true × (k ≡ j)) ⊎ ((k == j) ≡ false × (k ≢ j))
        → (if list_any (nat_eq k) js then option_map (λ w. left) (value_given next c) else value_given next c) ≡ (if (k == j) || list_any (nat_eq k) js then option_map (λ w. left) (value_given frame c) else value_given frame c)
    by (inl same) =
        ap (λ (o : Option CtrlValue). if list_any (nat_eq k) js then option_map (λ w. left) o else o)
        (judged_member verdicts plan controls grabs base frame j c is long lt paired (in_it ∙ ap (λ (x : ℕ). Some x) same.1))
        ∙ twice (list_any (nat_eq k) js) (value_given frame c)
        ∙ ap (λ (b : Bool). if b || list_any (nat_eq k) js then option_map (λ w. left) (value_given frame c) else value_given frame c) (sym same.0)
    by (inr other) =
        ap (λ (o : Option CtrlValue). if list_any (nat_eq k) js then option_map (λ w. left) o else o) (judged_apart verdicts plan controls grabs base frame j c is paired (elsewhere other.1))
        ∙ ap (λ (b : Bool). if b || list_any (nat_eq k) js then option_map (λ w. left) (value_given frame c) else value_given frame c) (sym other.0)
