-- What rows that a list's clusters get make of values and words.
use Rattle.std.proofs.Common.{◌≡◌, ℕ, zero, suc, cond, ◌<◌, ◌≤◌, ◌+◌, ◌&&◌, ◌||◌, not, Bool, true, false, List, [], ◌∷◌, length, nat_eq, is_some, count_by, refl, sym, ap, ◌∙◌, arith}
use Rattle.std.specs.List.{list_any, range_with_len}
use Rattle.std.proofs.lemmas.List.Sums.{sum_by-cons}
use Rattle.ctrl_types.proofs.ValueLemmas.{Decides-same}
use Rattle.ctrl_types.specs.Values.{is_same}
use Rattle.ctrl_types.specs.Flags.{contains}
use Rattle.ctrl_types.specs.declared.value.CtrlValue.{CtrlValue}
use Rattle.ctrl_types.specs.declared.flags.TheConstants.Flags.{EXECUTE_ON_WRITE}
use Rattle.ctrl_types.specs.declared.ids.Pair.{Pair}
use Rattle.ctrl_calls.specs.Meanings.{Verdicts}
use Rattle.ctrl_settle.specs.Control.{Control}
use Rattle.ctrl_handlers.specs.Plan.{PlanData, IsPlan, control, calls_of, members, names_twice}
use Rattle.ctrl_handlers.proofs.ClusterLemmas.{cluster_of_within, or_false, or_false_right}
use Rattle.ctrl_clusters.specs.Rows.{Values, value_at, row_of, Grabs, is_grabbed}
use Rattle.ctrl_clusters.specs.Overlay.{is_among, is_touched, overlay}
use Rattle.ctrl_clusters.specs.NewRows.{AreNewRows, written}
use Rattle.ctrl_clusters.specs.Changes.{row_changes}
use Rattle.ctrl_clusters.specs.Notified.{notified_count}
use Rattle.ctrl_clusters.specs.declared.new_row.NewRow.{NewRow}
use Rattle.ctrl_clusters.proofs.OverlayLemmas.{none_any, overlay_written}
use Rattle.ctrl_lists.specs.Touched.{AreJudged}
use Rattle.ctrl_lists.proofs.TouchedLemmas.{touched_is, touched_once}

-- the rows of a list are of other clusters each
pub new_rows : (verdicts : Verdicts) (plan : PlanData) (controls : List Control) (values : Values) (laid pairs : List Pair) (rows : List NewRow) → AreJudged verdicts plan controls values laid pairs rows → AreNewRows plan rows
new_rows verdicts plan controls values laid pairs rows judged = record {
  differ = ap names_twice judged.each_once ∙ touched_once plan pairs;
  within = judged.within;
  long = judged.long;
}

-- what a set lays over the values is what it writes
pub laid_written : (verdicts : Verdicts) (plan : PlanData) (controls : List Control) (values : Values) (grabs : Grabs) (pairs : List Pair) (rows : List NewRow) → IsPlan plan → AreJudged verdicts plan controls values pairs pairs rows
    → list_any (λ p. is_grabbed grabs p.control) pairs ≡ false → overlay verdicts plan controls values grabs pairs ≡ written plan values rows
laid_written verdicts plan controls values grabs pairs rows is judged free =
    overlay_written verdicts plan controls values grabs pairs rows free
    (λ c k found. touched_is plan pairs k is (cluster_of_within plan c k found) ∙ ap (list_any (nat_eq k)) (sym judged.each_once)) judged.become

pub and_false : (y : Bool) → (y && false) ≡ false
and_false true = refl
and_false false = refl

pub unchanged : (v : CtrlValue) (y a : Bool) → a ≡ false → (not (is_same v v) || (y && a)) ≡ false
unchanged v y a h = rw ((Decides-same v v).1 refl, h) (and_false y)

-- the present row changes nothing, where no pair is one of a member
pub changes_same : (plan : PlanData) (values : Values) (pairs : List Pair) (cs : List ℕ) → is_touched pairs cs ≡ false → row_changes plan values pairs cs (row_of values cs) ≡ false
changes_same plan values pairs [] free = refl
changes_same plan values pairs (c ∷ cs) free =
    rw (unchanged (value_at values c) (contains (control plan c).flags EXECUTE_ON_WRITE) (is_among pairs c) (or_false (is_among pairs c) (is_touched pairs cs) free))
    (changes_same plan values pairs cs (or_false_right (is_among pairs c) (is_touched pairs cs) free))

-- clusters that are changed alike are notified alike
notified_from : (plan : PlanData) (f g : ℕ → Bool) (a n : ℕ) → ((k : ℕ) → k < a + n → f k ≡ g k)
    → count_by (λ k. is_some (calls_of plan k).notifier && f k) (range_with_len a n) ≡ count_by (λ k. is_some (calls_of plan k).notifier && g k) (range_with_len a n)
notified_from plan f g a zero same = refl
notified_from plan f g a (suc n) same =
    let first : f a ≡ g a = same a (omega arith) in
    let rest = notified_from plan f g (a + 1) n (λ k lt. same k (omega (arith, lt))) in
    sum_by-cons (λ k. cond (is_some (calls_of plan k).notifier && f k) 1 0) a (range_with_len (a + 1) n)
    ∙ rw (first, rest) (sym (sum_by-cons (λ k. cond (is_some (calls_of plan k).notifier && g k) 1 0) a (range_with_len (a + 1) n)))

pub notified_same : (plan : PlanData) (f g : ℕ → Bool) → ((k : ℕ) → k < length plan.clusters → f k ≡ g k) → notified_count plan f ≡ notified_count plan g
notified_same plan f g same = notified_from plan f g 0 (length plan.clusters) (λ k lt. same k (omega (arith, lt)))

-- of clusters from a number on none is notified where none is changed
pub none_from : (plan : PlanData) (f : ℕ → Bool) (a n : ℕ) → ((k : ℕ) → a ≤ k → f k ≡ false) → count_by (λ k. is_some (calls_of plan k).notifier && f k) (range_with_len a n) ≡ 0
none_from plan f a zero none = refl
none_from plan f a (suc n) none =
    sum_by-cons (λ k. cond (is_some (calls_of plan k).notifier && f k) 1 0) a (range_with_len (a + 1) n) ∙ rw (none a (omega arith), none_from plan f (a + 1) n (λ k at. none k (omega (arith, at)))) (by (is_some (calls_of plan a).notifier))
  where
    by : (b : Bool) → cond (b && false) 1 0 + 0 ≡ 0
    by true = refl
    by false = refl

-- nobody is notified where no control changes
pub notified_none : (plan : PlanData) (f : ℕ → Bool) → ((c : ℕ) → f c ≡ false) → notified_count plan (λ k. list_any f (members plan k)) ≡ 0
notified_none plan f none = none_from plan (λ k. list_any f (members plan k)) 0 (length plan.clusters) (λ k at. none_any f (members plan k) (λ c among. none c))
