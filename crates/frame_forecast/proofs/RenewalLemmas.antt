-- Frames that are renewed one after another: those so far are right, and those behind stand over values that agree with the ones of before out of reach.
use Rattle.std.proofs.Common.{◌≡◌, ◌≢◌, ◌∙◌, ◌<◌, ◌≤◌, ◌+◌, ◌-◌, ◌==◌, ◌⊎◌, ◌||◌, ℕ, zero, suc, nat_eq, Bool, true, false, cond, List, drop, [], ◌∷◌, length, Option, None, Some, is_some, inl, inr, slice_set, refl, sym, ap, subst, arith}
use Rattle.std.specs.List.{list_any, sum_by}
use Rattle.std.proofs.lemmas.Bool.{true≢false}
use Rattle.std.proofs.lemmas.Bool.Decides.{eqb_tells}
use Rattle.std.proofs.lemmas.List.Sums.{sum_by-drop_more}
use Rattle.std.proofs.lemmas.List.{get_or-set_other, get_or-set_same, length-set}
use Rattle.ctrl_calls.specs.Meanings.{Verdicts}
use Rattle.ctrl_settle.specs.Control.{Control}
use Rattle.ctrl_settle.specs.Faults.{IsWellFormed}
use Rattle.ctrl_handlers.specs.Plan.{PlanData, IsFinished, cluster_of, control_in, members}
use Rattle.ctrl_handlers.proofs.ClusterLemmas.{cluster_of_member, or_false, or_false_right}
use Rattle.ctrl_clusters.specs.ControlsData.{ControlsData, is_in_one_of}
use Rattle.ctrl_clusters.specs.Following.{AgreeOutside, followed, inside_of, reached_clusters, under_values}
use Rattle.ctrl_clusters.specs.Rows.{AreControlsOf, Grabs, Values}
use Rattle.ctrl_clusters.proofs.FollowingLemmas.{controls_under, laid_settled, laid_under, length_ranges, range_there, range_well}
use Rattle.ctrl_forecast.specs.Forecasts.{QueuedData}
use Rattle.frame_forecast.specs.Sparse.{gives_any, gives_inside, IsNaming, IsRightOver, SparseFrame, linked, no_sparse_frame, queued_sparse, renewed_sparse, sparse_at, touched_among, value_given, values_upto}
use Rattle.frame_forecast.specs.Kept.{IsKeptSparse}
use Rattle.ctrl_forecast.specs.Boards.{named_clusters}
use Rattle.frame_forecast.specs.Renewal.{AreRenewed, AreRenewedTo, AreRenewing, IsRenewable}
use Rattle.frame_forecast.proofs.RenewedFrames.{renewal_is_right, renewal_kept}
use Rattle.frame_forecast.proofs.SparseLemmas.{agree_next, length_upto, none_of, still_right, upto_set}

-- what a right frame leaves has followed
settled_next : (verdicts : Verdicts) (plan : PlanData) (second : List Control) (held : Grabs) (values : Values) (frame : SparseFrame) → IsFinished plan → AreControlsOf plan second → length values ≡ length plan.controls
    → ((c : ℕ) → c < length second → IsWellFormed (control_in second c)) → IsRightOver verdicts plan second held values frame
    → followed plan (under_values plan second held (linked frame values)) ≡ under_values plan second held (linked frame values)
settled_next verdicts plan second held values frame is also long well right =
    subst (λ (d : ControlsData). followed plan d ≡ d) (laid_under verdicts plan second held values frame.asked is.is_plan also long ∙ ap (under_values plan second held) (sym right.values_right))
    (laid_settled verdicts plan (under_values plan second held values) frame.asked is.is_plan (controls_under plan second values also) long
    (λ c lt.
    let within : c < length second = omega (arith, lt, length_ranges plan.followers second values) in
    subst IsWellFormed (sym (range_there plan.followers second values c within)) (range_well plan.followers second values c (well c within))))

-- the frame at a place is passed, where it gives nothing inside
pub renewed_passed : (verdicts : Verdicts) (plan : PlanData) (ks : List ℕ) (first second : List Control) (grabs held : Grabs) (values : Values) (earlier : ℕ → Values) (old new : List SparseFrame) (from place : ℕ)
    → IsRenewable verdicts plan ks first second grabs held values earlier old from → from ≤ place → place < length old → AreRenewedTo verdicts plan ks first second grabs held values earlier old new from place
    → ((c : ℕ) → inside_of plan ks c ≡ true → c < length plan.controls → value_given (sparse_at new place) c ≡ None)
    → AreRenewedTo verdicts plan ks first second grabs held values earlier old new from (suc place)
renewed_passed verdicts plan ks first second grabs held values earlier old new from place can begun there so nothing = record {
  many = so.many;
  early = so.early;
  right = λ i le lt. by i le (eqb_tells i place) lt;
  behind = λ i le. so.behind i (omega (arith, le));
  agree =
      subst (λ (v : Values). AgreeOutside plan (inside_of plan ks) (under_values plan first grabs v) (under_values plan second held (values_upto values new (suc place)))) (ap (λ (f : SparseFrame). linked f (earlier place)) same ∙ sym (can.earlier_next place begun there))
      (agree_next verdicts plan (inside_of plan ks) first second grabs held (earlier place) (values_upto values new place) (sparse_at new place) (sparse_at new place) can.finished.is_plan can.closed can.are can.also
      (can.earlier_long place) long so.agree refl was now);
  settled = settled_next verdicts plan second held (values_upto values new place) (sparse_at new place) can.finished can.also long can.well now;
  kept = so.kept;
  queued = so.queued;
}
  where
    same : sparse_at new place ≡ sparse_at old place
    same = so.behind place (omega arith)

    long : length (values_upto values new place) ≡ length plan.controls
    long = length_upto values new place ∙ can.long

    was : IsRightOver verdicts plan first grabs (earlier place) (sparse_at new place)
    was = subst (IsRightOver verdicts plan first grabs (earlier place)) (sym same) (can.earlier_right place begun there)

    now : IsRightOver verdicts plan second held (values_upto values new place) (sparse_at new place)
    now =
        still_right verdicts plan (inside_of plan ks) first second grabs held (earlier place) (values_upto values new place) (sparse_at new place) can.finished.is_plan can.closed can.are can.also (can.earlier_long place) long so.agree so.settled
        (so.kept place (omega (arith, there, so.many))).has nothing was

    by : (i : ℕ) → from ≤ i → ((i == place) ≡ true × (i ≡ place)) ⊎ ((i == place) ≡ false × (i ≢ place)) → i < suc place → IsRightOver verdicts plan second held (values_upto values new i) (sparse_at new i)
    by i le (inl e) lt = subst (λ (j : ℕ). IsRightOver verdicts plan second held (values_upto values new j) (sparse_at new j)) (sym e.1) now
    by i le (inr e) lt = so.right i le (omega (arith, lt, e.1))

-- or is renewed
pub renewed_there : (verdicts : Verdicts) (plan : PlanData) (ks : List ℕ) (first second : List Control) (grabs held : Grabs) (values : Values) (earlier : ℕ → Values) (old new : List SparseFrame) (from place : ℕ)
    → IsRenewable verdicts plan ks first second grabs held values earlier old from → from ≤ place → place < length old → AreRenewedTo verdicts plan ks first second grabs held values earlier old new from place
    → AreRenewedTo verdicts plan ks first second grabs held values earlier old (slice_set new place (renewed_sparse verdicts plan second held (values_upto values new place) ks (sparse_at new place))) from (suc place)
renewed_there verdicts plan ks first second grabs held values earlier old new from place can begun there so = record {
  many = length-set new place next ∙ so.many;
  early = λ i lt. get_or-set_other new place i next no_sparse_frame (λ e. absurd (omega (arith, lt, begun, e))) ∙ so.early i lt;
  right = λ i le lt. by i le (eqb_tells i place) lt;
  behind = λ i le. get_or-set_other new place i next no_sparse_frame (λ e. absurd (omega (arith, le, e))) ∙ so.behind i (omega (arith, le));
  agree =
      subst (λ (v : Values). AgreeOutside plan (inside_of plan ks) (under_values plan first grabs (earlier (suc place))) (under_values plan second held v)) (sym after)
      (subst (λ (v : Values). AgreeOutside plan (inside_of plan ks) (under_values plan first grabs v) (under_values plan second held (linked next base))) (ap (λ (f : SparseFrame). linked f (earlier place)) same ∙ sym (can.earlier_next place begun there))
      (agree_next verdicts plan (inside_of plan ks) first second grabs held (earlier place) base (sparse_at new place) next can.finished.is_plan can.closed can.are can.also (can.earlier_long place) long so.agree
      (sym (ap (λ (q : QueuedData). q.asked) kept_next.1)) was now));
  settled = subst (λ (v : Values). followed plan (under_values plan second held v) ≡ under_values plan second held v) (sym after) (settled_next verdicts plan second held base next can.finished can.also long can.well now);
  kept = λ i lt. keep i (omega (arith, lt, length-set new place next)) (eqb_tells i place);
  queued = λ i. queue i (eqb_tells i place);
}
  where
    base : Values
    base = values_upto values new place

    next : SparseFrame
    next = renewed_sparse verdicts plan second held base ks (sparse_at new place)

    within : place < length new
    within = omega (arith, there, so.many)

    same : sparse_at new place ≡ sparse_at old place
    same = so.behind place (omega arith)

    long : length base ≡ length plan.controls
    long = length_upto values new place ∙ can.long

    was : IsRightOver verdicts plan first grabs (earlier place) (sparse_at new place)
    was = subst (IsRightOver verdicts plan first grabs (earlier place)) (sym same) (can.earlier_right place begun there)

    own : IsKeptSparse plan (sparse_at new place)
    own = so.kept place within

    now : IsRightOver verdicts plan second held base next
    now =
        renewal_is_right verdicts plan ks first second grabs held (earlier place) base (sparse_at new place) can.finished can.closed can.are can.also (can.earlier_long place) long so.agree so.settled own.paired own.has own.naming can.known can.once was

    kept_next : IsKeptSparse plan next × (queued_sparse next ≡ queued_sparse (sparse_at new place))
    kept_next = let k = renewal_kept verdicts plan second held base ks (sparse_at new place) can.finished long own.paired own.has own.naming can.known can.once in
        (record { has = k.0; naming = k.1; reaches = k.4 ∙ own.reaches ∙ ap (reached_clusters plan) (own.naming.names ∙ ap (λ (q : QueuedData). named_clusters plan q.asked) (sym k.3) ∙ sym k.1.names); paired = k.2 }, k.3)

    here : sparse_at (slice_set new place next) place ≡ next
    here = get_or-set_same new place next no_sparse_frame within

    upto : (i : ℕ) → i ≤ place → values_upto values (slice_set new place next) i ≡ values_upto values new i
    upto i le = upto_set values new place next i le

    after : values_upto values (slice_set new place next) (suc place) ≡ linked next base
    after = ap (λ (f : SparseFrame). linked f (values_upto values (slice_set new place next) place)) here ∙ ap (linked next) (upto place (omega arith))

    by : (i : ℕ) → from ≤ i → ((i == place) ≡ true × (i ≡ place)) ⊎ ((i == place) ≡ false × (i ≢ place)) → i < suc place → IsRightOver verdicts plan second held (values_upto values (slice_set new place next) i) (sparse_at (slice_set new place next) i)
    by i le (inl e) lt =
        subst (λ (j : ℕ). IsRightOver verdicts plan second held (values_upto values (slice_set new place next) j) (sparse_at (slice_set new place next) j)) (sym e.1)
        (subst (λ (f : SparseFrame). IsRightOver verdicts plan second held (values_upto values (slice_set new place next) place) f) (sym here)
        (subst (λ (v : Values). IsRightOver verdicts plan second held v next) (sym (upto place (omega arith))) now))
    by i le (inr e) lt =
        subst (λ (f : SparseFrame). IsRightOver verdicts plan second held (values_upto values (slice_set new place next) i) f) (sym (get_or-set_other new place i next no_sparse_frame e.1))
        (subst (λ (v : Values). IsRightOver verdicts plan second held v (sparse_at new i)) (sym (upto i (omega (arith, lt)))) (so.right i le (omega (arith, lt, e.1))))

    keep : (i : ℕ) → i < length new → ((i == place) ≡ true × (i ≡ place)) ⊎ ((i == place) ≡ false × (i ≢ place)) → IsKeptSparse plan (sparse_at (slice_set new place next) i)
    keep i lt (inl e) = subst (λ (j : ℕ). IsKeptSparse plan (sparse_at (slice_set new place next) j)) (sym e.1) (subst (IsKeptSparse plan) (sym here) kept_next.0)
    keep i lt (inr e) = subst (IsKeptSparse plan) (sym (get_or-set_other new place i next no_sparse_frame e.1)) (so.kept i lt)

    queue : (i : ℕ) → ((i == place) ≡ true × (i ≡ place)) ⊎ ((i == place) ≡ false × (i ≢ place)) → queued_sparse (sparse_at (slice_set new place next) i) ≡ queued_sparse (sparse_at old i)
    queue i (inl e) =
        subst (λ (j : ℕ). queued_sparse (sparse_at (slice_set new place next) j) ≡ queued_sparse (sparse_at old j)) (sym e.1) (ap queued_sparse here ∙ kept_next.1 ∙ so.queued place)
    queue i (inr e) = ap queued_sparse (get_or-set_other new place i next no_sparse_frame e.1) ∙ so.queued i

-- Where frames stand over the values of before, and under the same ranges and grabs, all behind are right as they were: it ends there.
pub renewed_end : (verdicts : Verdicts) (plan : PlanData) (ks : List ℕ) (controls : List Control) (grabs : Grabs) (values : Values) (earlier : ℕ → Values) (old new : List SparseFrame) (from place : ℕ)
    → IsRenewable verdicts plan ks controls controls grabs grabs values earlier old from → from ≤ place → AreRenewedTo verdicts plan ks controls controls grabs grabs values earlier old new from place
    → values_upto values new place ≡ earlier place → (i : ℕ) → place ≤ i → i < length old → IsRightOver verdicts plan controls grabs (values_upto values new i) (sparse_at new i)
renewed_end verdicts plan ks controls grabs values earlier old new from place can begun so same i le lt =
    subst (λ (v : Values). IsRightOver verdicts plan controls grabs v (sparse_at new i)) (sym (upto i le lt))
    (subst (IsRightOver verdicts plan controls grabs (earlier i)) (sym (so.behind i le)) (can.earlier_right i (omega (arith, begun, le)) lt))
  where
    step : (j : ℕ) → place ≤ j → j < length old → values_upto values new j ≡ earlier j → values_upto values new (suc j) ≡ earlier (suc j)
    step j le lt stand =
        ap (λ (f : SparseFrame). linked f (values_upto values new j)) (so.behind j le) ∙ ap (linked (sparse_at old j)) stand ∙ sym (can.earlier_next j (omega (arith, begun, le)) lt)

    more : (n : ℕ) → place + n < length old → values_upto values new (place + n) ≡ earlier (place + n)
    more zero lt = let none : place ≡ place + 0 = omega arith in subst (λ (j : ℕ). values_upto values new j ≡ earlier j) none same
    more (suc n) lt =
        let one : suc (place + n) ≡ place + suc n = omega arith in
        subst (λ (j : ℕ). values_upto values new j ≡ earlier j) one (step (place + n) (omega arith) (omega (arith, lt)) (more n (omega (arith, lt))))

    upto : (i : ℕ) → place ≤ i → i < length old → values_upto values new i ≡ earlier i
    upto i le lt = let far : place + (i - place) ≡ i = omega (arith, le) in subst (λ (j : ℕ). values_upto values new j ≡ earlier j) far (more (i - place) (omega (arith, le, lt)))

-- where no member passes, one doesn't
none_among : (f : ℕ → Bool) (cs : List ℕ) (c : ℕ) → list_any f cs ≡ false → list_any (nat_eq c) cs ≡ true → f c ≡ false
none_among f [] c none among = cc
none_among f (d ∷ cs) c none among = by (eqb_tells c d) among (none_among f cs c (or_false_right (f d) (list_any f cs) none))
  where
    by : ((c == d) ≡ true × (c ≡ d)) ⊎ ((c == d) ≡ false × (c ≢ d)) → ((c == d) || list_any (nat_eq c) cs) ≡ true → (list_any (nat_eq c) cs ≡ true → f c ≡ false) → f c ≡ false
    by (inl same) h rest = ap f same.1 ∙ or_false (f d) (list_any f cs) none
    by (inr other) h rest = rest (ap (λ (b : Bool). b || list_any (nat_eq c) cs) (sym other.0) ∙ h)

-- where none is, nothing inside is
pub nothing_inside : (plan : PlanData) (ks : List ℕ) (frame : SparseFrame) → gives_inside plan ks frame ≡ false → (c : ℕ) → inside_of plan ks c ≡ true → c < length plan.controls → value_given frame c ≡ None
nothing_inside plan ks frame none c in_it lt = by (cluster_of plan c) refl in_it
  where
    by : (o : Option ℕ) → cluster_of plan c ≡ o → is_in_one_of ks o ≡ true → value_given frame c ≡ None
    by None h among = absurd (true≢false (sym among))
    by (Some k) h among =
        none_of (value_given frame c)
        (none_among (λ m. is_some (value_given frame m)) (members plan k) c (none_among (λ j. gives_any frame (members plan j)) ks k none among) (cluster_of_member plan c k h))

pub renewing_passed : (verdicts : Verdicts) (plan : PlanData) (ks : List ℕ) (second : List Control) (held : Grabs) (values : Values) (old new : List SparseFrame) (from place next : ℕ) → from ≤ place → place < length old → next ≡ suc place
    → gives_inside plan ks (sparse_at new place) ≡ false → AreRenewing verdicts plan ks second held values old new from place → AreRenewing verdicts plan ks second held values old new from next
unfolding AreRenewing
renewing_passed verdicts plan ks second held values old new from place next begun there one none (first, grabs, earlier, can, so) = (
  first,
  grabs,
  earlier,
  can,
  subst (AreRenewedTo verdicts plan ks first second grabs held values earlier old new from) (sym one)
      (renewed_passed verdicts plan ks first second grabs held values earlier old new from place can begun there so (nothing_inside plan ks (sparse_at new place) none)),
)

pub renewing_there : (verdicts : Verdicts) (plan : PlanData) (ks : List ℕ) (second : List Control) (held : Grabs) (values : Values) (old new : List SparseFrame) (from place next : ℕ) → from ≤ place → place < length old → next ≡ suc place
    → AreRenewing verdicts plan ks second held values old new from place
    → AreRenewing verdicts plan ks second held values old (slice_set new place (renewed_sparse verdicts plan second held (values_upto values new place) ks (sparse_at new place))) from next
unfolding AreRenewing
renewing_there verdicts plan ks second held values old new from place next begun there one (first, grabs, earlier, can, so) = (
  first,
  grabs,
  earlier,
  can,
  subst (AreRenewedTo verdicts plan ks first second grabs held values earlier old (slice_set new place (renewed_sparse verdicts plan second held (values_upto values new place) ks (sparse_at new place))) from) (sym one)
      (renewed_there verdicts plan ks first second grabs held values earlier old new from place can begun there so),
)

pub renewing_last : (verdicts : Verdicts) (plan : PlanData) (ks : List ℕ) (second : List Control) (held : Grabs) (values : Values) (old new : List SparseFrame) (from place : ℕ) → length old ≤ place → AreRenewing verdicts plan ks second held values old new from place
    → AreRenewed verdicts plan second held values old new from
unfolding AreRenewing
renewing_last verdicts plan ks second held values old new from place all (first, grabs, earlier, can, so) =
    record { many = so.many; early = so.early; right = λ i le lt. so.right i le (omega (arith, lt, all, so.many)); kept = so.kept; queued = so.queued }

pub renewing_kept : (verdicts : Verdicts) (plan : PlanData) (ks : List ℕ) (second : List Control) (held : Grabs) (values : Values) (old new : List SparseFrame) (from place : ℕ) → place < length old → AreRenewing verdicts plan ks second held values old new from place
    → (place < length new) × IsNaming plan (sparse_at new place)
unfolding AreRenewing
renewing_kept verdicts plan ks second held values old new from place there (first, grabs, earlier, can, so) =
    let within : place < length new = omega (arith, there, so.many) in (within, (so.kept place within).naming)

pub renewing_next : (verdicts : Verdicts) (plan : PlanData) (ks : List ℕ) (second : List Control) (held : Grabs) (values : Values) (old new after : List SparseFrame) (from place next : ℕ) → from ≤ place → place < length old → next ≡ suc place
    → after ≡ cond (gives_inside plan ks (sparse_at new place)) (slice_set new place (renewed_sparse verdicts plan second held (values_upto values new place) ks (sparse_at new place))) new
    → AreRenewing verdicts plan ks second held values old new from place → AreRenewing verdicts plan ks second held values old after from next
renewing_next verdicts plan ks second held values old new after from place next begun there one made so = subst (λ (l : List SparseFrame). AreRenewing verdicts plan ks second held values old l from next) (sym made) (by (gives_inside plan ks (sparse_at new place)) refl)
  where
    by : (b : Bool) → gives_inside plan ks (sparse_at new place) ≡ b
        → AreRenewing verdicts plan ks second held values old (cond b (slice_set new place (renewed_sparse verdicts plan second held (values_upto values new place) ks (sparse_at new place))) new) from next
    by true h = renewing_there verdicts plan ks second held values old new from place next begun there one so
    by false h = renewing_passed verdicts plan ks second held values old new from place next begun there one h so

pub renewing_many : (verdicts : Verdicts) (plan : PlanData) (ks : List ℕ) (second : List Control) (held : Grabs) (values : Values) (old new : List SparseFrame) (from place : ℕ) → AreRenewing verdicts plan ks second held values old new from place → length new ≡ length old
unfolding AreRenewing
renewing_many verdicts plan ks second held values old new from place (first, grabs, earlier, can, so) = so.many

-- what validators were asked so far, and what those behind can be asked
pub renewing_asked : (verdicts : Verdicts) (plan : PlanData) (ks : List ℕ) (second : List Control) (held : Grabs) (values : Values) (old new : List SparseFrame) (from place most before after : ℕ) → place < length old
    → AreRenewing verdicts plan ks second held values old new from place → before + sum_by (λ f. touched_among plan f.asked ks) (drop place old) ≤ most → after ≤ before + touched_among plan (sparse_at new place).asked ks
    → after + sum_by (λ f. touched_among plan f.asked ks) (drop (place + 1) old) ≤ most
unfolding AreRenewing
renewing_asked verdicts plan ks second held values old new from place most before after there (first, grabs, earlier, can, so) so_far more =
    omega (arith, so_far, more, sum_by-drop_more (λ (f : SparseFrame). touched_among plan f.asked ks) old place no_sparse_frame there, ap {B = ℕ} (λ (q : QueuedData). touched_among plan q.asked ks) (so.queued place))

-- What right frames leave has followed, one after another, where what stood before the first has.
pub right_settled : (verdicts : Verdicts) (plan : PlanData) (second : List Control) (held : Grabs) (values : Values) (frames : List SparseFrame) (from most : ℕ) → IsFinished plan → AreControlsOf plan second → length values ≡ length plan.controls
    → ((c : ℕ) → c < length second → IsWellFormed (control_in second c)) → followed plan (under_values plan second held (values_upto values frames from)) ≡ under_values plan second held (values_upto values frames from)
    → ((i : ℕ) → from ≤ i → i < most → IsRightOver verdicts plan second held (values_upto values frames i) (sparse_at frames i)) → (n : ℕ) → from + n ≤ most
    → followed plan (under_values plan second held (values_upto values frames (from + n))) ≡ under_values plan second held (values_upto values frames (from + n))
right_settled verdicts plan second held values frames from most is also long well first right zero le =
    let none : from ≡ from + 0 = omega arith in subst (λ (j : ℕ). followed plan (under_values plan second held (values_upto values frames j)) ≡ under_values plan second held (values_upto values frames j)) none first
right_settled verdicts plan second held values frames from most is also long well first right (suc n) le =
    let one : suc (from + n) ≡ from + suc n = omega arith in
    subst (λ (j : ℕ). followed plan (under_values plan second held (values_upto values frames j)) ≡ under_values plan second held (values_upto values frames j)) one
    (settled_next verdicts plan second held (values_upto values frames (from + n)) (sparse_at frames (from + n)) is also (length_upto values frames (from + n) ∙ long) well (right (from + n) (omega arith) (omega (arith, le))))
