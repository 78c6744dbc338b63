-- Where the renewal of frames ends.
use Rattle.std.proofs.Common.{◌+◌, drop, ◌≡◌, ◌≢◌, ◌∙◌, ◌<◌, ◌≤◌, ◌==◌, ◌⊎◌, ◌||◌, ℕ, suc, nat_eq, nat_lt, Bool, true, false, cond, if◌then◌else◌, List, [], ◌∷◌, length, Option, None, Some, unwrap_or, inl, inr, slice_set, refl, sym, ap, subst, arith}
use Rattle.std.specs.List.{sum_by, list_all, list_any}
use Rattle.std.proofs.lemmas.Bool.{and_parts, ltb-false, ltb-true, true≢false}
use Rattle.std.proofs.lemmas.Bool.Decides.{eqb_tells}
use Rattle.std.proofs.lemmas.List.Sums.{sum_by-drop_more}
use Rattle.std.proofs.lemmas.List.{ext_get_or, get_or-set_other, get_or-set_same, length-set}
use Rattle.ctrl_types.specs.Values.{is_same, zero_value}
use Rattle.ctrl_types.specs.declared.value.CtrlValue.{CtrlValue}
use Rattle.ctrl_types.proofs.ValueLemmas.{Decides-same}
use Rattle.ctrl_calls.specs.Meanings.{Verdicts}
use Rattle.ctrl_settle.specs.Control.{Control}
use Rattle.ctrl_handlers.specs.Plan.{PlanData, IsPlan, cluster_of, members}
use Rattle.ctrl_handlers.proofs.ClusterLemmas.{cluster_of_member}
use Rattle.ctrl_clusters.specs.ControlsData.{is_in_one_of}
use Rattle.ctrl_clusters.specs.Rows.{Grabs, Values, value_at}
use Rattle.ctrl_clusters.specs.Following.{inside_of}
use Rattle.frame_forecast.specs.Renewal.{AreRenewed, AreRenewedTo, AreRenewingSame}
use Rattle.ctrl_forecast.specs.Forecasts.{QueuedData}
use Rattle.frame_forecast.specs.Sparse.{no_sparse_frame, touched_among, IsNaming, IsRightOver, SparseFrame, are_same_on, are_same_reached, gives_inside, linked, renewed_sparse, sparse_at, value_given, values_upto, with_given_values, with_reached_values}
use Rattle.frame_forecast.proofs.JudgedValues.{same_cluster}
use Rattle.frame_forecast.proofs.RenewalLemmas.{nothing_inside, renewed_end, renewed_passed, renewed_there}
use Rattle.frame_forecast.proofs.SparseLemmas.{length_upto, linked_at}

-- the value that a frame gives, or the one of before; given once more it stays
given_or : Option CtrlValue → CtrlValue → CtrlValue
given_or o v = unwrap_or o v

twice_given : (o : Option CtrlValue) (v : CtrlValue) → unwrap_or o (unwrap_or o v) ≡ unwrap_or o v
twice_given None v = refl
twice_given (Some w) v = refl

-- of some controls
loaded_given : (frame : SparseFrame) (cs : List ℕ) (values : Values) (c : ℕ) → c < length values
    → value_at (with_given_values frame cs values) c ≡ (if list_any (nat_eq c) cs then unwrap_or (value_given frame c) (value_at values c) else value_at values c)
loaded_given frame [] values c lt = refl
loaded_given frame (d ∷ ds) values c lt =
    loaded_given frame ds (slice_set values d (unwrap_or (value_given frame d) (value_at values d))) c (omega (arith, lt, length-set values d (unwrap_or (value_given frame d) (value_at values d)))) ∙ by (eqb_tells c d)
  where
    next : Values
    next = slice_set values d (unwrap_or (value_given frame d) (value_at values d))

    more : (b : Bool) → (if b then unwrap_or (value_given frame c) (unwrap_or (value_given frame c) (value_at values c)) else unwrap_or (value_given frame c) (value_at values c)) ≡ unwrap_or (value_given frame c) (value_at values c)
    more true = twice_given (value_given frame c) (value_at values c)
    more false = refl

    own : c ≡ d → value_at next c ≡ unwrap_or (value_given frame c) (value_at values c)
    own same = subst (λ (x : ℕ). value_at (slice_set values x (unwrap_or (value_given frame x) (value_at values x))) c ≡ unwrap_or (value_given frame c) (value_at values c)) same (get_or-set_same values c (unwrap_or (value_given frame c) (value_at values c)) zero_value lt)

    by : ((c == d) ≡ true × (c ≡ d)) ⊎ ((c == d) ≡ false × (c ≢ d))
        → (if list_any (nat_eq c) ds then unwrap_or (value_given frame c) (value_at next c) else value_at next c)
        ≡ (if (c == d) || list_any (nat_eq c) ds then unwrap_or (value_given frame c) (value_at values c) else value_at values c)
    by (inl same) =
        ap (λ (v : CtrlValue). if list_any (nat_eq c) ds then unwrap_or (value_given frame c) v else v) (own same.1)
        ∙ more (list_any (nat_eq c) ds)
        ∙ ap (λ (b : Bool). if b || list_any (nat_eq c) ds then unwrap_or (value_given frame c) (value_at values c) else value_at values c) (sym same.0)
    by (inr other) =
        ap (λ (v : CtrlValue). if list_any (nat_eq c) ds then unwrap_or (value_given frame c) v else v) (get_or-set_other values d c (unwrap_or (value_given frame d) (value_at values d)) zero_value other.1)
        ∙ ap (λ (b : Bool). if b || list_any (nat_eq c) ds then unwrap_or (value_given frame c) (value_at values c) else value_at values c) (sym other.0)

long_given : (frame : SparseFrame) (cs : List ℕ) (values : Values) → length (with_given_values frame cs values) ≡ length values
long_given frame [] values = refl
long_given frame (d ∷ ds) values = long_given frame ds (slice_set values d (unwrap_or (value_given frame d) (value_at values d))) ∙ length-set values d (unwrap_or (value_given frame d) (value_at values d))

-- and of the members of some clusters
loaded_reached : (plan : PlanData) (frame : SparseFrame) (ks : List ℕ) (values : Values) (k c : ℕ) → IsPlan plan → c < length values → cluster_of plan c ≡ Some k
    → value_at (with_reached_values plan frame ks values) c ≡ (if list_any (nat_eq k) ks then unwrap_or (value_given frame c) (value_at values c) else value_at values c)
loaded_reached plan frame [] values k c is lt in_it = refl
loaded_reached plan frame (j ∷ js) values k c is lt in_it =
    loaded_reached plan frame js next k c is (omega (arith, lt, long_given frame (members plan j) values)) in_it ∙ by (eqb_tells k j)
  where
    next : Values
    next = with_given_values frame (members plan j) values

    here : (b : Bool) → list_any (nat_eq c) (members plan j) ≡ b → value_at next c ≡ (if b then unwrap_or (value_given frame c) (value_at values c) else value_at values c)
    here b h = loaded_given frame (members plan j) values c lt ∙ ap (λ (x : Bool). if x then unwrap_or (value_given frame c) (value_at values c) else value_at values c) h

    more : (b : Bool) → (if b then unwrap_or (value_given frame c) (unwrap_or (value_given frame c) (value_at values c)) else unwrap_or (value_given frame c) (value_at values c)) ≡ unwrap_or (value_given frame c) (value_at values c)
    more true = twice_given (value_given frame c) (value_at values c)
    more false = refl

    elsewhere : k ≢ j → list_any (nat_eq c) (members plan j) ≡ false
    elsewhere apart = no (list_any (nat_eq c) (members plan j)) refl
      where
        no : (b : Bool) → list_any (nat_eq c) (members plan j) ≡ b → b ≡ false
        no false h = refl
        no true h = absurd (apart (same_cluster plan c k j is in_it h))

    by : ((k == j) ≡ true × (k ≡ j)) ⊎ ((k == j) ≡ false × (k ≢ j))
        → (if list_any (nat_eq k) js then unwrap_or (value_given frame c) (value_at next c) else value_at next c)
        ≡ (if (k == j) || list_any (nat_eq k) js then unwrap_or (value_given frame c) (value_at values c) else value_at values c)
    by (inl same) =
        ap (λ (v : CtrlValue). if list_any (nat_eq k) js then unwrap_or (value_given frame c) v else v) (here true (ap (λ (x : ℕ). list_any (nat_eq c) (members plan x)) (sym same.1) ∙ cluster_of_member plan c k in_it))
        ∙ more (list_any (nat_eq k) js)
        ∙ ap (λ (b : Bool). if b || list_any (nat_eq k) js then unwrap_or (value_given frame c) (value_at values c) else value_at values c) (sym same.0)
    by (inr other) =
        ap (λ (v : CtrlValue). if list_any (nat_eq k) js then unwrap_or (value_given frame c) v else v) (here false (elsewhere other.1))
        ∙ ap (λ (b : Bool). if b || list_any (nat_eq k) js then unwrap_or (value_given frame c) (value_at values c) else value_at values c) (sym other.0)

-- So what is loaded inside is what stood behind the frame before.
pub spare_next : (plan : PlanData) (ks : List ℕ) (frame : SparseFrame) (earlier after spare : Values) → IsPlan plan → length earlier ≡ length plan.controls → length spare ≡ length plan.controls → after ≡ linked frame earlier
    → ((c : ℕ) → inside_of plan ks c ≡ true → c < length plan.controls → value_at spare c ≡ value_at earlier c) → (c : ℕ) → inside_of plan ks c ≡ true → c < length plan.controls
    → value_at (with_reached_values plan frame ks spare) c ≡ value_at after c
spare_next plan ks frame earlier after spare is long wide made same c in_it lt = by (cluster_of plan c) refl in_it
  where
    by : (o : Option ℕ) → cluster_of plan c ≡ o → is_in_one_of ks o ≡ true → value_at (with_reached_values plan frame ks spare) c ≡ value_at after c
    by None h among = absurd (true≢false (sym among))
    by (Some k) h among =
        loaded_reached plan frame ks spare k c is (omega (arith, lt, wide)) h
        ∙ ap (λ (b : Bool). if b then unwrap_or (value_given frame c) (value_at spare c) else value_at spare c) among
        ∙ ap (unwrap_or (value_given frame c)) (same c in_it lt)
        ∙ sym (linked_at frame earlier c (omega (arith, lt, long)))
        ∙ ap (λ (v : Values). value_at v c) (sym made)

-- what passes in all passes in each
each_all : (p : ℕ → Bool) (cs : List ℕ) (c : ℕ) → list_all p cs ≡ true → list_any (nat_eq c) cs ≡ true → p c ≡ true
each_all p [] c all among = absurd (true≢false (sym among))
each_all p (d ∷ ds) c all among = by (eqb_tells c d) among (λ h. each_all p ds c (and_parts (p d) (list_all p ds) all).1 h)
  where
    by : ((c == d) ≡ true × (c ≡ d)) ⊎ ((c == d) ≡ false × (c ≢ d)) → ((c == d) || list_any (nat_eq c) ds) ≡ true → (list_any (nat_eq c) ds ≡ true → p c ≡ true) → p c ≡ true
    by (inl same) h rest = ap p same.1 ∙ (and_parts (p d) (list_all p ds) all).0
    by (inr other) h rest = rest (ap (λ (b : Bool). b || list_any (nat_eq c) ds) (sym other.0) ∙ h)

-- Where the members of the clusters have the same values, and all others do, too, the values are the same.
pub same_ended : (plan : PlanData) (ks : List ℕ) (values others earlier : Values) → length values ≡ length plan.controls → length earlier ≡ length plan.controls → are_same_reached plan values others ks ≡ true
    → ((c : ℕ) → inside_of plan ks c ≡ true → c < length plan.controls → value_at others c ≡ value_at earlier c)
    → ((c : ℕ) → inside_of plan ks c ≡ false → c < length plan.controls → value_at values c ≡ value_at earlier c) → values ≡ earlier
same_ended plan ks values others earlier long wide same spare out = ext_get_or zero_value values earlier (long ∙ sym wide) (λ c lt. by c (omega (arith, lt, long)) (inside_of plan ks c) refl)
  where
    told : (c : ℕ) → is_same (value_at values c) (value_at others c) ≡ true → value_at values c ≡ value_at others c
    told c h = (Decides-same (value_at values c) (value_at others c)).0 h

    here : (c : ℕ) (o : Option ℕ) → cluster_of plan c ≡ o → is_in_one_of ks o ≡ true → value_at values c ≡ value_at others c
    here c None h among = absurd (true≢false (sym among))
    here c (Some k) h among =
        told c (each_all (λ x. is_same (value_at values x) (value_at others x)) (members plan k) c (each_all (λ j. are_same_on values others (members plan j)) ks k same among) (cluster_of_member plan c k h))

    by : (c : ℕ) → c < length plan.controls → (b : Bool) → inside_of plan ks c ≡ b → value_at values c ≡ value_at earlier c
    by c lt true in_it = here c (cluster_of plan c) refl in_it ∙ spare c in_it lt
    by c lt false apart = out c apart lt

-- a frame that gives nothing inside is passed, and what is spared stays
pub same_passed : (verdicts : Verdicts) (plan : PlanData) (ks : List ℕ) (controls : List Control) (grabs : Grabs) (values : Values) (old new : List SparseFrame) (from place next : ℕ) (spare : Values) → from ≤ place → place < length old → next ≡ suc place
    → gives_inside plan ks (sparse_at new place) ≡ false → AreRenewingSame verdicts plan ks controls grabs values old new from place spare → AreRenewingSame verdicts plan ks controls grabs values old new from next spare
unfolding AreRenewingSame
same_passed verdicts plan ks controls grabs values old new from place next spare begun there one none (earlier, can, so, same) = (
  earlier,
  can,
  subst (AreRenewedTo verdicts plan ks controls controls grabs grabs values earlier old new from) (sym one) (renewed_passed verdicts plan ks controls controls grabs grabs values earlier old new from place can begun there so nothing),
  λ c in_it lt.
      same c in_it lt
      ∙ sym (ap (λ (n : ℕ). value_at (earlier n) c) one
      ∙ ap (λ (v : Values). value_at v c) (can.earlier_next place begun there)
      ∙ linked_at (sparse_at old place) (earlier place) c (omega (arith, lt, can.earlier_long place))
      ∙ ap (λ (f : SparseFrame). unwrap_or (value_given f c) (value_at (earlier place) c)) (sym (so.behind place (omega arith)))
      ∙ ap (λ (o : Option CtrlValue). unwrap_or o (value_at (earlier place) c)) (nothing c in_it lt)),
)
  where
    nothing : (c : ℕ) → inside_of plan ks c ≡ true → c < length plan.controls → value_given (sparse_at new place) c ≡ None
    nothing = nothing_inside plan ks (sparse_at new place) none

-- one that does is renewed, and what it gave is spared
pub same_there : (verdicts : Verdicts) (plan : PlanData) (ks : List ℕ) (controls : List Control) (grabs : Grabs) (values : Values) (old new : List SparseFrame) (from place next : ℕ) (spare : Values) → from ≤ place → place < length old → next ≡ suc place
    → length spare ≡ length plan.controls → AreRenewingSame verdicts plan ks controls grabs values old new from place spare
    → AreRenewingSame verdicts plan ks controls grabs values old (slice_set new place (renewed_sparse verdicts plan controls grabs (values_upto values new place) ks (sparse_at new place))) from next (with_reached_values plan (sparse_at new place) ks spare)
unfolding AreRenewingSame
same_there verdicts plan ks controls grabs values old new from place next spare begun there one wide (earlier, can, so, same) = (
  earlier,
  can,
  subst (AreRenewedTo verdicts plan ks controls controls grabs grabs values earlier old (slice_set new place (renewed_sparse verdicts plan controls grabs (values_upto values new place) ks (sparse_at new place))) from) (sym one)
      (renewed_there verdicts plan ks controls controls grabs grabs values earlier old new from place can begun there so),
  λ c in_it lt.
      spare_next plan ks (sparse_at new place) (earlier place) (earlier next) spare can.finished.is_plan (can.earlier_long place) wide
      (ap earlier one ∙ can.earlier_next place begun there ∙ ap (λ (f : SparseFrame). linked f (earlier place)) (sym (so.behind place (omega arith)))) same c in_it lt,
)

-- once all are
pub same_last : (verdicts : Verdicts) (plan : PlanData) (ks : List ℕ) (controls : List Control) (grabs : Grabs) (values : Values) (old new : List SparseFrame) (from place : ℕ) (spare : Values) → length old ≤ place
    → AreRenewingSame verdicts plan ks controls grabs values old new from place spare → AreRenewed verdicts plan controls grabs values old new from
unfolding AreRenewingSame
same_last verdicts plan ks controls grabs values old new from place spare all (earlier, can, so, same) =
    record { many = so.many; early = so.early; right = λ i le lt. so.right i le (omega (arith, lt, all, so.many)); kept = so.kept; queued = so.queued }

-- or where what is reached has the values of before
pub same_end : (verdicts : Verdicts) (plan : PlanData) (ks : List ℕ) (controls : List Control) (grabs : Grabs) (values : Values) (old new : List SparseFrame) (from place : ℕ) (spare : Values) → from ≤ place
    → are_same_reached plan (values_upto values new place) spare ks ≡ true → AreRenewingSame verdicts plan ks controls grabs values old new from place spare → AreRenewed verdicts plan controls grabs values old new from
unfolding AreRenewingSame
same_end verdicts plan ks controls grabs values old new from place spare begun ended (earlier, can, so, same) =
    record { many = so.many; early = so.early; right = λ i le lt. by i le lt (nat_lt i place) refl; kept = so.kept; queued = so.queued }
  where
    stand : values_upto values new place ≡ earlier place
    stand =
        same_ended plan ks (values_upto values new place) spare (earlier place) (length_upto values new place ∙ can.long) (can.earlier_long place) ended same
        (λ c out lt. sym (so.agree.values c out lt))

    by : (i : ℕ) → from ≤ i → i < length new → (b : Bool) → nat_lt i place ≡ b → IsRightOver verdicts plan controls grabs (values_upto values new i) (sparse_at new i)
    by i le lt true before = so.right i le (ltb-true i place before)
    by i le lt false behind = renewed_end verdicts plan ks controls grabs values earlier old new from place can begun so stand i (ltb-false i place behind) (omega (arith, lt, so.many))

pub same_many : (verdicts : Verdicts) (plan : PlanData) (ks : List ℕ) (controls : List Control) (grabs : Grabs) (values : Values) (old new : List SparseFrame) (from place : ℕ) (spare : Values) → AreRenewingSame verdicts plan ks controls grabs values old new from place spare
    → length new ≡ length old
unfolding AreRenewingSame
same_many verdicts plan ks controls grabs values old new from place spare (earlier, can, so, same) = so.many

pub same_kept : (verdicts : Verdicts) (plan : PlanData) (ks : List ℕ) (controls : List Control) (grabs : Grabs) (values : Values) (old new : List SparseFrame) (from place : ℕ) (spare : Values) → place < length old
    → AreRenewingSame verdicts plan ks controls grabs values old new from place spare → IsNaming plan (sparse_at new place)
unfolding AreRenewingSame
same_kept verdicts plan ks controls grabs values old new from place spare there (earlier, can, so, same) = (so.kept place (omega (arith, there, so.many))).naming

-- a step of the renewal, whichever it is
pub same_next : (verdicts : Verdicts) (plan : PlanData) (ks : List ℕ) (controls : List Control) (grabs : Grabs) (values : Values) (old new after : List SparseFrame) (from place next : ℕ) (spare spared : Values) → from ≤ place → place < length old → next ≡ suc place
    → length spare ≡ length plan.controls
    → after ≡ cond (gives_inside plan ks (sparse_at new place)) (slice_set new place (renewed_sparse verdicts plan controls grabs (values_upto values new place) ks (sparse_at new place))) new
    → spared ≡ cond (gives_inside plan ks (sparse_at new place)) (with_reached_values plan (sparse_at new place) ks spare) spare
    → AreRenewingSame verdicts plan ks controls grabs values old new from place spare → AreRenewingSame verdicts plan ks controls grabs values old after from next spared
same_next verdicts plan ks controls grabs values old new after from place next spare spared begun there one wide made kept so =
    subst (λ (l : List SparseFrame). AreRenewingSame verdicts plan ks controls grabs values old l from next spared) (sym made)
    (subst (λ (v : Values). AreRenewingSame verdicts plan ks controls grabs values old (cond (gives_inside plan ks (sparse_at new place)) made_so new) from next v) (sym kept) (by (gives_inside plan ks (sparse_at new place)) refl))
  where
    made_so : List SparseFrame
    made_so = slice_set new place (renewed_sparse verdicts plan controls grabs (values_upto values new place) ks (sparse_at new place))

    by : (b : Bool) → gives_inside plan ks (sparse_at new place) ≡ b → AreRenewingSame verdicts plan ks controls grabs values old (cond b made_so new) from next (cond b (with_reached_values plan (sparse_at new place) ks spare) spare)
    by true h = same_there verdicts plan ks controls grabs values old new from place next spare begun there one wide so
    by false h = same_passed verdicts plan ks controls grabs values old new from place next spare begun there one h so

pub same_asked : (verdicts : Verdicts) (plan : PlanData) (ks : List ℕ) (controls : List Control) (grabs : Grabs) (values : Values) (old new : List SparseFrame) (from place most before after : ℕ) (spare : Values) → place < length old
    → AreRenewingSame verdicts plan ks controls grabs values old new from place spare → before + sum_by (λ f. touched_among plan f.asked ks) (drop place old) ≤ most → after ≤ before + touched_among plan (sparse_at new place).asked ks
    → after + sum_by (λ f. touched_among plan f.asked ks) (drop (place + 1) old) ≤ most
unfolding AreRenewingSame
same_asked verdicts plan ks controls grabs values old new from place most before after spare there (earlier, can, so, same) so_far more =
    omega (arith, so_far, more, sum_by-drop_more (λ (f : SparseFrame). touched_among plan f.asked ks) old place no_sparse_frame there, ap {B = ℕ} (λ (q : QueuedData). touched_among plan q.asked ks) (so.queued place))
