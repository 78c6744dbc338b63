-- A frame in which what a change reaches is renewed is right over what stands before it.
use Rattle.std.proofs.Common.{◌≡◌, ◌≢◌, ◌∙◌, ◌<◌, ◌==◌, ◌⊎◌, ◌||◌, ℕ, nat_eq, Bool, true, false, if◌then◌else◌, cond, List, [], ◌∷◌, length, Option, None, Some, is_err, is_some, unwrap_or, inl, inr, refl, sym, ap}
use Rattle.std.specs.List.{All, list_any, filter, range_with_len}
use Rattle.std.specs.Option.{option_map}
use Rattle.std.proofs.lemmas.Bool.{eq-eqb, eqb-true, true≢false}
use Rattle.std.proofs.lemmas.Bool.Decides.{eqb_tells}
use Rattle.std.proofs.lemmas.List.Elements.{All-head, All-tail}
use Rattle.ctrl_types.specs.declared.ids.Pair.{Pair}
use Rattle.ctrl_types.specs.declared.value.CtrlValue.{CtrlValue}
use Rattle.ctrl_types.specs.Pairs.{last_value}
use Rattle.ctrl_types.specs.Values.{zero_value}
use Rattle.ctrl_calls.specs.Meanings.{Verdicts}
use Rattle.ctrl_settle.specs.Control.{Control}
use Rattle.ctrl_settle.specs.Settle.{settled_anew}
use Rattle.range_followers.specs.Wanted.{follower_of}
use Rattle.ctrl_handlers.specs.Plan.{PlanData, IsFinished, cluster_of, control_in, members, names_twice}
use Rattle.ctrl_clusters.specs.ControlsData.{ControlsData, is_in_one_of}
use Rattle.ctrl_clusters.specs.Following.{AgreeOutside, IsClosed, followed, inside_of, laid_over, range_under, ranges_under, under_values}
use Rattle.ctrl_clusters.specs.Overlay.{overlay, refused_clusters, row_after}
use Rattle.ctrl_clusters.specs.Rows.{AreControlsOf, Grabs, Values, is_grabbed, row_of, value_at}
use Rattle.ctrl_clusters.proofs.OutsideLemmas.{all_among}
use Rattle.ctrl_clusters.proofs.OverlayLemmas.{each_of, separate}
use Rattle.ctrl_clusters.specs.Rising.{AreRisingBelow}
use Rattle.ctrl_forecast.specs.Forecasts.{QueuedData}
use Rattle.frame_forecast.specs.Sparse.{row_or, HasLinks, IsNaming, IsRightOver, SparseFrame, can_move, followed_clusters, followed_given, followed_members, judged_all, judged_frame, linked, queued_sparse, renewed_sparse, value_given, with_given, with_row_given}
use Rattle.frame_forecast.proofs.FollowedValues.{all_followed, left_value}
use Rattle.frame_forecast.proofs.JudgedLemmas.{naming_next}
use Rattle.frame_forecast.proofs.JudgedValues.{all_judged, judged_asked, paired_judged}
use Rattle.frame_forecast.proofs.PlaceLemmas.{paired_next}
use Rattle.frame_forecast.specs.Kept.{IsPaired}
use Rattle.ctrl_clusters.proofs.RisingLemmas.{marked_among}
use Rattle.frame_forecast.proofs.RenewedLemmas.{IsRenewing, judged_followed, judged_value, laid_first, renewed_right}
use Rattle.ctrl_clusters.proofs.RisingLemmas.{among_passing, passing_same}

-- what a frame asks for stays
all_asked : (verdicts : Verdicts) (plan : PlanData) (controls : List Control) (grabs : Grabs) (base : Values) (ks : List ℕ) (frame : SparseFrame) → (judged_all verdicts plan controls grabs base ks frame).asked ≡ frame.asked
all_asked verdicts plan controls grabs base [] frame = refl
all_asked verdicts plan controls grabs base (k ∷ ks) frame = all_asked verdicts plan controls grabs base ks (judged_frame verdicts plan controls grabs base k frame) ∙ judged_asked verdicts plan controls grabs base frame k

pub all_paired : (verdicts : Verdicts) (plan : PlanData) (controls : List Control) (grabs : Grabs) (base : Values) (ks : List ℕ) (frame : SparseFrame) → IsPaired frame → IsPaired (judged_all verdicts plan controls grabs base ks frame)
all_paired verdicts plan controls grabs base [] frame is = is
all_paired verdicts plan controls grabs base (k ∷ ks) frame is = all_paired verdicts plan controls grabs base ks (judged_frame verdicts plan controls grabs base k frame) (paired_judged verdicts plan controls grabs base frame k is)

-- settling leaves what a frame asks for and refuses
settled_asked : (plan : PlanData) (controls : List Control) (mid : Values) (c : ℕ) (frame : SparseFrame) → (followed_given plan controls mid c frame).asked ≡ frame.asked
settled_asked plan controls mid c frame = by (is_some (follower_of plan.followers c))
  where
    by : (b : Bool) → (if b then with_given frame c (settled_anew (range_under plan.followers controls mid c) (unwrap_or (value_given frame c) zero_value)) else frame).asked ≡ frame.asked
    by true = refl
    by false = refl

settled_refused : (plan : PlanData) (controls : List Control) (mid : Values) (c : ℕ) (frame : SparseFrame) → (followed_given plan controls mid c frame).refused ≡ frame.refused
settled_refused plan controls mid c frame = by (is_some (follower_of plan.followers c))
  where
    by : (b : Bool) → (if b then with_given frame c (settled_anew (range_under plan.followers controls mid c) (unwrap_or (value_given frame c) zero_value)) else frame).refused ≡ frame.refused
    by true = refl
    by false = refl

members_asked : (plan : PlanData) (controls : List Control) (mid : Values) (cs : List ℕ) (frame : SparseFrame) → (followed_members plan controls mid cs frame).asked ≡ frame.asked
members_asked plan controls mid [] frame = refl
members_asked plan controls mid (c ∷ cs) frame = members_asked plan controls mid cs (followed_given plan controls mid c frame) ∙ settled_asked plan controls mid c frame

members_refused : (plan : PlanData) (controls : List Control) (mid : Values) (cs : List ℕ) (frame : SparseFrame) → (followed_members plan controls mid cs frame).refused ≡ frame.refused
members_refused plan controls mid [] frame = refl
members_refused plan controls mid (c ∷ cs) frame = members_refused plan controls mid cs (followed_given plan controls mid c frame) ∙ settled_refused plan controls mid c frame

clusters_asked : (plan : PlanData) (controls : List Control) (mid : Values) (ks : List ℕ) (frame : SparseFrame) → (followed_clusters plan controls mid ks frame).asked ≡ frame.asked
clusters_asked plan controls mid [] frame = refl
clusters_asked plan controls mid (k ∷ ks) frame = clusters_asked plan controls mid ks (followed_members plan controls mid (members plan k) frame) ∙ members_asked plan controls mid (members plan k) frame

pub clusters_refused : (plan : PlanData) (controls : List Control) (mid : Values) (ks : List ℕ) (frame : SparseFrame) → (followed_clusters plan controls mid ks frame).refused ≡ frame.refused
clusters_refused plan controls mid [] frame = refl
clusters_refused plan controls mid (k ∷ ks) frame = clusters_refused plan controls mid ks (followed_members plan controls mid (members plan k) frame) ∙ members_refused plan controls mid (members plan k) frame

-- what a control that gives is given it gives still
some_if : (b : Bool) (v : CtrlValue → CtrlValue) (o : Option CtrlValue) → is_some (if b then option_map v o else o) ≡ is_some o
some_if true v None = refl
some_if true v (Some w) = refl
some_if false v o = refl

pub own_cluster : (plan : PlanData) (c : ℕ) (P : Type 0) → IsFinished plan → c < length plan.controls → ((k : ℕ) → cluster_of plan c ≡ Some k → P) → P
own_cluster plan c P is lt then_so = by (cluster_of plan c) refl
  where
    by : (o : Option ℕ) → cluster_of plan c ≡ o → P
    by None none = absurd (true≢false (sym (is.clustered c lt) ∙ ap is_some none))
    by (Some k) in_it = then_so k in_it

-- while clusters are judged, and once they follow, the frame is being renewed
pub judging_renews : (verdicts : Verdicts) (plan : PlanData) (controls : List Control) (grabs : Grabs) (base : Values) (ks : List ℕ) (frame : SparseFrame) → IsFinished plan → length base ≡ length plan.controls → IsPaired frame → HasLinks plan frame
    → IsRenewing plan (inside_of plan ks) frame (judged_all verdicts plan controls grabs base ks frame)
judging_renews verdicts plan controls grabs base ks frame is long paired has = record {
  asked = all_asked verdicts plan controls grabs base ks frame;
  has = record {
    there =
        λ c lt.
        own_cluster plan c _ is lt
        (λ k in_it.
        ap is_some (all_judged verdicts plan controls grabs base frame ks k c is.is_plan long lt paired in_it)
        ∙ some_if (list_any (nat_eq k) ks) (λ w. value_at (overlay verdicts plan controls base grabs frame.asked) c) (value_given frame c)
        ∙ has.there c lt
        ∙ ap (λ (pairs : List Pair). can_move plan pairs c) (sym (all_asked verdicts plan controls grabs base ks frame)));
  };
  outside =
      λ c out lt.
      own_cluster plan c _ is lt
      (λ k in_it.
      all_judged verdicts plan controls grabs base frame ks k c is.is_plan long lt paired in_it
      ∙ ap (λ (b : Bool). if b then option_map (λ w. value_at (overlay verdicts plan controls base grabs frame.asked) c) (value_given frame c) else value_given frame c)
      (ap (is_in_one_of ks) (sym in_it) ∙ out));
}

pub renewal_renews : (verdicts : Verdicts) (plan : PlanData) (controls : List Control) (grabs : Grabs) (base : Values) (ks : List ℕ) (frame : SparseFrame) → IsFinished plan → length base ≡ length plan.controls → IsPaired frame → HasLinks plan frame
    → names_twice ks ≡ false → IsRenewing plan (inside_of plan ks) frame (renewed_sparse verdicts plan controls grabs base ks frame)
renewal_renews verdicts plan controls grabs base ks frame is long paired has once = record {
  asked = clusters_asked plan controls mid ks judged ∙ first.asked;
  has = record {
    there =
        λ c lt.
        own_cluster plan c _ is lt
        (λ k in_it.
        ap is_some (all_followed plan controls mid ks k c judged is.is_plan judged_pairs once in_it)
        ∙ some_if (list_any (nat_eq k) ks) (left_value plan controls mid c) (value_given judged c)
        ∙ first.has.there c lt
        ∙ ap (λ (pairs : List Pair). can_move plan pairs c) (sym (clusters_asked plan controls mid ks judged)));
  };
  outside =
      λ c out lt.
      own_cluster plan c _ is lt
      (λ k in_it.
      all_followed plan controls mid ks k c judged is.is_plan judged_pairs once in_it
      ∙ ap (λ (b : Bool). if b then option_map (left_value plan controls mid c) (value_given judged c) else value_given judged c) (ap (is_in_one_of ks) (sym in_it) ∙ out)
      ∙ first.outside c out lt);
}
  where
    judged : SparseFrame
    judged = judged_all verdicts plan (ranges_under plan.followers controls base) grabs base ks frame

    mid : Values
    mid = linked judged base

    first : IsRenewing plan (inside_of plan ks) frame judged
    first = judging_renews verdicts plan (ranges_under plan.followers controls base) grabs base ks frame is long paired has

    judged_pairs : IsPaired judged
    judged_pairs = all_paired verdicts plan (ranges_under plan.followers controls base) grabs base ks frame paired

-- So what it gives inside a change is what its pairs leave, followed: it is right over the values.
pub renewal_right : (verdicts : Verdicts) (plan : PlanData) (ks : List ℕ) (first second : List Control) (grabs held : Grabs) (old new : Values) (frame : SparseFrame)
    → IsFinished plan → IsClosed plan (inside_of plan ks) → AreControlsOf plan first → AreControlsOf plan second → length old ≡ length plan.controls → length new ≡ length plan.controls
    → AgreeOutside plan (inside_of plan ks) (under_values plan first grabs old) (under_values plan second held new)
    → followed plan (under_values plan second held new) ≡ under_values plan second held new
    → IsPaired frame → HasLinks plan frame → names_twice ks ≡ false → IsRightOver verdicts plan first grabs old frame
    → linked (renewed_sparse verdicts plan second held new ks frame) new
    ≡ (laid_over verdicts plan (under_values plan second held new) (renewed_sparse verdicts plan second held new ks frame).asked).values
renewal_right verdicts plan ks first second grabs held old new frame is closed are also long longer agree settled paired has once right =
    renewed_right verdicts plan (inside_of plan ks) first second grabs held old new frame (renewed_sparse verdicts plan second held new ks frame) is.is_plan closed are also long longer agree settled right
    (renewal_renews verdicts plan second held new ks frame is longer paired has once) given
  where
    judged : SparseFrame
    judged = judged_all verdicts plan (ranges_under plan.followers second new) held new ks frame

    mid : Values
    mid = linked judged new

    judged_pairs : IsPaired judged
    judged_pairs = all_paired verdicts plan (ranges_under plan.followers second new) held new ks frame paired

    told : (o : Option CtrlValue) (v : CtrlValue) → is_some o ≡ true → option_map (λ w. v) o ≡ Some v
    told None v h = absurd (true≢false (sym h))
    told (Some w) v h = refl

    here : (c : ℕ) → inside_of plan ks c ≡ true → c < length plan.controls → can_move plan frame.asked c ≡ true → value_given judged c ≡ Some (value_at (laid_first verdicts plan second held new frame.asked) c)
    here c in_it lt moves =
        own_cluster plan c _ is lt
        (λ k own.
        all_judged verdicts plan (ranges_under plan.followers second new) held new frame ks k c is.is_plan longer lt paired own
        ∙ ap (λ (b : Bool). if b then option_map (λ w. value_at (laid_first verdicts plan second held new frame.asked) c) (value_given frame c) else value_given frame c) (ap (is_in_one_of ks) (sym own) ∙ in_it)
        ∙ told (value_given frame c) (value_at (laid_first verdicts plan second held new frame.asked) c) (has.there c lt ∙ moves))

    given : (c : ℕ) → inside_of plan ks c ≡ true → c < length plan.controls → can_move plan frame.asked c ≡ true
        → value_given (renewed_sparse verdicts plan second held new ks frame) c ≡ Some (value_at (laid_over verdicts plan (under_values plan second held new) frame.asked).values c)
    given c in_it lt moves =
        own_cluster plan c _ is lt
        (λ k own.
        all_followed plan second mid ks k c judged is.is_plan judged_pairs once own
        ∙ ap (λ (b : Bool). if b then option_map (left_value plan second mid c) (value_given judged c) else value_given judged c) (ap (is_in_one_of ks) (sym own) ∙ in_it)
        ∙ ap (option_map (left_value plan second mid c)) (here c in_it lt moves)
        ∙ ap (λ (v : CtrlValue). Some v)
        (sym (judged_followed verdicts plan second held new mid frame.asked c is.is_plan also longer lt
        (judged_value verdicts plan (inside_of plan ks) first second grabs held old new frame judged is.is_plan closed long longer agree right
        (judging_renews verdicts plan (ranges_under plan.followers second new) held new ks frame is longer paired has) here))))

-- a list that rises is told by what is in it
pub rising_is : (n : ℕ) (xs : List ℕ) (p : ℕ → Bool) → AreRisingBelow n xs → ((k : ℕ) → k < n → list_any (nat_eq k) xs ≡ p k) → xs ≡ filter p (range_with_len 0 n)
rising_is n xs p rising same = rising.1 ∙ passing_same rising.0 p n (λ k lt. sym (ap (list_any (nat_eq k)) rising.1 ∙ among_passing rising.0 n k lt) ∙ same k lt)

pub all_naming : (verdicts : Verdicts) (plan : PlanData) (controls : List Control) (grabs : Grabs) (base : Values) (ks : List ℕ) (frame : SparseFrame) → length base ≡ length plan.controls → All (λ k. k < length plan.clusters) ks → IsNaming plan frame
    → IsNaming plan (judged_all verdicts plan controls grabs base ks frame)
all_naming verdicts plan controls grabs base [] frame long known is = is
all_naming verdicts plan controls grabs base (k ∷ ks) frame long known is =
    all_naming verdicts plan controls grabs base ks (judged_frame verdicts plan controls grabs base k frame) long (All-tail (λ j. j < length plan.clusters) k ks known)
    (naming_next verdicts plan controls grabs base k frame long is (All-head (λ j. j < length plan.clusters) k ks known))

-- a cluster is refused where it is judged so, and one that isn't judged as it was
pub refused_among : (verdicts : Verdicts) (plan : PlanData) (controls : List Control) (grabs : Grabs) (base : Values) (ks : List ℕ) (frame : SparseFrame) (j : ℕ) → length base ≡ length plan.controls → All (λ k. k < length plan.clusters) ks → IsNaming plan frame
    → j < length plan.clusters
    → list_any (nat_eq j) (judged_all verdicts plan controls grabs base ks frame).refused ≡ (if list_any (nat_eq j) ks then is_err (row_after verdicts plan controls base grabs frame.asked j) else list_any (nat_eq j) frame.refused)
refused_among verdicts plan controls grabs base [] frame j long known is lt = refl
refused_among verdicts plan controls grabs base (k ∷ ks) frame j long known is lt =
    refused_among verdicts plan controls grabs base ks next j long (All-tail (λ i. i < length plan.clusters) k ks known) (naming_next verdicts plan controls grabs base k frame long is there) lt
    ∙ ap (λ (pairs : List Pair). if list_any (nat_eq j) ks then is_err (row_after verdicts plan controls base grabs pairs j) else list_any (nat_eq j) next.refused) (judged_asked verdicts plan controls grabs base frame k)
    ∙ ap (λ (b : Bool). if list_any (nat_eq j) ks then is_err (row_after verdicts plan controls base grabs frame.asked j) else b) (marked_among (length plan.clusters) k j (is_err (row_after verdicts plan controls base grabs frame.asked k)) frame.refused is.rising there lt)
    ∙ by (eqb_tells k j)
  where
    next : SparseFrame
    next = judged_frame verdicts plan controls grabs base k frame

    there : k < length plan.clusters
    there = All-head (λ i. i < length plan.clusters) k ks known

    same_twice : (b r : Bool) → (if b then r else r) ≡ r
    same_twice true r = refl
    same_twice false r = refl

    by : ((k == j) ≡ true × (k ≡ j)) ⊎ ((k == j) ≡ false × (k ≢ j))
        → (if list_any (nat_eq j) ks then is_err (row_after verdicts plan controls base grabs frame.asked j) else cond (nat_eq k j) (is_err (row_after verdicts plan controls base grabs frame.asked k)) (list_any (nat_eq j) frame.refused))
        ≡ (if (j == k) || list_any (nat_eq j) ks then is_err (row_after verdicts plan controls base grabs frame.asked j) else list_any (nat_eq j) frame.refused)
    by (inl same) =
        ap (λ (b : Bool). if list_any (nat_eq j) ks then is_err (row_after verdicts plan controls base grabs frame.asked j) else cond b (is_err (row_after verdicts plan controls base grabs frame.asked k)) (list_any (nat_eq j) frame.refused)) same.0
        ∙ ap (λ (i : ℕ). if list_any (nat_eq j) ks then is_err (row_after verdicts plan controls base grabs frame.asked j) else is_err (row_after verdicts plan controls base grabs frame.asked i)) same.1
        ∙ same_twice (list_any (nat_eq j) ks) (is_err (row_after verdicts plan controls base grabs frame.asked j))
        ∙ ap (λ (b : Bool). if b || list_any (nat_eq j) ks then is_err (row_after verdicts plan controls base grabs frame.asked j) else list_any (nat_eq j) frame.refused) (sym (eq-eqb j k (sym same.1)))
    by (inr other) =
        ap (λ (b : Bool). if list_any (nat_eq j) ks then is_err (row_after verdicts plan controls base grabs frame.asked j) else cond b (is_err (row_after verdicts plan controls base grabs frame.asked k)) (list_any (nat_eq j) frame.refused)) other.0
        ∙ ap (λ (b : Bool). if b || list_any (nat_eq j) ks then is_err (row_after verdicts plan controls base grabs frame.asked j) else list_any (nat_eq j) frame.refused) (sym (apart (j == k) refl))
      where
        apart : (b : Bool) → (j == k) ≡ b → b ≡ false
        apart false h = refl
        apart true h = absurd (other.1 (sym (eqb-true j k h)))

-- what a cluster outside a change is refused stays
outside_refused : (verdicts : Verdicts) (plan : PlanData) (ks : List ℕ) (d e : ControlsData) (pairs : List Pair) (j : ℕ) → IsFinished plan → AgreeOutside plan (inside_of plan ks) d e → j < length plan.clusters → list_any (nat_eq j) ks ≡ false
    → row_after verdicts plan d.ranges d.values d.grabs pairs j ≡ row_after verdicts plan e.ranges e.values e.grabs pairs j
outside_refused verdicts plan ks d e pairs j is agree lt out =
    separate verdicts plan d.ranges e.ranges d.values e.values d.grabs e.grabs pairs pairs j
    (all_among (λ m. (control_in d.ranges m ≡ control_in e.ranges m) × (value_at d.values m ≡ value_at e.values m) × (is_grabbed d.grabs m ≡ is_grabbed e.grabs m) × (last_value pairs m ≡ last_value pairs m)) (members plan j)
    (λ m among.
    let apart : inside_of plan ks m ≡ false = ap (is_in_one_of ks) (is.is_plan.members_apart j m lt among) ∙ out in
    let there : m < length plan.controls = each_of (length plan.controls) m (members plan j) (is.is_plan.members_known j) among in
    (agree.ranges m apart there, agree.values m apart there, agree.grabs m apart there, refl)))

-- So the refused clusters are those of its pairs, too, and the frame is right.
pub renewal_is_right : (verdicts : Verdicts) (plan : PlanData) (ks : List ℕ) (first second : List Control) (grabs held : Grabs) (old new : Values) (frame : SparseFrame)
    → IsFinished plan → IsClosed plan (inside_of plan ks) → AreControlsOf plan first → AreControlsOf plan second → length old ≡ length plan.controls → length new ≡ length plan.controls
    → AgreeOutside plan (inside_of plan ks) (under_values plan first grabs old) (under_values plan second held new)
    → followed plan (under_values plan second held new) ≡ under_values plan second held new
    → IsPaired frame → HasLinks plan frame → IsNaming plan frame → All (λ k. k < length plan.clusters) ks → names_twice ks ≡ false → IsRightOver verdicts plan first grabs old frame
    → IsRightOver verdicts plan second held new (renewed_sparse verdicts plan second held new ks frame)
unfolding refused_clusters
renewal_is_right verdicts plan ks first second grabs held old new frame is closed are also long longer agree settled paired has naming known once right = record {
  values_right = renewal_right verdicts plan ks first second grabs held old new frame is closed are also long longer agree settled paired has once right;
  refused_right =
      clusters_refused plan second (linked judged new) ks judged
      ∙ rising_is (length plan.clusters) judged.refused (λ k. is_err (row_after verdicts plan (ranges_under plan.followers second new) new held frame.asked k))
      (all_naming verdicts plan (ranges_under plan.followers second new) held new ks frame longer known naming).rising here
      ∙ ap (λ (pairs : List Pair). filter (λ k. is_err (row_after verdicts plan (ranges_under plan.followers second new) new held pairs k)) (range_with_len 0 (length plan.clusters)))
      (sym (renewal_renews verdicts plan second held new ks frame is longer paired has once).asked);
}
  where
    judged : SparseFrame
    judged = judged_all verdicts plan (ranges_under plan.followers second new) held new ks frame

    was : (j : ℕ) → j < length plan.clusters → list_any (nat_eq j) frame.refused ≡ is_err (row_after verdicts plan (ranges_under plan.followers first old) old grabs frame.asked j)
    was j lt =
        ap (list_any (nat_eq j)) right.refused_right
        ∙ among_passing (λ k. is_err (row_after verdicts plan (ranges_under plan.followers first old) old grabs frame.asked k)) (length plan.clusters) j lt

    here : (j : ℕ) → j < length plan.clusters → list_any (nat_eq j) judged.refused ≡ is_err (row_after verdicts plan (ranges_under plan.followers second new) new held frame.asked j)
    here j lt = refused_among verdicts plan (ranges_under plan.followers second new) held new ks frame j longer known naming lt ∙ by (list_any (nat_eq j) ks) refl
      where
        by : (b : Bool) → list_any (nat_eq j) ks ≡ b
            → (if b then is_err (row_after verdicts plan (ranges_under plan.followers second new) new held frame.asked j) else list_any (nat_eq j) frame.refused)
            ≡ is_err (row_after verdicts plan (ranges_under plan.followers second new) new held frame.asked j)
        by true in_it = refl
        by false out =
            was j lt
            ∙ ap is_err (outside_refused verdicts plan ks (under_values plan first grabs old) (under_values plan second held new) frame.asked j is agree lt out)

-- what holds of it whatever its values are holds still, and it is queued as it was
settled_named : (plan : PlanData) (controls : List Control) (mid : Values) (c : ℕ) (frame : SparseFrame) → IsNaming plan frame × IsPaired frame → IsNaming plan (followed_given plan controls mid c frame) × IsPaired (followed_given plan controls mid c frame)
settled_named plan controls mid c frame is = by (is_some (follower_of plan.followers c))
  where
    v : CtrlValue
    v = settled_anew (range_under plan.followers controls mid c) (unwrap_or (value_given frame c) zero_value)

    by : (b : Bool) → IsNaming plan (if b then with_given frame c v else frame) × IsPaired (if b then with_given frame c v else frame)
    by true = (record { rising = is.0.rising; names = is.0.names; touched = is.0.touched }, paired_next frame c v is.1)
    by false = is

members_named : (plan : PlanData) (controls : List Control) (mid : Values) (cs : List ℕ) (frame : SparseFrame) → IsNaming plan frame × IsPaired frame → IsNaming plan (followed_members plan controls mid cs frame) × IsPaired (followed_members plan controls mid cs frame)
members_named plan controls mid [] frame is = is
members_named plan controls mid (c ∷ cs) frame is = members_named plan controls mid cs (followed_given plan controls mid c frame) (settled_named plan controls mid c frame is)

clusters_named : (plan : PlanData) (controls : List Control) (mid : Values) (ks : List ℕ) (frame : SparseFrame) → IsNaming plan frame × IsPaired frame → IsNaming plan (followed_clusters plan controls mid ks frame) × IsPaired (followed_clusters plan controls mid ks frame)
clusters_named plan controls mid [] frame is = is
clusters_named plan controls mid (k ∷ ks) frame is = clusters_named plan controls mid ks (followed_members plan controls mid (members plan k) frame) (members_named plan controls mid (members plan k) frame is)

-- what it is queued as, and what it can change
abbrev queued_reached : SparseFrame → QueuedData × List ℕ
queued_reached frame = (queued_sparse frame, frame.reached)

settled_queued : (plan : PlanData) (controls : List Control) (mid : Values) (c : ℕ) (frame : SparseFrame) → queued_reached (followed_given plan controls mid c frame) ≡ queued_reached frame
settled_queued plan controls mid c frame = by (is_some (follower_of plan.followers c))
  where
    by : (b : Bool) → queued_reached (if b then with_given frame c (settled_anew (range_under plan.followers controls mid c) (unwrap_or (value_given frame c) zero_value)) else frame) ≡ queued_reached frame
    by true = refl
    by false = refl

members_queued : (plan : PlanData) (controls : List Control) (mid : Values) (cs : List ℕ) (frame : SparseFrame) → queued_reached (followed_members plan controls mid cs frame) ≡ queued_reached frame
members_queued plan controls mid [] frame = refl
members_queued plan controls mid (c ∷ cs) frame = members_queued plan controls mid cs (followed_given plan controls mid c frame) ∙ settled_queued plan controls mid c frame

clusters_queued : (plan : PlanData) (controls : List Control) (mid : Values) (ks : List ℕ) (frame : SparseFrame) → queued_reached (followed_clusters plan controls mid ks frame) ≡ queued_reached frame
clusters_queued plan controls mid [] frame = refl
clusters_queued plan controls mid (k ∷ ks) frame = clusters_queued plan controls mid ks (followed_members plan controls mid (members plan k) frame) ∙ members_queued plan controls mid (members plan k) frame

row_queued : (frame : SparseFrame) (cs : List ℕ) (row : List CtrlValue) → queued_reached (with_row_given frame cs row) ≡ queued_reached frame
row_queued frame [] row = refl
row_queued frame (c ∷ cs) [] = refl
row_queued frame (c ∷ cs) (v ∷ row) = row_queued (with_given frame c v) cs row

all_queued : (verdicts : Verdicts) (plan : PlanData) (controls : List Control) (grabs : Grabs) (base : Values) (ks : List ℕ) (frame : SparseFrame) → queued_reached (judged_all verdicts plan controls grabs base ks frame) ≡ queued_reached frame
all_queued verdicts plan controls grabs base [] frame = refl
all_queued verdicts plan controls grabs base (k ∷ ks) frame =
    all_queued verdicts plan controls grabs base ks (judged_frame verdicts plan controls grabs base k frame)
    ∙ row_queued frame (members plan k) (row_or (row_of base (members plan k)) (row_after verdicts plan controls base grabs frame.asked k))

pub renewal_kept : (verdicts : Verdicts) (plan : PlanData) (controls : List Control) (grabs : Grabs) (base : Values) (ks : List ℕ) (frame : SparseFrame) → IsFinished plan → length base ≡ length plan.controls → IsPaired frame → HasLinks plan frame
    → IsNaming plan frame → All (λ k. k < length plan.clusters) ks → names_twice ks ≡ false
    → HasLinks plan (renewed_sparse verdicts plan controls grabs base ks frame) × IsNaming plan (renewed_sparse verdicts plan controls grabs base ks frame) × IsPaired (renewed_sparse verdicts plan controls grabs base ks frame)
    × (queued_sparse (renewed_sparse verdicts plan controls grabs base ks frame) ≡ queued_sparse frame) × ((renewed_sparse verdicts plan controls grabs base ks frame).reached ≡ frame.reached)
renewal_kept verdicts plan controls grabs base ks frame is long paired has naming known once = (
  (renewal_renews verdicts plan controls grabs base ks frame is long paired has once).has,
  named.0,
  named.1,
  ap (λ (both : QueuedData × List ℕ). both.0) same,
  ap (λ (both : QueuedData × List ℕ). both.1) same,
)
  where
    judged : SparseFrame
    judged = judged_all verdicts plan (ranges_under plan.followers controls base) grabs base ks frame

    same : queued_reached (followed_clusters plan controls (linked judged base) ks judged) ≡ queued_reached frame
    same = clusters_queued plan controls (linked judged base) ks judged ∙ all_queued verdicts plan (ranges_under plan.followers controls base) grabs base ks frame

    named : IsNaming plan (followed_clusters plan controls (linked judged base) ks judged) × IsPaired (followed_clusters plan controls (linked judged base) ks judged)
    named =
        clusters_named plan controls (linked judged base) ks judged
        (all_naming verdicts plan (ranges_under plan.followers controls base) grabs base ks frame long known naming, all_paired verdicts plan (ranges_under plan.followers controls base) grabs base ks frame paired)
