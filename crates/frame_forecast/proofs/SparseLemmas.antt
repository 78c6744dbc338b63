-- Frames that a change doesn't reach stay right, and what two moments that agree out of reach leave agrees there.
use Rattle.std.proofs.Common.{◌≡◌, ◌∙◌, ◌<◌, ◌≤◌, ◌-◌, ℕ, zero, suc, nat_lt, Bool, true, false, not, if◌then◌else◌, List, [], ◌∷◌, length, map, Option, None, Some, Result, Ok, Err, is_some, is_err, unwrap_or, slice_set, nat_eq, refl, sym, ap, subst, arith}
use Rattle.std.specs.List.{All, list_any, range_with_len}
use Rattle.std.proofs.lemmas.Bool.{true≢false, not-false, not-true, ltb-false, ltb-true}
use Rattle.std.proofs.lemmas.List.{ext_get_or, get_or_past, get_or-set_other}
use Rattle.std.proofs.lemmas.List.Elements.{filter_agree}
use Rattle.std.proofs.lemmas.List.FromFn.{get_or-map-range_with_len, length-map-range_with_len}
use Rattle.ctrl_types.specs.Values.{zero_value}
use Rattle.ctrl_types.specs.Pairs.{last_value}
use Rattle.ctrl_types.specs.declared.errno.Errno.{Errno}
use Rattle.ctrl_types.specs.declared.errno.Errno.TheVariants.{EBUSY}
use Rattle.ctrl_types.specs.declared.ids.Pair.{Pair}
use Rattle.ctrl_types.specs.declared.value.CtrlValue.{CtrlValue}
use Rattle.ctrl_calls.specs.Meanings.{Verdicts}
use Rattle.ctrl_settle.specs.Control.{Control}
use Rattle.range_followers.specs.declared.follower.Follower.{Follower}
use Rattle.range_followers.specs.Followed.{each_followed, is_followed_by}
use Rattle.range_followers.specs.Wanted.{follower_of}
use Rattle.range_followers.proofs.FollowedLemmas.{each_passes}
use Rattle.ctrl_handlers.specs.ClusterData.{ClusterData}
use Rattle.ctrl_handlers.specs.Plan.{PlanData, AreAmong, IsAmong, IsPlan, cluster_of, control_in, members, no_cluster}
use Rattle.ctrl_handlers.proofs.ClusterLemmas.{or_false, or_false_right}
use Rattle.ctrl_clusters.specs.ControlsData.{ControlsData}
use Rattle.ctrl_clusters.specs.Following.{AgreeOutside, IsClosed, followed, is_touched_in, laid_over, ranges_under, under_values}
use Rattle.ctrl_clusters.specs.Judging.{validated_row}
use Rattle.ctrl_clusters.specs.Overlay.{is_touched, names_grabbed, refused_clusters, row_after}
use Rattle.ctrl_clusters.specs.Rows.{AreControlsOf, Grabs, Values, is_grabbed, row_of, value_at}
use Rattle.ctrl_clusters.proofs.FollowingLemmas.{controls_under, found_follows, laid_under, length_laid, out_of_reach}
use Rattle.ctrl_clusters.proofs.OutsideLemmas.{all_among, laid_agree}
use Rattle.ctrl_clusters.proofs.OverlayLemmas.{each_of, separate}
use Rattle.ctrl_forecast.specs.declared.board.Forecast.{Forecast}
use Rattle.frame_forecast.specs.Forecasts.{forecast_over, forecasts}
use Rattle.frame_forecast.specs.Seen.{all_seen}
use Rattle.frame_forecast.specs.Sparse.{HasLinks, IsRightOver, SparseFrame, can_move, follows_touched, value_given, linked, no_sparse_frame, queued_sparse, sparse_at, values_upto}

-- the value of a control where links stand over values
pub linked_at : (frame : SparseFrame) (values : Values) (c : ℕ) → c < length values → value_at (linked frame values) c ≡ unwrap_or (value_given frame c) (value_at values c)
unfolding linked
linked_at frame values c lt = get_or-map-range_with_len (λ k. unwrap_or (value_given frame k) (value_at values k)) 0 (length values) c c zero_value lt (omega arith)

pub length_linked : (frame : SparseFrame) (values : Values) → length (linked frame values) ≡ length values
unfolding linked
length_linked frame values = length-map-range_with_len (λ k. unwrap_or (value_given frame k) (value_at values k)) 0 (length values)

pub none_of : (o : Option CtrlValue) → is_some o ≡ false → o ≡ None
none_of None h = refl
none_of (Some v) h = absurd (true≢false h)

-- what pairs can't move has no member of its cluster among them, and follows none whose cluster has
pub unmoved_cluster : (plan : PlanData) (pairs : List Pair) (c : ℕ) → can_move plan pairs c ≡ false → is_touched_in plan pairs (cluster_of plan c) ≡ false
unmoved_cluster plan pairs c still = or_false (is_touched_in plan pairs (cluster_of plan c)) (follows_touched plan pairs (follower_of plan.followers c)) still

pub unmoved_source : (plan : PlanData) (pairs : List Pair) (c : ℕ) (f : Follower) (s : ℕ) → can_move plan pairs c ≡ false → follower_of plan.followers c ≡ Some f → is_followed_by f s ≡ true
    → is_touched_in plan pairs (cluster_of plan s) ≡ false
unmoved_source plan pairs c f s still found follows =
    not-true (is_touched_in plan pairs (cluster_of plan s))
    (each_passes (λ k. not (is_touched_in plan pairs (cluster_of plan k))) f s
    (not-false (each_followed (λ k. not (is_touched_in plan pairs (cluster_of plan k))) f)
    (ap (follows_touched plan pairs) (sym found) ∙ or_false_right (is_touched_in plan pairs (cluster_of plan c)) (follows_touched plan pairs (follower_of plan.followers c)) still))
    follows)

-- a cluster with a member among the pairs of a frame that gives nothing inside a change has no member inside it
untouched_inside : (plan : PlanData) (inside : ℕ → Bool) (frame : SparseFrame) (k m : ℕ) → IsPlan plan → HasLinks plan frame → ((c : ℕ) → inside c ≡ true → c < length plan.controls → value_given frame c ≡ None)
    → k < length plan.clusters → is_touched frame.asked (members plan k) ≡ true → list_any (nat_eq m) (members plan k) ≡ true → inside m ≡ false
untouched_inside plan inside frame k m is has nothing within touched among = by (inside m) refl
  where
    there : m < length plan.controls
    there = each_of (length plan.controls) m (members plan k) (is.members_known k) among

    here : is_touched_in plan frame.asked (cluster_of plan m) ≡ true
    here = ap (is_touched_in plan frame.asked) (is.members_apart k m within among) ∙ touched

    by : (b : Bool) → inside m ≡ b → b ≡ false
    by false out = refl
    by true in_it =
        absurd (true≢false (sym here ∙ unmoved_cluster plan frame.asked m (sym (has.there m there) ∙ ap is_some (nothing m in_it there))))

-- pairs that touch a cluster outside a change are refused there as before
same_refused : (verdicts : Verdicts) (plan : PlanData) (inside : ℕ → Bool) (d e : ControlsData) (frame : SparseFrame) (k : ℕ)
    → IsPlan plan → HasLinks plan frame → ((c : ℕ) → inside c ≡ true → c < length plan.controls → value_given frame c ≡ None) → AgreeOutside plan inside d e
    → is_err (row_after verdicts plan e.ranges e.values e.grabs frame.asked k) ≡ is_err (row_after verdicts plan d.ranges d.values d.grabs frame.asked k)
same_refused verdicts plan inside d e frame k is has nothing agree = by (is_touched frame.asked (members plan k)) refl (nat_lt k (length plan.clusters)) refl
  where
    result : ControlsData → Bool → Result (List CtrlValue) Errno
    result x b =
        if not b then Ok (row_of x.values (members plan k)) else if names_grabbed x.grabs frame.asked (members plan k) then Err EBUSY
        else validated_row verdicts plan x.ranges x.values frame.asked k

    alike : k < length plan.clusters → is_touched frame.asked (members plan k) ≡ true
        → All (λ m. (control_in e.ranges m ≡ control_in d.ranges m) × (value_at e.values m ≡ value_at d.values m) × (is_grabbed e.grabs m ≡ is_grabbed d.grabs m) × (last_value frame.asked m ≡ last_value frame.asked m)) (members plan k)
    alike within touched =
        all_among (λ m. (control_in e.ranges m ≡ control_in d.ranges m) × (value_at e.values m ≡ value_at d.values m) × (is_grabbed e.grabs m ≡ is_grabbed d.grabs m) × (last_value frame.asked m ≡ last_value frame.asked m)) (members plan k)
        (λ m among.
        let out : inside m ≡ false = untouched_inside plan inside frame k m is has nothing within touched among in
        let there : m < length plan.controls = each_of (length plan.controls) m (members plan k) (is.members_known k) among in
        (sym (agree.ranges m out there), sym (agree.values m out there), sym (agree.grabs m out there), refl))

    by : (b : Bool) → is_touched frame.asked (members plan k) ≡ b → (there : Bool) → nat_lt k (length plan.clusters) ≡ there
        → is_err (row_after verdicts plan e.ranges e.values e.grabs frame.asked k) ≡ is_err (row_after verdicts plan d.ranges d.values d.grabs frame.asked k)
    by false untouched there lt = ap (λ (b : Bool). is_err (result e b)) untouched ∙ sym (ap (λ (b : Bool). is_err (result d b)) untouched)
    by true touched true lt =
        ap is_err (separate verdicts plan e.ranges d.ranges e.values d.values e.grabs d.grabs frame.asked frame.asked k (alike (ltb-true k (length plan.clusters) lt) touched))
    by true touched false lt =
        absurd (true≢false (sym touched ∙ ap (λ (c : ClusterData). is_touched frame.asked c.members) (get_or_past plan.clusters k no_cluster (ltb-false k (length plan.clusters) lt))))

-- A frame that gives nothing inside a change stays right over the values of after it.
pub still_right : (verdicts : Verdicts) (plan : PlanData) (inside : ℕ → Bool) (first second : List Control) (grabs held : Grabs) (old new : Values) (frame : SparseFrame)
    → IsPlan plan → IsClosed plan inside → AreControlsOf plan first → AreControlsOf plan second → length old ≡ length plan.controls → length new ≡ length plan.controls
    → AgreeOutside plan inside (under_values plan first grabs old) (under_values plan second held new)
    → followed plan (under_values plan second held new) ≡ under_values plan second held new
    → HasLinks plan frame → ((c : ℕ) → inside c ≡ true → c < length plan.controls → value_given frame c ≡ None)
    → IsRightOver verdicts plan first grabs old frame → IsRightOver verdicts plan second held new frame
unfolding refused_clusters
still_right verdicts plan inside first second grabs held old new frame is closed are also long longer agree settled has nothing right = record {
  values_right = ext_get_or zero_value _ _ (length_linked frame new ∙ sym laid_long) at;
  refused_right =
      right.refused_right
      ∙ sym (filter_agree (λ k. is_err (row_after verdicts plan (ranges_under plan.followers second new) new held frame.asked k))
      (λ k. is_err (row_after verdicts plan (ranges_under plan.followers first old) old grabs frame.asked k))
      (λ k. same_refused verdicts plan inside (under_values plan first grabs old) (under_values plan second held new) frame k is has nothing agree)
      (range_with_len 0 (length plan.clusters)));
}
  where
    laid : Values
    laid = (laid_over verdicts plan (under_values plan second held new) frame.asked).values

    laid_long : length laid ≡ length new
    laid_long = length_laid verdicts plan second held new frame.asked

    agreed : AgreeOutside plan inside (laid_over verdicts plan (under_values plan first grabs old) frame.asked) (laid_over verdicts plan (under_values plan second held new) frame.asked)
    agreed = laid_agree verdicts plan inside (under_values plan first grabs old) (under_values plan second held new) frame.asked is closed agree (controls_under plan first old are) (controls_under plan second new also) long longer

    by : (c : ℕ) → c < length plan.controls → (b : Bool) → inside c ≡ b → value_at (linked frame new) c ≡ value_at laid c
    by c lt true in_it =
        let none = nothing c in_it lt in
        let unmoved : can_move plan frame.asked c ≡ false = sym (has.there c lt) ∙ ap is_some none in
        let stayed = out_of_reach verdicts plan (under_values plan second held new) frame.asked c is (controls_under plan second new also) longer settled lt (unmoved_cluster plan frame.asked c unmoved)
        (λ f s found follows. unmoved_source plan frame.asked c f s unmoved found follows) in
        linked_at frame new c (omega (arith, lt, longer)) ∙ ap (λ (o : Option CtrlValue). unwrap_or o (value_at new c)) none ∙ sym stayed.value
    by c lt false out =
        linked_at frame new c (omega (arith, lt, longer))
        ∙ ap (unwrap_or (value_given frame c)) (sym (agree.values c out lt))
        ∙ sym (linked_at frame old c (omega (arith, lt, long)))
        ∙ ap (λ (v : Values). value_at v c) right.values_right
        ∙ agreed.values c out lt

    at : (c : ℕ) → c < length (linked frame new) → value_at (linked frame new) c ≡ value_at laid c
    at c lt = by c (omega (arith, lt, length_linked frame new, longer)) (inside c) refl

-- What right frames leave agrees out of reach, too, where what stood before them does and both ask for the same.
pub agree_next : (verdicts : Verdicts) (plan : PlanData) (inside : ℕ → Bool) (first second : List Control) (grabs held : Grabs) (old new : Values) (frame other : SparseFrame)
    → IsPlan plan → IsClosed plan inside → AreControlsOf plan first → AreControlsOf plan second → length old ≡ length plan.controls → length new ≡ length plan.controls
    → AgreeOutside plan inside (under_values plan first grabs old) (under_values plan second held new) → frame.asked ≡ other.asked
    → IsRightOver verdicts plan first grabs old frame → IsRightOver verdicts plan second held new other
    → AgreeOutside plan inside (under_values plan first grabs (linked frame old)) (under_values plan second held (linked other new))
agree_next verdicts plan inside first second grabs held old new frame other is closed are also long longer agree same right then_right =
    subst (λ (x : ControlsData). AgreeOutside plan inside x (under_values plan second held (linked other new))) (left ∙ ap (under_values plan first grabs) (sym right.values_right))
    (subst (λ (x : ControlsData). AgreeOutside plan inside (laid_over verdicts plan (under_values plan first grabs old) frame.asked) x) (right_hand ∙ ap (under_values plan second held) (sym then_right.values_right)) agreed)
  where
    agreed : AgreeOutside plan inside (laid_over verdicts plan (under_values plan first grabs old) frame.asked) (laid_over verdicts plan (under_values plan second held new) other.asked)
    agreed =
        subst (λ (pairs : List Pair). AgreeOutside plan inside (laid_over verdicts plan (under_values plan first grabs old) frame.asked) (laid_over verdicts plan (under_values plan second held new) pairs)) same
        (laid_agree verdicts plan inside (under_values plan first grabs old) (under_values plan second held new) frame.asked is closed agree (controls_under plan first old are) (controls_under plan second new also) long longer)

    left : laid_over verdicts plan (under_values plan first grabs old) frame.asked ≡ under_values plan first grabs (laid_over verdicts plan (under_values plan first grabs old) frame.asked).values
    left = laid_under verdicts plan first grabs old frame.asked is are long

    right_hand : laid_over verdicts plan (under_values plan second held new) other.asked ≡ under_values plan second held (laid_over verdicts plan (under_values plan second held new) other.asked).values
    right_hand = laid_under verdicts plan second held new other.asked is also longer

-- the values before a frame that isn't the first are those before it among the others, over what the first leaves
pub upto_later : (values : Values) (f : SparseFrame) (fs : List SparseFrame) (i : ℕ) → values_upto values (f ∷ fs) (suc i) ≡ values_upto (linked f values) fs i
upto_later values f fs zero = refl
upto_later values f fs (suc i) = ap (linked (sparse_at fs i)) (upto_later values f fs i)

-- Right frames are seen as what they will have.
pub right_seen : (verdicts : Verdicts) (plan : PlanData) (controls : List Control) (grabs : Grabs) (values : Values) (frames : List SparseFrame) → IsPlan plan → AreControlsOf plan controls → length values ≡ length plan.controls
    → ((i : ℕ) → i < length frames → IsRightOver verdicts plan controls grabs (values_upto values frames i) (sparse_at frames i))
    → all_seen values frames ≡ forecasts verdicts plan (under_values plan controls grabs values) (map queued_sparse frames)
unfolding forecasts
right_seen verdicts plan controls grabs values [] is are long each = refl
right_seen verdicts plan controls grabs values (f ∷ fs) is are long each =
    let right = each 0 (omega arith) in
    let rest =
    right_seen verdicts plan controls grabs (linked f values) fs is are (length_linked f values ∙ long)
    (λ i lt. subst (λ (v : Values). IsRightOver verdicts plan controls grabs v (sparse_at fs i)) (upto_later values f fs i) (each (suc i) (omega (arith, lt)))) in
    ap (λ (v : Values). record { request = f.request; buffer = f.buffer; values = v; refused = f.refused } ∷ all_seen (linked f values) fs) right.values_right
    ∙ ap (λ (r : List ℕ). record { request = f.request; buffer = f.buffer; values = (laid_over verdicts plan (under_values plan controls grabs values) f.asked).values; refused = r } ∷ all_seen (linked f values) fs) right.refused_right
    ∙ ap (λ (l : List Forecast). forecast_over verdicts plan (under_values plan controls grabs values) (queued_sparse f) ∷ l)
    (rest ∙ ap (λ (c : ControlsData). forecasts verdicts plan c (map queued_sparse fs)) (ap (under_values plan controls grabs) right.values_right ∙ sym (laid_under verdicts plan controls grabs values f.asked is are long)))

-- a frame that takes another's place leaves what stood before it
pub upto_set : (values : Values) (frames : List SparseFrame) (p : ℕ) (f : SparseFrame) (i : ℕ) → i ≤ p → values_upto values (slice_set frames p f) i ≡ values_upto values frames i
upto_set values frames p f zero le = refl
upto_set values frames p f (suc i) le =
    ap (λ (x : SparseFrame). linked x (values_upto values (slice_set frames p f) i)) (get_or-set_other frames p i f no_sparse_frame (omega (arith, le)))
    ∙ ap (linked (sparse_at frames i)) (upto_set values frames p f i (omega (arith, le)))

pub length_upto : (values : Values) (frames : List SparseFrame) (i : ℕ) → length (values_upto values frames i) ≡ length values
length_upto values frames zero = refl
length_upto values frames (suc i) = length_linked (sparse_at frames i) (values_upto values frames i) ∙ length_upto values frames i

-- the value before a place is the one that the frame before it gives, or the one of before that
pub upto_before : (values : Values) (frames : List SparseFrame) (i c : ℕ) → 0 < i → c < length values
    → value_at (values_upto values frames i) c ≡ unwrap_or (value_given (sparse_at frames (i - 1)) c) (value_at (values_upto values frames (i - 1)) c)
upto_before values frames i c some lt =
    subst (λ (j : ℕ). value_at (values_upto values frames j) c ≡ unwrap_or (value_given (sparse_at frames (i - 1)) c) (value_at (values_upto values frames (i - 1)) c)) later
    (linked_at (sparse_at frames (i - 1)) (values_upto values frames (i - 1)) c (omega (arith, lt, length_upto values frames (i - 1))))
  where
    later : suc (i - 1) ≡ i
    later = omega (arith, some)

pub value_here : (values : Values) (frames : List SparseFrame) (i c : ℕ) (v : CtrlValue) → 0 < i → c < length values → value_given (sparse_at frames (i - 1)) c ≡ Some v → value_at (values_upto values frames i) c ≡ v
value_here values frames i c v some lt given = upto_before values frames i c some lt ∙ ap (λ (o : Option CtrlValue). unwrap_or o (value_at (values_upto values frames (i - 1)) c)) given

pub value_passed : (values : Values) (frames : List SparseFrame) (i c : ℕ) → 0 < i → c < length values → value_given (sparse_at frames (i - 1)) c ≡ None → value_at (values_upto values frames i) c ≡ value_at (values_upto values frames (i - 1)) c
value_passed values frames i c some lt none = upto_before values frames i c some lt ∙ ap (λ (o : Option CtrlValue). unwrap_or o (value_at (values_upto values frames (i - 1)) c)) none

-- what a control of some followers follows is among the controls
pub sources_among : (count : ℕ) (followers : List Follower) (c : ℕ) (f : Follower) → AreAmong count followers → follower_of followers c ≡ Some f → each_followed (λ s. nat_lt s count) f ≡ true
sources_among count followers c f are found = (found_follows (IsAmong count) followers c f are found).1.1
