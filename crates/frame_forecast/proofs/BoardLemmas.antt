-- What a board keeps of queued frames: once one is queued behind the others, and once the first begins; and what is read off it.
use Rattle.std.proofs.Common.{◌≡◌, ◌≢◌, ◌∙◌, ◌<◌, ◌≤◌, ◌+◌, ◌-◌, ◌++◌, ◌==◌, ◌⊎◌, ◌||◌, ℕ, zero, suc, nat_eq, Bool, true, false, not, filter, get_or, List, drop, take, [], ◌∷◌, length, map, Option, None, Some, inl, inr, slice_get, slice_set, length-append, length-take-le, length-set, cond, set-set, get_or-set_same, refl, sym, ap, subst, arith}
use Rattle.std.specs.List.{All, list_any, position, position_from, range_with_len}
use Rattle.std.proofs.lemmas.Iterator.Adapters.{position_from-zero}
use Rattle.std.proofs.lemmas.Bool.{cases_lt, true≢false}
use Rattle.std.proofs.lemmas.Option.{get_or_from_slice_get, slice_get-get_or, slice_get_past, slice_get_within}
use Rattle.std.proofs.lemmas.Bool.Decides.{eqb_tells}
use Rattle.std.proofs.lemmas.List.{map-append, take-append-drop}
use Rattle.std.proofs.lemmas.List.Filters.{sum_by-filter_both}
use Rattle.std.proofs.Math.ListN.{get_or-append}
use Rattle.std.proofs.Math.Seq.{get_or-append_seam, set-append_seam}
use Rattle.ctrl_types.specs.declared.ids.Pair.{Pair}
use Rattle.ctrl_types.specs.declared.ids.RequestId.{RequestId}
use Rattle.ctrl_calls.specs.Meanings.{Verdicts}
use Rattle.ctrl_settle.specs.Control.{Control}
use Rattle.range_followers.specs.declared.follower.Follower.{Follower}
use Rattle.range_followers.specs.Followed.{each_followed, is_followed_by}
use Rattle.range_followers.specs.Wanted.{follower_of}
use Rattle.range_followers.proofs.FollowedLemmas.{each_from}
use Rattle.reach_table.specs.Reached.{is_reached}
use Rattle.ctrl_handlers.specs.Plan.{PlanData, IsFinished, cluster_of, cluster_table, links, members}
use Rattle.ctrl_handlers.proofs.ClusterLemmas.{cluster_of_within}
use Rattle.ctrl_clusters.specs.ControlsData.{ControlsData, as_one, is_in_one_of}
use Rattle.ctrl_clusters.specs.Following.{AreAtRest, IsReach, followed, inside_of, is_touched_in, laid_over, ranges_under, reached_clusters, under_values}
use Rattle.ctrl_clusters.specs.Overlay.{is_touched, overlay, refused_clusters}
use Rattle.ctrl_clusters.specs.Rows.{AreControlsOf, Grabs, Values}
use Rattle.ctrl_clusters.proofs.FollowingLemmas.{rested_under, under_anew}
use Rattle.ctrl_clusters.proofs.ReachedLemmas.{among_reach, reach_is}
use Rattle.ctrl_clusters.proofs.RisingLemmas.{among_passing}
use Rattle.ctrl_forecast.specs.Boards.{named_clusters}
use Rattle.ctrl_forecast.specs.Forecasts.{QueuedData}
use Rattle.ctrl_forecast.specs.Touched.{touched_count}
use Rattle.ctrl_forecast.specs.declared.board.Forecast.{Forecast}
use Rattle.ctrl_forecast.proofs.ReadyLemmas.{named_within}
use Rattle.frame_forecast.specs.Boards.{BoardData, IsBoard, IsRoomFor, queued_in}
use Rattle.frame_forecast.specs.Forecasts.{forecasts}
use Rattle.frame_forecast.specs.Kept.{IsKeptSparse, IsPaired}
use Rattle.frame_forecast.specs.Seen.{all_seen}
use Rattle.frame_forecast.specs.Sparse.{HasLinks, IsNaming, IsRightOver, SparseFrame, can_move, follows_touched, linked, no_sparse_frame, queued_sparse, renewed_sparse, sparse_at, touched_among, values_upto, worked_out}
use Rattle.frame_forecast.proofs.PushedFrames.{HoldsMoved, moved_links, pushed_is_right}
use Rattle.frame_forecast.proofs.RenewalLemmas.{right_settled}
use Rattle.frame_forecast.proofs.RenewedFrames.{renewal_kept}
use Rattle.frame_forecast.proofs.SparseLemmas.{length_upto, right_seen, upto_later, upto_set}

-- what pairs can move is a member of what is reached from the clusters that they name
pub holds_reached : (plan : PlanData) (pairs : List Pair) → IsFinished plan → HoldsMoved plan (reached_clusters plan (named_clusters plan pairs)) pairs
holds_reached plan pairs is = record { moved = λ c lt moves. here c moves (inside_of plan ks c) refl; touched = λ k lt out. untouched k lt out (is_touched pairs (members plan k)) refl }
  where
    ks : List ℕ
    ks = reached_clusters plan (named_clusters plan pairs)

    reach : IsReach plan ks
    reach = reach_is plan (named_clusters plan pairs) is (named_within plan pairs)

    untouched : (k : ℕ) → k < length plan.clusters → list_any (nat_eq k) ks ≡ false → (b : Bool) → is_touched pairs (members plan k) ≡ b → b ≡ false
    untouched k lt out false is_it = refl
    untouched k lt out true is_it = absurd (true≢false (sym (among_reach plan (named_clusters plan pairs) k lt (among_passing (λ j. is_touched pairs (members plan j)) (length plan.clusters) k lt ∙ is_it)) ∙ out))

    apart : (d : ℕ) (o : Option ℕ) → cluster_of plan d ≡ o → inside_of plan ks d ≡ false → is_touched_in plan pairs o ≡ false
    apart d None found out = refl
    apart d (Some k) found out = untouched k (cluster_of_within plan d k found) (ap (λ (o : Option ℕ). is_in_one_of ks o) (sym found) ∙ out) (is_touched pairs (members plan k)) refl

    unled : (c : ℕ) (o : Option Follower) → follower_of plan.followers c ≡ o → inside_of plan ks c ≡ false → follows_touched plan pairs o ≡ false
    unled c None found out = refl
    unled c (Some f) found out =
        ap not
        (each_from (λ s. not (is_touched_in plan pairs (cluster_of plan s))) f
        (λ s follows. ap not (apart s (cluster_of plan s) refl (reach.closed.follows f c s found follows out))))

    here : (c : ℕ) → can_move plan pairs c ≡ true → (b : Bool) → inside_of plan ks c ≡ b → b ≡ true
    here c moves true in_it = refl
    here c moves false out =
        absurd (true≢false (sym moves ∙ ap (λ (b : Bool). b || follows_touched plan pairs (follower_of plan.followers c)) (apart c (cluster_of plan c) refl out) ∙ unled c (follower_of plan.followers c) refl out))

-- what a kept frame can change is some clusters, each once, that hold all that is reached from them
pub kept_reach : (plan : PlanData) (frame : SparseFrame) → IsFinished plan → IsKeptSparse plan frame → IsReach plan frame.reached
kept_reach plan frame is own =
    subst (IsReach plan) (sym own.reaches) (reach_is plan frame.named is (subst (All (λ k. k < length plan.clusters)) (sym own.naming.names) (named_within plan frame.asked)))

-- all that its pairs can move, among them
pub kept_holds : (plan : PlanData) (frame : SparseFrame) → IsFinished plan → IsKeptSparse plan frame → HoldsMoved plan frame.reached frame.asked
kept_holds plan frame is own = subst (λ (ks : List ℕ). HoldsMoved plan ks frame.asked) (sym (own.reaches ∙ ap (reached_clusters plan) own.naming.names)) (holds_reached plan frame.asked is)

bare_links : (plan : PlanData) (frame : SparseFrame) → IsKeptSparse plan frame → HasLinks plan (record frame { reached = [] })
bare_links plan frame own = record { there = own.has.there }

bare_naming : (plan : PlanData) (frame : SparseFrame) → IsKeptSparse plan frame → IsNaming plan (record frame { reached = [] })
bare_naming plan frame own = record { rising = own.naming.rising; names = own.naming.names; touched = own.naming.touched }

bare_paired : (plan : PlanData) (frame : SparseFrame) → IsKeptSparse plan frame → IsPaired (record frame { reached = [] })
unfolding IsPaired
bare_paired plan frame own = own.paired

-- a frame that is worked out is kept as it was
pub worked_kept : (verdicts : Verdicts) (plan : PlanData) (c : ControlsData) (base : Values) (frame : SparseFrame) → IsFinished plan → length base ≡ length plan.controls → IsKeptSparse plan frame
    → IsKeptSparse plan (worked_out verdicts plan c base frame) × (queued_sparse (worked_out verdicts plan c base frame) ≡ queued_sparse frame)
unfolding IsPaired
worked_kept verdicts plan c base frame is long own =
    by
    (renewal_kept verdicts plan c.ranges c.grabs base frame.reached (record frame { reached = [] }) is long (bare_paired plan frame own) (bare_links plan frame own) (bare_naming plan frame own) (kept_reach plan frame is own).known
    (kept_reach plan frame is own).once)
  where
    out : SparseFrame
    out = renewed_sparse verdicts plan c.ranges c.grabs base frame.reached (record frame { reached = [] })

    by : HasLinks plan out × IsNaming plan out × IsPaired out × (queued_sparse out ≡ queued_sparse (record frame { reached = [] })) × (out.reached ≡ [])
        → IsKeptSparse plan (record out { reached = frame.reached }) × (queued_sparse (record out { reached = frame.reached }) ≡ queued_sparse frame)
    by k = (
      record {
        has = record { there = k.0.there };
        naming = record { rising = k.1.rising; names = k.1.names; touched = k.1.touched };
        reaches = own.reaches ∙ ap (reached_clusters plan) (own.naming.names ∙ ap (λ (q : QueuedData). named_clusters plan q.asked) (sym k.3) ∙ sym k.1.names);
        paired = k.2;
      },
      k.3,
    )

-- and is right, where it refused nothing before
pub worked_right : (verdicts : Verdicts) (plan : PlanData) (c : ControlsData) (base : Values) (frame : SparseFrame) → IsFinished plan → AreControlsOf plan c.ranges → length base ≡ length plan.controls
    → followed plan (under_values plan c.ranges c.grabs base) ≡ under_values plan c.ranges c.grabs base → IsKeptSparse plan frame → frame.refused ≡ [] → IsRightOver verdicts plan c.ranges c.grabs base (worked_out verdicts plan c base frame)
unfolding linked
worked_right verdicts plan c base frame is are long settled own none =
    by
    (pushed_is_right verdicts plan frame.reached c.ranges c.grabs base (record frame { reached = [] }) is are long settled (bare_paired plan frame own) (bare_links plan frame own) (bare_naming plan frame own) none
    (kept_reach plan frame is own).known (kept_reach plan frame is own).once (kept_holds plan frame is own))
  where
    out : SparseFrame
    out = renewed_sparse verdicts plan c.ranges c.grabs base frame.reached (record frame { reached = [] })

    by : IsRightOver verdicts plan c.ranges c.grabs base out → IsRightOver verdicts plan c.ranges c.grabs base (record out { reached = frame.reached })
    by right = record { values_right = right.values_right; refused_right = right.refused_right }

-- what stands before a frame doesn't hang on the ones behind it
pub upto_append : (values : Values) (fs gs : List SparseFrame) (i : ℕ) → i ≤ length fs → values_upto values (fs ++ gs) i ≡ values_upto values fs i
upto_append values fs gs zero le = refl
upto_append values fs gs (suc i) le =
    ap (λ (f : SparseFrame). linked f (values_upto values (fs ++ gs) i)) (get_or-append fs gs no_sparse_frame i (omega (arith, le)))
    ∙ ap (linked (sparse_at fs i)) (upto_append values fs gs i (omega (arith, le)))

pub upto_taken : (values : Values) (fs : List SparseFrame) (n : ℕ) → n ≤ length fs → values_upto values (take n fs) (length (take n fs)) ≡ values_upto values fs n
upto_taken values fs n le =
    ap (values_upto values (take n fs)) (length-take-le n fs le)
    ∙ sym (upto_append values (take n fs) (drop n fs) n (omega (arith, length-take-le n fs le)))
    ∙ ap (λ (l : List SparseFrame). values_upto values l n) (take-append-drop n fs)

-- what right frames of a device at rest leave has followed
pub rest_upto : (verdicts : Verdicts) (plan : PlanData) (c : ControlsData) (frames : List SparseFrame) (most : ℕ) → IsFinished plan → AreAtRest plan c
    → ((i : ℕ) → i < most → IsRightOver verdicts plan c.ranges c.grabs (values_upto c.values frames i) (sparse_at frames i)) → (i : ℕ) → i ≤ most
    → followed plan (under_values plan c.ranges c.grabs (values_upto c.values frames i)) ≡ under_values plan c.ranges c.grabs (values_upto c.values frames i)
rest_upto verdicts plan c frames most is rest right i le =
    let same : 0 + i ≡ i = omega arith in
    subst (λ (j : ℕ). followed plan (under_values plan c.ranges c.grabs (values_upto c.values frames j)) ≡ under_values plan c.ranges c.grabs (values_upto c.values frames j)) same
    (right_settled verdicts plan c.ranges c.grabs c.values frames 0 most is rest.ranged rest.valued rest.sound (subst (λ (d : ControlsData). followed plan d ≡ d) (rested_under plan c rest) rest.settled) (λ j _ lt. right j lt) i (omega (arith, le)))

-- what holds of all frames and of one behind them holds of all
each_behind : (P : ℕ → SparseFrame → Type 0) (fs : List SparseFrame) (w : SparseFrame) → ((i : ℕ) → i < length fs → P i (sparse_at fs i)) → P (length fs) w → (i : ℕ) → i < length (fs ++ w ∷ []) → P i (sparse_at (fs ++ w ∷ []) i)
each_behind P fs w each own i lt = by (eqb_tells i (length fs))
  where
    by : ((i == length fs) ≡ true × (i ≡ length fs)) ⊎ ((i == length fs) ≡ false × (i ≢ length fs)) → P i (sparse_at (fs ++ w ∷ []) i)
    by (inl e) = subst (λ (j : ℕ). P j (sparse_at (fs ++ w ∷ []) j)) (sym e.1) (subst (P (length fs)) (sym (get_or-append_seam fs w [] no_sparse_frame)) own)
    by (inr e) =
        let less : i < length fs = omega (arith, lt, e.1, length-append fs (w ∷ [])) in
        subst (P i) (sym (get_or-append fs (w ∷ []) no_sparse_frame i less)) (each i less)

-- A frame is queued behind others: it is worked out over what they leave.
pub pushed_board : (verdicts : Verdicts) (plan : PlanData) (c : ControlsData) (old new : BoardData) (f : SparseFrame) (q : QueuedData) (grown : List SparseFrame) → IsFinished plan → AreAtRest plan c → IsBoard verdicts plan c (queued_in old) old
    → IsKeptSparse plan f → queued_sparse f ≡ q → f.refused ≡ [] → grown ≡ old.frames ++ f ∷ []
    → new.frames ≡ slice_set grown (length grown - 1) (worked_out verdicts plan c (values_upto c.values grown (length grown - 1)) (sparse_at grown (length grown - 1))) → IsRoomFor plan new.room → IsBoard verdicts plan c (queued_in old ++ q ∷ []) new
pushed_board verdicts plan c old new f q grown is rest board own queued none grown_is made room = record {
  are_queued =
      ap (map queued_sparse) then_made
      ∙ map-append queued_sparse old.frames (w ∷ [])
      ∙ ap (λ (x : QueuedData). map queued_sparse old.frames ++ x ∷ []) (kept.1 ∙ queued);
  kept = subst (λ (l : List SparseFrame). (i : ℕ) → i < length l → IsKeptSparse plan (sparse_at l i)) (sym then_made) (each_behind (λ i. IsKeptSparse plan) old.frames w board.kept kept.0);
  right =
      subst (λ (l : List SparseFrame). (i : ℕ) → i < length l → IsRightOver verdicts plan c.ranges c.grabs (values_upto c.values l i) (sparse_at l i)) (sym then_made)
      (each_behind (λ i. IsRightOver verdicts plan c.ranges c.grabs (values_upto c.values (old.frames ++ w ∷ []) i)) old.frames w
      (λ i lt. subst (λ (v : Values). IsRightOver verdicts plan c.ranges c.grabs v (sparse_at old.frames i)) (sym (upto_append c.values old.frames (w ∷ []) i (omega (arith, lt)))) (board.right i lt))
      (subst (λ (v : Values). IsRightOver verdicts plan c.ranges c.grabs v w) (sym (upto_append c.values old.frames (w ∷ []) n (omega arith))) right));
  room = room;
}
  where
    n : ℕ
    n = length old.frames

    base : Values
    base = values_upto c.values old.frames n

    w : SparseFrame
    w = worked_out verdicts plan c base f

    long : length base ≡ length plan.controls
    long = length_upto c.values old.frames n ∙ rest.valued

    kept : IsKeptSparse plan w × (queued_sparse w ≡ queued_sparse f)
    kept = worked_kept verdicts plan c base f is long own

    right : IsRightOver verdicts plan c.ranges c.grabs base w
    right = worked_right verdicts plan c base f is rest.ranged long (rest_upto verdicts plan c old.frames n is rest board.right n (omega arith)) own none

    put : List SparseFrame → ℕ → List SparseFrame
    put l i = slice_set l i (worked_out verdicts plan c (values_upto c.values l i) (sparse_at l i))

    last : length (old.frames ++ f ∷ []) - 1 ≡ n
    last = omega (arith, length-append old.frames (f ∷ []))

    then_made : new.frames ≡ old.frames ++ w ∷ []
    then_made =
        made
        ∙ ap (λ (l : List SparseFrame). put l (length l - 1)) grown_is
        ∙ ap (put (old.frames ++ f ∷ [])) last
        ∙ ap (λ (v : Values). slice_set (old.frames ++ f ∷ []) n (worked_out verdicts plan c v (sparse_at (old.frames ++ f ∷ []) n))) (upto_append c.values old.frames (f ∷ []) n (omega arith))
        ∙ ap (λ (g : SparseFrame). slice_set (old.frames ++ f ∷ []) n (worked_out verdicts plan c base g)) (get_or-append_seam old.frames f [] no_sparse_frame)
        ∙ set-append_seam old.frames f [] w

-- The last frame is worked out while the clusters that it can change are lent.
pub lent_frame : (verdicts : Verdicts) (plan : PlanData) (c : ControlsData) (frames bared renewed : List SparseFrame) (place : ℕ) (own lent back last : SparseFrame) (ks : List ℕ) → place < length frames → own ≡ sparse_at frames place
    → lent ≡ record own { reached = [] } → bared ≡ slice_set frames place lent → ks ≡ own.reached
    → renewed ≡ slice_set bared place (renewed_sparse verdicts plan c.ranges c.grabs (values_upto c.values bared place) ks (sparse_at bared place)) → (place < length renewed → back ≡ sparse_at renewed place) → last ≡ record back { reached = ks }
    → slice_set renewed place last ≡ slice_set frames place (worked_out verdicts plan c (values_upto c.values frames place) (sparse_at frames place))
lent_frame verdicts plan c frames bared renewed place own lent back last ks lt own_is lent_is bared_is ks_is renewed_is back_is last_is =
    ap (slice_set renewed place) then_last
    ∙ ap (λ (l : List SparseFrame). slice_set l place out) then_renewed
    ∙ set-set bared place worked out
    ∙ ap (λ (l : List SparseFrame). slice_set l place out) bared_is
    ∙ set-set frames place lent out
  where
    f : SparseFrame
    f = sparse_at frames place

    base : Values
    base = values_upto c.values frames place

    worked : SparseFrame
    worked = renewed_sparse verdicts plan c.ranges c.grabs base f.reached (record f { reached = [] })

    out : SparseFrame
    out = worked_out verdicts plan c base f

    bare : sparse_at bared place ≡ record f { reached = [] }
    bare = ap (λ (l : List SparseFrame). sparse_at l place) bared_is ∙ get_or-set_same frames place lent no_sparse_frame lt ∙ lent_is ∙ ap (λ (x : SparseFrame). record x { reached = [] }) own_is

    then_ks : ks ≡ f.reached
    then_ks = ks_is ∙ ap (λ (x : SparseFrame). x.reached) own_is

    then_out : renewed_sparse verdicts plan c.ranges c.grabs (values_upto c.values bared place) ks (sparse_at bared place) ≡ worked
    then_out =
        ap (λ (v : Values). renewed_sparse verdicts plan c.ranges c.grabs v ks (sparse_at bared place)) (ap (λ (l : List SparseFrame). values_upto c.values l place) bared_is ∙ upto_set c.values frames place lent place (omega arith))
        ∙ ap (λ (l : List ℕ). renewed_sparse verdicts plan c.ranges c.grabs base l (sparse_at bared place)) then_ks
        ∙ ap (renewed_sparse verdicts plan c.ranges c.grabs base f.reached) bare

    wide : place < length bared
    wide = omega (arith, lt, ap (λ (l : List SparseFrame). length l) bared_is, length-set frames place lent)

    then_renewed : renewed ≡ slice_set bared place worked
    then_renewed = renewed_is ∙ ap (slice_set bared place) then_out

    wider : place < length renewed
    wider = omega (arith, wide, ap (λ (l : List SparseFrame). length l) then_renewed, length-set bared place worked)

    then_back : back ≡ worked
    then_back = back_is wider ∙ ap (λ (l : List SparseFrame). sparse_at l place) then_renewed ∙ get_or-set_same bared place worked no_sparse_frame wide

    then_last : last ≡ out
    then_last = last_is ∙ ap (λ (x : SparseFrame). record x { reached = ks }) then_back ∙ ap (λ (l : List ℕ). record worked { reached = l }) then_ks

-- of clusters that are reached no more have a member among pairs than of all
pub reach_touched : (plan : PlanData) (pairs : List Pair) (ks : List ℕ) → touched_among plan pairs (reached_clusters plan ks) ≤ touched_count plan pairs
reach_touched plan pairs ks =
    omega (
      arith,
      sum_by-filter_both (λ k. list_any (λ j. is_reached (links (cluster_table plan) plan.followers) j k) ks) (λ k. not (list_any (λ j. is_reached (links (cluster_table plan) plan.followers) j k) ks)) (λ k. refl)
          (λ k. cond (is_touched pairs (members plan k)) 1 0) (range_with_len 0 (length plan.clusters)),
    )

pub lent_asked : (plan : PlanData) (frames bared : List SparseFrame) (place : ℕ) (own lent : SparseFrame) (ks : List ℕ) → place < length frames → own ≡ sparse_at frames place → lent ≡ record own { reached = [] } → bared ≡ slice_set frames place lent
    → ks ≡ own.reached → IsKeptSparse plan (sparse_at frames place) → touched_among plan (sparse_at bared place).asked ks ≤ touched_count plan (sparse_at frames place).asked
lent_asked plan frames bared place own lent ks lt own_is lent_is bared_is ks_is kept =
    subst (λ (n : ℕ). n ≤ touched_count plan f.asked)
    (sym (ap (λ (x : SparseFrame). touched_among plan x.asked ks) bare ∙ ap (touched_among plan f.asked) (ks_is ∙ ap (λ (x : SparseFrame). x.reached) own_is ∙ kept.reaches)))
    (reach_touched plan f.asked f.named)
  where
    f : SparseFrame
    f = sparse_at frames place

    bare : sparse_at bared place ≡ record f { reached = [] }
    bare = ap (λ (l : List SparseFrame). sparse_at l place) bared_is ∙ get_or-set_same frames place lent no_sparse_frame lt ∙ lent_is ∙ ap (λ (x : SparseFrame). record x { reached = [] }) own_is

-- Frames are right under ranges that give what those of before give.
pub right_under : (verdicts : Verdicts) (plan : PlanData) (first second : List Control) (grabs : Grabs) (values : Values) (frame : SparseFrame) → ranges_under plan.followers first values ≡ ranges_under plan.followers second values
    → IsRightOver verdicts plan first grabs values frame → IsRightOver verdicts plan second grabs values frame
right_under verdicts plan first second grabs values frame same right = record {
  values_right = right.values_right ∙ ap (λ (controls : List Control). (laid_over verdicts plan (as_one controls values grabs) frame.asked).values) same;
  refused_right = right.refused_right ∙ ap (λ (controls : List Control). refused_clusters verdicts plan controls values grabs frame.asked) same;
}

-- What is read off kept frames is what they will have.
pub kept_seen : (verdicts : Verdicts) (plan : PlanData) (c : ControlsData) (queued : List QueuedData) (board : BoardData) → IsFinished plan → AreAtRest plan c → IsBoard verdicts plan c queued board → all_seen c.values board.frames ≡ forecasts verdicts plan c queued
kept_seen verdicts plan c queued board is rest kept =
    right_seen verdicts plan c.ranges c.grabs c.values board.frames is.is_plan rest.ranged rest.valued kept.right
    ∙ ap (λ (d : ControlsData). forecasts verdicts plan d (map queued_sparse board.frames)) (sym (rested_under plan c rest))
    ∙ ap (forecasts verdicts plan c) kept.are_queued

-- the first of kept frames is right over what stands before them
first_right : (verdicts : Verdicts) (plan : PlanData) (c : ControlsData) (f : SparseFrame) → AreAtRest plan c → IsRightOver verdicts plan c.ranges c.grabs c.values f
    → (linked f c.values ≡ (laid_over verdicts plan c f.asked).values) × (f.refused ≡ refused_clusters verdicts plan c.ranges c.values c.grabs f.asked)
first_right verdicts plan c f rest right = (
  right.values_right ∙ ap (λ (d : ControlsData). (laid_over verdicts plan d f.asked).values) (sym (rested_under plan c rest)),
  right.refused_right ∙ ap (λ (d : ControlsData). refused_clusters verdicts plan d.ranges c.values c.grabs f.asked) (sym (rested_under plan c rest)),
)

-- what is queued first is what the first frame asks for
first_asked : (q : QueuedData) (qs : List QueuedData) (f : SparseFrame) (fs : List SparseFrame) → map queued_sparse (f ∷ fs) ≡ q ∷ qs → f.asked ≡ q.asked
first_asked q qs f fs same = ap asked_first same
  where
    asked_first : List QueuedData → List Pair
    asked_first [] = []
    asked_first (x ∷ xs) = x.asked

-- Without the first frame the others are kept over what it leaves.
pub begun_board : (verdicts : Verdicts) (plan : PlanData) (c : ControlsData) (q : QueuedData) (qs : List QueuedData) (board : BoardData) → IsFinished plan → AreAtRest plan c → IsBoard verdicts plan c (q ∷ qs) board
    → IsBoard verdicts plan (laid_over verdicts plan c q.asked) qs (record board { frames = drop 1 board.frames })
begun_board verdicts plan c q qs board is rest kept = by board.frames kept.are_queued kept.kept kept.right
  where
    by : (frames : List SparseFrame) → map queued_sparse frames ≡ q ∷ qs → ((i : ℕ) → i < length frames → IsKeptSparse plan (sparse_at frames i))
        → ((i : ℕ) → i < length frames → IsRightOver verdicts plan c.ranges c.grabs (values_upto c.values frames i) (sparse_at frames i)) → IsBoard verdicts plan (laid_over verdicts plan c q.asked) qs (record board { frames = drop 1 frames })
    by [] same each right = absurd (omega (arith, ap length same))
    by (f ∷ fs) same each right = record {
      are_queued = ap (drop 1) same;
      kept = λ i lt. each (suc i) (omega (arith, lt));
      right =
          λ i lt.
          right_under verdicts plan c.ranges (laid_over verdicts plan c q.asked).ranges c.grabs (values_upto (laid_over verdicts plan c q.asked).values fs i) (sparse_at fs i)
          (sym (under_anew plan c.ranges (overlay verdicts plan c.ranges c.values c.grabs q.asked) (values_upto (laid_over verdicts plan c q.asked).values fs i) is.is_plan rest.ranged))
          (subst (λ (v : Values). IsRightOver verdicts plan c.ranges c.grabs (values_upto v fs i) (sparse_at fs i)) left
          (subst (λ (v : Values). IsRightOver verdicts plan c.ranges c.grabs v (sparse_at fs i)) (upto_later c.values f fs i) (right (suc i) (omega (arith, lt)))));
      room = kept.room;
    }
      where
        left : linked f c.values ≡ (laid_over verdicts plan c q.asked).values
        left = (first_right verdicts plan c f rest (right 0 (omega arith))).0 ∙ ap (λ (pairs : List Pair). (laid_over verdicts plan c pairs).values) (first_asked q qs f fs same)

-- what the first frame gives, and what it refuses and can change
begun_first : (verdicts : Verdicts) (plan : PlanData) (c : ControlsData) (q : QueuedData) (qs : List QueuedData) (board : BoardData) → IsFinished plan → AreAtRest plan c → IsBoard verdicts plan c (q ∷ qs) board
    → (linked (sparse_at board.frames 0) c.values ≡ (laid_over verdicts plan c q.asked).values) × ((sparse_at board.frames 0).refused ≡ refused_clusters verdicts plan c.ranges c.values c.grabs q.asked)
begun_first verdicts plan c q qs board is rest kept = by board.frames kept.are_queued kept.right
  where
    by : (frames : List SparseFrame) → map queued_sparse frames ≡ q ∷ qs → ((i : ℕ) → i < length frames → IsRightOver verdicts plan c.ranges c.grabs (values_upto c.values frames i) (sparse_at frames i))
        → (linked (sparse_at frames 0) c.values ≡ (laid_over verdicts plan c q.asked).values) × ((sparse_at frames 0).refused ≡ refused_clusters verdicts plan c.ranges c.values c.grabs q.asked)
    by [] same right = absurd (omega (arith, ap length same))
    by (f ∷ fs) same right =
        let own = first_right verdicts plan c f rest (right 0 (omega arith)) in
        let asks = first_asked q qs f fs same in
        (own.0 ∙ ap (λ (pairs : List Pair). (laid_over verdicts plan c pairs).values) asks, own.1 ∙ ap (refused_clusters verdicts plan c.ranges c.values c.grabs) asks)

pub begun_reached : (verdicts : Verdicts) (plan : PlanData) (c : ControlsData) (q : QueuedData) (qs : List QueuedData) (board : BoardData) → IsBoard verdicts plan c (q ∷ qs) board → (sparse_at board.frames 0).reached ≡ reached_clusters plan (named_clusters plan q.asked)
begun_reached verdicts plan c q qs board kept = by board.frames kept.are_queued kept.kept
  where
    by : (frames : List SparseFrame) → map queued_sparse frames ≡ q ∷ qs → ((i : ℕ) → i < length frames → IsKeptSparse plan (sparse_at frames i)) → (sparse_at frames 0).reached ≡ reached_clusters plan (named_clusters plan q.asked)
    by [] same each = absurd (omega (arith, ap length same))
    by (f ∷ fs) same each =
        let own = each 0 (omega arith) in
        own.reaches ∙ ap (reached_clusters plan) (own.naming.names ∙ ap (named_clusters plan) (first_asked q qs f fs same))

pub begun_values : (verdicts : Verdicts) (plan : PlanData) (c : ControlsData) (q : QueuedData) (qs : List QueuedData) (board : BoardData) → IsFinished plan → AreAtRest plan c → IsBoard verdicts plan c (q ∷ qs) board
    → linked (sparse_at board.frames 0) c.values ≡ (laid_over verdicts plan c q.asked).values
begun_values verdicts plan c q qs board is rest kept = (begun_first verdicts plan c q qs board is rest kept).0

pub begun_refused : (verdicts : Verdicts) (plan : PlanData) (c : ControlsData) (q : QueuedData) (qs : List QueuedData) (board : BoardData) → IsFinished plan → AreAtRest plan c → IsBoard verdicts plan c (q ∷ qs) board
    → (sparse_at board.frames 0).refused ≡ refused_clusters verdicts plan c.ranges c.values c.grabs q.asked
begun_refused verdicts plan c q qs board is rest kept = (begun_first verdicts plan c q qs board is rest kept).1

-- the place of a request among frames, and among the frames as they were queued
place_from : (r i : ℕ) (frames : List SparseFrame) → position_from (λ f. nat_eq r f.request.0) i frames ≡ position_from (λ q. nat_eq r q.request.0) i (map queued_sparse frames)
place_from r i [] = refl
place_from r i (f ∷ frames) = ap (λ (o : Option ℕ). cond (nat_eq r f.request.0) (Some i) o) (place_from r (i + 1) frames)

pub place_among : (r : ℕ) (frames : List SparseFrame) → position (λ f. nat_eq r f.request.0) frames ≡ position (λ q. nat_eq r q.request.0) (map queued_sparse frames)
place_among r frames =
    position_from-zero (λ (f : SparseFrame). nat_eq r f.request.0) frames ∙ place_from r 0 frames ∙ sym (position_from-zero (λ (q : QueuedData). nat_eq r q.request.0) (map queued_sparse frames))

-- what stands for a place where no frame is
abbrev pub no_forecast : Forecast
no_forecast = record { request = record { 0 = 0 }; buffer = 0; values = []; refused = [] }

-- what is seen of the frame at a place
pub seen_at : (values : Values) (frames : List SparseFrame) (place : ℕ) → place < length frames
    → get_or (all_seen values frames) place no_forecast
    ≡ record { request = (sparse_at frames place).request; buffer = (sparse_at frames place).buffer; values = values_upto values frames (suc place); refused = (sparse_at frames place).refused }
seen_at values [] place lt = absurd (omega (arith, lt))
seen_at values (f ∷ fs) zero lt = refl
seen_at values (f ∷ fs) (suc p) lt =
    seen_at (linked f values) fs p (omega (arith, lt))
    ∙ ap (λ (v : Values). record { request = (sparse_at fs p).request; buffer = (sparse_at fs p).buffer; values = v; refused = (sparse_at fs p).refused }) (sym (upto_later values f fs (suc p)))

pub length_seen : (values : Values) (frames : List SparseFrame) → length (all_seen values frames) ≡ length frames
length_seen values [] = refl
length_seen values (f ∷ fs) = ap (λ (n : ℕ). suc n) (length_seen (linked f values) fs)

-- nothing passes a test that nothing passes
none_passes : (ks : List ℕ) → [] ≡ filter (λ k. false) ks
none_passes [] = refl
none_passes (k ∷ ks) = none_passes ks

-- a frame that was made of what is queued is kept so
pub made_kept : (plan : PlanData) (frame : SparseFrame) → frame.named ≡ named_clusters plan frame.asked → frame.reached ≡ reached_clusters plan frame.named → frame.moved ≡ filter (can_move plan frame.asked) (range_with_len 0 (length plan.controls))
    → length frame.given ≡ length frame.moved → frame.refused ≡ [] → IsKeptSparse plan frame
unfolding IsPaired
made_kept plan frame names reaches moves paired none = record {
  has = moved_links plan frame moves;
  naming = record {
    rising = (λ k. false, none ∙ none_passes (range_with_len 0 (length plan.clusters)));
    names = names;
    touched = λ k lt among. absurd (true≢false (sym among ∙ ap (list_any (nat_eq k)) none));
  };
  reaches = reaches;
  paired = paired;
}

-- A board of no frame is kept at any moment.
pub empty_board : (verdicts : Verdicts) (plan : PlanData) (c : ControlsData) (board : BoardData) → board.frames ≡ [] → IsRoomFor plan board.room → IsBoard verdicts plan c [] board
empty_board verdicts plan c board none room = record {
  are_queued = ap (map queued_sparse) none;
  kept = λ i lt. absurd (omega (arith, lt, ap (λ (l : List SparseFrame). length l) none));
  right = λ i lt. absurd (omega (arith, lt, ap (λ (l : List SparseFrame). length l) none));
  room = room;
}

pub seen_row : (values : Values) (frames : List SparseFrame) (place : ℕ) (f : SparseFrame) → slice_get frames place ≡ Some f
    → slice_get (all_seen values frames) place ≡ Some (record { request = f.request; buffer = f.buffer; values = values_upto values frames (place + 1); refused = f.refused })
seen_row values frames place f found =
    let lt : place < length frames = slice_get_within frames place f found in
    let own : sparse_at frames place ≡ f = get_or_from_slice_get frames place f no_sparse_frame found in
    let one : suc place ≡ place + 1 = omega arith in
    slice_get-get_or (all_seen values frames) place no_forecast (omega (arith, lt, length_seen values frames))
    ∙ ap (λ (row : Forecast). Some row) (seen_at values frames place lt)
    ∙ ap (λ (x : SparseFrame). Some (record { request = x.request; buffer = x.buffer; values = values_upto values frames (suc place); refused = x.refused })) own
    ∙ ap (λ (n : ℕ). Some (record { request = f.request; buffer = f.buffer; values = values_upto values frames n; refused = f.refused })) one

pub unseen_row : (values : Values) (frames : List SparseFrame) (place : ℕ) → slice_get frames place ≡ None → slice_get (all_seen values frames) place ≡ None
unseen_row values frames place none = by (cases_lt place (length frames))
  where
    by : (place < length frames) ⊎ (length frames ≤ place) → slice_get (all_seen values frames) place ≡ None
    by (inl lt) = absurd (some_none (sym (slice_get-get_or frames place no_sparse_frame lt) ∙ none))
      where
        some_none : Some (sparse_at frames place) ≡ None → ⊥
        some_none e = cc
    by (inr past) = slice_get_past (all_seen values frames) place (omega (arith, past, length_seen values frames))

-- a row that is seen has a value for each that there was before the first frame
pub long_row : (values : Values) (frames : List SparseFrame) (place : ℕ) (row : Forecast) → slice_get (all_seen values frames) place ≡ Some row → length row.values ≡ length values
long_row values frames place row found =
    let lt : place < length frames = omega (arith, slice_get_within (all_seen values frames) place row found, length_seen values frames) in
    ap (λ (r : Forecast). length r.values) (sym (get_or_from_slice_get (all_seen values frames) place row no_forecast found) ∙ seen_at values frames place lt) ∙ length_upto values frames (suc place)

-- A board is kept of just the frames that it has.
pub own_queued : (verdicts : Verdicts) (plan : PlanData) (c : ControlsData) (queued : List QueuedData) (board : BoardData) → IsBoard verdicts plan c queued board → IsBoard verdicts plan c (queued_in board) board
own_queued verdicts plan c queued board kept = subst (λ (qs : List QueuedData). IsBoard verdicts plan c qs board) (sym kept.are_queued) kept

pub no_frames : (verdicts : Verdicts) (plan : PlanData) (c : ControlsData) (board : BoardData) → board.frames ≡ [] → IsRoomFor plan board.room → IsBoard verdicts plan c (queued_in board) board
no_frames verdicts plan c board none room = own_queued verdicts plan c [] board (empty_board verdicts plan c board none room)
