-- Boards whose frames are renewed: what that begins with, what it leaves, and how many validators it asks.
use Rattle.std.proofs.Common.{◌≡◌, ◌≢◌, ◌∙◌, ◌<◌, ◌≤◌, ◌+◌, ◌-◌, ◌++◌, ◌==◌, ◌⊎◌, ◌||◌, ℕ, zero, suc, nat_eq, Bool, true, false, cond, List, drop, take, [], ◌∷◌, length, map, Option, None, Some, inl, inr, unwrap_or, slice_set, get_or-set_same, length-set, ext_get_or, length-take-le, refl, sym, ap, subst, arith}
use Rattle.std.specs.List.{All, list_any, remove, sum_by}
use Rattle.std.specs.Option.{option_map}
use Rattle.std.proofs.lemmas.Bool.{cases_lt, true≢false}
use Rattle.std.proofs.lemmas.List.{get_or-set_other, length-map, map-append, drop-map, take-map, drop_at}
use Rattle.std.proofs.Math.ListN.{get_or-map}
use Rattle.std.proofs.lemmas.List.Sums.{sum_by-cons}
use Rattle.std.proofs.lemmas.Bool.Decides.{eqb_tells}
use Rattle.std.proofs.lemmas.List.Edits.{get_or-remove_above, get_or-remove_below, length-remove}
use Rattle.ctrl_types.specs.Values.{zero_value}
use Rattle.ctrl_types.specs.declared.ids.Pair.{Pair}
use Rattle.ctrl_types.specs.declared.value.CtrlValue.{CtrlValue}
use Rattle.ctrl_calls.specs.Meanings.{Verdicts}
use Rattle.ctrl_settle.specs.Control.{Control}
use Rattle.ctrl_settle.specs.Faults.{IsWellFormed}
use Rattle.range_followers.specs.declared.follower.Follower.{Follower}
use Rattle.range_followers.specs.Followed.{is_followed_by}
use Rattle.range_followers.specs.Wanted.{follower_of}
use Rattle.ctrl_handlers.specs.Plan.{PlanData, IsFinished, IsFollowing, IsPlan, cluster_of, control_in, members}
use Rattle.ctrl_handlers.proofs.ClusterLemmas.{cluster_of_member}
use Rattle.ctrl_clusters.specs.ControlsData.{ControlsData, DifferIn, as_one, is_in_one_of}
use Rattle.ctrl_clusters.specs.Following.{AgreeOutside, AreAtRest, IsClosed, IsReach, followed, inside_of, range_under, ranges_under, reached_clusters, under_values}
use Rattle.ctrl_clusters.specs.Overlay.{is_touched}
use Rattle.ctrl_clusters.specs.Rows.{AreControlsOf, Grabs, Values, is_grabbed, value_at}
use Rattle.ctrl_clusters.proofs.FollowingLemmas.{agreed_range, found_follows, length_ranges, range_there, rested_ranges, rested_under, under_anew}
use Rattle.ctrl_forecast.specs.Boards.{asked_at, named_clusters}
use Rattle.ctrl_forecast.specs.Forecasts.{QueuedData, naming_count, named_by_frames}
use Rattle.frame_forecast.specs.Boards.{BoardData, DifferOnlyIn, IsBoard, IsRoomFor, queued_in}
use Rattle.frame_forecast.specs.Kept.{IsKeptSparse}
use Rattle.frame_forecast.specs.Renewal.{AreRenewed, AreRenewedTo, AreRenewing, AreRenewingBehind, AreRenewingSame, IsRenewable}
use Rattle.frame_forecast.specs.Sparse.{IsRightOver, SparseFrame, can_move, linked, no_sparse_frame, queued_sparse, sparse_at, touched_among, value_given, values_upto, with_reached_values, with_rows_of, with_values_of}
use Rattle.frame_forecast.proofs.BoardLemmas.{kept_holds, kept_reach, rest_upto, right_under}
use Rattle.frame_forecast.proofs.EndingLemmas.{spare_next}
use Rattle.frame_forecast.proofs.SparseLemmas.{length_linked, length_upto, linked_at, none_of}

-- where values agree out of reach, so do the ranges that they give
pub agree_under : (plan : PlanData) (ks : List ℕ) (controls : List Control) (grabs : Grabs) (before after : Values) → IsPlan plan → IsClosed plan (inside_of plan ks) → length controls ≡ length plan.controls
    → ((c : ℕ) → inside_of plan ks c ≡ false → c < length plan.controls → value_at before c ≡ value_at after c)
    → AgreeOutside plan (inside_of plan ks) (under_values plan controls grabs before) (under_values plan controls grabs after)
agree_under plan ks controls grabs before after is closed many same = record {
  ranges =
      λ c out lt.
      let within : c < length controls = omega (arith, lt, many) in
      range_there plan.followers controls before c within
      ∙ agreed_range plan controls before after c (λ f s found follows. same s (closed.follows f c s found follows out) (below c f s lt found follows))
      ∙ sym (range_there plan.followers controls after c within);
  values = same;
  grabs = λ c out lt. refl;
}
  where
    below : (c : ℕ) (f : Follower) (s : ℕ) → c < length plan.controls → follower_of plan.followers c ≡ Some f → is_followed_by f s ≡ true → s < length plan.controls
    below c f s lt found follows =
        let one = found_follows (IsFollowing plan.controls plan.followers) plan.followers c f is.follow.each found in
        omega (arith, lt, one.0, one.1.lower s follows)

-- frames that are right over the values of before can be renewed
start_renewable : (verdicts : Verdicts) (plan : PlanData) (ks : List ℕ) (before : ControlsData) (second : List Control) (held : Grabs) (values : Values) (queued : List QueuedData) (board : BoardData) → IsFinished plan → AreAtRest plan before
    → IsReach plan ks → IsBoard verdicts plan before queued board → AreControlsOf plan second → ((c : ℕ) → c < length second → IsWellFormed (control_in second c)) → length values ≡ length plan.controls
    → IsRenewable verdicts plan ks before.ranges second before.grabs held values (values_upto before.values board.frames) board.frames 0
start_renewable verdicts plan ks before second held values queued board is rest reach kept also well long = record {
  finished = is;
  closed = reach.closed;
  known = reach.known;
  once = reach.once;
  are = rest.ranged;
  also = also;
  well = well;
  long = long;
  earlier_long = λ i. length_upto before.values board.frames i ∙ rest.valued;
  earlier_right = λ i le lt. kept.right i lt;
  earlier_next = λ i le lt. refl;
}

start_renewed : (verdicts : Verdicts) (plan : PlanData) (ks : List ℕ) (before : ControlsData) (second : List Control) (held : Grabs) (values : Values) (queued : List QueuedData) (board : BoardData) → IsBoard verdicts plan before queued board
    → AgreeOutside plan (inside_of plan ks) (under_values plan before.ranges before.grabs before.values) (under_values plan second held values)
    → followed plan (under_values plan second held values) ≡ under_values plan second held values
    → AreRenewedTo verdicts plan ks before.ranges second before.grabs held values (values_upto before.values board.frames) board.frames board.frames 0 0
start_renewed verdicts plan ks before second held values queued board kept agree settled = record {
  many = refl;
  early = λ i lt. refl;
  right = λ i le lt. absurd (omega (arith, lt));
  behind = λ i le. refl;
  agree = agree;
  settled = settled;
  kept = kept.kept;
  queued = λ i. refl;
}

-- all of them, after ranges, values or grabs were changed in some clusters
pub rejudge_ready : (verdicts : Verdicts) (plan : PlanData) (ks : List ℕ) (before after : ControlsData) (queued : List QueuedData) (board : BoardData) → IsFinished plan → AreAtRest plan before → AreAtRest plan after → IsReach plan ks
    → IsBoard verdicts plan before queued board → DifferOnlyIn plan ks before after → AreRenewing verdicts plan ks after.ranges after.grabs after.values board.frames board.frames 0 0
unfolding AreRenewing
rejudge_ready verdicts plan ks before after queued board is rest rested reach kept within = (
  before.ranges,
  before.grabs,
  values_upto before.values board.frames,
  start_renewable verdicts plan ks before after.ranges after.grabs after.values queued board is rest reach kept rested.ranged rested.sound rested.valued,
  start_renewed verdicts plan ks before after.ranges after.grabs after.values queued board kept
      (subst (λ (d : ControlsData). AgreeOutside plan (inside_of plan ks) d (under_values plan after.ranges after.grabs after.values)) (rested_under plan before rest)
      (subst (AgreeOutside plan (inside_of plan ks) before) (rested_under plan after rested)
      (record { ranges = λ c out lt. within.ranges_stay c out; values = λ c out lt. within.values_stay c out; grabs = λ c out lt. within.grabs_stay c out })))
      (subst (λ (d : ControlsData). followed plan d ≡ d) (rested_under plan after rested) rested.settled),
)

-- what is loaded is what stands there
loaded_values : (base : Values) (cs : List ℕ) (values : Values) (c : ℕ) → c < length values → (value_at values c ≡ value_at base c) ⊎ (list_any (nat_eq c) cs ≡ true) → value_at (with_values_of base cs values) c ≡ value_at base c
loaded_values base [] values c lt (inl same) = same
loaded_values base [] values c lt (inr among) = absurd (true≢false (sym among))
loaded_values base (d ∷ ds) values c lt one = loaded_values base ds next c (omega (arith, lt, length-set values d (value_at base d))) (by (eqb_tells c d) one)
  where
    next : Values
    next = slice_set values d (value_at base d)

    by : ((c == d) ≡ true × (c ≡ d)) ⊎ ((c == d) ≡ false × (c ≢ d)) → (value_at values c ≡ value_at base c) ⊎ (((c == d) || list_any (nat_eq c) ds) ≡ true) → (value_at next c ≡ value_at base c) ⊎ (list_any (nat_eq c) ds ≡ true)
    by (inl own) so = inl (subst (λ (x : ℕ). value_at (slice_set values x (value_at base x)) c ≡ value_at base c) own.1 (get_or-set_same values c (value_at base c) zero_value lt))
    by (inr other) (inl same) = inl (get_or-set_other values d c (value_at base d) zero_value other.1 ∙ same)
    by (inr other) (inr among) = inr (ap (λ (b : Bool). b || list_any (nat_eq c) ds) (sym other.0) ∙ among)

long_values : (base : Values) (cs : List ℕ) (values : Values) → length (with_values_of base cs values) ≡ length values
long_values base [] values = refl
long_values base (d ∷ ds) values = long_values base ds (slice_set values d (value_at base d)) ∙ length-set values d (value_at base d)

loaded_rows : (plan : PlanData) (base : Values) (ks : List ℕ) (values : Values) (k c : ℕ) → c < length values → cluster_of plan c ≡ Some k → (value_at values c ≡ value_at base c) ⊎ (list_any (nat_eq k) ks ≡ true)
    → value_at (with_rows_of plan base ks values) c ≡ value_at base c
loaded_rows plan base [] values k c lt own (inl same) = same
loaded_rows plan base [] values k c lt own (inr among) = absurd (true≢false (sym among))
loaded_rows plan base (j ∷ js) values k c lt own one = loaded_rows plan base js next k c (omega (arith, lt, long_values base (members plan j) values)) own (by (eqb_tells k j) one)
  where
    next : Values
    next = with_values_of base (members plan j) values

    by : ((k == j) ≡ true × (k ≡ j)) ⊎ ((k == j) ≡ false × (k ≢ j)) → (value_at values c ≡ value_at base c) ⊎ (((k == j) || list_any (nat_eq k) js) ≡ true) → (value_at next c ≡ value_at base c) ⊎ (list_any (nat_eq k) js ≡ true)
    by (inl same) so = inl (loaded_values base (members plan j) values c lt (inr (ap (λ (x : ℕ). list_any (nat_eq c) (members plan x)) (sym same.1) ∙ cluster_of_member plan c k own)))
    by (inr other) (inl same) = inl (loaded_values base (members plan j) values c lt (inl same))
    by (inr other) (inr among) = inr (ap (λ (b : Bool). b || list_any (nat_eq k) js) (sym other.0) ∙ among)

long_rows : (plan : PlanData) (base : Values) (ks : List ℕ) (values : Values) → length (with_rows_of plan base ks values) ≡ length values
long_rows plan base [] values = refl
long_rows plan base (j ∷ js) values = long_rows plan base js (with_values_of base (members plan j) values) ∙ long_values base (members plan j) values

-- frames that can be renewed are being renewed, where what is spared is what stood there
same_made : (verdicts : Verdicts) (plan : PlanData) (ks : List ℕ) (controls : List Control) (grabs : Grabs) (values : Values) (frames : List SparseFrame) (place : ℕ) (spare : Values) (earlier : ℕ → Values)
    → IsRenewable verdicts plan ks controls controls grabs grabs values earlier frames place → AreRenewedTo verdicts plan ks controls controls grabs grabs values earlier frames frames place place
    → ((c : ℕ) → inside_of plan ks c ≡ true → c < length plan.controls → value_at spare c ≡ value_at (earlier place) c) → AreRenewingSame verdicts plan ks controls grabs values frames frames place place spare
unfolding AreRenewingSame
same_made verdicts plan ks controls grabs values frames place spare earlier can so same = (earlier, can, so, same)

loaded_inside : (plan : PlanData) (base : Values) (ks : List ℕ) (values : Values) → length values ≡ length plan.controls → (c : ℕ) → inside_of plan ks c ≡ true → c < length plan.controls
    → value_at (with_rows_of plan base ks values) c ≡ value_at base c
loaded_inside plan base ks values wide c in_it lt = by (cluster_of plan c) refl in_it
  where
    by : (o : Option ℕ) → cluster_of plan c ≡ o → is_in_one_of ks o ≡ true → value_at (with_rows_of plan base ks values) c ≡ value_at base c
    by None found among = absurd (true≢false (sym among))
    by (Some k) found among = loaded_rows plan base ks values k c (omega (arith, lt, wide)) found (inr among)

-- Those up to the first behind which the clusters stand as before, after values were changed in these, and ranges with them as far as they follow.
pub renew_ready : (verdicts : Verdicts) (plan : PlanData) (ks : List ℕ) (before after : ControlsData) (queued : List QueuedData) (board : BoardData) (spare : Values) → IsFinished plan → AreAtRest plan before → AreAtRest plan after → IsReach plan ks
    → IsBoard verdicts plan before queued board → after.ranges ≡ ranges_under plan.followers before.ranges after.values → DifferIn plan ks before.values after.values → after.grabs ≡ before.grabs → length spare ≡ length plan.controls
    → AreRenewingSame verdicts plan ks before.ranges after.grabs after.values board.frames board.frames 0 0 (with_rows_of plan (values_upto before.values board.frames 0) ks spare)
unfolding AreRenewingSame
renew_ready verdicts plan ks before after queued board spare is rest rested reach kept ranged differ held wide =
    subst (λ (g : Grabs). AreRenewingSame verdicts plan ks before.ranges g after.values board.frames board.frames 0 0 (with_rows_of plan before.values ks spare)) (sym held) ready
  where
    there : after ≡ under_values plan before.ranges before.grabs after.values
    there = λ i. as_one (ranged i) after.values (held i)

    ready : AreRenewingSame verdicts plan ks before.ranges before.grabs after.values board.frames board.frames 0 0 (with_rows_of plan before.values ks spare)
    ready = (
      values_upto before.values board.frames,
      start_renewable verdicts plan ks before before.ranges before.grabs after.values queued board is rest reach kept rest.ranged rest.sound rested.valued,
      start_renewed verdicts plan ks before before.ranges before.grabs after.values queued board kept
          (agree_under plan ks before.ranges before.grabs before.values after.values is.is_plan reach.closed rest.ranged.many (λ c out lt. differ c out))
          (subst (λ (d : ControlsData). followed plan d ≡ d) there rested.settled),
      loaded_inside plan before.values ks spare wide,
    )

-- the frames are queued as they were
queued_same : (old new : List SparseFrame) → length new ≡ length old → ((i : ℕ) → queued_sparse (sparse_at new i) ≡ queued_sparse (sparse_at old i)) → map queued_sparse new ≡ map queued_sparse old
queued_same old new many same =
    ext_get_or (queued_sparse no_sparse_frame) (map queued_sparse new) (map queued_sparse old) (length-map new queued_sparse ∙ many ∙ sym (length-map old queued_sparse))
    (λ i lt. get_or-map queued_sparse new i no_sparse_frame ∙ same i ∙ sym (get_or-map queued_sparse old i no_sparse_frame))

-- Frames that were renewed are a board's.
pub renewed_board : (verdicts : Verdicts) (plan : PlanData) (after : ControlsData) (second : List Control) (queued : List QueuedData) (old : List SparseFrame) (new : BoardData) (from : ℕ) → map queued_sparse old ≡ queued
    → AreRenewed verdicts plan second after.grabs after.values old new.frames from
    → ((i : ℕ) → i < from → i < length new.frames → IsRightOver verdicts plan second after.grabs (values_upto after.values new.frames i) (sparse_at new.frames i))
    → ((values : Values) → ranges_under plan.followers second values ≡ ranges_under plan.followers after.ranges values) → IsRoomFor plan new.room → IsBoard verdicts plan after queued new
renewed_board verdicts plan after second queued old new from were renewed before same room = record {
  are_queued = queued_same old new.frames renewed.many renewed.queued ∙ were;
  kept = renewed.kept;
  right =
      λ i lt.
      right_under verdicts plan second after.ranges after.grabs (values_upto after.values new.frames i) (sparse_at new.frames i) (same (values_upto after.values new.frames i)) (by i lt (cases_lt i from));
  room = room;
}
  where
    by : (i : ℕ) → i < length new.frames → (i < from) ⊎ (from ≤ i) → IsRightOver verdicts plan second after.grabs (values_upto after.values new.frames i) (sparse_at new.frames i)
    by i lt (inl less) = before i less lt
    by i lt (inr le) = renewed.right i le lt

-- the ranges that values give under those that other values gave
pub given_same : (plan : PlanData) (before : List Control) (after : List Control) (values others : Values) → IsPlan plan → AreControlsOf plan before → after ≡ ranges_under plan.followers before values
    → ranges_under plan.followers before others ≡ ranges_under plan.followers after others
given_same plan before after values others is are made = sym (ap (λ (r : List Control). ranges_under plan.followers r others) made ∙ under_anew plan before values others is are)

-- what stands before a frame hangs on the frames before it alone
upto_same : (values : Values) (a b : List SparseFrame) (i : ℕ) → ((j : ℕ) → j < i → sparse_at a j ≡ sparse_at b j) → values_upto values a i ≡ values_upto values b i
upto_same values a b zero same = refl
upto_same values a b (suc i) same =
    ap (λ (f : SparseFrame). linked f (values_upto values a i)) (same i (omega arith)) ∙ ap (linked (sparse_at b i)) (upto_same values a b i (λ j lt. same j (omega (arith, lt))))

-- what a frame gives is inside of what it can change
given_outside : (plan : PlanData) (frame : SparseFrame) (values : Values) (c : ℕ) → IsFinished plan → IsKeptSparse plan frame → length values ≡ length plan.controls → inside_of plan frame.reached c ≡ false → c < length plan.controls
    → value_at (linked frame values) c ≡ value_at values c
given_outside plan frame values c is own long out lt =
    linked_at frame values c (omega (arith, lt, long)) ∙ ap (λ (o : Option CtrlValue). unwrap_or o (value_at values c)) (none_of (value_given frame c) (own.has.there c lt ∙ by (can_move plan frame.asked c) refl))
  where
    by : (b : Bool) → can_move plan frame.asked c ≡ b → b ≡ false
    by false moves = refl
    by true moves = absurd (true≢false (sym ((kept_holds plan frame is own).moved c lt moves) ∙ out))

-- The frames behind one that was taken out are to be renewed in what it could change.
pub remove_ready : (verdicts : Verdicts) (plan : PlanData) (c : ControlsData) (queued : List QueuedData) (board : BoardData) (place : ℕ) → IsFinished plan → AreAtRest plan c → IsBoard verdicts plan c queued board → place < length board.frames
    → AreRenewingBehind verdicts plan (sparse_at board.frames place) c.ranges c.grabs c.values (remove board.frames place) place
remove_ready verdicts plan c queued board place is rest kept lt = (
  earlier,
  record {
    finished = is;
    closed = reach.closed;
    known = reach.known;
    once = reach.once;
    are = rest.ranged;
    also = rest.ranged;
    well = rest.sound;
    long = rest.valued;
    earlier_long = λ i. length_upto c.values frames (suc i) ∙ rest.valued;
    earlier_right = λ i le less.
        let within : suc i < length frames = omega (arith, less, length-remove frames place lt) in
        subst (IsRightOver verdicts plan c.ranges c.grabs (values_upto c.values frames (suc i))) (sym (later i le)) (kept.right (suc i) within);
    earlier_next = λ i le less. ap (λ (f : SparseFrame). linked f (values_upto c.values frames (suc i))) (sym (later i le));
  },
  record {
    many = refl;
    early = λ i less. refl;
    right = λ i le less. absurd (omega (arith, le, less));
    behind = λ i le. refl;
    agree = agree;
    settled = subst (λ (v : Values). followed plan (under_values plan c.ranges c.grabs v) ≡ under_values plan c.ranges c.grabs v) (sym before) (rest_upto verdicts plan c frames (length frames) is rest kept.right place (omega (arith, lt)));
    kept = λ i less. keep i less (cases_lt i place);
    queued = λ i. refl;
  },
  ap (linked (sparse_at frames place)) (sym before),
)
  where
    frames : List SparseFrame
    frames = board.frames

    removed : SparseFrame
    removed = sparse_at frames place

    reach : IsReach plan removed.reached
    reach = kept_reach plan removed is (kept.kept place lt)

    earlier : ℕ → Values
    earlier i = values_upto c.values frames (suc i)

    later : (i : ℕ) → place ≤ i → sparse_at (remove frames place) i ≡ sparse_at frames (suc i)
    later i le = let one : i + 1 ≡ suc i = omega arith in get_or-remove_above frames place no_sparse_frame i le lt ∙ ap (sparse_at frames) one

    before : values_upto c.values (remove frames place) place ≡ values_upto c.values frames place
    before = upto_same c.values (remove frames place) frames place (λ j less. get_or-remove_below frames place no_sparse_frame j less lt)

    long : length (values_upto c.values frames place) ≡ length plan.controls
    long = length_upto c.values frames place ∙ rest.valued

    agree : AgreeOutside plan (inside_of plan removed.reached) (under_values plan c.ranges c.grabs (earlier place)) (under_values plan c.ranges c.grabs (values_upto c.values (remove frames place) place))
    agree =
        subst (λ (v : Values). AgreeOutside plan (inside_of plan removed.reached) (under_values plan c.ranges c.grabs (earlier place)) (under_values plan c.ranges c.grabs v)) (sym before)
        (agree_under plan removed.reached c.ranges c.grabs (earlier place) (values_upto c.values frames place) is.is_plan reach.closed rest.ranged.many (λ d out less. given_outside plan removed (values_upto c.values frames place) d is (kept.kept place lt) long out less))

    keep : (i : ℕ) → i < length (remove frames place) → (i < place) ⊎ (place ≤ i) → IsKeptSparse plan (sparse_at (remove frames place) i)
    keep i less (inl under) = subst (IsKeptSparse plan) (sym (get_or-remove_below frames place no_sparse_frame i under lt)) (kept.kept i (omega (arith, under, lt)))
    keep i less (inr le) = subst (IsKeptSparse plan) (sym (later i le)) (kept.kept (suc i) (omega (arith, less, length-remove frames place lt)))

-- the frames, as they were queued, without one
removed_queued : (frames : List SparseFrame) (place : ℕ) → map queued_sparse (remove frames place) ≡ remove (map queued_sparse frames) place
removed_queued frames place =
    map-append queued_sparse (take place frames) (drop (suc place) frames)
    ∙ ap (λ (l : List QueuedData). l ++ map queued_sparse (drop (suc place) frames)) (sym (take-map queued_sparse place frames))
    ∙ ap (λ (l : List QueuedData). take place (map queued_sparse frames) ++ l) (sym (drop-map queued_sparse (suc place) frames))

-- Once they are, the frames are a board's without that one.
pub removed_board : (verdicts : Verdicts) (plan : PlanData) (c : ControlsData) (board new : BoardData) (place : ℕ) → IsFinished plan → AreAtRest plan c → IsBoard verdicts plan c (queued_in board) board → place < length board.frames
    → AreRenewed verdicts plan c.ranges c.grabs c.values (remove board.frames place) new.frames place → IsRoomFor plan new.room → IsBoard verdicts plan c (remove (queued_in board) place) new
removed_board verdicts plan c board new place is rest kept lt renewed room =
    renewed_board verdicts plan c c.ranges (remove (queued_in board) place) (remove board.frames place) new place (removed_queued board.frames place) renewed
    (λ i less within.
    subst (λ (f : SparseFrame). IsRightOver verdicts plan c.ranges c.grabs (values_upto c.values new.frames i) f) (sym (same i less))
    (subst (λ (v : Values). IsRightOver verdicts plan c.ranges c.grabs v (sparse_at board.frames i)) (sym (upto_same c.values new.frames board.frames i (λ j under. same j (omega (arith, under, less))))) (kept.right i (omega (arith, less, lt)))))
    (λ values. refl) room
  where
    same : (j : ℕ) → j < place → sparse_at new.frames j ≡ sparse_at board.frames j
    same j less = renewed.early j less ∙ get_or-remove_below board.frames place no_sparse_frame j less lt

-- a sum of two counts is the counts' sum
added : (a b : ℕ → ℕ) (ks : List ℕ) → sum_by (λ k. a k + b k) ks ≡ sum_by a ks + sum_by b ks
added a b [] = refl
added a b (k ∷ ks) = omega (arith, sum_by-cons (λ j. a j + b j) k ks, sum_by-cons a k ks, sum_by-cons b k ks, added a b ks)

no_sum : (ks : List ℕ) → sum_by (λ k. 0) ks ≡ 0
no_sum [] = refl
no_sum (k ∷ ks) = omega (arith, sum_by-cons (λ j. 0) k ks, no_sum ks)

-- frame by frame as many clusters are named as cluster by cluster
pub named_total : (plan : PlanData) (ks : List ℕ) (frames : List SparseFrame) → sum_by (λ f. touched_among plan f.asked ks) frames ≡ named_by_frames plan (map queued_sparse frames) ks
named_total plan ks [] = sym (no_sum ks)
named_total plan ks (f ∷ fs) =
    sum_by-cons (λ (g : SparseFrame). touched_among plan g.asked ks) f fs
    ∙ ap (λ (n : ℕ). touched_among plan f.asked ks + n) (named_total plan ks fs)
    ∙ sym (added (λ k. cond (is_touched f.asked (members plan k)) 1 0) (naming_count plan (map queued_sparse fs)) ks)
    ∙ same_sum ks
  where
    same_sum : (js : List ℕ) → sum_by (λ k. cond (is_touched f.asked (members plan k)) 1 0 + naming_count plan (map queued_sparse fs) k) js ≡ sum_by (naming_count plan (map queued_sparse (f ∷ fs))) js
    same_sum [] = refl
    same_sum (k ∷ js) =
        omega (
          arith,
          sum_by-cons (λ j. cond (is_touched f.asked (members plan j)) 1 0 + naming_count plan (map queued_sparse fs) j) k js,
          sum_by-cons (naming_count plan (map queued_sparse (f ∷ fs))) k js,
          same_sum js,
          sum_by-cons (λ (q : QueuedData). cond (is_touched q.asked (members plan k)) 1 0) (queued_sparse f) (map queued_sparse fs),
        )

-- and so behind one that is taken out
pub named_removed : (plan : PlanData) (ks : List ℕ) (frames : List SparseFrame) (place : ℕ) → place < length frames
    → sum_by (λ f. touched_among plan f.asked ks) (drop place (remove frames place)) ≡ named_by_frames plan (drop (place + 1) (map queued_sparse frames)) ks
named_removed plan ks frames place lt =
    named_total plan ks (drop place (remove frames place))
    ∙ ap (λ (l : List SparseFrame). named_by_frames plan (map queued_sparse l) ks) behind
    ∙ ap (λ (l : List QueuedData). named_by_frames plan l ks) (sym (drop-map queued_sparse (place + 1) frames))
  where
    behind : drop place (remove frames place) ≡ drop (place + 1) frames
    behind =
        let long : length (take place frames) ≡ place = length-take-le place frames (omega (arith, lt)) in
        let one : suc place ≡ place + 1 = omega arith in
        drop_at (take place frames) (drop (suc place) frames) place long ∙ ap (λ (n : ℕ). drop n frames) one

-- What was loaded behind a frame that was taken out is what stood there.
pub behind_ready : (verdicts : Verdicts) (plan : PlanData) (removed : SparseFrame) (controls : List Control) (grabs : Grabs) (values : Values) (frames : List SparseFrame) (place : ℕ) (ks first second : List ℕ) (spare before after : Values) → IsPlan plan
    → ks ≡ removed.reached → first ≡ removed.reached → second ≡ removed.reached → length spare ≡ length plan.controls → before ≡ with_rows_of plan (values_upto values frames place) first spare → after ≡ with_reached_values plan removed second before
    → AreRenewingBehind verdicts plan removed controls grabs values frames place → AreRenewingSame verdicts plan ks controls grabs values frames frames place place after
behind_ready verdicts plan removed controls grabs values frames place ks first second spare before after is ks_is first_is second_is wide loaded reached (earlier, can, so, left) =
    subst (λ (l : List ℕ). AreRenewingSame verdicts plan l controls grabs values frames frames place place after) (sym ks_is)
    (subst (AreRenewingSame verdicts plan removed.reached controls grabs values frames frames place place) (sym then_after) ready)
  where
    base : Values
    base = values_upto values frames place

    then_before : before ≡ with_rows_of plan base removed.reached spare
    then_before = loaded ∙ ap (λ (l : List ℕ). with_rows_of plan base l spare) first_is

    then_after : after ≡ with_reached_values plan removed removed.reached (with_rows_of plan base removed.reached spare)
    then_after = reached ∙ ap (λ (l : List ℕ). with_reached_values plan removed l before) second_is ∙ ap (with_reached_values plan removed removed.reached) then_before

    ready : AreRenewingSame verdicts plan removed.reached controls grabs values frames frames place place (with_reached_values plan removed removed.reached (with_rows_of plan base removed.reached spare))
    ready = same_made verdicts plan removed.reached controls grabs values frames place (with_reached_values plan removed removed.reached (with_rows_of plan base removed.reached spare)) earlier can so
        (spare_next plan removed.reached removed base (earlier place) (with_rows_of plan base removed.reached spare) is (length_upto values frames place ∙ can.long)
        (long_rows plan base removed.reached spare ∙ wide) left (loaded_inside plan base removed.reached spare wide))

-- how many that asks, in the words of what is queued
pub removed_asked : (plan : PlanData) (frames items : List SparseFrame) (removed : SparseFrame) (place : ℕ) → place < length frames → removed ≡ sparse_at frames place → items ≡ remove frames place → IsKeptSparse plan (sparse_at frames place)
    → sum_by (λ f. touched_among plan f.asked removed.reached) (drop place items) ≡ named_by_frames plan (drop (place + 1) (map queued_sparse frames)) (reached_clusters plan (named_clusters plan (asked_at (map queued_sparse frames) place)))
removed_asked plan frames items removed place lt removed_is items_are kept =
    ap (λ (l : List SparseFrame). sum_by (λ f. touched_among plan f.asked removed.reached) (drop place l)) items_are
    ∙ named_removed plan removed.reached frames place lt
    ∙ ap (named_by_frames plan (drop (place + 1) (map queued_sparse frames))) (ap (λ (f : SparseFrame). f.reached) removed_is ∙ kept.reaches ∙ ap (reached_clusters plan) (kept.naming.names ∙ ap (named_clusters plan) own))
  where
    own : (sparse_at frames place).asked ≡ asked_at (map queued_sparse frames) place
    own = ap (λ (q : QueuedData). q.asked) (sym (get_or-map queued_sparse frames place no_sparse_frame))
