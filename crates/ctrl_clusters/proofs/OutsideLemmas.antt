-- Controls that a change doesn't reach: what two moments that agree on them make of pairs agrees on them, too.
use Rattle.std.proofs.Common.{◌≡◌, ◌≢◌, ◌∙◌, ◌<◌, ◌≤◌, ◌⊎◌, inl, inr, slice_set, ℕ, nat_eq, Bool, true, false, if◌then◌else◌, List, length, Option, None, Some, Result, is_some, unwrap_or, refl, sym, ap, get_or, arith}
use Rattle.std.specs.List.{All, list_any}
use Rattle.std.specs.Option.{option_and_then}
use Rattle.std.proofs.lemmas.Bool.{cases_lt, eq-eqb, true≢false}
use Rattle.std.proofs.lemmas.List.{get_or_past, get_or-set_other, length-set}
use Rattle.std.proofs.lemmas.List.Folds.{list_any_at}
use Rattle.ctrl_types.specs.declared.errno.Errno.{Errno}
use Rattle.ctrl_types.specs.declared.ids.Pair.{Pair}
use Rattle.ctrl_types.specs.declared.value.CtrlValue.{CtrlValue}
use Rattle.ctrl_types.specs.Pairs.{last_value}
use Rattle.ctrl_types.specs.Values.{zero_value}
use Rattle.ctrl_calls.specs.Meanings.{Verdicts}
use Rattle.ctrl_settle.specs.Control.{Control}
use Rattle.ctrl_settle.specs.Settle.{settled_anew}
use Rattle.range_followers.specs.declared.follower.Follower.{Follower}
use Rattle.range_followers.specs.Followed.{is_followed_by}
use Rattle.range_followers.specs.Wanted.{follower_of, wanted_by, wanted_range}
use Rattle.range_followers.proofs.FollowedLemmas.{wanted_same}
use Rattle.ctrl_handlers.specs.Plan.{PlanData, IsPlan, IsFollowing, cluster_of, control_in, members, no_control}
use Rattle.ctrl_handlers.proofs.ClusterLemmas.{cluster_of_member, cluster_of_within}
use Rattle.ctrl_clusters.specs.ControlsData.{ControlsData, DifferIn, as_one, is_in_one_of}
use Rattle.ctrl_clusters.specs.Following.{AgreeOutside, AreAtRest, HaveFollowed, IsClosed, IsReach, followed, inside_of, is_touched_in, laid_over, range_under, ranges_under, values_under}
use Rattle.ctrl_clusters.specs.Ranges.{modified}
use Rattle.ctrl_clusters.specs.Overlay.{is_touched, overlay, result_value, result_value_in, row_after}
use Rattle.ctrl_clusters.specs.Rows.{AreControlsOf, Grabs, Values, is_grabbed, value_at}
use Rattle.ctrl_clusters.proofs.FollowingLemmas.{agreed_range, found_follows, length_ranges, length_values, range_there, value_then, value_untouched}
use Rattle.ctrl_clusters.proofs.OverlayLemmas.{each_of, length_overlay, overlay_at, separate}

-- what holds of each number that is among some holds of all of them
pub all_among : (P : ℕ → Type 0) (cs : List ℕ) → ((c : ℕ) → list_any (nat_eq c) cs ≡ true → P c) → All P cs
all_among P cs each = λ i d lt. each (get_or cs i d) (list_any_at (nat_eq (get_or cs i d)) cs i d lt (eq-eqb (get_or cs i d) (get_or cs i d) refl))

-- the values that pairs leave agree where values, ranges and grabs do
pub overlaid_agree : (verdicts : Verdicts) (plan : PlanData) (inside : ℕ → Bool) (d e : ControlsData) (pairs : List Pair) → IsPlan plan → IsClosed plan inside → AgreeOutside plan inside d e
    → length d.values ≡ length plan.controls → length e.values ≡ length plan.controls → (c : ℕ) → inside c ≡ false → c < length plan.controls
    → value_at (overlay verdicts plan d.ranges d.values d.grabs pairs) c ≡ value_at (overlay verdicts plan e.ranges e.values e.grabs pairs) c
overlaid_agree verdicts plan inside d e pairs is closed agree long others c out lt =
    overlay_at verdicts plan d.ranges d.values d.grabs pairs c (omega (arith, lt, long))
    ∙ ap (λ (v : CtrlValue). unwrap_or (result_value_in plan (row_after verdicts plan d.ranges d.values d.grabs pairs) (cluster_of plan c) c) v) (agree.values c out lt)
    ∙ ap (λ (o : Option CtrlValue). unwrap_or o (value_at e.values c)) (by (cluster_of plan c) refl)
    ∙ sym (overlay_at verdicts plan e.ranges e.values e.grabs pairs c (omega (arith, lt, others)))
  where
    alike : (k : ℕ) → cluster_of plan c ≡ Some k
        → All (λ m. (control_in d.ranges m ≡ control_in e.ranges m) × (value_at d.values m ≡ value_at e.values m) × (is_grabbed d.grabs m ≡ is_grabbed e.grabs m) × (last_value pairs m ≡ last_value pairs m)) (members plan k)
    alike k in_it =
        all_among (λ m. (control_in d.ranges m ≡ control_in e.ranges m) × (value_at d.values m ≡ value_at e.values m) × (is_grabbed d.grabs m ≡ is_grabbed e.grabs m) × (last_value pairs m ≡ last_value pairs m)) (members plan k)
        (λ m among.
        let outside : inside m ≡ false = closed.clusters k c m (cluster_of_member plan c k in_it) among out in
        let there : m < length plan.controls = each_of (length plan.controls) m (members plan k) (is.members_known k) among in
        (agree.ranges m outside there, agree.values m outside there, agree.grabs m outside there, refl))

    by : (o : Option ℕ) → cluster_of plan c ≡ o
        → result_value_in plan (row_after verdicts plan d.ranges d.values d.grabs pairs) o c ≡ result_value_in plan (row_after verdicts plan e.ranges e.values e.grabs pairs) o c
    by None none = refl
    by (Some k) in_it =
        ap (λ (r : Result (List CtrlValue) Errno). result_value (members plan k) r c) (separate verdicts plan d.ranges e.ranges d.values e.values d.grabs e.grabs pairs pairs k (alike k in_it))

-- and so do the ranges and the values once they follow them
pub laid_agree : (verdicts : Verdicts) (plan : PlanData) (inside : ℕ → Bool) (d e : ControlsData) (pairs : List Pair) → IsPlan plan → IsClosed plan inside → AgreeOutside plan inside d e
    → AreControlsOf plan d.ranges → AreControlsOf plan e.ranges → length d.values ≡ length plan.controls → length e.values ≡ length plan.controls
    → AgreeOutside plan inside (laid_over verdicts plan d pairs) (laid_over verdicts plan e pairs)
laid_agree verdicts plan inside d e pairs is closed agree are also long others = record {
  ranges = λ c out lt. range_there plan.followers d.ranges first c (omega (arith, lt, are.many)) ∙ range c out lt ∙ sym (range_there plan.followers e.ranges second c (omega (arith, lt, also.many)));
  values =
      λ c out lt.
      value_then plan.followers d.ranges first c (omega (arith, lt, long, longer))
      ∙ ap (λ (r : Control). if is_some (follower_of plan.followers c) then settled_anew r (value_at first c) else value_at first c) (range c out lt)
      ∙ ap (λ (v : CtrlValue). if is_some (follower_of plan.followers c) then settled_anew (range_under plan.followers e.ranges second c) v else v) (value c out lt)
      ∙ sym (value_then plan.followers e.ranges second c (omega (arith, lt, others, as_long)));
  grabs = agree.grabs;
}
  where
    first : Values
    first = overlay verdicts plan d.ranges d.values d.grabs pairs

    second : Values
    second = overlay verdicts plan e.ranges e.values e.grabs pairs

    longer : length first ≡ length d.values
    longer = length_overlay verdicts plan d.ranges d.values d.grabs pairs

    as_long : length second ≡ length e.values
    as_long = length_overlay verdicts plan e.ranges e.values e.grabs pairs

    value : (c : ℕ) → inside c ≡ false → c < length plan.controls → value_at first c ≡ value_at second c
    value = overlaid_agree verdicts plan inside d e pairs is closed agree long others

    range : (c : ℕ) → inside c ≡ false → c < length plan.controls → range_under plan.followers d.ranges first c ≡ range_under plan.followers e.ranges second c
    range c out lt = by (follower_of plan.followers c) refl
      where
        by : (o : Option Follower) → follower_of plan.followers c ≡ o → range_under plan.followers d.ranges first c ≡ range_under plan.followers e.ranges second c
        by None none =
            ap (λ (x : Option Follower). unwrap_or (option_and_then (wanted_by (control_in d.ranges c) first) x) (control_in d.ranges c)) none
            ∙ agree.ranges c out lt
            ∙ sym (ap (λ (x : Option Follower). unwrap_or (option_and_then (wanted_by (control_in e.ranges c) second) x) (control_in e.ranges c)) none)
        by (Some f) found =
            let both = found_follows (IsFollowing plan.controls plan.followers) plan.followers c f is.follow.each found in
            ap (λ (x : Option Follower). unwrap_or (option_and_then (wanted_by (control_in d.ranges c) first) x) (control_in d.ranges c)) found
            ∙ ap (λ (r : Control). unwrap_or (wanted_by r first f) r) (agree.ranges c out lt)
            ∙ ap (λ (x : Option Control). unwrap_or x (control_in e.ranges c))
            (wanted_same (control_in e.ranges c) first second f (λ s follows. value s (closed.follows f c s found follows out) (omega (arith, both.1.lower s follows, both.1.known))))
            ∙ sym (ap (λ (x : Option Follower). unwrap_or (option_and_then (wanted_by (control_in e.ranges c) second) x) (control_in e.ranges c)) found)

-- outside of some clusters nothing is another
pub record StayOutside (plan : PlanData) (ks : List ℕ) (before after : ControlsData) : Type 0 where
  pub ranges : (c : ℕ) → inside_of plan ks c ≡ false → control_in before.ranges c ≡ control_in after.ranges c
  pub values : DifferIn plan ks before.values after.values

-- Ranges and values that are those of a moment at rest outside of clusters that hold all that they reach have followed there.
pub outside_followed : (plan : PlanData) (ks : List ℕ) (c : ControlsData) (r : List Control) (v : Values) → IsPlan plan → AreAtRest plan c → IsClosed plan (inside_of plan ks)
    → ((d : ℕ) → d < length plan.controls → inside_of plan ks d ≡ false → control_in r d ≡ control_in c.ranges d)
    → ((d : ℕ) → d < length plan.controls → inside_of plan ks d ≡ false → value_at v d ≡ value_at c.values d) → HaveFollowed plan ks r v
outside_followed plan ks c r v is rest closed ranged valued = record {
  ranges = λ d lt out. same d lt out ∙ settled d lt ∙ sym (ranged d lt out);
  values = λ d lt out.
      ap (λ (x : Control). if is_some (follower_of plan.followers d) then settled_anew x (value_at v d) else value_at v d) (same d lt out)
      ∙ ap (λ (x : CtrlValue). if is_some (follower_of plan.followers d) then settled_anew (range_under plan.followers c.ranges c.values d) x else x) (valued d lt out)
      ∙ sym (value_then plan.followers c.ranges c.values d (omega (arith, lt, rest.valued)))
      ∙ ap (λ (x : ControlsData). value_at x.values d) rest.settled
      ∙ sym (valued d lt out);
}
  where
    source : (d s : ℕ) (f : Follower) → inside_of plan ks d ≡ false → follower_of plan.followers d ≡ Some f → is_followed_by f s ≡ true → value_at v s ≡ value_at c.values s
    source d s f out found follows =
        let both = found_follows (IsFollowing plan.controls plan.followers) plan.followers d f is.follow.each found in
        valued s (omega (arith, both.1.lower s follows, both.1.known)) (closed.follows f d s found follows out)

    same : (d : ℕ) → d < length plan.controls → inside_of plan ks d ≡ false → range_under plan.followers r v d ≡ range_under plan.followers c.ranges c.values d
    same d lt out =
        ap (λ (x : Control). unwrap_or (wanted_range plan.followers d x v) x) (ranged d lt out)
        ∙ agreed_range plan c.ranges v c.values d (λ f s found follows. source d s f out found follows)

    settled : (d : ℕ) → d < length plan.controls → range_under plan.followers c.ranges c.values d ≡ control_in c.ranges d
    settled d lt = sym (range_there plan.followers c.ranges c.values d (omega (arith, lt, rest.ranged.many))) ∙ ap (λ (x : ControlsData). control_in x.ranges d) rest.settled

-- and once they follow, nothing is another there
pub outside_stays : (plan : PlanData) (ks : List ℕ) (c : ControlsData) (r : List Control) (v : Values) (g : Grabs) → AreAtRest plan c → length r ≡ length plan.controls → length v ≡ length plan.controls
    → HaveFollowed plan ks r v → ((d : ℕ) → d < length plan.controls → inside_of plan ks d ≡ false → control_in r d ≡ control_in c.ranges d)
    → ((d : ℕ) → d < length plan.controls → inside_of plan ks d ≡ false → value_at v d ≡ value_at c.values d) → StayOutside plan ks c (followed plan (as_one r v g))
outside_stays plan ks c r v g rest many long have ranged valued = record {
  ranges = λ d out. range d out (cases_lt d (length plan.controls));
  values = λ d out. value d out (cases_lt d (length plan.controls));
}
  where
    range : (d : ℕ) → inside_of plan ks d ≡ false → (d < length plan.controls) ⊎ (length plan.controls ≤ d) → control_in c.ranges d ≡ control_in (ranges_under plan.followers r v) d
    range d out (inl lt) = sym (range_there plan.followers r v d (omega (arith, lt, many)) ∙ have.ranges d lt out ∙ ranged d lt out)
    range d out (inr past) =
        get_or_past c.ranges d no_control (omega (arith, past, rest.ranged.many)) ∙ sym (get_or_past (ranges_under plan.followers r v) d no_control (omega (arith, past, many, length_ranges plan.followers r v)))

    value : (d : ℕ) → inside_of plan ks d ≡ false → (d < length plan.controls) ⊎ (length plan.controls ≤ d) → value_at c.values d ≡ value_at (values_under plan.followers r v) d
    value d out (inl lt) = sym (value_then plan.followers r v d (omega (arith, lt, long)) ∙ have.values d lt out ∙ valued d lt out)
    value d out (inr past) =
        get_or_past c.values d zero_value (omega (arith, past, rest.valued)) ∙ sym (get_or_past (values_under plan.followers r v) d zero_value (omega (arith, past, long, length_values plan.followers r v)))

-- pairs touch no cluster outside of some that have each that they touch
untouched_outside : (plan : PlanData) (ks : List ℕ) (pairs : List Pair) (d : ℕ) → ((k : ℕ) → k < length plan.clusters → is_touched pairs (members plan k) ≡ true → list_any (nat_eq k) ks ≡ true)
    → inside_of plan ks d ≡ false → is_touched_in plan pairs (cluster_of plan d) ≡ false
untouched_outside plan ks pairs d touched out = by (cluster_of plan d) refl out
  where
    by : (o : Option ℕ) → cluster_of plan d ≡ o → is_in_one_of ks o ≡ false → is_touched_in plan pairs o ≡ false
    by None none apart = refl
    by (Some k) found apart = tested (is_touched pairs (members plan k)) refl
      where
        tested : (b : Bool) → is_touched pairs (members plan k) ≡ b → b ≡ false
        tested false is = refl
        tested true is = absurd (true≢false (sym (touched k (cluster_of_within plan d k found) is) ∙ apart))

-- Where pairs are laid over what is at rest, all has followed outside of clusters that hold those that the pairs touch, and all that they reach.
pub laid_followed : (verdicts : Verdicts) (plan : PlanData) (ks : List ℕ) (c : ControlsData) (pairs : List Pair) → IsPlan plan → AreAtRest plan c → IsReach plan ks
    → ((k : ℕ) → k < length plan.clusters → is_touched pairs (members plan k) ≡ true → list_any (nat_eq k) ks ≡ true) → HaveFollowed plan ks c.ranges (overlay verdicts plan c.ranges c.values c.grabs pairs)
laid_followed verdicts plan ks c pairs is rest reach touched =
    outside_followed plan ks c c.ranges (overlay verdicts plan c.ranges c.values c.grabs pairs) is rest reach.closed (λ d lt out. refl)
    (λ d lt out. value_untouched verdicts plan c.ranges c.values c.grabs pairs d (omega (arith, lt, rest.valued)) (untouched_outside plan ks pairs d touched out))

-- and nothing is another there then
pub laid_within : (verdicts : Verdicts) (plan : PlanData) (ks : List ℕ) (c : ControlsData) (pairs : List Pair) → IsPlan plan → AreAtRest plan c → IsReach plan ks
    → ((k : ℕ) → k < length plan.clusters → is_touched pairs (members plan k) ≡ true → list_any (nat_eq k) ks ≡ true) → StayOutside plan ks c (laid_over verdicts plan c pairs)
laid_within verdicts plan ks c pairs is rest reach touched =
    outside_stays plan ks c c.ranges (overlay verdicts plan c.ranges c.values c.grabs pairs) c.grabs rest rest.ranged.many (length_overlay verdicts plan c.ranges c.values c.grabs pairs ∙ rest.valued)
    (laid_followed verdicts plan ks c pairs is rest reach touched) (λ d lt out. refl)
    (λ d lt out. value_untouched verdicts plan c.ranges c.values c.grabs pairs d (omega (arith, lt, rest.valued)) (untouched_outside plan ks pairs d touched out))

-- another control than one that is inside
other_outside : (plan : PlanData) (ks : List ℕ) (k d : ℕ) → inside_of plan ks k ≡ true → inside_of plan ks d ≡ false → d ≢ k
other_outside plan ks k d in_it out same = true≢false (sym in_it ∙ ap (inside_of plan ks) (sym same) ∙ out)

-- The same, where one control has another range and another value, and the clusters are those that hold its own, and all that this reaches.
pub given_followed : (plan : PlanData) (ks : List ℕ) (c : ControlsData) (k : ℕ) (changed : Control) (value : CtrlValue) → IsPlan plan → AreAtRest plan c → IsReach plan ks → inside_of plan ks k ≡ true
    → HaveFollowed plan ks (modified c.ranges k changed) (slice_set c.values k value)
given_followed plan ks c k changed value is rest reach in_it =
    outside_followed plan ks c (modified c.ranges k changed) (slice_set c.values k value) is rest reach.closed
    (λ d lt out. get_or-set_other c.ranges k d changed no_control (other_outside plan ks k d in_it out)) (λ d lt out. get_or-set_other c.values k d value zero_value (other_outside plan ks k d in_it out))

pub given_within : (plan : PlanData) (ks : List ℕ) (c : ControlsData) (k : ℕ) (changed : Control) (value : CtrlValue) → IsPlan plan → AreAtRest plan c → IsReach plan ks → inside_of plan ks k ≡ true
    → StayOutside plan ks c (followed plan (as_one (modified c.ranges k changed) (slice_set c.values k value) c.grabs))
given_within plan ks c k changed value is rest reach in_it =
    outside_stays plan ks c (modified c.ranges k changed) (slice_set c.values k value) c.grabs rest (length-set c.ranges k changed ∙ rest.ranged.many) (length-set c.values k value ∙ rest.valued)
    (given_followed plan ks c k changed value is rest reach in_it) (λ d lt out. get_or-set_other c.ranges k d changed no_control (other_outside plan ks k d in_it out))
    (λ d lt out. get_or-set_other c.values k d value zero_value (other_outside plan ks k d in_it out))
