-- What stays where ranges follow values: what follows nothing does, and what has followed once follows no further.
use Rattle.std.proofs.Common.{◌≡◌, ◌∙◌, ◌<◌, ◌==◌, ◌&&◌, ℕ, ℤ, Bool, true, false, not, cond, if◌then◌else◌, List, [], ◌∷◌, length, map, get_or, Option, None, Some, Ok, Err, is_some, unwrap_or, refl, sym, ap, subst, arith}
use Rattle.std.specs.List.{All}
use Rattle.std.specs.Option.{option_and_then, option_map}
use Rattle.std.specs.Ordering.{int_eq}
use Rattle.std.proofs.lemmas.Bool.{and_parts, eqb-true, true≢false}
use Rattle.std.proofs.lemmas.Bool.Decides.{Decides-int_eq}
use Rattle.std.proofs.lemmas.List.{ext_get_or, get_or-map, length-map}
use Rattle.std.proofs.lemmas.List.Elements.{All-head, All-tail}
use Rattle.std.proofs.lemmas.List.FromFn.{get_or-map-range_with_len, length-map-range_with_len}
use Rattle.ctrl_types.specs.Values.{zero_value}
use Rattle.ctrl_types.specs.declared.kind.Kind.{Kind}
use Rattle.ctrl_types.specs.declared.kind.Kind.TheVariants.{Integer}
use Rattle.ctrl_types.specs.declared.errno.Errno.TheVariants.{EBUSY}
use Rattle.ctrl_types.specs.declared.ids.Pair.{Pair}
use Rattle.ctrl_types.specs.declared.value.CtrlValue.{CtrlValue}
use Rattle.ctrl_calls.specs.Meanings.{Verdicts}
use Rattle.ctrl_settle.specs.Control.{Control, default_of}
use Rattle.ctrl_settle.specs.Faults.{IsWellFormed}
use Rattle.ctrl_settle.specs.Settle.{settled_anew, taken_or}
use Rattle.ctrl_settle.proofs.Settling.{default_settles, settled_anew-settled}
use Rattle.range_followers.specs.declared.follower.Follower.{Follower}
use Rattle.range_followers.specs.Followed.{is_followed_by}
use Rattle.range_followers.specs.Wanted.{can_follow, default_from, follower_of, has_range_of, number_from, unless_there, wanted_by, wanted_of}
use Rattle.range_followers.proofs.FollowedLemmas.{rewanted, wanted_found, wanted_same}
use Rattle.range_followers.proofs.Sound.{wanted_sound}
use Rattle.ctrl_handlers.specs.Plan.{PlanData, IsPlan, IsFollowing, cluster_of, control_in, members, no_control, control}
use Rattle.ctrl_clusters.specs.ControlsData.{ControlsData, as_one, at_start}
use Rattle.ctrl_clusters.specs.Following.{AreAtRest, range_under, ranges_under, value_under, values_under, followed, is_touched_in, laid_over, under_values}
use Rattle.ctrl_clusters.specs.Judging.{validated_row}
use Rattle.ctrl_clusters.specs.Overlay.{names_grabbed, overlay, result_value, result_value_in, row_after}
use Rattle.ctrl_clusters.specs.Rows.{AreControlsOf, Grabs, Values, row_of, value_at}
use Rattle.ctrl_clusters.proofs.OverlayLemmas.{length_overlay, overlay_at, value_own}

-- the range of a control under values
pub range_there : (followers : List Follower) (controls : List Control) (values : Values) (c : ℕ) → c < length controls → control_in (ranges_under followers controls values) c ≡ range_under followers controls values c
unfolding ranges_under
range_there followers controls values c lt = get_or-map-range_with_len (range_under followers controls values) 0 (length controls) c c no_control lt (omega arith)

-- and its value
pub value_then : (followers : List Follower) (controls : List Control) (values : Values) (c : ℕ) → c < length values → value_at (values_under followers controls values) c ≡ value_under followers controls values c
unfolding values_under
value_then followers controls values c lt = get_or-map-range_with_len (value_under followers controls values) 0 (length values) c c zero_value lt (omega arith)

pub length_ranges : (followers : List Follower) (controls : List Control) (values : Values) → length (ranges_under followers controls values) ≡ length controls
unfolding ranges_under
length_ranges followers controls values = length-map-range_with_len (range_under followers controls values) 0 (length controls)

pub length_values : (followers : List Follower) (controls : List Control) (values : Values) → length (values_under followers controls values) ≡ length values
unfolding values_under
length_values followers controls values = length-map-range_with_len (value_under followers controls values) 0 (length values)

-- what follows nothing keeps its range and its value
pub range_stays : (followers : List Follower) (controls : List Control) (values : Values) (c : ℕ) → follower_of followers c ≡ None → range_under followers controls values c ≡ control_in controls c
range_stays followers controls values c none = ap (λ (o : Option Follower). unwrap_or (option_and_then (wanted_by (control_in controls c) values) o) (control_in controls c)) none

pub value_stays : (followers : List Follower) (controls : List Control) (values : Values) (c : ℕ) → follower_of followers c ≡ None → value_under followers controls values c ≡ value_at values c
value_stays followers controls values c none = ap (λ (o : Option Follower). if is_some o then settled_anew (range_under followers controls values c) (value_at values c) else value_at values c) none

-- a follower that is found is one of them, and follows as they do
pub found_follows : (P : Follower → Type 0) (followers : List Follower) (c : ℕ) (f : Follower) → All P followers → follower_of followers c ≡ Some f → (f.control ≡ c) × P f
found_follows P [] c f all found = absurd (cc)
found_follows P (g ∷ gs) c f all found = by (g.control == c) refl found (found_follows P gs c f (All-tail P g gs all))
  where
    by : (b : Bool) → (g.control == c) ≡ b → cond b (Some g) (follower_of gs c) ≡ Some f → (follower_of gs c ≡ Some f → (f.control ≡ c) × P f) → (f.control ≡ c) × P f
    by true is first rest =
        let same : g ≡ f = cc in
        subst (λ (h : Follower). (h.control ≡ c) × P h) same (eqb-true g.control c is, All-head P g gs all)
    by false is later rest = rest later

-- a follower among controls of its plan: it follows, and has a range that is wanted
record IsFollower (plan : PlanData) (controls : List Control) (c : ℕ) (f : Follower) : Type 0 where
  own : f.control ≡ c
  follows : IsFollowing plan.controls plan.followers f
  can : can_follow (control_in controls c).kind ≡ true

kind_of : (plan : PlanData) (controls : List Control) (c : ℕ) → AreControlsOf plan controls → c < length plan.controls → (control_in controls c).kind ≡ (control plan c).kind
kind_of plan controls c are lt =
    sym (get_or-map (λ (x : Control). x.kind) controls c no_control Integer (omega (arith, lt, are.many)))
    ∙ ap (λ (kinds : List Kind). get_or kinds c Integer) are.kinds
    ∙ get_or-map (λ (x : Control). x.kind) plan.controls c no_control Integer lt

is_follower : (plan : PlanData) (controls : List Control) (c : ℕ) (f : Follower) → IsPlan plan → AreControlsOf plan controls → follower_of plan.followers c ≡ Some f → IsFollower plan controls c f
is_follower plan controls c f is are found = record {
  own = both.0;
  follows = both.1;
  can =
      ap can_follow (kind_of plan controls c are (subst (λ (k : ℕ). k < length plan.controls) both.0 both.1.known))
      ∙ ap (λ (k : ℕ). can_follow (control plan k).kind) (sym both.0) ∙ both.1.follows;
}
  where
    both : (f.control ≡ c) × IsFollowing plan.controls plan.followers f
    both = found_follows (IsFollowing plan.controls plan.followers) plan.followers c f is.follow.each found

-- the range that it has under values is the one that is wanted
range_found : (plan : PlanData) (controls : List Control) (values : Values) (c : ℕ) (f : Follower) → follower_of plan.followers c ≡ Some f → IsFollower plan controls c f
    → wanted_by (control_in controls c) values f ≡ Some (range_under plan.followers controls values c)
range_found plan controls values c f found is =
    let wanted = wanted_found (control_in controls c) values f is.can in
    wanted.found
    ∙ ap (λ (r : Control). Some r)
    (sym (ap (λ (o : Option Follower). unwrap_or (option_and_then (wanted_by (control_in controls c) values) o) (control_in controls c)) found
    ∙ ap (λ (o : Option Control). unwrap_or o (control_in controls c)) wanted.found))

pub none_by : (o : Option Follower) → is_some o ≡ false → o ≡ None
none_by None h = refl
none_by (Some f) h = absurd (true≢false h)

-- the range that values give doesn't hang on what other values gave before
pub range_anew : (plan : PlanData) (controls : List Control) (before values : Values) (c : ℕ) → IsPlan plan → AreControlsOf plan controls → c < length controls
    → range_under plan.followers (ranges_under plan.followers controls before) values c ≡ range_under plan.followers controls values c
range_anew plan controls before values c is are lt = by (follower_of plan.followers c) refl
  where
    here : control_in (ranges_under plan.followers controls before) c ≡ range_under plan.followers controls before c
    here = range_there plan.followers controls before c lt

    by : (o : Option Follower) → follower_of plan.followers c ≡ o → range_under plan.followers (ranges_under plan.followers controls before) values c ≡ range_under plan.followers controls values c
    by None none = range_stays plan.followers (ranges_under plan.followers controls before) values c none ∙ here ∙ range_stays plan.followers controls before c none ∙ sym (range_stays plan.followers controls values c none)
    by (Some f) found =
        let follower = is_follower plan controls c f is are found in
        let first = range_found plan controls before c f found follower in
        let after = range_found plan controls values c f found follower in
        ap (λ (o : Option Follower). unwrap_or (option_and_then (wanted_by (control_in (ranges_under plan.followers controls before) c) values) o) (control_in (ranges_under plan.followers controls before) c)) found
        ∙ ap (λ (r : Control). unwrap_or (wanted_by r values f) r) here
        ∙ ap (λ (o : Option Control). unwrap_or o (range_under plan.followers controls before c))
        (rewanted (control_in controls c) (range_under plan.followers controls before c) before values f first ∙ after)

-- values that agree in what is followed give a control the same range, whether it has followed before or not
pub range_again : (plan : PlanData) (controls : List Control) (values others : Values) (c : ℕ) → IsPlan plan → AreControlsOf plan controls → c < length controls
    → ((s : ℕ) → s < length plan.controls → follower_of plan.followers s ≡ None → value_at values s ≡ value_at others s)
    → range_under plan.followers (ranges_under plan.followers controls others) values c ≡ range_under plan.followers controls others c
range_again plan controls values others c is are lt same = by (follower_of plan.followers c) refl
  where
    here : control_in (ranges_under plan.followers controls others) c ≡ range_under plan.followers controls others c
    here = range_there plan.followers controls others c lt

    by : (o : Option Follower) → follower_of plan.followers c ≡ o → range_under plan.followers (ranges_under plan.followers controls others) values c ≡ range_under plan.followers controls others c
    by None none = range_stays plan.followers (ranges_under plan.followers controls others) values c none ∙ here
    by (Some f) found =
        let follower = is_follower plan controls c f is are found in
        let before = range_found plan controls others c f found follower in
        ap (λ (o : Option Follower). unwrap_or (option_and_then (wanted_by (control_in (ranges_under plan.followers controls others) c) values) o) (control_in (ranges_under plan.followers controls others) c)) found
        ∙ ap (λ (r : Control). unwrap_or (wanted_by r values f) r) here
        ∙ ap (λ (o : Option Control). unwrap_or o (range_under plan.followers controls others c))
        (wanted_same (range_under plan.followers controls others c) values others f
        (λ s follows. same s (omega (arith, follower.follows.lower s follows, follower.follows.known)) (none_by (follower_of plan.followers s) (follower.follows.still s follows)))
        ∙ rewanted (control_in controls c) (range_under plan.followers controls others c) others others f before
        ∙ before)

-- nothing is wrong with the range that values give, where nothing is with the one of before
pub range_well : (followers : List Follower) (controls : List Control) (values : Values) (c : ℕ) → IsWellFormed (control_in controls c) → IsWellFormed (range_under followers controls values c)
range_well followers controls values c well = by (follower_of followers c) refl
  where
    wanted : (f : Follower) (b : Bool) → can_follow (control_in controls c).kind ≡ b → IsWellFormed (unwrap_or (wanted_by (control_in controls c) values f) (control_in controls c))
    wanted f true can =
        subst (λ (b : Bool). IsWellFormed (unwrap_or (if b then Some (wanted_of (control_in controls c) (option_map (number_from values) f.minimum) (option_map (number_from values) f.maximum) (default_from values f.default_value)) else None) (control_in controls c)))
        (sym can) (wanted_sound (control_in controls c) (option_map (number_from values) f.minimum) (option_map (number_from values) f.maximum) (default_from values f.default_value) well can)
    wanted f false can =
        subst (λ (b : Bool). IsWellFormed (unwrap_or (if b then Some (wanted_of (control_in controls c) (option_map (number_from values) f.minimum) (option_map (number_from values) f.maximum) (default_from values f.default_value)) else None) (control_in controls c)))
        (sym can) well

    by : (o : Option Follower) → follower_of followers c ≡ o → IsWellFormed (range_under followers controls values c)
    by None none = subst IsWellFormed (sym (range_stays followers controls values c none)) well
    by (Some f) found =
        subst (λ (o : Option Follower). IsWellFormed (unwrap_or (option_and_then (wanted_by (control_in controls c) values) o) (control_in controls c))) (sym found)
        (wanted f (can_follow (control_in controls c).kind) refl)

-- a value that was settled by a range is settled by it
settled_twice : (ctrl : Control) (v : CtrlValue) → IsWellFormed ctrl → settled_anew ctrl (settled_anew ctrl v) ≡ settled_anew ctrl v
settled_twice ctrl v well = ap (taken_or (default_of ctrl)) (settled_anew-settled ctrl v well)

-- What has followed once stays: its ranges are the ones that its values give, and its values are settled by them.
pub followed_twice : (plan : PlanData) (c : ControlsData) → IsPlan plan → AreControlsOf plan c.ranges → length c.values ≡ length plan.controls → ((k : ℕ) → k < length c.ranges → IsWellFormed (control_in c.ranges k))
    → followed plan (followed plan c) ≡ followed plan c
followed_twice plan c is are long well_before = λ i. as_one (ranges i) (values i) c.grabs
  where
    well : (k : ℕ) → k < length c.ranges → IsWellFormed (range_under plan.followers c.ranges c.values k)
    well k lt = range_well plan.followers c.ranges c.values k (well_before k lt)

    kept : (s : ℕ) → s < length plan.controls → follower_of plan.followers s ≡ None → value_at (values_under plan.followers c.ranges c.values) s ≡ value_at c.values s
    kept s within none = value_then plan.followers c.ranges c.values s (omega (arith, within, long)) ∙ value_stays plan.followers c.ranges c.values s none

    again : (k : ℕ) → k < length c.ranges
        → range_under plan.followers (ranges_under plan.followers c.ranges c.values) (values_under plan.followers c.ranges c.values) k ≡ range_under plan.followers c.ranges c.values k
    again k lt = range_again plan c.ranges (values_under plan.followers c.ranges c.values) c.values k is are lt kept

    ranges : ranges_under plan.followers (ranges_under plan.followers c.ranges c.values) (values_under plan.followers c.ranges c.values) ≡ ranges_under plan.followers c.ranges c.values
    ranges =
        ext_get_or no_control _ _ (length_ranges plan.followers (ranges_under plan.followers c.ranges c.values) (values_under plan.followers c.ranges c.values))
        (λ k lt.
        let shorter : k < length (ranges_under plan.followers c.ranges c.values) = omega (arith, lt, length_ranges plan.followers (ranges_under plan.followers c.ranges c.values) (values_under plan.followers c.ranges c.values)) in
        let within : k < length c.ranges = omega (arith, shorter, length_ranges plan.followers c.ranges c.values) in
        range_there plan.followers (ranges_under plan.followers c.ranges c.values) (values_under plan.followers c.ranges c.values) k shorter
        ∙ again k within
        ∙ sym (range_there plan.followers c.ranges c.values k within))

    value : (k : ℕ) → k < length c.values → (o : Option Follower) → follower_of plan.followers k ≡ o
        → value_under plan.followers (ranges_under plan.followers c.ranges c.values) (values_under plan.followers c.ranges c.values) k ≡ value_under plan.followers c.ranges c.values k
    value k lt None none =
        value_stays plan.followers (ranges_under plan.followers c.ranges c.values) (values_under plan.followers c.ranges c.values) k none
        ∙ value_then plan.followers c.ranges c.values k lt
    value k lt (Some f) found =
        let within : k < length c.ranges = omega (arith, lt, long, are.many) in
        let own : value_under plan.followers c.ranges c.values k ≡ settled_anew (range_under plan.followers c.ranges c.values k) (value_at c.values k) =
        ap (λ (o : Option Follower). if is_some o then settled_anew (range_under plan.followers c.ranges c.values k) (value_at c.values k) else value_at c.values k) found in
        ap (λ (o : Option Follower). if is_some o then settled_anew (range_under plan.followers (ranges_under plan.followers c.ranges c.values) (values_under plan.followers c.ranges c.values) k) (value_at (values_under plan.followers c.ranges c.values) k) else value_at (values_under plan.followers c.ranges c.values) k) found
        ∙ ap (λ (r : Control). settled_anew r (value_at (values_under plan.followers c.ranges c.values) k)) (again k within)
        ∙ ap (settled_anew (range_under plan.followers c.ranges c.values k)) (value_then plan.followers c.ranges c.values k lt ∙ own)
        ∙ settled_twice (range_under plan.followers c.ranges c.values k) (value_at c.values k) (well k within)
        ∙ sym own

    values : values_under plan.followers (ranges_under plan.followers c.ranges c.values) (values_under plan.followers c.ranges c.values) ≡ values_under plan.followers c.ranges c.values
    values =
        ext_get_or zero_value _ _ (length_values plan.followers (ranges_under plan.followers c.ranges c.values) (values_under plan.followers c.ranges c.values))
        (λ k lt.
        let shorter : k < length (values_under plan.followers c.ranges c.values) = omega (arith, lt, length_values plan.followers (ranges_under plan.followers c.ranges c.values) (values_under plan.followers c.ranges c.values)) in
        let within : k < length c.values = omega (arith, shorter, length_values plan.followers c.ranges c.values) in
        value_then plan.followers (ranges_under plan.followers c.ranges c.values) (values_under plan.followers c.ranges c.values) k shorter
        ∙ value k within (follower_of plan.followers k) refl
        ∙ sym (value_then plan.followers c.ranges c.values k within))

-- so each range is the one that the values that are left give
pub wanted_then : (plan : PlanData) (c : ControlsData) (k : ℕ) → IsPlan plan → AreControlsOf plan c.ranges → length c.values ≡ length plan.controls → k < length c.ranges
    → control_in (followed plan c).ranges k ≡ range_under plan.followers c.ranges (followed plan c).values k
wanted_then plan c k is are long lt = range_there plan.followers c.ranges c.values k lt ∙ by (follower_of plan.followers k) refl
  where
    kept : (s : ℕ) → s < length plan.controls → follower_of plan.followers s ≡ None → value_at c.values s ≡ value_at (values_under plan.followers c.ranges c.values) s
    kept s within none = sym (value_then plan.followers c.ranges c.values s (omega (arith, within, long)) ∙ value_stays plan.followers c.ranges c.values s none)

    by : (o : Option Follower) → follower_of plan.followers k ≡ o → range_under plan.followers c.ranges c.values k ≡ range_under plan.followers c.ranges (values_under plan.followers c.ranges c.values) k
    by None none = range_stays plan.followers c.ranges c.values k none ∙ sym (range_stays plan.followers c.ranges (values_under plan.followers c.ranges c.values) k none)
    by (Some f) found =
        let follower = is_follower plan c.ranges k f is are found in
        ap (λ (o : Option Follower). unwrap_or (option_and_then (wanted_by (control_in c.ranges k) c.values) o) (control_in c.ranges k)) found
        ∙ ap (λ (o : Option Control). unwrap_or o (control_in c.ranges k))
        (wanted_same (control_in c.ranges k) c.values (values_under plan.followers c.ranges c.values) f
        (λ s follows. kept s (omega (arith, follower.follows.lower s follows, follower.follows.known)) (none_by (follower_of plan.followers s) (follower.follows.still s follows))))
        ∙ sym (ap (λ (o : Option Follower). unwrap_or (option_and_then (wanted_by (control_in c.ranges k) (values_under plan.followers c.ranges c.values)) o) (control_in c.ranges k)) found)

-- and what follows nothing has the range and the value of before
pub still_then : (plan : PlanData) (c : ControlsData) (k : ℕ) → follower_of plan.followers k ≡ None → k < length c.ranges → control_in (followed plan c).ranges k ≡ control_in c.ranges k
still_then plan c k none within = range_there plan.followers c.ranges c.values k within ∙ range_stays plan.followers c.ranges c.values k none

pub kept_then : (plan : PlanData) (c : ControlsData) (k : ℕ) → follower_of plan.followers k ≡ None → k < length c.values → value_at (followed plan c).values k ≡ value_at c.values k
kept_then plan c k none within = value_then plan.followers c.ranges c.values k within ∙ value_stays plan.followers c.ranges c.values k none

-- a control whose cluster has no member among pairs has its own value once they are laid
pub value_untouched : (verdicts : Verdicts) (plan : PlanData) (controls : List Control) (values : Values) (grabs : Grabs) (pairs : List Pair) (c : ℕ) → c < length values
    → is_touched_in plan pairs (cluster_of plan c) ≡ false → value_at (overlay verdicts plan controls values grabs pairs) c ≡ value_at values c
value_untouched verdicts plan controls values grabs pairs c lt still = overlay_at verdicts plan controls values grabs pairs c lt ∙ by (cluster_of plan c) still
  where
    by : (o : Option ℕ) → is_touched_in plan pairs o ≡ false → unwrap_or (result_value_in plan (row_after verdicts plan controls values grabs pairs) o c) (value_at values c) ≡ value_at values c
    by None h = refl
    by (Some k) h =
        ap
        (λ (b : Bool).
        unwrap_or
        (result_value (members plan k)
        (if not b then Ok (row_of values (members plan k)) else if names_grabbed grabs pairs (members plan k) then Err EBUSY else validated_row verdicts plan controls values pairs k) c)
        (value_at values c))
        h
        ∙ value_own values (members plan k) c

-- values that agree on a control and on what it follows give it the same range and the same value
pub agreed_range : (plan : PlanData) (controls : List Control) (values others : Values) (c : ℕ)
    → ((f : Follower) (s : ℕ) → follower_of plan.followers c ≡ Some f → is_followed_by f s ≡ true → value_at values s ≡ value_at others s)
    → range_under plan.followers controls values c ≡ range_under plan.followers controls others c
agreed_range plan controls values others c same = by (follower_of plan.followers c) refl
  where
    by : (o : Option Follower) → follower_of plan.followers c ≡ o → range_under plan.followers controls values c ≡ range_under plan.followers controls others c
    by None none = range_stays plan.followers controls values c none ∙ sym (range_stays plan.followers controls others c none)
    by (Some f) found =
        ap (λ (o : Option Follower). unwrap_or (option_and_then (wanted_by (control_in controls c) values) o) (control_in controls c)) found
        ∙ ap (λ (o : Option Control). unwrap_or o (control_in controls c)) (wanted_same (control_in controls c) values others f (λ s follows. same f s found follows))
        ∙ sym (ap (λ (o : Option Follower). unwrap_or (option_and_then (wanted_by (control_in controls c) others) o) (control_in controls c)) found)

-- Nothing moves but in reach: where neither the cluster of a control nor that of what it follows has a member among the pairs, it keeps its range and its value.
pub record HasStayed (before after : ControlsData) (c : ℕ) : Type 0 where
  pub range : control_in after.ranges c ≡ control_in before.ranges c
  pub value : value_at after.values c ≡ value_at before.values c

pub out_of_reach : (verdicts : Verdicts) (plan : PlanData) (d : ControlsData) (pairs : List Pair) (c : ℕ) → IsPlan plan → AreControlsOf plan d.ranges → length d.values ≡ length plan.controls → followed plan d ≡ d
    → c < length plan.controls → is_touched_in plan pairs (cluster_of plan c) ≡ false
    → ((f : Follower) (s : ℕ) → follower_of plan.followers c ≡ Some f → is_followed_by f s ≡ true → is_touched_in plan pairs (cluster_of plan s) ≡ false)
    → HasStayed d (laid_over verdicts plan d pairs) c
out_of_reach verdicts plan d pairs c is are long settled lt own others = record {
  range = range_there plan.followers d.ranges after c within ∙ same ∙ sym (range_there plan.followers d.ranges d.values c within) ∙ ap (λ (x : ControlsData). control_in x.ranges c) settled;
  value =
      value_then plan.followers d.ranges after c (omega (arith, longer, lt, long))
      ∙ ap (λ (r : Control). if is_some (follower_of plan.followers c) then settled_anew r (value_at after c) else value_at after c) same
      ∙ ap (λ (v : CtrlValue). if is_some (follower_of plan.followers c) then settled_anew (range_under plan.followers d.ranges d.values c) v else v) here
      ∙ sym (value_then plan.followers d.ranges d.values c (omega (arith, lt, long)))
      ∙ ap (λ (x : ControlsData). value_at x.values c) settled;
}
  where
    after : Values
    after = overlay verdicts plan d.ranges d.values d.grabs pairs

    longer : length after ≡ length d.values
    longer = length_overlay verdicts plan d.ranges d.values d.grabs pairs

    within : c < length d.ranges
    within = omega (arith, lt, are.many)

    here : value_at after c ≡ value_at d.values c
    here = value_untouched verdicts plan d.ranges d.values d.grabs pairs c (omega (arith, lt, long)) own

    source : (f : Follower) (s : ℕ) → follower_of plan.followers c ≡ Some f → is_followed_by f s ≡ true → value_at after s ≡ value_at d.values s
    source f s found follows =
        let both = found_follows (IsFollowing plan.controls plan.followers) plan.followers c f is.follow.each found in
        value_untouched verdicts plan d.ranges d.values d.grabs pairs s (omega (arith, both.1.lower s follows, both.1.known, long)) (others f s found follows)

    same : range_under plan.followers d.ranges after c ≡ range_under plan.followers d.ranges d.values c
    same = agreed_range plan d.ranges after d.values c source

-- So what pairs leave is what stands under the values that they leave, by the ranges of before any followed.
pub laid_under : (verdicts : Verdicts) (plan : PlanData) (controls : List Control) (grabs : Grabs) (values : Values) (pairs : List Pair) → IsPlan plan → AreControlsOf plan controls → length values ≡ length plan.controls
    → laid_over verdicts plan (under_values plan controls grabs values) pairs
    ≡ under_values plan controls grabs (laid_over verdicts plan (under_values plan controls grabs values) pairs).values
laid_under verdicts plan controls grabs values pairs is are long = λ i. as_one (ranges i) (values_under plan.followers (ranges_under plan.followers controls values) after) grabs
  where
    after : Values
    after = overlay verdicts plan (ranges_under plan.followers controls values) values grabs pairs

    longer : length after ≡ length values
    longer = length_overlay verdicts plan (ranges_under plan.followers controls values) values grabs pairs

    kept : (s : ℕ) → s < length plan.controls → follower_of plan.followers s ≡ None → value_at after s ≡ value_at (values_under plan.followers (ranges_under plan.followers controls values) after) s
    kept s within none =
        sym (value_then plan.followers (ranges_under plan.followers controls values) after s (omega (arith, within, long, longer)) ∙ value_stays plan.followers (ranges_under plan.followers controls values) after s none)

    later : (c : ℕ) → c < length controls → range_under plan.followers controls after c ≡ range_under plan.followers controls (values_under plan.followers (ranges_under plan.followers controls values) after) c
    later c lt =
        agreed_range plan controls after (values_under plan.followers (ranges_under plan.followers controls values) after) c
        (λ f s found follows.
        let both = found_follows (IsFollowing plan.controls plan.followers) plan.followers c f is.follow.each found in
        kept s (omega (arith, both.1.lower s follows, both.1.known)) (none_by (follower_of plan.followers s) (both.1.still s follows)))

    ranges : ranges_under plan.followers (ranges_under plan.followers controls values) after
        ≡ ranges_under plan.followers controls (values_under plan.followers (ranges_under plan.followers controls values) after)
    ranges =
        ext_get_or no_control _ _
        (length_ranges plan.followers (ranges_under plan.followers controls values) after ∙ length_ranges plan.followers controls values
        ∙ sym (length_ranges plan.followers controls (values_under plan.followers (ranges_under plan.followers controls values) after)))
        (λ c lt.
        let shorter : c < length (ranges_under plan.followers controls values) = omega (arith, lt, length_ranges plan.followers (ranges_under plan.followers controls values) after) in
        let within : c < length controls = omega (arith, shorter, length_ranges plan.followers controls values) in
        range_there plan.followers (ranges_under plan.followers controls values) after c shorter
        ∙ range_anew plan controls values after c is are within
        ∙ later c within
        ∙ sym (range_there plan.followers controls (values_under plan.followers (ranges_under plan.followers controls values) after) c within))

-- as many values as before, and ranges of the same controls
pub length_laid : (verdicts : Verdicts) (plan : PlanData) (controls : List Control) (grabs : Grabs) (values : Values) (pairs : List Pair)
    → length (laid_over verdicts plan (under_values plan controls grabs values) pairs).values ≡ length values
length_laid verdicts plan controls grabs values pairs =
    length_values plan.followers (ranges_under plan.followers controls values) (overlay verdicts plan (ranges_under plan.followers controls values) values grabs pairs)
    ∙ length_overlay verdicts plan (ranges_under plan.followers controls values) values grabs pairs

field_stays : {X : Type 0} (field : Control → X) (none : X) (followers : List Follower) (controls : List Control) (values : Values)
    → ((ctrl : Control) (low high : Option ℤ) (number : ℤ) → field (wanted_of ctrl low high number) ≡ field ctrl) → map field (ranges_under followers controls values) ≡ map field controls
field_stays field none followers controls values same =
    ext_get_or none _ _ (length-map (ranges_under followers controls values) field ∙ length_ranges followers controls values ∙ sym (length-map controls field))
    (λ c lt.
    let shorter : c < length (ranges_under followers controls values) = omega (arith, lt, length-map (ranges_under followers controls values) field) in
    let within : c < length controls = omega (arith, shorter, length_ranges followers controls values) in
    get_or-map field (ranges_under followers controls values) c no_control none shorter
    ∙ ap field (range_there followers controls values c within)
    ∙ own (control_in controls c) (follower_of followers c)
    ∙ sym (get_or-map field controls c no_control none within))
  where
    wanted : (ctrl : Control) (f : Follower) (b : Bool)
        → field (unwrap_or (if b then Some (wanted_of ctrl (option_map (number_from values) f.minimum) (option_map (number_from values) f.maximum) (default_from values f.default_value)) else None) ctrl) ≡ field ctrl
    wanted ctrl f true = same ctrl (option_map (number_from values) f.minimum) (option_map (number_from values) f.maximum) (default_from values f.default_value)
    wanted ctrl f false = refl

    own : (ctrl : Control) (o : Option Follower) → field (unwrap_or (option_and_then (wanted_by ctrl values) o) ctrl) ≡ field ctrl
    own ctrl None = refl
    own ctrl (Some f) = wanted ctrl f (can_follow ctrl.kind)

pub controls_under : (plan : PlanData) (controls : List Control) (values : Values) → AreControlsOf plan controls → AreControlsOf plan (ranges_under plan.followers controls values)
controls_under plan controls values are = record {
  many = length_ranges plan.followers controls values ∙ are.many;
  ids = field_stays (λ (c : Control). c.id) no_control.id plan.followers controls values (λ c low high n. refl) ∙ are.ids;
  kinds = field_stays (λ (c : Control). c.kind) no_control.kind plan.followers controls values (λ c low high n. refl) ∙ are.kinds;
  flags = field_stays (λ (c : Control). c.flags) no_control.flags plan.followers controls values (λ c low high n. refl) ∙ are.flags;
  skipped = field_stays (λ (c : Control). c.skip) no_control.skip plan.followers controls values (λ c low high n. refl) ∙ are.skipped;
  elems = field_stays (λ (c : Control). c.elems) no_control.elems plan.followers controls values (λ c low high n. refl) ∙ are.elems;
}

-- what pairs leave has followed
pub laid_settled : (verdicts : Verdicts) (plan : PlanData) (d : ControlsData) (pairs : List Pair) → IsPlan plan → AreControlsOf plan d.ranges → length d.values ≡ length plan.controls
    → ((k : ℕ) → k < length d.ranges → IsWellFormed (control_in d.ranges k)) → followed plan (laid_over verdicts plan d pairs) ≡ laid_over verdicts plan d pairs
laid_settled verdicts plan d pairs is are long well =
    followed_twice plan (record d { values = overlay verdicts plan d.ranges d.values d.grabs pairs }) is are (length_overlay verdicts plan d.ranges d.values d.grabs pairs ∙ long) well

-- ranges that follow once ranges have followed are the ones that follow without
pub under_anew : (plan : PlanData) (controls : List Control) (before values : Values) → IsPlan plan → AreControlsOf plan controls
    → ranges_under plan.followers (ranges_under plan.followers controls before) values ≡ ranges_under plan.followers controls values
under_anew plan controls before values is are =
    ext_get_or no_control _ _
    (length_ranges plan.followers (ranges_under plan.followers controls before) values ∙ length_ranges plan.followers controls before ∙ sym (length_ranges plan.followers controls values))
    (λ c lt.
    let shorter : c < length (ranges_under plan.followers controls before) = omega (arith, lt, length_ranges plan.followers (ranges_under plan.followers controls before) values) in
    let within : c < length controls = omega (arith, shorter, length_ranges plan.followers controls before) in
    range_there plan.followers (ranges_under plan.followers controls before) values c shorter
    ∙ range_anew plan controls before values c is are within
    ∙ sym (range_there plan.followers controls values c within))

-- and nothing is wrong with them, where nothing was before
pub well_under : (followers : List Follower) (controls : List Control) (values : Values) → ((c : ℕ) → c < length controls → IsWellFormed (control_in controls c))
    → (c : ℕ) → c < length (ranges_under followers controls values) → IsWellFormed (control_in (ranges_under followers controls values) c)
well_under followers controls values well c lt =
    let within : c < length controls = omega (arith, lt, length_ranges followers controls values) in
    subst IsWellFormed (sym (range_there followers controls values c within)) (range_well followers controls values c (well c within))

-- where all is at rest the ranges are the ones that the values give
pub rested_ranges : (plan : PlanData) (c : ControlsData) → AreAtRest plan c → ranges_under plan.followers c.ranges c.values ≡ c.ranges
rested_ranges plan c rest = ap (λ (d : ControlsData). d.ranges) rest.settled

pub rested_under : (plan : PlanData) (c : ControlsData) → AreAtRest plan c → c ≡ under_values plan c.ranges c.grabs c.values
rested_under plan c rest = λ i. as_one (sym (rested_ranges plan c rest) i) c.values c.grabs

-- what has followed is at rest
pub followed_rested : (plan : PlanData) (c : ControlsData) → IsPlan plan → AreControlsOf plan c.ranges → length c.values ≡ length plan.controls → length c.grabs ≡ length plan.controls
    → ((k : ℕ) → k < length c.ranges → IsWellFormed (control_in c.ranges k)) → AreAtRest plan (followed plan c)
followed_rested plan c is are long held well = record {
  ranged = controls_under plan c.ranges c.values are;
  valued = length_values plan.followers c.ranges c.values ∙ long;
  held = held;
  sound =
      λ k lt.
      let within : k < length c.ranges = omega (arith, lt, length_ranges plan.followers c.ranges c.values) in
      subst IsWellFormed (sym (range_there plan.followers c.ranges c.values k within)) (range_well plan.followers c.ranges c.values k (well k within));
  settled = followed_twice plan c is are long well;
}

-- so is what pairs leave
pub laid_rested : (verdicts : Verdicts) (plan : PlanData) (c : ControlsData) (pairs : List Pair) → IsPlan plan → AreAtRest plan c → AreAtRest plan (laid_over verdicts plan c pairs)
laid_rested verdicts plan c pairs is rest =
    followed_rested plan (record c { values = overlay verdicts plan c.ranges c.values c.grabs pairs }) is rest.ranged (length_overlay verdicts plan c.ranges c.values c.grabs pairs ∙ rest.valued) rest.held rest.sound

-- a range that is wanted and isn't due is the one that is there
not_due : (ctrl : Control) (low high : Option ℤ) (number : ℤ) → is_some (unless_there ctrl (Some (wanted_of ctrl low high number))) ≡ false → wanted_of ctrl low high number ≡ ctrl
not_due ctrl low high number none = same (has_range_of ctrl (wanted_of ctrl low high number)) refl none
  where
    wanted : Control
    wanted = wanted_of ctrl low high number

    same : (b : Bool) → has_range_of ctrl wanted ≡ b → is_some (if b then None else Some wanted) ≡ false → wanted_of ctrl low high number ≡ ctrl
    same false differs due = absurd (true≢false due)
    same true there due =
        let first = and_parts (int_eq ctrl.minimum wanted.minimum) (int_eq ctrl.maximum wanted.maximum && int_eq ctrl.default_value wanted.default_value) there in
        let rest = and_parts (int_eq ctrl.maximum wanted.maximum) (int_eq ctrl.default_value wanted.default_value) first.1 in
        let least : wanted.minimum ≡ ctrl.minimum = sym ((Decides-int_eq ctrl.minimum wanted.minimum).0 first.0) in
        let most : wanted.maximum ≡ ctrl.maximum = sym ((Decides-int_eq ctrl.maximum wanted.maximum).0 rest.0) in
        let normal : wanted.default_value ≡ ctrl.default_value = sym ((Decides-int_eq ctrl.default_value wanted.default_value).0 rest.1) in
        λ i. record ctrl { minimum = least i; maximum = most i; default_value = normal i }

-- What a device starts with is at rest: each that follows has the range that is wanted for the defaults, and its default is its value.
pub start_rested : (plan : PlanData) → IsPlan plan → AreAtRest plan (at_start plan)
start_rested plan is = record {
  ranged = record { many = refl; ids = refl; kinds = refl; flags = refl; skipped = refl; elems = refl };
  valued = length-map plan.controls default_of;
  held = length-map plan.controls (λ _. false);
  sound = λ k lt. is.well_formed k no_control lt;
  settled = λ i. as_one (ranges i) (values i) (map (λ _. false) plan.controls);
}
  where
    defaults : Values
    defaults = map default_of plan.controls

    here : (c : ℕ) → c < length plan.controls → value_at defaults c ≡ default_of (control plan c)
    here c lt = get_or-map default_of plan.controls c no_control zero_value lt

    range : (c : ℕ) (o : Option Follower) → follower_of plan.followers c ≡ o → range_under plan.followers plan.controls defaults c ≡ control plan c
    range c None none = range_stays plan.followers plan.controls defaults c none
    range c (Some f) found =
        let both = found_follows (IsFollowing plan.controls plan.followers) plan.followers c f is.follow.each found in
        let can : can_follow (control plan c).kind ≡ true = ap (λ (k : ℕ). can_follow (control plan k).kind) (sym both.0) ∙ both.1.follows in
        let wanted = wanted_found (control plan c) defaults f can in
        let due : is_some (unless_there (control plan c) (wanted_by (control plan c) defaults f)) ≡ false =
        ap (λ (k : ℕ). is_some (unless_there (control plan k) (wanted_by (control plan k) defaults f))) (sym both.0) ∙ both.1.wanted in
        ap (λ (o : Option Follower). unwrap_or (option_and_then (wanted_by (control plan c) defaults) o) (control plan c)) found
        ∙ ap (λ (o : Option Control). unwrap_or o (control plan c)) wanted.found
        ∙ not_due (control plan c) (option_map (number_from defaults) f.minimum) (option_map (number_from defaults) f.maximum) (default_from defaults f.default_value)
        (sym (ap (λ (o : Option Control). is_some (unless_there (control plan c) o)) wanted.found) ∙ due)

    ranges : ranges_under plan.followers plan.controls defaults ≡ plan.controls
    ranges =
        ext_get_or no_control _ _ (length_ranges plan.followers plan.controls defaults)
        (λ c lt. range_there plan.followers plan.controls defaults c (omega (arith, lt, length_ranges plan.followers plan.controls defaults)) ∙ range c (follower_of plan.followers c) refl)

    value : (c : ℕ) → c < length plan.controls → (o : Option Follower) → follower_of plan.followers c ≡ o → value_under plan.followers plan.controls defaults c ≡ value_at defaults c
    value c lt None none = value_stays plan.followers plan.controls defaults c none
    value c lt (Some f) found =
        ap (λ (o : Option Follower). if is_some o then settled_anew (range_under plan.followers plan.controls defaults c) (value_at defaults c) else value_at defaults c) found
        ∙ ap (λ (r : Control). settled_anew r (value_at defaults c)) (range c (Some f) found)
        ∙ ap (settled_anew (control plan c)) (here c lt)
        ∙ ap (taken_or (default_of (control plan c))) (default_settles (control plan c) (is.well_formed c no_control lt))
        ∙ sym (here c lt)

    values : values_under plan.followers plan.controls defaults ≡ defaults
    values =
        ext_get_or zero_value _ _ (length_values plan.followers plan.controls defaults)
        (λ c lt.
        let there : c < length defaults = omega (arith, lt, length_values plan.followers plan.controls defaults) in
        value_then plan.followers plan.controls defaults c there
        ∙ value c (omega (arith, there, length-map plan.controls default_of)) (follower_of plan.followers c) refl)

-- Values that have followed, put where ranges hadn't yet, leave what they left.
pub followed_again : (plan : PlanData) (c : ControlsData) → IsPlan plan → AreControlsOf plan c.ranges → length c.values ≡ length plan.controls → ((k : ℕ) → k < length c.ranges → IsWellFormed (control_in c.ranges k))
    → followed plan (as_one c.ranges (followed plan c).values c.grabs) ≡ followed plan c
followed_again plan c is are long well = λ i. as_one (ranges i) (values i) c.grabs
  where
    after : Values
    after = values_under plan.followers c.ranges c.values

    many : length after ≡ length c.values
    many = length_values plan.followers c.ranges c.values

    same : (k : ℕ) → k < length c.ranges → range_under plan.followers c.ranges after k ≡ range_under plan.followers c.ranges c.values k
    same k lt = sym (sym (range_there plan.followers c.ranges c.values k lt) ∙ wanted_then plan c k is are long lt)

    ranges : ranges_under plan.followers c.ranges after ≡ ranges_under plan.followers c.ranges c.values
    ranges =
        ext_get_or no_control _ _ (length_ranges plan.followers c.ranges after ∙ sym (length_ranges plan.followers c.ranges c.values))
        (λ k lt.
        let within : k < length c.ranges = omega (arith, lt, length_ranges plan.followers c.ranges after) in
        range_there plan.followers c.ranges after k within ∙ same k within ∙ sym (range_there plan.followers c.ranges c.values k within))

    value : (k : ℕ) → k < length c.values → (o : Option Follower) → follower_of plan.followers k ≡ o → value_under plan.followers c.ranges after k ≡ value_at after k
    value k lt None none = value_stays plan.followers c.ranges after k none
    value k lt (Some f) found =
        let within : k < length c.ranges = omega (arith, lt, long, are.many) in
        let own : value_at after k ≡ settled_anew (range_under plan.followers c.ranges c.values k) (value_at c.values k) =
        value_then plan.followers c.ranges c.values k lt
        ∙ ap (λ (o : Option Follower). if is_some o then settled_anew (range_under plan.followers c.ranges c.values k) (value_at c.values k) else value_at c.values k) found in
        ap (λ (o : Option Follower). if is_some o then settled_anew (range_under plan.followers c.ranges after k) (value_at after k) else value_at after k) found
        ∙ ap (λ (r : Control). settled_anew r (value_at after k)) (same k within)
        ∙ ap (settled_anew (range_under plan.followers c.ranges c.values k)) own
        ∙ settled_twice (range_under plan.followers c.ranges c.values k) (value_at c.values k) (range_well plan.followers c.ranges c.values k (well k within))
        ∙ sym own

    values : values_under plan.followers c.ranges after ≡ after
    values =
        ext_get_or zero_value _ _ (length_values plan.followers c.ranges after)
        (λ k lt.
        let there : k < length after = omega (arith, lt, length_values plan.followers c.ranges after) in
        value_then plan.followers c.ranges after k there ∙ value k (omega (arith, there, many)) (follower_of plan.followers k) refl)

-- so do the values that pairs leave, put under the ranges of before
pub linked_follow : (verdicts : Verdicts) (plan : PlanData) (c : ControlsData) (pairs : List Pair) → IsPlan plan → AreAtRest plan c
    → followed plan (as_one c.ranges (laid_over verdicts plan c pairs).values c.grabs) ≡ laid_over verdicts plan c pairs
linked_follow verdicts plan c pairs is rest =
    followed_again plan (record c { values = overlay verdicts plan c.ranges c.values c.grabs pairs }) is rest.ranged (length_overlay verdicts plan c.ranges c.values c.grabs pairs ∙ rest.valued) rest.sound
