-- Ranges and values that follow, control after control.
use Rattle.std.proofs.Common.{◌≡◌, ◌≢◌, ◌∙◌, ◌<◌, ◌+◌, ◌==◌, ◌||◌, ◌⊎◌, ℕ, zero, suc, nat_eq, Bool, true, false, cond, if◌then◌else◌, List, [], ◌∷◌, length, take, get_or, map, slice_set, Option, None, Some, is_some, unwrap_or, inl, inr, refl, sym, ap, subst, arith}
use Rattle.std.specs.List.{All, list_any}
use Rattle.std.specs.Option.{option_and_then, option_map}
use Rattle.std.proofs.Math.ListN.{get_or-map}
use Rattle.std.proofs.lemmas.Bool.{eq-eqb, eqb-true, true≢false}
use Rattle.std.proofs.lemmas.Bool.Decides.{eqb_tells}
use Rattle.std.proofs.lemmas.List.{ext_get_or, get_or-set_same, get_or-set_other, length-set}
use Rattle.std.proofs.lemmas.List.Folds.{list_any_more}
use Rattle.ctrl_types.specs.Values.{zero_value}
use Rattle.ctrl_types.specs.declared.value.CtrlValue.{CtrlValue}
use Rattle.ctrl_settle.specs.Control.{Control}
use Rattle.ctrl_settle.specs.Settle.{settled_anew}
use Rattle.range_followers.specs.declared.follower.Follower.{Follower}
use Rattle.range_followers.specs.Followed.{is_followed_by}
use Rattle.range_followers.specs.Wanted.{can_follow, default_from, follower_of, number_from, wanted_by, wanted_of, wanted_range}
use Rattle.ctrl_handlers.specs.Plan.{PlanData, IsPlan, IsFollowing, cluster_of, control_in, members, names_twice, no_control}
use Rattle.ctrl_handlers.proofs.ClusterLemmas.{cluster_of_member, fails_at, or_false, or_false_right}
use Rattle.ctrl_clusters.specs.ControlsData.{is_in_one_of}
use Rattle.ctrl_clusters.specs.Following.{HaveFollowed, HaveFollowedAt, inside_of, range_under, ranges_under, value_under, values_under}
use Rattle.ctrl_clusters.specs.Ranges.{HasRangeFor, StayControlsOf, modified}
use Rattle.ctrl_clusters.specs.Rows.{AreControlsOf, Values, value_at}
use Rattle.ctrl_clusters.proofs.FollowingLemmas.{agreed_range, found_follows, length_ranges, length_values, none_by, range_stays, range_there, value_stays, value_then}
use Rattle.ctrl_clusters.proofs.NewRowLemmas.{member_apart, not_equal}

-- the range that values give a control is one for it
pub range_for : (followers : List Follower) (controls : List Control) (values : Values) (c : ℕ) → HasRangeFor (control_in controls c) (range_under followers controls values c)
range_for followers controls values c = by (follower_of followers c)
  where
    wanted : (f : Follower) (b : Bool)
        → HasRangeFor (control_in controls c) (unwrap_or (if b then Some (wanted_of (control_in controls c) (option_map (number_from values) f.minimum) (option_map (number_from values) f.maximum) (default_from values f.default_value)) else None) (control_in controls c))
    wanted f true = record { id = refl; kind = refl; flags = refl; skip = refl; elems = refl }
    wanted f false = record { id = refl; kind = refl; flags = refl; skip = refl; elems = refl }

    by : (o : Option Follower) → HasRangeFor (control_in controls c) (unwrap_or (option_and_then (wanted_by (control_in controls c) values) o) (control_in controls c))
    by None = record { id = refl; kind = refl; flags = refl; skip = refl; elems = refl }
    by (Some f) = wanted f (can_follow (control_in controls c).kind)

-- two lists of the controls of a plan have ranges for the same controls
pub range_of_both : (plan : PlanData) (a b : List Control) (c : ℕ) → AreControlsOf plan a → AreControlsOf plan b → HasRangeFor (control_in a c) (control_in b c)
range_of_both plan a b c are also = record {
  id = one (λ (x : Control). x.id) (also.ids ∙ sym are.ids);
  kind = one (λ (x : Control). x.kind) (also.kinds ∙ sym are.kinds);
  flags = one (λ (x : Control). x.flags) (also.flags ∙ sym are.flags);
  skip = one (λ (x : Control). x.skip) (also.skipped ∙ sym are.skipped);
  elems = one (λ (x : Control). x.elems) (also.elems ∙ sym are.elems);
}
  where
    one : {X : Type 0} (field : Control → X) → map field b ≡ map field a → field (control_in b c) ≡ field (control_in a c)
    one {X = X} field same = sym (get_or-map field b c no_control) ∙ ap (λ (xs : List X). get_or xs c (field no_control)) same ∙ get_or-map field a c no_control

-- an element is replaced by the one that a function gives its place
put_at : {X : Type 0} (f : ℕ → X) (xs : List X) (c d : ℕ) (none : X) → c < length xs → get_or (slice_set xs c (f c)) d none ≡ (if nat_eq d c then f d else get_or xs d none)
put_at {X = X} f xs c d none lt = by (eqb_tells d c)
  where
    by : ((d == c) ≡ true × (d ≡ c)) ⊎ ((d == c) ≡ false × (d ≢ c)) → get_or (slice_set xs c (f c)) d none ≡ (if nat_eq d c then f d else get_or xs d none)
    by (inl own) =
        ap (λ (k : ℕ). get_or (slice_set xs c (f c)) k none) own.1 ∙ get_or-set_same xs c (f c) none lt ∙ ap f (sym own.1)
        ∙ sym (ap (λ (b : Bool). if b then f d else get_or xs d none) own.0)
    by (inr other) = get_or-set_other xs c d (f c) none other.1 ∙ sym (ap (λ (b : Bool). if b then f d else get_or xs d none) other.0)

-- what some have and then others is what they have together
either : {X : Type 0} (a b all : Bool) (x y : X) → all ≡ (a || b) → (if b then x else if a then x else y) ≡ (if all then x else y)
either {X = X} a b all x y is = by a b ∙ sym (ap (λ (e : Bool). if e then x else y) is)
  where
    by : (a b : Bool) → (if b then x else if a then x else y) ≡ (if a || b then x else y)
    by true true = refl
    by true false = refl
    by false true = refl
    by false false = refl

-- a number that comes once isn't among those before it
pub once_before : (ks : List ℕ) (i : ℕ) → names_twice ks ≡ false → i < length ks → list_any (nat_eq (get_or ks i 0)) (take i ks) ≡ false
once_before [] i once lt = absurd (omega (arith, lt))
once_before (k ∷ ks) zero once lt = refl
once_before (k ∷ ks) (suc i) once lt =
    let other : nat_eq (get_or ks i 0) k ≡ false =
    not_equal (get_or ks i 0) k (λ e. absurd (true≢false (sym (eq-eqb k (get_or ks i 0) (sym e)) ∙ fails_at (nat_eq k) ks i 0 (or_false (list_any (nat_eq k) ks) (names_twice ks) once) (omega (arith, lt))))) in
    ap (λ (b : Bool). b || list_any (nat_eq (get_or ks i 0)) (take i ks)) other
    ∙ once_before ks i (or_false_right (list_any (nat_eq k) ks) (names_twice ks) once) (omega (arith, lt))

-- the range that values give a control, of followers and values that are read
pub range_read : (read followers : List Follower) (controls : List Control) (given values : Values) (c : ℕ) → read ≡ followers → given ≡ values → range_under read controls given c ≡ range_under followers controls values c
range_read read followers controls given values c same valued =
    ap (λ (fs : List Follower). range_under fs controls given c) same ∙ ap (λ (v : Values). range_under followers controls v c) valued

-- and the value of one that follows
pub value_read : (followers : List Follower) (controls : List Control) (values : Values) (c : ℕ) (range : Control) → is_some (follower_of followers c) ≡ true → range ≡ range_under followers controls values c
    → settled_anew range (value_at values c) ≡ value_under followers controls values c
value_read followers controls values c range some read =
    ap (λ (x : Control). settled_anew x (value_at values c)) read
    ∙ sym (ap (λ (b : Bool). if b then settled_anew (range_under followers controls values c) (value_at values c) else value_at values c) some)

-- none has followed yet
pub followed_none : (followers : List Follower) (these : ℕ → Bool) (controls : List Control) (values : Values) → ((c : ℕ) → these c ≡ false) → HaveFollowedAt followers these controls values controls values
followed_none followers these controls values none = record {
  ranges = λ c. sym (ap (λ (b : Bool). if b then range_under followers controls values c else control_in controls c) (none c));
  values = λ c. sym (ap (λ (b : Bool). if b then value_under followers controls values c else value_at values c) (none c));
  many = refl;
  long = refl;
}

-- one has
pub followed_one : (followers : List Follower) (controls : List Control) (values : Values) (c : ℕ) (controls_then : List Control) (values_then : Values) → c < length controls → c < length values
    → controls_then ≡ modified controls c (range_under followers controls values c) → values_then ≡ slice_set values c (value_under followers controls values c)
    → HaveFollowedAt followers (λ d. nat_eq d c) controls values controls_then values_then
followed_one followers controls values c controls_then values_then within there ranged valued = record {
  ranges = λ d. ap (λ (x : List Control). control_in x d) ranged ∙ put_at (range_under followers controls values) controls c d no_control within;
  values = λ d. ap (λ (x : Values). value_at x d) valued ∙ put_at (value_under followers controls values) values c d zero_value there;
  many = ap (λ (x : List Control). length x) ranged ∙ length-set controls c (range_under followers controls values c);
  long = ap (λ (x : Values). length x) valued ∙ length-set values c (value_under followers controls values c);
}

-- one that follows nothing has, with nothing done
pub followed_still : (followers : List Follower) (controls : List Control) (values : Values) (c : ℕ) → is_some (follower_of followers c) ≡ false → HaveFollowedAt followers (λ d. nat_eq d c) controls values controls values
followed_still followers controls values c none = record { ranges = λ d. range d (eqb_tells d c); values = λ d. value d (eqb_tells d c); many = refl; long = refl }
  where
    still : (d : ℕ) → d ≡ c → follower_of followers d ≡ None
    still d same = none_by (follower_of followers d) (ap (λ (x : ℕ). is_some (follower_of followers x)) same ∙ none)

    range : (d : ℕ) → ((d == c) ≡ true × (d ≡ c)) ⊎ ((d == c) ≡ false × (d ≢ c)) → control_in controls d ≡ (if nat_eq d c then range_under followers controls values d else control_in controls d)
    range d (inl own) = sym (ap (λ (b : Bool). if b then range_under followers controls values d else control_in controls d) own.0 ∙ range_stays followers controls values d (still d own.1))
    range d (inr other) = sym (ap (λ (b : Bool). if b then range_under followers controls values d else control_in controls d) other.0)

    value : (d : ℕ) → ((d == c) ≡ true × (d ≡ c)) ⊎ ((d == c) ≡ false × (d ≢ c)) → value_at values d ≡ (if nat_eq d c then value_under followers controls values d else value_at values d)
    value d (inl own) = sym (ap (λ (b : Bool). if b then value_under followers controls values d else value_at values d) own.0 ∙ value_stays followers controls values d (still d own.1))
    value d (inr other) = sym (ap (λ (b : Bool). if b then value_under followers controls values d else value_at values d) other.0)

-- Some follow where others did: what is followed follows nothing, so these have what the first ranges and values give them.
pub followed_more : (plan : PlanData) (done these all : ℕ → Bool) (r : List Control) (v : Values) (r1 : List Control) (v1 : Values) (r2 : List Control) (v2 : Values) → IsPlan plan
    → HaveFollowedAt plan.followers done r v r1 v1 → HaveFollowedAt plan.followers these r1 v1 r2 v2 → ((c : ℕ) → these c ≡ true → done c ≡ false) → ((c : ℕ) → all c ≡ (done c || these c))
    → HaveFollowedAt plan.followers all r v r2 v2
followed_more plan done these all r v r1 v1 r2 v2 is first later apart both = record {
  ranges = λ c. later.ranges c ∙ range c (these c) refl ∙ either (done c) (these c) (all c) (range_under plan.followers r v c) (control_in r c) (both c);
  values = λ c. later.values c ∙ value c (these c) refl ∙ either (done c) (these c) (all c) (value_under plan.followers r v c) (value_at v c) (both c);
  many = later.many ∙ first.many;
  long = later.long ∙ first.long;
}
  where
    own : (c : ℕ) → done c ≡ false → control_in r1 c ≡ control_in r c
    own c out = first.ranges c ∙ ap (λ (b : Bool). if b then range_under plan.followers r v c else control_in r c) out

    kept : (c : ℕ) → done c ≡ false → value_at v1 c ≡ value_at v c
    kept c out = first.values c ∙ ap (λ (b : Bool). if b then value_under plan.followers r v c else value_at v c) out

    source : (c s : ℕ) (f : Follower) → follower_of plan.followers c ≡ Some f → is_followed_by f s ≡ true → value_at v1 s ≡ value_at v s
    source c s f found follows =
        let both = found_follows (IsFollowing plan.controls plan.followers) plan.followers c f is.follow.each found in
        first.values s
        ∙ by (done s) (value_stays plan.followers r v s (none_by (follower_of plan.followers s) (both.1.still s follows)))
      where
        by : (b : Bool) → value_under plan.followers r v s ≡ value_at v s → (if b then value_under plan.followers r v s else value_at v s) ≡ value_at v s
        by true stays = stays
        by false stays = refl

    same : (c : ℕ) → done c ≡ false → range_under plan.followers r1 v1 c ≡ range_under plan.followers r v c
    same c out =
        ap (λ (x : Control). unwrap_or (wanted_range plan.followers c x v1) x) (own c out)
        ∙ agreed_range plan r v1 v c (λ f s found follows. source c s f found follows)

    range : (c : ℕ) (b : Bool) → these c ≡ b → (if b then range_under plan.followers r1 v1 c else control_in r1 c) ≡ (if b then range_under plan.followers r v c else if done c then range_under plan.followers r v c else control_in r c)
    range c true in_it = same c (apart c in_it)
    range c false out = first.ranges c

    value : (c : ℕ) (b : Bool) → these c ≡ b → (if b then value_under plan.followers r1 v1 c else value_at v1 c) ≡ (if b then value_under plan.followers r v c else if done c then value_under plan.followers r v c else value_at v c)
    value c true in_it =
        ap (λ (x : Control). if is_some (follower_of plan.followers c) then settled_anew x (value_at v1 c) else value_at v1 c) (same c (apart c in_it))
        ∙ ap (λ (x : CtrlValue). if is_some (follower_of plan.followers c) then settled_anew (range_under plan.followers r v c) x else x) (kept c (apart c in_it))
    value c false out = first.values c

-- one more of some controls, each once
pub followed_next : (plan : PlanData) (ms : List ℕ) (i : ℕ) (r : List Control) (v : Values) (r1 : List Control) (v1 : Values) (r2 : List Control) (v2 : Values) → IsPlan plan → names_twice ms ≡ false → i < length ms
    → HaveFollowedAt plan.followers (λ c. list_any (nat_eq c) (take i ms)) r v r1 v1 → HaveFollowedAt plan.followers (λ c. nat_eq c (get_or ms i 0)) r1 v1 r2 v2
    → HaveFollowedAt plan.followers (λ c. list_any (nat_eq c) (take (i + 1) ms)) r v r2 v2
followed_next plan ms i r v r1 v1 r2 v2 is once lt first later =
    followed_more plan (λ c. list_any (nat_eq c) (take i ms)) (λ c. nat_eq c (get_or ms i 0)) (λ c. list_any (nat_eq c) (take (i + 1) ms)) r v r1 v1 r2 v2 is first later
    (λ c own. ap (λ (k : ℕ). list_any (nat_eq k) (take i ms)) (eqb-true c (get_or ms i 0) own) ∙ once_before ms i once lt) (λ c. list_any_more (nat_eq c) ms i 0 lt)

-- no control is in no cluster
pub inside_none : (plan : PlanData) (c : ℕ) → inside_of plan [] c ≡ false
inside_none plan c = by (cluster_of plan c)
  where
    by : (o : Option ℕ) → is_in_one_of [] o ≡ false
    by None = refl
    by (Some k) = refl

-- the controls of one more cluster
pub inside_more : (plan : PlanData) (ks : List ℕ) (i c : ℕ) → IsPlan plan → i < length ks → get_or ks i 0 < length plan.clusters
    → inside_of plan (take (i + 1) ks) c ≡ (inside_of plan (take i ks) c || list_any (nat_eq c) (members plan (get_or ks i 0)))
inside_more plan ks i c is lt within = by (cluster_of plan c) refl
  where
    some_same : (j k : ℕ) → Some j ≡ Some k → j ≡ k
    some_same j k e = cc

    none_some : (k : ℕ) → None ≢ Some k
    none_some k e = cc

    own : (k : ℕ) → cluster_of plan c ≡ Some k → ((k == get_or ks i 0) ≡ true × (k ≡ get_or ks i 0)) ⊎ ((k == get_or ks i 0) ≡ false × (k ≢ get_or ks i 0)) → nat_eq k (get_or ks i 0) ≡ list_any (nat_eq c) (members plan (get_or ks i 0))
    own k found (inl same) = same.0 ∙ sym (ap (λ (j : ℕ). list_any (nat_eq c) (members plan j)) (sym same.1) ∙ cluster_of_member plan c k found)
    own k found (inr other) = other.0 ∙ sym (member_apart plan c (get_or ks i 0) (Some k) is within found (λ e. other.1 (some_same k (get_or ks i 0) e)))

    by : (o : Option ℕ) → cluster_of plan c ≡ o → is_in_one_of (take (i + 1) ks) o ≡ (is_in_one_of (take i ks) o || list_any (nat_eq c) (members plan (get_or ks i 0)))
    by None none = sym (member_apart plan c (get_or ks i 0) None is within none (none_some (get_or ks i 0)))
    by (Some k) found = list_any_more (nat_eq k) ks i 0 lt ∙ ap (λ (b : Bool). list_any (nat_eq k) (take i ks) || b) (own k found (eqb_tells k (get_or ks i 0)))

-- the members of one more cluster of some, each once
pub followed_cluster : (plan : PlanData) (ks : List ℕ) (i : ℕ) (ms : List ℕ) (r : List Control) (v : Values) (r1 : List Control) (v1 : Values) (r2 : List Control) (v2 : Values) → IsPlan plan → names_twice ks ≡ false → i < length ks
    → All (λ k. k < length plan.clusters) ks → ms ≡ members plan (get_or ks i 0) → HaveFollowedAt plan.followers (inside_of plan (take i ks)) r v r1 v1 → HaveFollowedAt plan.followers (λ c. list_any (nat_eq c) ms) r1 v1 r2 v2
    → HaveFollowedAt plan.followers (inside_of plan (take (i + 1) ks)) r v r2 v2
followed_cluster plan ks i ms r v r1 v1 r2 v2 is once lt known own first later =
    followed_more plan (inside_of plan (take i ks)) (λ c. list_any (nat_eq c) ms) (inside_of plan (take (i + 1) ks)) r v r1 v1 r2 v2 is first later apart
    (λ c. inside_more plan ks i c is lt within ∙ ap (λ (xs : List ℕ). inside_of plan (take i ks) c || list_any (nat_eq c) xs) (sym own))
  where
    within : get_or ks i 0 < length plan.clusters
    within = known i 0 lt

    apart : (c : ℕ) → list_any (nat_eq c) ms ≡ true → inside_of plan (take i ks) c ≡ false
    apart c among =
        ap (is_in_one_of (take i ks)) (is.members_apart (get_or ks i 0) c within (ap (λ (xs : List ℕ). list_any (nat_eq c) xs) (sym own) ∙ among))
        ∙ once_before ks i once lt

-- All have, where those of some clusters have, and outside of these it was so already.
pub ranges_followed : (plan : PlanData) (ks : List ℕ) (r : List Control) (v : Values) (r1 : List Control) (v1 : Values) → length r ≡ length plan.controls → HaveFollowed plan ks r v
    → HaveFollowedAt plan.followers (inside_of plan ks) r v r1 v1 → r1 ≡ ranges_under plan.followers r v
ranges_followed plan ks r v r1 v1 many before later =
    ext_get_or no_control r1 (ranges_under plan.followers r v) (later.many ∙ sym (length_ranges plan.followers r v))
    (λ c lt.
    let within : c < length r = omega (arith, lt, later.many) in
    later.ranges c ∙ by c (omega (arith, within, many)) (inside_of plan ks c) refl ∙ sym (range_there plan.followers r v c within))
  where
    by : (c : ℕ) → c < length plan.controls → (b : Bool) → inside_of plan ks c ≡ b → (if b then range_under plan.followers r v c else control_in r c) ≡ range_under plan.followers r v c
    by c lt true in_it = refl
    by c lt false out = sym (before.ranges c lt out)

pub values_followed : (plan : PlanData) (ks : List ℕ) (r : List Control) (v : Values) (r1 : List Control) (v1 : Values) → length v ≡ length plan.controls → HaveFollowed plan ks r v
    → HaveFollowedAt plan.followers (inside_of plan ks) r v r1 v1 → v1 ≡ values_under plan.followers r v
values_followed plan ks r v r1 v1 many before later =
    ext_get_or zero_value v1 (values_under plan.followers r v) (later.long ∙ sym (length_values plan.followers r v))
    (λ c lt.
    let within : c < length v = omega (arith, lt, later.long) in
    later.values c ∙ by c (omega (arith, within, many)) (inside_of plan ks c) refl ∙ sym (value_then plan.followers r v c within))
  where
    by : (c : ℕ) → c < length plan.controls → (b : Bool) → inside_of plan ks c ≡ b → (if b then value_under plan.followers r v c else value_at v c) ≡ value_under plan.followers r v c
    by c lt true in_it = refl
    by c lt false out = sym (before.values c lt out)

-- without followers all stays
pub ranges_unled : (followers : List Follower) (r : List Control) (v : Values) → length followers ≡ 0 → r ≡ ranges_under followers r v
ranges_unled [] r v none =
    ext_get_or no_control r (ranges_under [] r v) (sym (length_ranges [] r v)) (λ c lt. sym (range_there [] r v c lt))
ranges_unled (f ∷ fs) r v none = absurd (omega (arith, none))

pub values_unled : (followers : List Follower) (r : List Control) (v : Values) → length followers ≡ 0 → v ≡ values_under followers r v
values_unled [] r v none =
    ext_get_or zero_value v (values_under [] r v) (sym (length_values [] r v)) (λ c lt. sym (value_then [] r v c lt))
values_unled (f ∷ fs) r v none = absurd (omega (arith, none))
