-- Clusters that hold all that links lead to from them hold what follows their members.
use Rattle.std.proofs.Common.{◌≡◌, ◌≢◌, ◌∙◌, ◌<◌, ◌+◌, ◌==◌, ◌&&◌, ◌||◌, ◌⊎◌, ◌++◌, ℕ, zero, suc, inl, inr, take, nat_eq, nat_lt, Bool, true, false, not, cond, List, [], ◌∷◌, length, get_or, Option, None, Some, is_some, unwrap_or, refl, sym, ap, subst, arith}
use Rattle.std.specs.List.{All, list_any, range_with_len}
use Rattle.std.proofs.lemmas.Bool.{and_from, and_parts, eq-eqb, eqb-true, ltb-false, ltb-true, ne_eqb, not-false, true≢false}
use Rattle.std.proofs.lemmas.List.{append-nil, get_or_past}
use Rattle.std.proofs.lemmas.List.FromFn.{get_or-map-range_with_len, length-map-range_with_len, get_or-range_with_len, length-range_with_len}
use Rattle.std.proofs.lemmas.List.Elements.{All-filter}
use Rattle.std.proofs.lemmas.List.Folds.{Any-from_list_any, list_any-from_Any, list_any_more, list_any_none}
use Rattle.std.proofs.lemmas.Bool.Decides.{eqb_tells}
use Rattle.range_followers.specs.declared.follower.Follower.{Follower}
use Rattle.range_followers.specs.declared.follower.Source.{Source}
use Rattle.range_followers.specs.Followed.{is_followed_by, passes, source_of}
use Rattle.range_followers.specs.Wanted.{follower_of}
use Rattle.reach_table.specs.Reached.{AreBelow, is_led_to, is_reached}
use Rattle.ctrl_handlers.specs.ClusterData.{ClusterData}
use Rattle.ctrl_handlers.specs.Plan.{PlanData, IsFinished, IsFollowing, cluster_of, cluster_table, link_from, links, links_of, members, names_twice, no_cluster, reached_from}
use Rattle.ctrl_handlers.proofs.IdLemmas.{push_differ}
use Rattle.ctrl_handlers.proofs.ReachLemmas.{among_controls, links_below, table_below}
use Rattle.ctrl_clusters.specs.ControlsData.{is_in_one_of}
use Rattle.ctrl_clusters.specs.Following.{IsClosed, IsReach, reached_clusters}
use Rattle.ctrl_clusters.specs.Rising.{with_all, with_or_without}
use Rattle.ctrl_clusters.proofs.FollowingLemmas.{found_follows}
use Rattle.ctrl_clusters.proofs.LinkLemmas.{near_itself, reached_on}
use Rattle.ctrl_clusters.proofs.OverlayLemmas.{each_of, or_true, or_true_right}
use Rattle.ctrl_clusters.proofs.RisingLemmas.{all_marked, among_passing, marked_passing, passing, passing_more, passing_same, with_at}

any_left : (p : ℕ × ℕ → Bool) (xs ys : List (ℕ × ℕ)) → list_any p xs ≡ true → list_any p (xs ++ ys) ≡ true
any_left p [] ys h = absurd (true≢false (sym h))
any_left p (x ∷ xs) ys h = by (p x) h (any_left p xs ys)
  where
    by : (b : Bool) → (b || list_any p xs) ≡ true → (list_any p xs ≡ true → list_any p (xs ++ ys) ≡ true) → (b || list_any p (xs ++ ys)) ≡ true
    by true h rest = refl
    by false h rest = rest h

any_right : (p : ℕ × ℕ → Bool) (xs ys : List (ℕ × ℕ)) → list_any p ys ≡ true → list_any p (xs ++ ys) ≡ true
any_right p [] ys h = h
any_right p (x ∷ xs) ys h = by (p x) (any_right p xs ys h)
  where
    by : (b : Bool) → list_any p (xs ++ ys) ≡ true → (b || list_any p (xs ++ ys)) ≡ true
    by true rest = refl
    by false rest = rest

-- what a bound follows leads to its control's cluster
led_from : (places : List ℕ) (these : ℕ → Bool) (c s : ℕ) (o : Option Source) → these (get_or places s 0) ≡ true → passes (λ k. not (nat_eq k s)) o ≡ false
    → list_any (λ link. these link.0 && nat_eq link.1 (get_or places c 0)) (link_from places c o) ≡ true
led_from places these c s None here h = absurd (true≢false h)
led_from places these c s (Some source) here h =
    let same : source.control ≡ s = eqb-true source.control s (not-false (nat_eq source.control s) h) in
    ap (λ (b : Bool). b || false) (ap (λ (x : ℕ). these (get_or places x 0) && nat_eq (get_or places c 0) (get_or places c 0)) same ∙ ap (λ (b : Bool). b && nat_eq (get_or places c 0) (get_or places c 0)) here ∙ eq-eqb (get_or places c 0) (get_or places c 0) refl)

led_of : (places : List ℕ) (these : ℕ → Bool) (s : ℕ) (f : Follower) → these (get_or places s 0) ≡ true → is_followed_by f s ≡ true
    → list_any (λ link. these link.0 && nat_eq link.1 (get_or places f.control 0)) (links_of places f) ≡ true
led_of places these s f here follows = by (passes other f.minimum) refl (passes other f.maximum) refl (passes other (source_of f.default_value)) refl
  where
    other : ℕ → Bool
    other k = not (nat_eq k s)

    test : ℕ × ℕ → Bool
    test link = these link.0 && nat_eq link.1 (get_or places f.control 0)

    by : (a : Bool) → passes other f.minimum ≡ a → (b : Bool) → passes other f.maximum ≡ b → (d : Bool) → passes other (source_of f.default_value) ≡ d → list_any test (links_of places f) ≡ true
    by false low b high d normal = any_left test (link_from places f.control f.minimum) (link_from places f.control f.maximum ++ link_from places f.control (source_of f.default_value)) (led_from places these f.control s f.minimum here low)
    by true low false high d normal =
        any_right test (link_from places f.control f.minimum) (link_from places f.control f.maximum ++ link_from places f.control (source_of f.default_value))
        (any_left test (link_from places f.control f.maximum) (link_from places f.control (source_of f.default_value)) (led_from places these f.control s f.maximum here high))
    by true low true high false normal =
        any_right test (link_from places f.control f.minimum) (link_from places f.control f.maximum ++ link_from places f.control (source_of f.default_value))
        (any_right test (link_from places f.control f.maximum) (link_from places f.control (source_of f.default_value)) (led_from places these f.control s (source_of f.default_value) here normal))
    by true low true high true normal =
        absurd (true≢false (sym follows ∙ ap (λ (x : Bool). not (x && (passes other f.maximum && passes other (source_of f.default_value)))) low ∙ ap (λ (x : Bool). not (x && passes other (source_of f.default_value))) high ∙ ap not normal))

led_all : (places : List ℕ) (these : ℕ → Bool) (c s : ℕ) (f : Follower) (fs : List Follower) → these (get_or places s 0) ≡ true → follower_of fs c ≡ Some f → is_followed_by f s ≡ true → f.control ≡ c
    → is_led_to (links places fs) these (get_or places c 0) ≡ true
led_all places these c s f [] here found follows own = absurd (cc)
led_all places these c s f (g ∷ gs) here found follows own = by (g.control == c) refl found (λ h. led_all places these c s f gs here h follows own)
  where
    by : (b : Bool) → (g.control == c) ≡ b → cond b (Some g) (follower_of gs c) ≡ Some f → (follower_of gs c ≡ Some f → is_led_to (links places gs) these (get_or places c 0) ≡ true)
        → is_led_to (links places (g ∷ gs)) these (get_or places c 0) ≡ true
    by true is first rest =
        let same : g ≡ f = cc in
        any_left (λ link. these link.0 && nat_eq link.1 (get_or places c 0)) (links_of places g) (links places gs)
        (subst (λ (h : Follower). list_any (λ link. these link.0 && nat_eq link.1 (get_or places c 0)) (links_of places h) ≡ true) (sym same)
        (subst (λ (x : ℕ). list_any (λ link. these link.0 && nat_eq link.1 (get_or places x 0)) (links_of places f) ≡ true) own (led_of places these s f here follows)))
    by false is later rest = any_right (λ link. these link.0 && nat_eq link.1 (get_or places c 0)) (links_of places g) (links places gs) (rest later)

-- the table has the cluster of a control
table_at : (plan : PlanData) (c k : ℕ) → c < length plan.controls → cluster_of plan c ≡ Some k → get_or (cluster_table plan) c 0 ≡ k
table_at plan c k lt in_it =
    get_or-map-range_with_len (λ x. unwrap_or (cluster_of plan x) 0) 0 (length plan.controls) c c 0 lt (omega arith) ∙ ap (λ (o : Option ℕ). unwrap_or o 0) in_it

-- Clusters that hold the one that a link leads to from any of them are closed.
pub reach_closed : (plan : PlanData) (ks : List ℕ) → IsFinished plan → ((k : ℕ) → is_led_to (links (cluster_table plan) plan.followers) (λ j. list_any (nat_eq j) ks) k ≡ true → list_any (nat_eq k) ks ≡ true)
    → IsClosed plan (λ c. is_in_one_of ks (cluster_of plan c))
reach_closed plan ks is on = record {
  clusters = λ k c d first second out. ap (is_in_one_of ks) (is.is_plan.members_apart k d (within k c first) second ∙ sym (is.is_plan.members_apart k c (within k c first) first)) ∙ out;
  follows = λ f c s found follows out. stays f c s found follows out;
}
  where
    within : (k c : ℕ) → list_any (nat_eq c) (members plan k) ≡ true → k < length plan.clusters
    within k c among = by (nat_lt k (length plan.clusters)) refl
      where
        by : (b : Bool) → nat_lt k (length plan.clusters) ≡ b → k < length plan.clusters
        by true lt = ltb-true k (length plan.clusters) lt
        by false lt = absurd (true≢false (sym among ∙ ap (λ (x : ClusterData). list_any (nat_eq c) x.members) (get_or_past plan.clusters k no_cluster (ltb-false k (length plan.clusters) lt))))

    stays : (f : Follower) (c s : ℕ) → follower_of plan.followers c ≡ Some f → is_followed_by f s ≡ true → is_in_one_of ks (cluster_of plan c) ≡ false → is_in_one_of ks (cluster_of plan s) ≡ false
    stays f c s found follows out = by (cluster_of plan s) refl (cluster_of plan c) refl
      where
        both : (f.control ≡ c) × IsFollowing plan.controls plan.followers f
        both = found_follows (IsFollowing plan.controls plan.followers) plan.followers c f is.is_plan.follow.each found

        below : c < length plan.controls
        below = subst (λ (x : ℕ). x < length plan.controls) both.0 both.1.known

        under : s < length plan.controls
        under = omega (arith, both.1.lower s follows, both.1.known)

        by : (o : Option ℕ) → cluster_of plan s ≡ o → (p : Option ℕ) → cluster_of plan c ≡ p → is_in_one_of ks o ≡ false
        by None none p own = refl
        by (Some j) here None own = absurd (true≢false (sym (is.clustered c below) ∙ ap is_some own))
        by (Some j) here (Some k) own = last (list_any (nat_eq j) ks) refl
          where
            last : (b : Bool) → list_any (nat_eq j) ks ≡ b → b ≡ false
            last false h = refl
            last true h =
                let these : ℕ → Bool = λ i. list_any (nat_eq i) ks in
                let led : is_led_to (links (cluster_table plan) plan.followers) these (get_or (cluster_table plan) c 0) ≡ true =
                led_all (cluster_table plan) these c s f plan.followers (ap these (table_at plan s j under here) ∙ h) found follows both.0 in
                absurd (true≢false (sym (on k (ap (is_led_to (links (cluster_table plan) plan.followers) these) (sym (table_at plan c k below own)) ∙ led)) ∙ sym (ap (is_in_one_of ks) own) ∙ out))

-- numbers below a count that pass a test lie below it
passing_within : (p : ℕ → Bool) (n : ℕ) → All (λ j. j < n) (passing p n)
passing_within p n = All-filter p (λ j. j < n) (range_with_len 0 n) (λ i d lt. subst (λ (j : ℕ). j < n) (sym (get_or-range_with_len 0 n i d (at i lt))) (omega (arith, at i lt)))
  where
    at : (i : ℕ) → i < length (range_with_len 0 n) → i < n
    at i lt = omega (arith, lt, length-range_with_len 0 n)

-- what some clusters reach, and one more
pub reached_none : (plan : PlanData) → [] ≡ reached_clusters plan []
reached_none plan = none (length plan.clusters)
  where
    none : (n : ℕ) → [] ≡ passing (λ k. false) n
    none zero = refl
    none (suc n) = ap (λ (ks : List ℕ). ks ++ []) (none n) ∙ sym (passing_more (λ k. false) n)

pub reached_more : (plan : PlanData) (ks : List ℕ) (i : ℕ) → i < length ks → get_or ks i 0 < length plan.clusters
    → with_all (reached_from plan (get_or ks i 0)) (with_or_without (get_or ks i 0) true (reached_clusters plan (take i ks))) ≡ reached_clusters plan (take (i + 1) ks)
reached_more plan ks i lt within =
    ap (with_all (reached_from plan k)) (marked_passing before k n true within)
    ∙ all_marked (with_at before k true) (reached_from plan k) n (passing_within (λ j. is_reached steps k j && not (nat_eq k j)) n)
    ∙ passing_same (λ j. with_at before k true j || list_any (nat_eq j) (reached_from plan k)) (λ j. list_any (λ a. is_reached steps a j) (take (i + 1) ks)) n
    (λ j less.
    ap (λ (b : Bool). with_at before k true j || b) (among_passing (λ m. is_reached steps k m && not (nat_eq k m)) n j less)
    ∙ by j (eqb_tells k j)
    ∙ sym (list_any_more (λ a. is_reached steps a j) ks i 0 lt))
  where
    k : ℕ
    k = get_or ks i 0

    n : ℕ
    n = length plan.clusters

    steps : List (ℕ × ℕ)
    steps = links (cluster_table plan) plan.followers

    before : ℕ → Bool
    before j = list_any (λ a. is_reached steps a j) (take i ks)

    other : (b c : Bool) → (b || (c && true)) ≡ (b || c)
    other true c = refl
    other false true = refl
    other false false = refl

    by : (j : ℕ) → ((k == j) ≡ true × (k ≡ j)) ⊎ ((k == j) ≡ false × (k ≢ j)) → (cond (nat_eq k j) true (before j) || (is_reached steps k j && not (nat_eq k j))) ≡ (before j || is_reached steps k j)
    by j (inl own) =
        ap (λ (b : Bool). cond b true (before j) || (is_reached steps k j && not b)) own.0
        ∙ sym (or_true_right (before j) (is_reached steps k j) (ap (is_reached steps k) (sym own.1) ∙ near_itself steps k (length steps)))
    by j (inr apart) =
        ap (λ (b : Bool). cond b true (before j) || (is_reached steps k j && not b)) apart.0 ∙ other (before j) (is_reached steps k j)

-- numbers that pass a test stand there once
passing_once : (p : ℕ → Bool) (n : ℕ) → names_twice (passing p n) ≡ false
passing_once p zero = refl
passing_once p (suc n) = ap names_twice (passing_more p n) ∙ by (p n) (passing_once p n)
  where
    apart : list_any (nat_eq n) (passing p n) ≡ false
    apart = list_any_none (nat_eq n) (passing p n) (λ i d lt. let less : get_or (passing p n) i d < n = passing_within p n i d lt in ne_eqb n (get_or (passing p n) i d) (λ same. absurd (omega (arith, less, same))))

    by : (b : Bool) → names_twice (passing p n) ≡ false → names_twice (passing p n ++ cond b (n ∷ []) []) ≡ false
    by true rest = push_differ (passing p n) n rest apart
    by false rest = ap names_twice (append-nil (passing p n)) ∙ rest

any_at : (f : ℕ → Bool) (k : ℕ) (ks : List ℕ) → list_any (nat_eq k) ks ≡ true → f k ≡ true → list_any f ks ≡ true
any_at f k [] among is = absurd (true≢false (sym among))
any_at f k (j ∷ js) among is = by (eqb_tells k j) (λ rest. any_at f k js rest is)
  where
    by : ((k == j) ≡ true × (k ≡ j)) ⊎ ((k == j) ≡ false × (k ≢ j)) → (list_any (nat_eq k) js ≡ true → list_any f js ≡ true) → list_any f (j ∷ js) ≡ true
    by (inl own) more = or_true (f j) (list_any f js) (ap f (sym own.1) ∙ is)
    by (inr other) more = or_true_right (f j) (list_any f js) (more (sym (ap (λ (b : Bool). b || list_any (nat_eq k) js) other.0) ∙ among))

-- each of some clusters is among those that they reach
pub among_reach : (plan : PlanData) (ks : List ℕ) (k : ℕ) → k < length plan.clusters → list_any (nat_eq k) ks ≡ true → list_any (nat_eq k) (reached_clusters plan ks) ≡ true
among_reach plan ks k lt among =
    among_passing (λ j. list_any (λ a. is_reached steps a j) ks) (length plan.clusters) k lt ∙ any_at (λ a. is_reached steps a k) k ks among (near_itself steps k (length steps))
  where
    steps : List (ℕ × ℕ)
    steps = links (cluster_table plan) plan.followers

-- a finished plan's links lead from clusters to clusters
links_within : (plan : PlanData) → IsFinished plan → AreBelow (length plan.clusters) (links (cluster_table plan) plan.followers)
links_within plan is = links_below (length plan.clusters) (cluster_table plan) plan.followers (table_below plan (cluster_table plan) (many, each)) (among_controls plan (length (cluster_table plan)) is.is_plan many)
  where
    many : length (cluster_table plan) ≡ length plan.controls
    many = length-map-range_with_len (λ c. unwrap_or (cluster_of plan c) 0) 0 (length plan.controls)

    each : (c : ℕ) → c < length plan.controls → cluster_of plan c ≡ Some (get_or (cluster_table plan) c 0)
    each c lt = by (cluster_of plan c) refl (is.clustered c lt)
      where
        by : (o : Option ℕ) → cluster_of plan c ≡ o → is_some o ≡ true → o ≡ Some (get_or (cluster_table plan) c 0)
        by None found some = absurd (true≢false (sym some))
        by (Some k) found some = ap (λ (j : ℕ). Some j) (sym (table_at plan c k lt found))

-- What some clusters reach is all that it reaches.
pub reach_is : (plan : PlanData) (ks : List ℕ) → IsFinished plan → All (λ k. k < length plan.clusters) ks → IsReach plan (reached_clusters plan ks)
reach_is plan ks is known = record { known = passing_within reached n; once = passing_once reached n; closed = reach_closed plan (reached_clusters plan ks) is on }
  where
    n : ℕ
    n = length plan.clusters

    steps : List (ℕ × ℕ)
    steps = links (cluster_table plan) plan.followers

    reached : ℕ → Bool
    reached k = list_any (λ a. is_reached steps a k) ks

    on : (k : ℕ) → is_led_to steps (λ j. list_any (nat_eq j) (reached_clusters plan ks)) k ≡ true → list_any (nat_eq k) (reached_clusters plan ks) ≡ true
    on k led =
        let link = Any-from_list_any (λ step. list_any (nat_eq step.0) (reached_clusters plan ks) && nat_eq step.1 k) steps led in
        let parts = and_parts (list_any (nat_eq link.1.0) (reached_clusters plan ks)) (nat_eq link.1.1 k) link.4 in
        let start : link.1.0 < n = each_of n link.1.0 (reached_clusters plan ks) (passing_within reached n) parts.0 in
        let from = Any-from_list_any (λ a. is_reached steps a link.1.0) ks (sym (among_passing reached n link.1.0 start) ∙ parts.0) in
        let led_on : is_led_to steps (is_reached steps from.1) k ≡ true =
        list_any-from_Any (λ step. is_reached steps from.1 step.0 && nat_eq step.1 k) steps (link.0, link.1, link.2, link.3, and_from (is_reached steps from.1 link.1.0) (nat_eq link.1.1 k) from.4 parts.1) in
        let end : k < n = subst (λ (j : ℕ). j < n) (eqb-true link.1.1 k parts.1) (subst (λ (x : ℕ × ℕ). x.1 < n) link.3 (links_within plan is link.0 link.1 link.2).1) in
        among_passing reached n k end ∙ list_any-from_Any (λ a. is_reached steps a k) ks (from.0, from.1, from.2, from.3, reached_on steps from.1 k led_on)
