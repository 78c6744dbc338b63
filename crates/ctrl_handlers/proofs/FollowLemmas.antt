-- What holds of followers where there is one more control, and one more follower.
use Rattle.std.proofs.Common.{◌≡◌, ◌≢◌, ◌∙◌, ◌<◌, ◌&&◌, ◌==◌, ◌⊎◌, ℕ, Bool, true, false, not, cond, if◌then◌else◌, ◌||◌, List, [], ◌∷◌, ◌++◌, length, map, get_or, slice_set, find, Option, None, Some, is_some, unwrap_or, nat_eq, nat_lt, inl, inr, refl, sym, ap, subst, arith}
use Rattle.std.specs.List.{All, list_any}
use Rattle.std.proofs.lemmas.Bool.{and_parts, cases_eq, not-true, true≢false, ltb-true, eq-eqb, ne_eqb}
use Rattle.std.proofs.lemmas.List.{get_or-map, get_or_append_left, get_or-set_same, get_or-set_other, length-set, length_push, map_push}
use Rattle.std.proofs.lemmas.List.Elements.{All-push, All-set}
use Rattle.ctrl_types.specs.Values.{zero_value}
use Rattle.ctrl_types.specs.declared.kind.Kind.{Kind}
use Rattle.ctrl_types.specs.declared.kind.Kind.TheVariants.{Integer, Boolean, Menu, Button, Integer64, Bitmask, IntegerMenu, U8}
use Rattle.ctrl_types.specs.declared.value.CtrlValue.{CtrlValue}
use Rattle.ctrl_settle.specs.Control.{Control, default_of, is_array}
use Rattle.ctrl_settle.specs.Faults.{IsWellFormed}
use Rattle.menu_items.specs.Places.{takes}
use Rattle.menu_items.specs.declared.item.MenuItem.{MenuItem}
use Rattle.menu_items.specs.declared.item.MenuItem.TheVariants.{Name, Number}
use Rattle.range_followers.specs.declared.follower.Follower.{Follower}
use Rattle.range_followers.specs.Followed.{each_followed, follows_any, is_followed_by}
use Rattle.range_followers.specs.Wanted.{can_follow, follower_of, unless_there, value_at, wanted_by}
use Rattle.range_followers.proofs.FollowedLemmas.{IsWanted, each_passes, none_due, rewanted, wanted_found, wanted_same}
use Rattle.ctrl_handlers.specs.Plan.{PlanData, IsPlan, IsFollowing, AreFollowing, no_control, control_in, control, cluster_at, following, members, names_twice, own, wanted_at_start}
use Rattle.ctrl_handlers.specs.Builder.{follow_refusal, is_free, is_known, may_be_followed, may_follow}
use Rattle.ctrl_handlers.specs.declared.fault.PlanFault.TheVariants.{CannotFollow, UnknownNumber}
use Rattle.ctrl_handlers.proofs.ClusterLemmas.{fails_at}
use Rattle.ctrl_handlers.proofs.IdLemmas.{not_equal, push_differ}

-- the default of a control that is there
default_at : (controls : List Control) (s : ℕ) → s < length controls → value_at (map default_of controls) s ≡ default_of (control_in controls s)
default_at controls s within = get_or-map default_of controls s no_control zero_value within

-- one more control moves no range that follows
pub following_control : (controls : List Control) (ctrl : Control) (followers : List Follower) → AreFollowing controls followers → AreFollowing (controls ++ ctrl ∷ []) followers
following_control controls ctrl followers are = record { each = λ k d lt. one (get_or followers k d) (are.each k d lt); once = are.once }
  where
    kept : (s : ℕ) → s < length controls → control_in (controls ++ ctrl ∷ []) s ≡ control_in controls s
    kept s within = get_or_append_left controls (ctrl ∷ []) no_control s within

    within_more : (s : ℕ) → s < length controls → s < length (controls ++ ctrl ∷ [])
    within_more s within = omega (arith, within, length_push controls ctrl)

    one : (f : Follower) → IsFollowing controls followers f → IsFollowing (controls ++ ctrl ∷ []) followers f
    one f is = record {
      known = within_more f.control is.known;
      follows = subst (λ (c : Control). can_follow c.kind ≡ true) (sym (kept f.control is.known)) is.follows;
      lower = is.lower;
      followed = λ s here. subst (λ (c : Control). can_follow c.kind ≡ true) (sym (kept s (omega (arith, is.lower s here, is.known)))) (is.followed s here);
      still = is.still;
      wanted =
          ap (λ (c : Control). is_some (unless_there c (wanted_by c (map default_of (controls ++ ctrl ∷ [])) f))) (kept f.control is.known)
          ∙ ap (λ (o : Option Control). is_some (unless_there (control_in controls f.control) o))
          (wanted_same (control_in controls f.control) (map default_of (controls ++ ctrl ∷ [])) (map default_of controls) f
          (λ s here.
          let within : s < length controls = omega (arith, is.lower s here, is.known) in
          default_at (controls ++ ctrl ∷ []) s (within_more s within) ∙ ap default_of (kept s within) ∙ sym (default_at controls s within)))
          ∙ is.wanted;
    }

-- what a control needs to follow
pub record MayFollow (controls : List Control) (followers : List Follower) (f : Follower) : Type 0 where
  pub known : f.control < length controls
  pub follows : can_follow (control_in controls f.control).kind ≡ true
  pub lower : (s : ℕ) → is_followed_by f s ≡ true → s < f.control
  pub followed : (s : ℕ) → is_followed_by f s ≡ true → can_follow (control_in controls s).kind ≡ true
  pub still : (s : ℕ) → is_followed_by f s ≡ true → is_some (follower_of followers s) ≡ false
  pub free : is_some (follower_of followers f.control) ≡ false
  pub unfollowed : list_any (λ g. is_followed_by g f.control) followers ≡ false

-- where nothing refuses it, it has this
follow_by : (known may : Bool) → (if not known then Some UnknownNumber else if not may then Some CannotFollow else None) ≡ None → (known ≡ true) × (may ≡ true)
follow_by true true is = (refl, refl)
follow_by true false is = cc
follow_by false may is = cc

pub may_follow_where : (plan : PlanData) (f : Follower) → follow_refusal plan f ≡ None → MayFollow plan.controls plan.followers f
may_follow_where plan f is = record {
  known = ltb-true f.control (length plan.controls) (and_parts (nat_lt f.control (length plan.controls)) (each_followed (λ s. nat_lt s (length plan.controls)) f) both.0).0;
  follows = kind.0;
  lower = λ s here. ltb-true s f.control (each s here).0;
  followed = λ s here. (able s here).0;
  still = λ s here. not-true (is_some (follower_of plan.followers s)) (able s here).1;
  free = not-true (is_some (follower_of plan.followers f.control)) last.0;
  unfollowed = not-true (list_any (λ g. is_followed_by g f.control) plan.followers) last.1;
}
  where
    both : (is_known (length plan.controls) f ≡ true) × (may_follow plan.controls plan.followers f ≡ true)
    both = follow_by (is_known (length plan.controls) f) (may_follow plan.controls plan.followers f) is

    kind : (can_follow (control plan f.control).kind ≡ true) × ((each_followed (may_be_followed plan.controls plan.followers f.control) f && is_free plan.followers f.control) ≡ true)
    kind =
        and_parts (can_follow (control plan f.control).kind) (each_followed (may_be_followed plan.controls plan.followers f.control) f && is_free plan.followers f.control)
        (and_parts (follows_any f)
        (can_follow (control plan f.control).kind && (each_followed (may_be_followed plan.controls plan.followers f.control) f && is_free plan.followers f.control)) both.1).1

    rest : (each_followed (may_be_followed plan.controls plan.followers f.control) f ≡ true) × (is_free plan.followers f.control ≡ true)
    rest = and_parts (each_followed (may_be_followed plan.controls plan.followers f.control) f) (is_free plan.followers f.control) kind.1

    last : (not (is_some (follower_of plan.followers f.control)) ≡ true) × (not (list_any (λ g. is_followed_by g f.control) plan.followers) ≡ true)
    last = and_parts (not (is_some (follower_of plan.followers f.control))) (not (list_any (λ g. is_followed_by g f.control) plan.followers)) rest.1

    each : (s : ℕ) → is_followed_by f s ≡ true → (nat_lt s f.control ≡ true) × ((can_follow (control plan s).kind && not (is_some (follower_of plan.followers s))) ≡ true)
    each s here =
        and_parts (nat_lt s f.control) (can_follow (control plan s).kind && not (is_some (follower_of plan.followers s)))
        (each_passes (may_be_followed plan.controls plan.followers f.control) f s rest.0 here)

    able : (s : ℕ) → is_followed_by f s ≡ true → (can_follow (control plan s).kind ≡ true) × (not (is_some (follower_of plan.followers s)) ≡ true)
    able s here = and_parts (can_follow (control plan s).kind) (not (is_some (follower_of plan.followers s))) (each s here).1

-- whether it is refused stands on the two tests
pub refused_by : (plan : PlanData) (f : Follower) (known may : Bool) → known ≡ is_known (length plan.controls) f → may ≡ may_follow plan.controls plan.followers f
    → (if not known then Some UnknownNumber else if not may then Some CannotFollow else None) ≡ follow_refusal plan f
refused_by plan f known may is_known_so may_so =
    ap (λ (k : Bool). if not k then Some UnknownNumber else if not may then Some CannotFollow else None) is_known_so
    ∙ ap (λ (m : Bool). if not (is_known (length plan.controls) f) then Some UnknownNumber else if not m then Some CannotFollow else None) may_so

-- a control that doesn't follow is none of those that do
none_of_them : (followers : List Follower) (c : ℕ) → is_some (follower_of followers c) ≡ false → list_any (λ g. g.control == c) followers ≡ false
none_of_them [] c none = refl
none_of_them (g ∷ gs) c none = by (g.control == c) none (none_of_them gs c)
  where
    by : (b : Bool) → is_some (cond b (Some g) (follower_of gs c)) ≡ false → (is_some (follower_of gs c) ≡ false → list_any (λ h. h.control == c) gs ≡ false) → (b || list_any (λ h. h.control == c) gs) ≡ false
    by true found rest = absurd (true≢false found)
    by false found rest = rest found

not_following : (followers : List Follower) (c : ℕ) → is_some (follower_of followers c) ≡ false → list_any (nat_eq c) (following followers) ≡ false
not_following [] c none = refl
not_following (g ∷ gs) c none = by (nat_eq g.control c) refl none (not_following gs c)
  where
    by : (b : Bool) → nat_eq g.control c ≡ b → is_some (cond b (Some g) (follower_of gs c)) ≡ false → (is_some (follower_of gs c) ≡ false → list_any (nat_eq c) (following gs) ≡ false)
        → list_any (nat_eq c) (following (g ∷ gs)) ≡ false
    by true is found rest = absurd (true≢false found)
    by false is found rest = ap (λ (b : Bool). b || list_any (nat_eq c) (following gs)) (not_equal g.control c is) ∙ rest found

-- and doesn't where another one does
still_more : (followers : List Follower) (f : Follower) (s : ℕ) → is_some (follower_of followers s) ≡ false → nat_eq f.control s ≡ false → is_some (follower_of (followers ++ f ∷ []) s) ≡ false
still_more [] f s none other = ap (λ (b : Bool). is_some (cond b (Some f) None)) other
still_more (g ∷ gs) f s none other = by (nat_eq g.control s) none (still_more gs f s)
  where
    by : (b : Bool) → is_some (cond b (Some g) (follower_of gs s)) ≡ false → (is_some (follower_of gs s) ≡ false → nat_eq f.control s ≡ false → is_some (follower_of (gs ++ f ∷ []) s) ≡ false)
        → is_some (cond b (Some g) (follower_of (gs ++ f ∷ []) s)) ≡ false
    by true found rest = absurd (true≢false found)
    by false found rest = rest found other

-- what the control that is replaced has in common with the one before, all have
same_field : {X : Type 0} (field : Control → X) (controls : List Control) (c : ℕ) (new : Control) → c < length controls → field new ≡ field (control_in controls c)
    → (m : ℕ) → field (control_in (slice_set controls c new) m) ≡ field (control_in controls m)
same_field field controls c new within same m = by (cases_eq m c)
  where
    by : (m ≡ c) ⊎ (m ≢ c) → field (control_in (slice_set controls c new) m) ≡ field (control_in controls m)
    by (inl here) =
        ap (λ (k : ℕ). field (control_in (slice_set controls c new) k)) here
        ∙ ap field (get_or-set_same controls c new no_control within)
        ∙ same
        ∙ ap (λ (k : ℕ). field (control_in controls k)) (sym here)
    by (inr other) = ap field (get_or-set_other controls c m new no_control other)

-- one more follower, whose control has the range that is wanted
pub following_more : (controls : List Control) (followers : List Follower) (f : Follower) (new : Control) → AreFollowing controls followers → MayFollow controls followers f
    → IsWanted (control_in controls f.control) (map default_of controls) f new → AreFollowing (slice_set controls f.control new) (followers ++ f ∷ [])
following_more controls followers f new are may is_new = record {
  each = All-push (IsFollowing (slice_set controls f.control new) (followers ++ f ∷ [])) followers f (λ k d lt. old (get_or followers k d) (are.each k d lt) (apart k d lt) (unfollowed k d lt)) own;
  once =
      ap names_twice (map_push (λ (g : Follower). g.control) followers f)
      ∙ push_differ (following followers) f.control are.once (not_following followers f.control may.free);
}
  where
    long : length (slice_set controls f.control new) ≡ length controls
    long = length-set controls f.control new

    apart : (k : ℕ) (d : Follower) → k < length followers → nat_eq (get_or followers k d).control f.control ≡ false
    apart k d lt = fails_at (λ g. g.control == f.control) followers k d (none_of_them followers f.control may.free) lt

    unfollowed : (k : ℕ) (d : Follower) → k < length followers → is_followed_by (get_or followers k d) f.control ≡ false
    unfollowed k d lt = fails_at (λ g. is_followed_by g f.control) followers k d may.unfollowed lt

    kind_same : (m : ℕ) → (control_in (slice_set controls f.control new) m).kind ≡ (control_in controls m).kind
    kind_same = same_field (λ (c : Control). c.kind) controls f.control new may.known is_new.kind

    default_kept : (s : ℕ) → s < length controls → s ≢ f.control → value_at (map default_of (slice_set controls f.control new)) s ≡ value_at (map default_of controls) s
    default_kept s within other =
        default_at (slice_set controls f.control new) s (omega (arith, within, long)) ∙ ap default_of (get_or-set_other controls f.control s new no_control other) ∙ sym (default_at controls s within)

    old : (g : Follower) → IsFollowing controls followers g → nat_eq g.control f.control ≡ false → is_followed_by g f.control ≡ false → IsFollowing (slice_set controls f.control new) (followers ++ f ∷ []) g
    old g is differs follows_not = record {
      known = omega (arith, is.known, long);
      follows = ap can_follow (kind_same g.control) ∙ is.follows;
      lower = is.lower;
      followed = λ s here. ap can_follow (kind_same s) ∙ is.followed s here;
      still = λ s here. still_more followers f s (is.still s here) (ne_eqb f.control s (λ same. true≢false (sym here ∙ ap (is_followed_by g) (sym same) ∙ follows_not)));
      wanted =
          ap (λ (c : Control). is_some (unless_there c (wanted_by c (map default_of (slice_set controls f.control new)) g)))
          (get_or-set_other controls f.control g.control new no_control (λ same. true≢false (sym (eq-eqb g.control f.control same) ∙ differs)))
          ∙ ap (λ (o : Option Control). is_some (unless_there (control_in controls g.control) o))
          (wanted_same (control_in controls g.control) (map default_of (slice_set controls f.control new)) (map default_of controls) g
          (λ s here. default_kept s (omega (arith, is.lower s here, is.known)) (λ same. true≢false (sym here ∙ ap (is_followed_by g) same ∙ follows_not))))
          ∙ is.wanted;
    }

    below : (s : ℕ) → is_followed_by f s ≡ true → s ≢ f.control
    below s here same = absurd (omega (arith, may.lower s here, same))

    own : IsFollowing (slice_set controls f.control new) (followers ++ f ∷ []) f
    own = record {
      known = omega (arith, may.known, long);
      follows = ap can_follow (kind_same f.control) ∙ may.follows;
      lower = may.lower;
      followed = λ s here. ap can_follow (kind_same s) ∙ may.followed s here;
      still = λ s here. still_more followers f s (may.still s here) (ne_eqb f.control s (λ same. below s here (sym same)));
      wanted =
          ap (λ (c : Control). is_some (unless_there c (wanted_by c (map default_of (slice_set controls f.control new)) f))) (get_or-set_same controls f.control new no_control may.known)
          ∙ ap (λ (o : Option Control). is_some (unless_there new o))
          (wanted_same new (map default_of (slice_set controls f.control new)) (map default_of controls) f
          (λ s here. default_kept s (omega (arith, may.lower s here, may.known)) (below s here))
          ∙ rewanted (control_in controls f.control) new (map default_of controls) (map default_of controls) f is_new.found
          ∙ is_new.found)
          ∙ ap is_some (none_due new);
    }

-- the range that it gets is the one that is wanted
pub wanted_start : (controls : List Control) (f : Follower) → can_follow (control_in controls f.control).kind ≡ true → IsWanted (control_in controls f.control) (map default_of controls) f (wanted_at_start controls f)
wanted_start controls f can =
    let is = wanted_found (control_in controls f.control) (map default_of controls) f can in
    subst (IsWanted (control_in controls f.control) (map default_of controls) f) (sym (ap (λ (o : Option Control). unwrap_or o (control_in controls f.control)) is.found)) is

-- a control whose range can follow has no items
no_item : (kind : Kind) (ctrl : Control) (item : MenuItem) (index : ℕ) → ctrl.kind ≡ kind → can_follow kind ≡ true → takes item ctrl index ≡ false
no_item Integer ctrl (Name name) index is can = cc
no_item Integer ctrl (Number number) index is can = cc
no_item Integer64 ctrl (Name name) index is can = cc
no_item Integer64 ctrl (Number number) index is can = cc
no_item Boolean ctrl item index is can = absurd (true≢false (sym can))
no_item Menu ctrl item index is can = absurd (true≢false (sym can))
no_item Button ctrl item index is can = absurd (true≢false (sym can))
no_item Bitmask ctrl item index is can = absurd (true≢false (sym can))
no_item IntegerMenu ctrl item index is can = absurd (true≢false (sym can))
no_item U8 ctrl item index is can = absurd (true≢false (sym can))

-- so it is a plan again
pub is_plan_follow : (plan : PlanData) (f : Follower) (new : Control) → IsPlan plan → MayFollow plan.controls plan.followers f → IsWanted (control plan f.control) (map default_of plan.controls) f new → IsWellFormed new
    → IsPlan (record plan { controls = slice_set plan.controls f.control new; followers = plan.followers ++ f ∷ [] })
is_plan_follow plan f new is may is_new whole = record {
  few_controls = omega (arith, is.few_controls, long);
  few_handlers = is.few_handlers;
  well_formed = All-set IsWellFormed plan.controls f.control new whole is.well_formed;
  items_known = λ c index item there. omega (arith, is.items_known c index item there, long);
  items_taken = λ c index item there. taken c index item (is.items_taken c index item there) (cases_eq c f.control);
  some_members = is.some_members;
  few_members = is.few_members;
  members_known = λ k j d lt. omega (arith, is.members_known k j d lt, long);
  members_differ = is.members_differ;
  members_apart = is.members_apart;
  lone_arrays = λ k. ap (λ (test : ℕ → Bool). (is_some (cluster_at plan k).manual || nat_lt 1 (length (members plan k))) && list_any test (members plan k)) (λ i c. arrays c i) ∙ is.lone_arrays k;
  own_known = λ h j d lt. omega (arith, is.own_known h j d lt, long);
  own_differ = λ h. ap (λ (ids : ℕ → ℕ). names_twice (map ids (own plan h))) (λ i c. same_ids c i) ∙ is.own_differ h;
  added_before = is.added_before;
  follow = following_more plan.controls plan.followers f new is.follow may is_new;
}
  where
    long : length (slice_set plan.controls f.control new) ≡ length plan.controls
    long = length-set plan.controls f.control new

    arrays : (c : ℕ) → is_array (control_in (slice_set plan.controls f.control new) c) ≡ is_array (control_in plan.controls c)
    arrays = same_field is_array plan.controls f.control new may.known (ap is_some is_new.elems)

    same_ids : (c : ℕ) → (control_in (slice_set plan.controls f.control new) c).id.0 ≡ (control_in plan.controls c).id.0
    same_ids = same_field (λ (c : Control). c.id.0) plan.controls f.control new may.known (λ i. (is_new.id i).0)

    taken : (c index : ℕ) (item : MenuItem) → takes item (control plan c) index ≡ true → (c ≡ f.control) ⊎ (c ≢ f.control) → takes item (control_in (slice_set plan.controls f.control new) c) index ≡ true
    taken c index item took (inl here) =
        absurd (true≢false (sym took ∙ ap (λ (k : ℕ). takes item (control plan k) index) here ∙ no_item (control plan f.control).kind (control plan f.control) item index refl may.follows))
    taken c index item took (inr other) = ap (λ (x : Control). takes item x index) (get_or-set_other plan.controls f.control c new no_control other) ∙ took
