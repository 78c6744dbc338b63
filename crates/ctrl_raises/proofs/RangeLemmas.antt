-- What another range and another value of one control change: members of its cluster alone.
use Rattle.std.proofs.Common.{arith, ◌≡◌, ◌≢◌, ◌∙◌, ◌<◌, ◌≤◌, ◌+◌, ◌-◌, ◌||◌, ◌&&◌, ℕ, ℤ, zero, suc, Bool, true, false, not, nat_eq, eq-eqb, [], Option, None, Some, slice_set, refl, sym, ap, subst}
use Rattle.std.specs.List.{list_any, range_with_len}
use Rattle.std.specs.Ordering.{int_eq}
use Rattle.std.proofs.lemmas.Bool.{false≢true}
use Rattle.std.proofs.lemmas.Bool.Decides.{Decides-int_eq}
use Rattle.std.proofs.lemmas.List.{get_or-set_other}
use Rattle.ctrl_types.proofs.ValueLemmas.{same_self}
use Rattle.ctrl_types.specs.Values.{zero_value}
use Rattle.ctrl_types.specs.Values.{is_same}
use Rattle.ctrl_types.specs.Events.{is_nothing}
use Rattle.ctrl_types.specs.Flags.{contains}
use Rattle.ctrl_types.specs.declared.value.CtrlValue.{CtrlValue}
use Rattle.ctrl_types.specs.declared.changes.Changes.{Changes}
use Rattle.ctrl_types.specs.declared.flags.Flags.{Flags}
use Rattle.ctrl_types.specs.declared.flags.TheConstants.Flags.{EXECUTE_ON_WRITE}
use Rattle.ctrl_settle.specs.Control.{Control}
use Rattle.ctrl_clusters.specs.ControlsData.{ControlsData}
use Rattle.ctrl_events.specs.declared.event.Payload.{Payload}
use Rattle.ctrl_events.specs.Events.{FileEvents}
use Rattle.ctrl_handlers.specs.Plan.{PlanData, IsPlan, control, control_in, no_control, cluster_of, cluster_at, members, master_of}
use Rattle.ctrl_handlers.proofs.ClusterLemmas.{cluster_of_within, cluster_of_member, master_in}
use Rattle.ctrl_clusters.specs.AutoClusters.{inactive, inactive_at}
use Rattle.ctrl_clusters.specs.PresentFlags.{flags_under}
use Rattle.ctrl_clusters.specs.Ranges.{modified}
use Rattle.ctrl_clusters.specs.Rows.{Values, value_at}
use Rattle.ctrl_raises.specs.Raises.{before_range, changed_between, changes_of, differ, payload_at, raised_all, raised_one, range_differs}
use Rattle.ctrl_raises.proofs.RaiseLemmas.{raised_next}

-- nothing differs from itself
same_number : (z : ℤ) → int_eq z z ≡ true
same_number z = (Decides-int_eq z z).1 refl

pub same_flags : (f : Flags) → differ f f ≡ false
same_flags f = rw (eq-eqb f.0 f.0 refl) refl

pub same_range : (c : Control) → range_differs c c ≡ false
same_range c = rw (same_number c.minimum, same_number c.maximum, eq-eqb c.step c.step refl, same_number c.default_value) refl

-- a value that is put at one place leaves those at the others
pub stays_elsewhere : (values : Values) (c m : ℕ) (v : CtrlValue) → m ≢ c → not (is_same (value_at (slice_set values c v) m) (value_at values m)) ≡ false
stays_elsewhere values c m v other = rw (get_or-set_other values c m v zero_value other, same_self (value_at values m)) refl

-- where no pairs were applied, none acts on each write
none_acts : (value acts : Bool) → (value || (acts && false)) ≡ value
none_acts true acts = refl
none_acts false true = refl
none_acts false false = refl

-- what changes of a control, by its value, its flags and its range
pub changed_so : (plan : PlanData) (after : ControlsData) (c : ℕ) (old : Control) (old_value : CtrlValue) (m : ℕ) (value flags range : Bool)
    → value ≡ not (is_same (value_at (slice_set after.values c old_value) m) (value_at after.values m))
    → flags ≡ differ (flags_under plan (slice_set after.values c old_value) after.grabs m) (flags_under plan after.values after.grabs m)
    → range ≡ range_differs (control_in (modified after.ranges c old) m) (control_in after.ranges m)
    → changes_of value flags range ≡ changed_between plan (before_range after c old old_value) after [] m
changed_so plan after c old old_value m value flags range by_value by_flags by_range =
    rw (by_value, by_flags, by_range)
    (ap
    (λ (b : Bool).
    changes_of b (differ (flags_under plan (slice_set after.values c old_value) after.grabs m) (flags_under plan after.values after.grabs m))
    (range_differs (control_in (modified after.ranges c old) m) (control_in after.ranges m)))
    (sym (none_acts (not (is_same (value_at (slice_set after.values c old_value) m) (value_at after.values m))) (contains (control plan m).flags EXECUTE_ON_WRITE))))

-- The master of a control's cluster is another than one that is in another cluster.
master_apart : (plan : PlanData) (c d k j : ℕ) → IsPlan plan → cluster_of plan c ≡ Some k → list_any (nat_eq d) (members plan k) ≡ false → cluster_of plan d ≡ Some j → master_of (cluster_at plan j) ≢ c
master_apart plan c d k j is own outside of same =
    let led : cluster_of plan (master_of (cluster_at plan j)) ≡ Some j = master_in plan j is (cluster_of_within plan d j of) in
    let there : Some j ≡ Some k = sym led ∙ ap (cluster_of plan) same ∙ own in
    let one : j ≡ k = cc in
    let inside : list_any (nat_eq d) (members plan k) ≡ true = subst (λ (i : ℕ). list_any (nat_eq d) (members plan i) ≡ true) one (cluster_of_member plan d j of) in
    false≢true (sym outside ∙ inside)

-- a control outside the cluster of the one whose value differs is inactive as before
inactive_stays : (plan : PlanData) (values : Values) (c d k : ℕ) (value : CtrlValue) → IsPlan plan → cluster_of plan c ≡ Some k → list_any (nat_eq d) (members plan k) ≡ false
    → inactive plan (slice_set values c value) d ≡ inactive plan values d
unfolding inactive
inactive_stays plan values c d k value is own outside = by (cluster_of plan d) refl
  where
    by : (o : Option ℕ) → cluster_of plan d ≡ o → inactive_at plan (slice_set values c value) d o ≡ inactive_at plan values d o
    by None of = refl
    by (Some j) of = rw (get_or-set_other values c (master_of (cluster_at plan j)) value zero_value (master_apart plan c d k j is own outside of)) refl

-- and nothing changes of it
pub nothing_outside : (plan : PlanData) (after : ControlsData) (c d k : ℕ) (old : Control) (value : CtrlValue) → IsPlan plan → cluster_of plan c ≡ Some k → list_any (nat_eq d) (members plan k) ≡ false
    → is_nothing (changed_between plan (before_range after c old value) after [] d) ≡ true
nothing_outside plan after c d k old value is own outside =
    let other : d ≢ c = λ same. false≢true (sym outside ∙ subst (λ (i : ℕ). list_any (nat_eq i) (members plan k) ≡ true) (sym same) (cluster_of_member plan c k own)) in
    let by_value : false ≡ not (is_same (value_at (slice_set after.values c value) d) (value_at after.values d)) =
    rw (get_or-set_other after.values c d value zero_value other, same_self (value_at after.values d)) refl in
    let by_flags : false ≡ differ (flags_under plan (slice_set after.values c value) after.grabs d) (flags_under plan after.values after.grabs d) =
    rw (inactive_stays plan after.values c d k value is own outside) (sym (same_flags (flags_under plan after.values after.grabs d))) in
    let by_range : false ≡ range_differs (control_in (modified after.ranges c old) d) (control_in after.ranges d) =
    rw (get_or-set_other after.ranges c d old no_control other) (sym (same_range (control_in after.ranges d))) in
    ap is_nothing (sym (changed_so plan after c old value d false false false by_value by_flags by_range))

-- where nothing changes of some controls, nothing is raised of them
raised_not : (change : Changes) (told : Payload) (from : Option ℕ) (fh c : ℕ) (f : FileEvents) → is_nothing change ≡ true → f ≡ raised_one change told from fh c f
raised_not change told from fh c f nothing = rw nothing refl

still : (change : ℕ → Changes) (told : ℕ → Payload) (from : ℕ → Option ℕ) (fh a n : ℕ) (old seen : FileEvents) → ((c : ℕ) → a ≤ c → c < a + n → is_nothing (change c) ≡ true)
    → seen ≡ raised_all change told from fh (range_with_len 0 a) old → seen ≡ raised_all change told from fh (range_with_len 0 (a + n)) old
still change told from fh a zero old seen nothing before =
    let all : a ≡ a + 0 = omega arith in
    before ∙ ap (λ (k : ℕ). raised_all change told from fh (range_with_len 0 k) old) all
still change told from fh a (suc n) old seen nothing before =
    let all : (a + n) + 1 ≡ a + suc n = omega arith in
    let rest : seen ≡ raised_all change told from fh (range_with_len 0 (a + n)) old = still change told from fh a n old seen (λ c no_less below. nothing c no_less (omega (arith, below))) before in
    raised_next change told from fh (a + n) old seen seen rest (raised_not (change (a + n)) (told (a + n)) (from (a + n)) fh (a + n) seen (nothing (a + n) (omega arith) (omega arith)))
    ∙ ap (λ (k : ℕ). raised_all change told from fh (range_with_len 0 k) old) all

-- The events that are raised of the controls below a number are those of the controls below a further one, where nothing changes of those between.
pub raised_past : (change : ℕ → Changes) (told : ℕ → Payload) (from : ℕ → Option ℕ) (fh a b : ℕ) (old seen : FileEvents) → a ≤ b → ((c : ℕ) → a ≤ c → c < b → is_nothing (change c) ≡ true)
    → seen ≡ raised_all change told from fh (range_with_len 0 a) old → seen ≡ raised_all change told from fh (range_with_len 0 b) old
raised_past change told from fh a b old seen order nothing before =
    let all : a + (b - a) ≡ b = omega (arith, order) in
    still change told from fh a (b - a) old seen (λ c no_less below. nothing c no_less (omega (arith, below, order))) before
    ∙ ap (λ (n : ℕ). raised_all change told from fh (range_with_len 0 n) old) all

-- So it is where no member of the cluster lies between.
pub raised_further : (plan : PlanData) (after : ControlsData) (c k : ℕ) (old_range : Control) (value : CtrlValue) (a b fh : ℕ) (old seen : FileEvents) → IsPlan plan → cluster_of plan c ≡ Some k → a ≤ b
    → ((d : ℕ) → a ≤ d → d < b → list_any (nat_eq d) (members plan k) ≡ false)
    → seen ≡ raised_all (changed_between plan (before_range after c old_range value) after []) (payload_at plan after) (λ d. None) fh (range_with_len 0 a) old
    → seen ≡ raised_all (changed_between plan (before_range after c old_range value) after []) (payload_at plan after) (λ d. None) fh (range_with_len 0 b) old
raised_further plan after c k old_range value a b fh old seen is own order none before =
    raised_past (changed_between plan (before_range after c old_range value) after []) (payload_at plan after) (λ d. None) fh a b old seen order
    (λ d no_less below. nothing_outside plan after c d k old_range value is own (none d no_less below)) before
