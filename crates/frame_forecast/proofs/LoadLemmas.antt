-- Controls that are loaded: they stand among other values and ranges as they do before a frame.
use Rattle.std.proofs.Common.{◌≡◌, ◌≢◌, ◌∙◌, ◌<◌, ◌≤◌, ◌==◌, ◌⊎◌, ◌+◌, ℕ, Bool, true, false, cond, List, length, map, get_or, Result, Ok, Err, IfOk, IfErr, inl, inr, slice_set, refl, sym, ap, subst, arith}
use Rattle.std.specs.List.{All}
use Rattle.std.proofs.lemmas.Bool.Decides.{eqb_tells}
use Rattle.std.proofs.lemmas.List.{ext_get_or, length-map, get_or-map, get_or-set_other, get_or-set_same}
use Rattle.ctrl_types.specs.Values.{zero_value}
use Rattle.ctrl_types.specs.declared.errno.Errno.{Errno}
use Rattle.ctrl_types.specs.declared.ids.Pair.{Pair}
use Rattle.ctrl_types.specs.declared.value.CtrlValue.{CtrlValue}
use Rattle.ctrl_calls.specs.Meanings.{Verdicts}
use Rattle.ctrl_settle.specs.Control.{Control}
use Rattle.range_followers.specs.declared.follower.Follower.{Follower}
use Rattle.ctrl_handlers.specs.Plan.{PlanData, control_in, members, no_control}
use Rattle.ctrl_clusters.specs.Following.{range_under, ranges_under}
use Rattle.ctrl_clusters.specs.Ranges.{HasRangeFor}
use Rattle.ctrl_clusters.specs.Overlay.{row_after}
use Rattle.ctrl_clusters.specs.Rows.{AreControlsOf, Grabs, Values, row_of, value_at}
use Rattle.ctrl_clusters.proofs.OverlayLemmas.{separate}
use Rattle.ctrl_clusters.proofs.FollowingLemmas.{controls_under, range_there}
use Rattle.frame_forecast.specs.Sparse.{IsLoaded}

-- a control of a plan can have the range that any of its ranges has
pub range_for : (plan : PlanData) (controls others : List Control) (c : ℕ) → AreControlsOf plan controls → AreControlsOf plan others → c < length plan.controls → HasRangeFor (control_in controls c) (control_in others c)
range_for plan controls others c are also lt = record {
  id = field (λ (x : Control). x.id) no_control.id others controls c (also.ids ∙ sym are.ids) (omega (arith, lt, also.many)) (omega (arith, lt, are.many));
  kind = field (λ (x : Control). x.kind) no_control.kind others controls c (also.kinds ∙ sym are.kinds) (omega (arith, lt, also.many)) (omega (arith, lt, are.many));
  flags = field (λ (x : Control). x.flags) no_control.flags others controls c (also.flags ∙ sym are.flags) (omega (arith, lt, also.many)) (omega (arith, lt, are.many));
  skip = field (λ (x : Control). x.skip) no_control.skip others controls c (also.skipped ∙ sym are.skipped) (omega (arith, lt, also.many)) (omega (arith, lt, are.many));
  elems = field (λ (x : Control). x.elems) no_control.elems others controls c (also.elems ∙ sym are.elems) (omega (arith, lt, also.many)) (omega (arith, lt, are.many));
}
  where
    field : {X : Type 0} (f : Control → X) (none : X) (xs ys : List Control) (c : ℕ) → map f xs ≡ map f ys → c < length xs → c < length ys → f (control_in xs c) ≡ f (control_in ys c)
    field f none xs ys c same short long =
        sym (get_or-map f xs c no_control none short) ∙ ap (λ (l : List _). get_or l c none) same ∙ get_or-map f ys c no_control none long

pub range_fits : (plan : PlanData) (controls ranges : List Control) (base : Values) (c : ℕ) → AreControlsOf plan controls → AreControlsOf plan ranges → c < length plan.controls
    → HasRangeFor (control_in ranges c) (range_under plan.followers controls base c)
range_fits plan controls ranges base c are also lt =
    subst (HasRangeFor (control_in ranges c)) (range_there plan.followers controls base c (omega (arith, lt, are.many))) (range_for plan ranges (ranges_under plan.followers controls base) c also (controls_under plan controls base are) lt)

-- a control that is loaded stays so where another is, and is so where it is itself
loaded_own : (followers : List Follower) (controls : List Control) (base values : Values) (ranges : List Control) (c d : ℕ) → c < length values → c < length ranges → c ≡ d
    → IsLoaded followers controls base (slice_set values d (value_at base d)) (slice_set ranges d (range_under followers controls base d)) c
loaded_own followers controls base values ranges c d within inside same =
    subst (λ (k : ℕ). IsLoaded followers controls base (slice_set values k (value_at base k)) (slice_set ranges k (range_under followers controls base k)) c) same
    (record { value = get_or-set_same values c (value_at base c) zero_value within; range = get_or-set_same ranges c (range_under followers controls base c) no_control inside })

pub loaded_more : (followers : List Follower) (controls : List Control) (base values : Values) (ranges : List Control) (c d : ℕ) → c < length values → c < length ranges
    → (c ≡ d) ⊎ IsLoaded followers controls base values ranges c
    → IsLoaded followers controls base (slice_set values d (value_at base d)) (slice_set ranges d (range_under followers controls base d)) c
loaded_more followers controls base values ranges c d within inside (inl same) = loaded_own followers controls base values ranges c d within inside same
loaded_more followers controls base values ranges c d within inside (inr own) = by (eqb_tells c d)
  where
    by : ((c == d) ≡ true × (c ≡ d)) ⊎ ((c == d) ≡ false × (c ≢ d)) → IsLoaded followers controls base (slice_set values d (value_at base d)) (slice_set ranges d (range_under followers controls base d)) c
    by (inl same) = loaded_own followers controls base values ranges c d within inside same.1
    by (inr other) = record {
      value = get_or-set_other values d c (value_at base d) zero_value other.1 ∙ own.value;
      range = get_or-set_other ranges d c (range_under followers controls base d) no_control other.1 ∙ own.range;
    }

-- some first controls are loaded, and one more
pub record AreLoaded (followers : List Follower) (controls : List Control) (base values : Values) (ranges : List Control) (members : List ℕ) (count : ℕ) : Type 0 where
  pub each : (k : ℕ) → k < count → IsLoaded followers controls base values ranges (get_or members k 0)

pub loaded_next : (plan : PlanData) (controls : List Control) (base values : Values) (ranges : List Control) (members : List ℕ) (count : ℕ) → count < length members
    → All (λ c. c < length plan.controls) members → length values ≡ length plan.controls → length ranges ≡ length plan.controls
    → AreLoaded plan.followers controls base values ranges members count
    → AreLoaded plan.followers controls base (slice_set values (get_or members count 0) (value_at base (get_or members count 0)))
    (slice_set ranges (get_or members count 0) (range_under plan.followers controls base (get_or members count 0))) members (count + 1)
loaded_next plan controls base values ranges members count within known long many are = record {
  each =
      λ k lt.
      let there : get_or members k 0 < length plan.controls = known k 0 (omega (arith, lt, within)) in
      loaded_more plan.followers controls base values ranges (get_or members k 0) (get_or members count 0) (omega (arith, there, long)) (omega (arith, there, many)) (by k (omega (arith, lt)));
}
  where
    by : (k : ℕ) → k ≤ count → (get_or members k 0 ≡ get_or members count 0) ⊎ IsLoaded plan.followers controls base values ranges (get_or members k 0)
    by k le = last (eqb_tells k count)
      where
        last : ((k == count) ≡ true × (k ≡ count)) ⊎ ((k == count) ≡ false × (k ≢ count)) → (get_or members k 0 ≡ get_or members count 0) ⊎ IsLoaded plan.followers controls base values ranges (get_or members k 0)
        last (inl same) = inl (ap (λ (i : ℕ). get_or members i 0) same.1)
        last (inr other) = inr (are.each k (omega (arith, le, other.1)))

-- a cluster whose members are loaded becomes what it does before the frame
pub loaded_rows : (verdicts : Verdicts) (plan : PlanData) (controls : List Control) (base values : Values) (ranges : List Control) (grabs : Grabs) (pairs : List Pair) (k : ℕ) → length controls ≡ length plan.controls
    → All (λ c. c < length plan.controls) (members plan k) → All (IsLoaded plan.followers controls base values ranges) (members plan k)
    → row_after verdicts plan ranges values grabs pairs k ≡ row_after verdicts plan (ranges_under plan.followers controls base) base grabs pairs k
loaded_rows verdicts plan controls base values ranges grabs pairs k many known loaded =
    separate verdicts plan ranges (ranges_under plan.followers controls base) values base grabs grabs pairs pairs k
    (λ i d lt.
    let own = loaded i d lt in
    let there : get_or (members plan k) i d < length plan.controls = known i d lt in
    (own.range ∙ sym (range_there plan.followers controls base (get_or (members plan k) i d) (omega (arith, there, many))), own.value, refl, refl))

pub loaded_row : (followers : List Follower) (controls : List Control) (base values : Values) (ranges : List Control) (cs : List ℕ) → All (IsLoaded followers controls base values ranges) cs → row_of values cs ≡ row_of base cs
loaded_row followers controls base values ranges cs loaded =
    ext_get_or zero_value _ _ (length-map cs (value_at values) ∙ sym (length-map cs (value_at base)))
    (λ i lt.
    let within : i < length cs = omega (arith, lt, length-map cs (value_at values)) in
    get_or-map (value_at values) cs i 0 zero_value within ∙ (loaded i 0 within).value ∙ sym (get_or-map (value_at base) cs i 0 zero_value within))

pub ok_loaded : (left right : Result (List CtrlValue) Errno) (r : Result Bool Errno) (row own other : List CtrlValue) → left ≡ right → own ≡ other → IfOk r (λ s. left ≡ Ok (cond s row own)) → IfOk r (λ s. right ≡ Ok (cond s row other))
ok_loaded left right r row own other a b h =
    subst (λ (x : Result (List CtrlValue) Errno). IfOk r (λ s. x ≡ Ok (cond s row other))) a (subst (λ (x : List CtrlValue). IfOk r (λ s. left ≡ Ok (cond s row x))) b h)

pub err_loaded : (left right : Result (List CtrlValue) Errno) (r : Result Bool Errno) → left ≡ right → IfErr r (λ e. left ≡ Err e) → IfErr r (λ e. right ≡ Err e)
err_loaded left right r a h = subst (λ (x : Result (List CtrlValue) Errno). IfErr r (λ e. x ≡ Err e)) a h
