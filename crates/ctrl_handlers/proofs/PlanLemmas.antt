-- Each call of a builder keeps what holds of every plan.
use Rattle.std.proofs.Common.{◌≡◌, ◌≢◌, ℕ, zero, suc, ◌<◌, ◌&&◌, ◌||◌, Bool, true, false, if◌then◌else◌, nat_le, nat_lt, None, Some, is_some, List, [], ◌∷◌, ◌++◌, length, sym, ap, ◌∙◌, subst, arith, get_or, slice_set, refl, inl, inr, ◌⊎◌}
use Rattle.std.specs.List.{All, list_any}
use Rattle.std.proofs.lemmas.Bool.{cases_eq}
use Rattle.std.proofs.lemmas.Bool.Decides.{nat_tests}
use Rattle.std.proofs.lemmas.List.{get_or-set_same, get_or-set_other, get_or_append_left, length_push, length-set}
use Rattle.std.proofs.lemmas.List.Elements.{All-head, All-push, All-tail, All-weaker}
use Rattle.ctrl_settle.specs.Control.{Control, is_array}
use Rattle.ctrl_settle.specs.Faults.{IsWellFormed}
use Rattle.ctrl_handlers.specs.HandlerData.{HandlerData}
use Rattle.ctrl_handlers.specs.declared.limits.TheConstants.{MAX_CONTROLS, MAX_HANDLERS}
use Rattle.ctrl_handlers.specs.Plan.{PlanData, IsPlan, no_plan, no_control, control_in, no_handler, handler_at, cluster_at, own, added, members, names_twice, ids_of, owning, with_handler, with_control}
use Rattle.ctrl_handlers.specs.Visible.{first_with_id}
use Rattle.ctrl_handlers.specs.Builder.{adding_refusal, control_refusal}
use Rattle.ctrl_handlers.specs.declared.fault.PlanFault.TheVariants.{DuplicateId, LaterHandler, UnknownNumber, Limit}
use Rattle.ctrl_handlers.proofs.IdLemmas.{ids_stay, ids_more}
use Rattle.ctrl_handlers.proofs.FollowLemmas.{following_control}

-- a plan of nothing
pub is_plan_start : IsPlan no_plan
is_plan_start = record {
  few_controls = omega arith;
  few_handlers = omega arith;
  well_formed = λ k d lt. absurd (omega (arith, lt));
  items_known = λ c index item is. cc;
  items_taken = λ c index item is. cc;
  members_known = λ k i d lt. absurd (omega (arith, lt));
  members_apart = λ k c lt. absurd (omega (arith, lt));
  some_members = λ k lt. absurd (omega (arith, lt));
  few_members = λ k. omega arith;
  members_differ = λ k. refl;
  lone_arrays = λ k. refl;
  own_known = λ h k d lt. absurd (omega (arith, lt));
  own_differ = λ h. refl;
  added_before = λ h k d lt. absurd (omega (arith, lt));
  follow = record { each = λ k d lt. absurd (omega (arith, lt)); once = refl };
}

-- one more handler of nothing is what stands for a handler that isn't there
with_none : (handlers : List HandlerData) (g : ℕ) → get_or (handlers ++ no_handler ∷ []) g no_handler ≡ get_or handlers g no_handler
with_none [] zero = refl
with_none [] (suc g) = refl
with_none (h ∷ hs) zero = refl
with_none (h ∷ hs) (suc g) = with_none hs g

-- one more handler
pub is_plan_more : (plan : PlanData) → IsPlan plan → length plan.handlers < MAX_HANDLERS → IsPlan (with_handler plan)
is_plan_more plan is room = record {
  few_controls = is.few_controls;
  few_handlers = omega (arith, room, length_push plan.handlers no_handler);
  well_formed = is.well_formed;
  items_known = is.items_known;
  items_taken = is.items_taken;
  some_members = is.some_members;
  few_members = is.few_members;
  members_known = is.members_known;
  members_differ = is.members_differ;
  members_apart = is.members_apart;
  lone_arrays = is.lone_arrays;
  own_known = λ g. subst (λ (x : HandlerData). All (λ c. c < length plan.controls) x.own) (sym (with_none plan.handlers g)) (is.own_known g);
  own_differ = λ g. subst (λ (x : HandlerData). names_twice (ids_of plan.controls x.own) ≡ false) (sym (with_none plan.handlers g)) (is.own_differ g);
  added_before = λ g. subst (λ (x : HandlerData). All (λ a. a < g) x.added) (sym (with_none plan.handlers g)) (is.added_before g);
  follow = is.follow;
}

-- the handler at a number, once one is replaced
set_handler : (handlers : List HandlerData) (h g : ℕ) (x : HandlerData) → h < length handlers
    → ((g ≡ h) × (get_or (slice_set handlers h x) g no_handler ≡ x)) ⊎ ((g ≢ h) × (get_or (slice_set handlers h x) g no_handler ≡ get_or handlers g no_handler))
set_handler handlers h g x within = by (cases_eq g h)
  where
    by : (g ≡ h) ⊎ (g ≢ h)
        → ((g ≡ h) × (get_or (slice_set handlers h x) g no_handler ≡ x)) ⊎ ((g ≢ h) × (get_or (slice_set handlers h x) g no_handler ≡ get_or handlers g no_handler))
    by (inl same) = inl (same, ap (λ (n : ℕ). get_or (slice_set handlers h x) n no_handler) same ∙ get_or-set_same handlers h x no_handler within)
    by (inr other) = inr (other, get_or-set_other handlers h g x no_handler other)

-- one more control leaves which of the others are arrays
same_arrays : (controls : List Control) (ctrl : Control) (cs : List ℕ) → All (λ c. c < length controls) cs → list_any (λ c. is_array (control_in (controls ++ ctrl ∷ []) c)) cs ≡ list_any (λ c. is_array (control_in controls c)) cs
same_arrays controls ctrl [] known = refl
same_arrays controls ctrl (c ∷ cs) known =
    rw (get_or_append_left controls (ctrl ∷ []) no_control c (All-head (λ d. d < length controls) c cs known), same_arrays controls ctrl cs (All-tail (λ d. d < length controls) c cs known)) refl

-- one more control
pub is_plan_control : (plan : PlanData) (h : ℕ) (ctrl : Control) → IsPlan plan → h < length plan.handlers → length plan.controls < MAX_CONTROLS
    → IsWellFormed ctrl → is_some (first_with_id plan.controls (own plan h) ctrl.id) ≡ false → IsPlan (with_control plan h ctrl)
unfolding owning
is_plan_control plan h ctrl is within room whole new = record {
  few_controls = omega (arith, length_push plan.controls ctrl, room);
  few_handlers = omega (arith, is.few_handlers, length-set plan.handlers h (owning (handler_at plan h) (length plan.controls)));
  well_formed = All-push IsWellFormed plan.controls ctrl is.well_formed whole;
  items_known = λ c index item there. omega (arith, is.items_known c index item there, length_push plan.controls ctrl);
  items_taken = λ c index item there.
      rw (get_or_append_left plan.controls (ctrl ∷ []) no_control c (is.items_known c index item there)) (is.items_taken c index item there);
  members_known = λ k.
      All-weaker (λ c. c < length plan.controls) (λ c. c < length (plan.controls ++ ctrl ∷ []))
      (λ c lt. omega (arith, lt, length_push plan.controls ctrl)) (members plan k) (is.members_known k);
  members_apart = is.members_apart;
  some_members = is.some_members;
  few_members = is.few_members;
  members_differ = is.members_differ;
  lone_arrays = λ k.
      ap (λ (some : Bool). (is_some (cluster_at plan k).manual || nat_lt 1 (length (members plan k))) && some) (same_arrays plan.controls ctrl (members plan k) (is.members_known k)) ∙ is.lone_arrays k;
  own_known = λ g. known g (set_handler plan.handlers h g (owning (handler_at plan h) (length plan.controls)) within);
  own_differ = λ g. differ g (set_handler plan.handlers h g (owning (handler_at plan h) (length plan.controls)) within);
  added_before = λ g. before g (set_handler plan.handlers h g (owning (handler_at plan h) (length plan.controls)) within);
  follow = following_control plan.controls ctrl plan.followers is.follow;
}
  where
    still : (g : ℕ) → All (λ c. c < length (plan.controls ++ ctrl ∷ [])) (own plan g)
    still g =
        All-weaker (λ c. c < length plan.controls) (λ c. c < length (plan.controls ++ ctrl ∷ []))
        (λ c lt. omega (arith, lt, length_push plan.controls ctrl)) (own plan g) (is.own_known g)

    known : (g : ℕ)
        → ((g ≡ h) × (get_or (slice_set plan.handlers h (owning (handler_at plan h) (length plan.controls))) g no_handler ≡ owning (handler_at plan h) (length plan.controls)))
        ⊎ ((g ≢ h) × (get_or (slice_set plan.handlers h (owning (handler_at plan h) (length plan.controls))) g no_handler ≡ get_or plan.handlers g no_handler))
        → All (λ c. c < length (plan.controls ++ ctrl ∷ [])) (own (with_control plan h ctrl) g)
    known g (inl same) =
        subst (λ (x : HandlerData). All (λ c. c < length (plan.controls ++ ctrl ∷ [])) x.own) (sym same.1)
        (All-push (λ c. c < length (plan.controls ++ ctrl ∷ [])) (own plan h) (length plan.controls) (still h) (omega (arith, length_push plan.controls ctrl)))
    known g (inr other) = subst (λ (x : HandlerData). All (λ c. c < length (plan.controls ++ ctrl ∷ [])) x.own) (sym other.1) (still g)

    differ : (g : ℕ)
        → ((g ≡ h) × (get_or (slice_set plan.handlers h (owning (handler_at plan h) (length plan.controls))) g no_handler ≡ owning (handler_at plan h) (length plan.controls)))
        ⊎ ((g ≢ h) × (get_or (slice_set plan.handlers h (owning (handler_at plan h) (length plan.controls))) g no_handler ≡ get_or plan.handlers g no_handler))
        → names_twice (ids_of (plan.controls ++ ctrl ∷ []) (own (with_control plan h ctrl) g)) ≡ false
    differ g (inl same) =
        subst (λ (x : HandlerData). names_twice (ids_of (plan.controls ++ ctrl ∷ []) x.own) ≡ false) (sym same.1)
        (ids_more plan.controls ctrl (own plan h) (is.own_known h) (is.own_differ h) new)
    differ g (inr other) =
        subst (λ (x : HandlerData). names_twice (ids_of (plan.controls ++ ctrl ∷ []) x.own) ≡ false) (sym other.1)
        (ap names_twice (ids_stay plan.controls ctrl (own plan g) (is.own_known g)) ∙ is.own_differ g)

    before : (g : ℕ)
        → ((g ≡ h) × (get_or (slice_set plan.handlers h (owning (handler_at plan h) (length plan.controls))) g no_handler ≡ owning (handler_at plan h) (length plan.controls)))
        ⊎ ((g ≢ h) × (get_or (slice_set plan.handlers h (owning (handler_at plan h) (length plan.controls))) g no_handler ≡ get_or plan.handlers g no_handler))
        → All (λ a. a < g) (added (with_control plan h ctrl) g)
    before g (inl same) =
        subst (λ (x : HandlerData). All (λ a. a < g) x.added) (sym same.1)
        (subst (λ (n : ℕ). All (λ a. a < n) (added plan h)) (sym same.0) (is.added_before h))
    before g (inr other) = subst (λ (x : HandlerData). All (λ a. a < g) x.added) (sym other.1) (is.added_before g)

-- the same for parts that are equal to those
pub is_plan_control_as : (plan : PlanData) (h : ℕ) (ctrl : Control) (controls : List Control) (handler : HandlerData) → IsPlan plan → h < length plan.handlers → length plan.controls < MAX_CONTROLS
    → IsWellFormed ctrl → is_some (first_with_id plan.controls (own plan h) ctrl.id) ≡ false → controls ≡ plan.controls ++ ctrl ∷ [] → handler ≡ owning (handler_at plan h) (length plan.controls)
    → IsPlan (record plan { controls = controls; handlers = slice_set plan.handlers h handler })
is_plan_control_as plan h ctrl controls handler is within room whole new more owns = rw (more, owns) (is_plan_control plan h ctrl is within room whole new)

-- where nothing refuses an adding, the handler is there and the other has a smaller number
adding_by : (none later : Bool) (other : Bool) → (if none then Some UnknownNumber else if other then Some UnknownNumber else if later then Some LaterHandler else None) ≡ None → (none ≡ false) × (later ≡ false)
adding_by true later other is = cc
adding_by false later true is = cc
adding_by false true false is = cc
adding_by false false false is = (refl, refl)

pub may_add : (plan : PlanData) (to added : ℕ) → adding_refusal plan to added ≡ None → (to < length plan.handlers) × (added < to)
may_add plan to added is =
    let each = adding_by (nat_le (length plan.handlers) to) (nat_le to added) (nat_le (length plan.handlers) added) is in
    (grind (arith, nat_tests, each.0), grind (arith, nat_tests, each.1))

-- where nothing refuses a control, the handler is there, there is room, and none of its own has this id
control_by : (none full : Bool) (has : Bool) → (if none then Some UnknownNumber else if full then Some Limit else if has then Some DuplicateId else None) ≡ None → (none ≡ false) × (full ≡ false) × (has ≡ false)
control_by true full has is = cc
control_by false true has is = cc
control_by false false true is = cc
control_by false false false is = (refl, refl, refl)

pub may_own : (plan : PlanData) (h : ℕ) (ctrl : Control) → control_refusal plan h ctrl ≡ None
    → (h < length plan.handlers) × (length plan.controls < MAX_CONTROLS) × (is_some (first_with_id plan.controls (own plan h) ctrl.id) ≡ false)
may_own plan h ctrl is =
    let each = control_by (nat_le (length plan.handlers) h) (nat_le MAX_CONTROLS (length plan.controls)) (is_some (first_with_id plan.controls (own plan h) ctrl.id)) is in
    (grind (arith, nat_tests, each.0), grind (arith, nat_tests, each.1), each.2)

-- a handler that keeps its own controls and adds only handlers with smaller numbers
pub is_plan_handler : (plan : PlanData) (h : ℕ) (handler : HandlerData) → IsPlan plan → h < length plan.handlers → handler.own ≡ own plan h → All (λ a. a < h) handler.added
    → IsPlan (record plan { handlers = slice_set plan.handlers h handler })
is_plan_handler plan h handler is within same before = record {
  few_controls = is.few_controls;
  well_formed = is.well_formed;
  items_known = is.items_known;
  items_taken = is.items_taken;
  few_handlers = omega (arith, is.few_handlers, length-set plan.handlers h handler);
  members_known = is.members_known;
  members_apart = is.members_apart;
  some_members = is.some_members;
  few_members = is.few_members;
  members_differ = is.members_differ;
  lone_arrays = is.lone_arrays;
  own_known = λ g. owns g (set_handler plan.handlers h g handler within);
  own_differ = λ g. differ g (set_handler plan.handlers h g handler within);
  added_before = λ g. adds g (set_handler plan.handlers h g handler within);
  follow = is.follow;
}
  where
    owns : (g : ℕ)
        → ((g ≡ h) × (get_or (slice_set plan.handlers h handler) g no_handler ≡ handler)) ⊎ ((g ≢ h) × (get_or (slice_set plan.handlers h handler) g no_handler ≡ get_or plan.handlers g no_handler))
        → All (λ c. c < length plan.controls) (get_or (slice_set plan.handlers h handler) g no_handler).own
    owns g (inl there) =
        subst (λ (x : HandlerData). All (λ c. c < length plan.controls) x.own) (sym there.1)
        (subst (λ (cs : List ℕ). All (λ c. c < length plan.controls) cs) (sym same) (is.own_known h))
    owns g (inr other) = subst (λ (x : HandlerData). All (λ c. c < length plan.controls) x.own) (sym other.1) (is.own_known g)

    differ : (g : ℕ)
        → ((g ≡ h) × (get_or (slice_set plan.handlers h handler) g no_handler ≡ handler)) ⊎ ((g ≢ h) × (get_or (slice_set plan.handlers h handler) g no_handler ≡ get_or plan.handlers g no_handler))
        → names_twice (ids_of plan.controls (get_or (slice_set plan.handlers h handler) g no_handler).own) ≡ false
    differ g (inl there) =
        subst (λ (x : HandlerData). names_twice (ids_of plan.controls x.own) ≡ false) (sym there.1)
        (subst (λ (cs : List ℕ). names_twice (ids_of plan.controls cs) ≡ false) (sym same) (is.own_differ h))
    differ g (inr other) = subst (λ (x : HandlerData). names_twice (ids_of plan.controls x.own) ≡ false) (sym other.1) (is.own_differ g)

    adds : (g : ℕ)
        → ((g ≡ h) × (get_or (slice_set plan.handlers h handler) g no_handler ≡ handler)) ⊎ ((g ≢ h) × (get_or (slice_set plan.handlers h handler) g no_handler ≡ get_or plan.handlers g no_handler))
        → All (λ a. a < g) (get_or (slice_set plan.handlers h handler) g no_handler).added
    adds g (inl there) =
        subst (λ (x : HandlerData). All (λ a. a < g) x.added) (sym there.1)
        (subst (λ (n : ℕ). All (λ a. a < n) handler.added) (sym there.0) before)
    adds g (inr other) = subst (λ (x : HandlerData). All (λ a. a < g) x.added) (sym other.1) (is.added_before g)
