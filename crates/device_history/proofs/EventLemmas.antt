-- The events of a file handle after one more entry.
use Rattle.std.proofs.Common.{arith, ◌≡◌, ◌∙◌, ◌<◌, ◌≤◌, ◌+◌, ℕ, ℤ, Bool, true, false, not, ◌&&◌, cond, List, [], ◌∷◌, ◌++◌, filter, filter_map, length, Option, None, Some, is_some, nat_eq, eq-eqb, All, refl, ap, sym, subst, true≢false}
use Rattle.std.proofs.lemmas.Bool.Decides.{Decides-int_eq}
use Rattle.std.proofs.lemmas.List.Elements.{All-head, All-tail}
use Rattle.std.specs.List.{cons_option, range_with_len}
use Rattle.std.specs.Ordering.{int_eq}
use Rattle.std.specs.Option.{option_and_then, option_map, option_or}
use Rattle.history.specs.declared.entry.Entry.{Entry}
use Rattle.history.specs.Past.{past}
use Rattle.history.proofs.Pasts.{past_add}
use Rattle.ctrl_types.specs.Events.{is_nothing, sends_initial}
use Rattle.ctrl_types.specs.declared.changes.Changes.{Changes}
use Rattle.ctrl_types.specs.declared.flags.Flags.{Flags}
use Rattle.ctrl_types.specs.declared.ids.CtrlId.{CtrlId}
use Rattle.ctrl_types.specs.declared.ids.FhId.{FhId}
use Rattle.ctrl_types.specs.declared.sub_flags.SubFlags.{SubFlags}
use Rattle.ctrl_settle.specs.Control.{Control}
use Rattle.ctrl_calls.specs.Meanings.{Verdicts}
use Rattle.ctrl_events.specs.declared.event.Payload.{Payload}
use Rattle.ctrl_events.specs.declared.event.Subscription.{Subscription}
use Rattle.ctrl_events.specs.declared.event.Waiting.{Waiting}
use Rattle.ctrl_events.specs.Events.{FileEvents, no_events, flags_in, is_from, raised, reaches, with_subscription, after_subscribe, after_unsubscribe, after_take, after_raise}
use Rattle.ctrl_events.specs.Pending.{IsWhatHappened, AreNumbered, Happening, withdrawn, raise, pending as pending_in, raises as raises_in}
use Rattle.ctrl_events.proofs.PendingLemmas.{kept_raised, kept_subscribed, kept_taken, kept_unsubscribed, pending_start}
use Rattle.ctrl_handlers.specs.Plan.{IsPlan, PlanData, control, control_in}
use Rattle.ctrl_handlers.specs.Visible.{find, first_with_id, visible}
use Rattle.ctrl_handlers.proofs.ShownLemmas.{visible_known}
use Rattle.device_history.specs.declared.ask.Step.{Step}
use Rattle.device_history.specs.declared.ask.Step.TheVariants as steps
use Rattle.device_history.specs.Steps.{History, Past}
use Rattle.device_history.specs.Handles.{ever_opened, handler_of, opened, opened_after, shown}
use Rattle.device_history.specs.Ranges.{ranges_after, ranges_now}
use Rattle.device_history.specs.Grabs.{grabbed, grabbed_after}
use Rattle.device_history.specs.Values.{now, values_after}
use Rattle.device_history.specs.Flags.{flags_now}
use Rattle.device_history.specs.Words.{pairs_applied}
use Rattle.device_history.specs.Legal.{IsLegal, MayFollow}
use Rattle.device_history.specs.Subscriptions.{first_flags, is_control, since_ended, subscribed, subscribed_after, subscribed_by}
use Rattle.device_history.specs.Events.{changed, withdrawn_if_named, happened, heard, initially, payload, pending, raises, raised_for, all_raised_for, with_withdrawn, with_raises, from_of}
use Rattle.device_history.specs.EventSteps.{AreEvents, unsubscribed_if_named, events_after, events_by, raised_by}
use Rattle.ctrl_raises.specs.Raises.{initial_changes, raised_all, range_differs}
use Rattle.device_history.specs.EventAnswers.{first_control}
use Rattle.device_history.proofs.AskingLemmas.{may_decided}
use Rattle.device_history.proofs.GrabLemmas.{grabbed_more}
use Rattle.device_history.proofs.SubscriptionLemmas.{closed_by_none, equal, handler_gone, handler_left, handler_more, handler_new, handler_other, is_open, not_yet, subscribed_more, subscribes_open, takes_open, unsubscribes_open}
use Rattle.device_history.proofs.RangeLemmas.{ranges_more}
use Rattle.device_history.proofs.PickLemmas.{none_picked, same_picked, pick, picks_one, raises_kept}

-- the numbers of raises go on
numbered_raises : (told : ℕ → Payload) (rs : List (ℕ × Changes)) (hs : List Happening) → AreNumbered hs → AreNumbered (with_raises told rs hs)
unfolding with_raises AreNumbered
numbered_raises told [] hs numbered = numbered
numbered_raises told (r ∷ rs) hs numbered = numbered_raises told rs _ (refl, numbered)

numbered_gone : (fh : FhId) (step : Step) (hs : List Happening) → AreNumbered hs → AreNumbered (with_withdrawn fh step hs)
unfolding AreNumbered
numbered_gone fh (steps.Unsubscribe f (Some c)) hs numbered = by (nat_eq f.0 fh.0)
  where
    by : (b : Bool) → AreNumbered (cond b (withdrawn c ∷ hs) hs)
    by true = numbered
    by false = numbered
numbered_gone fh (steps.Unsubscribe f None) hs numbered = by (nat_eq f.0 fh.0)
  where
    by : (b : Bool) → AreNumbered (cond b hs hs)
    by true = numbered
    by false = numbered
numbered_gone fh (steps.Take f c) hs numbered = by (nat_eq f.0 fh.0)
  where
    by : (b : Bool) → AreNumbered (cond b (withdrawn c ∷ hs) hs)
    by true = numbered
    by false = numbered
numbered_gone fh _ hs numbered = numbered

pub numbered_all : (verdicts : Verdicts) (plan : PlanData) (past : Past) (fh : FhId) → AreNumbered (happened verdicts plan past fh)
unfolding happened AreNumbered
numbered_all verdicts plan [] fh = tt
numbered_all verdicts plan (e ∷ older) fh =
    numbered_raises (payload verdicts plan (e ∷ older)) (all_raised_for verdicts plan e older fh) (with_withdrawn fh e.step (happened verdicts plan older fh))
    (numbered_gone fh e.step (happened verdicts plan older fh) (numbered_all verdicts plan older fh))

-- what is kept of an open file handle is what happened
opened_kept : (verdicts : Verdicts) (plan : PlanData) (past : Past) (fh : FhId) (f : FileEvents) → is_open past fh ≡ true → AreEvents verdicts plan past fh f → IsWhatHappened (happened verdicts plan past fh) f
opened_kept verdicts plan past fh f live are =
    record {
      numbered = numbered_all verdicts plan past fh;
      waiting = are.waiting ∙ ap (λ (b : Bool). cond b (pending_in (happened verdicts plan past fh)) []) live;
      next = are.next ∙ ap (λ (b : Bool). cond b (length (raises_in (happened verdicts plan past fh))) 0) live;
    }

-- and the other way
kept_opened : (verdicts : Verdicts) (plan : PlanData) (past : Past) (fh : FhId) (f : FileEvents) → is_open past fh ≡ true → ((c : ℕ) → flags_in f.subscribed c ≡ subscribed past fh c) → IsWhatHappened (happened verdicts plan past fh) f
    → AreEvents verdicts plan past fh f
kept_opened verdicts plan past fh f live subs kept =
    record {
      subscribed = subs;
      waiting = kept.waiting ∙ sym (ap (λ (b : Bool). cond b (pending_in (happened verdicts plan past fh)) []) live);
      next = kept.next ∙ sym (ap (λ (b : Bool). cond b (length (raises_in (happened verdicts plan past fh))) 0) live);
    }

-- what is kept of a file handle that isn't open is nothing
pub IsNothing : FileEvents → Type 0
IsNothing f = ((c : ℕ) → flags_in f.subscribed c ≡ None) × (f.waiting ≡ []) × (f.next ≡ 0)

closed_nothing : (verdicts : Verdicts) (plan : PlanData) (past : Past) (fh : FhId) (f : FileEvents) → is_open past fh ≡ false → AreEvents verdicts plan past fh f → IsNothing f
unfolding IsNothing
closed_nothing verdicts plan past fh f shut are = (
  λ c. are.subscribed c ∙ ap (λ (b : Bool). cond b (first_flags fh c (since_ended fh c past)) None) shut,
  are.waiting ∙ ap (λ (b : Bool). cond b (pending_in (happened verdicts plan past fh)) []) shut,
  are.next ∙ ap (λ (b : Bool). cond b (length (raises_in (happened verdicts plan past fh))) 0) shut,
)

nothing_closed : (verdicts : Verdicts) (plan : PlanData) (past : Past) (fh : FhId) (f : FileEvents) → is_open past fh ≡ false → IsNothing f → AreEvents verdicts plan past fh f
unfolding IsNothing
nothing_closed verdicts plan past fh f shut none =
    record {
      subscribed = λ c. none.0 c ∙ sym (ap (λ (b : Bool). cond b (first_flags fh c (since_ended fh c past)) None) shut);
      waiting = none.1 ∙ sym (ap (λ (b : Bool). cond b (pending_in (happened verdicts plan past fh)) []) shut);
      next = none.2 ∙ sym (ap (λ (b : Bool). cond b (length (raises_in (happened verdicts plan past fh))) 0) shut);
    }

-- a step that leaves values, grabs and ranges, and applies no pairs
abbrev ChangesNoControl : Verdicts → PlanData → Past → Step → Type 0
ChangesNoControl verdicts plan older step =
    (values_after verdicts plan older step (now verdicts plan older) ≡ now verdicts plan older) × (pairs_applied verdicts plan older step ≡ None)
    × (grabbed_after step (grabbed plan older) ≡ grabbed plan older) × (ranges_after step (ranges_now plan older) ≡ ranges_now plan older)

pub values_controls_left : (verdicts : Verdicts) (plan : PlanData) (e : Entry Step) (older : Past) → values_after verdicts plan older e.step (now verdicts plan older) ≡ now verdicts plan older → now verdicts plan (e ∷ older) ≡ now verdicts plan older
unfolding now
values_controls_left verdicts plan e older same = same

-- a range doesn't differ from itself
range_same : (x : Control) → range_differs x x ≡ false
range_same x = rw (itself x.minimum, itself x.maximum, eq-eqb x.step x.step refl, itself x.default_value) refl
  where
    itself : (v : ℤ) → int_eq v v ≡ true
    itself v = (Decides-int_eq v v).1 refl

-- such a step changes nothing
changes_none : (verdicts : Verdicts) (plan : PlanData) (e : Entry Step) (older : Past) → ChangesNoControl verdicts plan older e.step → (c : ℕ) → is_nothing (changed verdicts plan e older c) ≡ true
changes_none verdicts plan e older is c = rw (values_controls_left verdicts plan e older is.0, grabbed_more plan e older ∙ is.2, is.1, eq-eqb (flags_now verdicts plan older c).0 (flags_now verdicts plan older c).0 refl, ranges_more plan e older ∙ is.3, range_same (control_in (ranges_now plan older) c)) refl

-- nobody hears of nothing
heard_nothing : (fh : FhId) (o : Option SubFlags) (step : Step) (change : Changes) (c : ℕ) → is_nothing change ≡ true → heard fh o step change c ≡ None
heard_nothing fh None step change c nothing = refl
heard_nothing fh (Some flags) step change c nothing = rw nothing refl

-- where a step doesn't subscribe, nothing is told at once
told_heard : (verdicts : Verdicts) (plan : PlanData) (e : Entry Step) (older : Past) (fh : FhId) (c : ℕ) → subscribed_by fh c e.step ≡ None → raised_for verdicts plan e older fh c ≡ heard fh (subscribed older fh c) e.step (changed verdicts plan e older c) c
told_heard verdicts plan e older fh c none =
    ap (λ (o : Option SubFlags). option_or (heard fh (subscribed older fh c) e.step (changed verdicts plan e older c) c) (initially (subscribed older fh c) o (control plan c).flags)) none ∙ by (subscribed older fh c) _
  where
    by : (own : Option SubFlags) (o : Option Changes) → option_or o (initially own None (control plan c).flags) ≡ o
    by None None = refl
    by None (Some change) = refl
    by (Some flags) None = refl
    by (Some flags) (Some change) = refl

-- a file handle that isn't open is told nothing
told_closed : (verdicts : Verdicts) (plan : PlanData) (e : Entry Step) (older : Past) (fh : FhId) → MayFollow verdicts plan older e.step → is_open older fh ≡ false → all_raised_for verdicts plan e older fh ≡ []
told_closed verdicts plan e older fh may shut = none_picked _ (range_with_len 0 (length plan.controls)) none
  where
    none : (c : ℕ) → option_map {U = ℕ × Changes} (λ change. (c, change)) (raised_for verdicts plan e older fh c) ≡ None
    none c = ap (option_map {U = ℕ × Changes} (λ change. (c, change)))
        (told_heard verdicts plan e older fh c (closed_by_none verdicts plan older fh c e.step may shut) ∙ ap (λ (b : Bool). heard fh (cond b (first_flags fh c (since_ended fh c older)) None) e.step (changed verdicts plan e older c) c) shut)

-- nor does anything else happen to its events
gone_closed : (verdicts : Verdicts) (plan : PlanData) (older : Past) (fh : FhId) (step : Step) (hs : List Happening) → MayFollow verdicts plan older step → is_open older fh ≡ false → with_withdrawn fh step hs ≡ hs
gone_closed verdicts plan older fh (steps.Unsubscribe f c) hs may shut = by (nat_eq f.0 fh.0) refl
  where
    by : (b : Bool) → nat_eq f.0 fh.0 ≡ b → cond b (withdrawn_if_named c hs) hs ≡ hs
    by true is = absurd (true≢false (sym (unsubscribes_open verdicts plan older f c may) ∙ ap (λ (n : ℕ). is_open older (record { 0 = n })) (equal f.0 fh.0 is) ∙ shut))
    by false is = refl
gone_closed verdicts plan older fh (steps.Take f c) hs may shut = by (nat_eq f.0 fh.0) refl
  where
    by : (b : Bool) → nat_eq f.0 fh.0 ≡ b → cond b (withdrawn c ∷ hs) hs ≡ hs
    by true is = absurd (true≢false (sym (takes_open verdicts plan older f c may) ∙ ap (λ (n : ℕ). is_open older (record { 0 = n })) (equal f.0 fh.0 is) ∙ shut))
    by false is = refl
gone_closed verdicts plan older fh _ hs may shut = refl

-- what happened stays, where a step raises nothing and nothing is withdrawn
happened_same : (verdicts : Verdicts) (plan : PlanData) (e : Entry Step) (older : Past) (fh : FhId) → all_raised_for verdicts plan e older fh ≡ [] → with_withdrawn fh e.step (happened verdicts plan older fh) ≡ happened verdicts plan older fh
    → happened verdicts plan (e ∷ older) fh ≡ happened verdicts plan older fh
unfolding happened with_raises
happened_same verdicts plan e older fh told none = rw (told, none) refl

first_happened : (verdicts : Verdicts) (plan : PlanData) (fh : FhId) → happened verdicts plan [] fh ≡ []
unfolding happened
first_happened verdicts plan fh = refl

-- nothing happened to the events of a file handle that isn't open yet
pub never_happened : (verdicts : Verdicts) (plan : PlanData) (past : Past) (fh : FhId) → IsLegal verdicts plan past → length past ≤ fh.0 → happened verdicts plan past fh ≡ []
unfolding IsLegal
never_happened verdicts plan [] fh legal late = first_happened verdicts plan fh
never_happened verdicts plan (e ∷ older) fh legal late =
    let early : length older ≤ fh.0 = omega (arith, late) in
    let shut : is_open older fh ≡ false = ap is_some (not_yet older fh early) in
    happened_same verdicts plan e older fh (told_closed verdicts plan e older fh legal.1 shut) (gone_closed verdicts plan older fh e.step _ legal.1 shut) ∙ never_happened verdicts plan older fh legal.0 early

-- a raise reaches no file handle that isn't open
raised_closed : (verdicts : Verdicts) (plan : PlanData) (e : Entry Step) (older : Past) (fh : FhId) (cs : List ℕ) (f : FileEvents) → ((c : ℕ) → flags_in f.subscribed c ≡ None) → raised_by verdicts plan e older fh cs f ≡ f
unfolding raised_all
raised_closed verdicts plan e older fh [] f none = refl
raised_closed verdicts plan e older fh (c ∷ cs) f none = ap (raised_by verdicts plan e older fh cs) (by (is_nothing (changed verdicts plan e older c))) ∙ raised_closed verdicts plan e older fh cs f none
  where
    by : (b : Bool) → cond b f (after_raise c (changed verdicts plan e older c) (payload verdicts plan (e ∷ older) c) (from_of e.step (changed verdicts plan e older c) c) fh.0 f) ≡ f
    by true = refl
    by false = ap (λ (o : Option SubFlags). cond (reaches (is_from (from_of e.step (changed verdicts plan e older c) c) fh.0) o) (raised c (changed verdicts plan e older c) (payload verdicts plan (e ∷ older) c) f) f) (none c)

subs_nothing : (f : FileEvents) → IsNothing f → (c : ℕ) → flags_in f.subscribed c ≡ None
unfolding IsNothing
subs_nothing f none = none.0

nothing_first : IsNothing no_events
unfolding IsNothing
nothing_first = (λ c. refl, refl, refl)

-- where a file handle isn't open before and after
pub closed_more : (verdicts : Verdicts) (plan : PlanData) (e : Entry Step) (older : Past) (fh : FhId) (f : FileEvents) → MayFollow verdicts plan older e.step → is_open older fh ≡ false → IsNothing f → IsNothing (events_after verdicts plan e older fh f)
closed_more verdicts plan e older fh f may shut none = by e.step refl
  where
    all : (cs : List ℕ) → IsNothing (raised_by verdicts plan e older fh cs f)
    all cs = subst IsNothing (sym (raised_closed verdicts plan e older fh cs f (subs_nothing f none))) none

    other : (g : FhId) (new : FileEvents) → (is_open older g ≡ true) → IsNothing (cond (nat_eq g.0 fh.0) new f)
    other g new live = each (nat_eq g.0 fh.0) refl
      where
        each : (b : Bool) → nat_eq g.0 fh.0 ≡ b → IsNothing (cond b new f)
        each true is = absurd (true≢false (sym live ∙ ap (λ (n : ℕ). is_open older (record { 0 = n })) (equal g.0 fh.0 is) ∙ shut))
        each false is = none

    closing : (b : Bool) → IsNothing (cond b no_events f)
    closing true = nothing_first
    closing false = none

    by : (step : Step) → e.step ≡ step → IsNothing (events_by verdicts plan e older fh step f)
    by (steps.CloseFh g) is = closing (nat_eq g.0 fh.0)
    by (steps.Set g pairs) is = all _
    by (steps.Grab c on) is = all _
    by (steps.ModifyRange c low high apart default_value) is = all _
    by (steps.Begin r) is = all _
    by (steps.Subscribe g c flags) is = other g _ (subscribes_open verdicts plan older g c flags (subst (MayFollow verdicts plan older) is may))
    by (steps.Unsubscribe g c) is = other g _ (unsubscribes_open verdicts plan older g c (subst (MayFollow verdicts plan older) is may))
    by (steps.Take g c) is = other g _ (takes_open verdicts plan older g c (subst (MayFollow verdicts plan older) is may))
    by _ is = none

-- what a step without a subscription and without changes makes of an open file handle's happenings
told_controls_left : (verdicts : Verdicts) (plan : PlanData) (e : Entry Step) (older : Past) (fh : FhId) → ChangesNoControl verdicts plan older e.step → ((c : ℕ) → subscribed_by fh c e.step ≡ None) → all_raised_for verdicts plan e older fh ≡ []
told_controls_left verdicts plan e older fh is none =
    none_picked _ (range_with_len 0 (length plan.controls))
    (λ c. ap (option_map {U = ℕ × Changes} (λ change. (c, change))) (told_heard verdicts plan e older fh c (none c) ∙ heard_nothing fh (subscribed older fh c) e.step (changed verdicts plan e older c) c (changes_none verdicts plan e older is c)))

or_none : (o : Option SubFlags) → option_or o None ≡ o
or_none None = refl
or_none (Some flags) = refl

-- a file handle that stays open, where a step does nothing to it
stays_open : (verdicts : Verdicts) (plan : PlanData) (e : Entry Step) (older : Past) (fh : FhId) (f : FileEvents) → is_open older fh ≡ true → is_open (e ∷ older) fh ≡ true
    → happened verdicts plan (e ∷ older) fh ≡ happened verdicts plan older fh → ((c : ℕ) → subscribed (e ∷ older) fh c ≡ subscribed older fh c) → AreEvents verdicts plan older fh f → AreEvents verdicts plan (e ∷ older) fh f
stays_open verdicts plan e older fh f live still same subs are =
    kept_opened verdicts plan (e ∷ older) fh f still (λ c. are.subscribed c ∙ sym (subs c))
    (subst (λ (hs : List Happening). IsWhatHappened hs f) (sym same) (opened_kept verdicts plan older fh f live are))

-- a step that raises events
raises_open : (verdicts : Verdicts) (plan : PlanData) (e : Entry Step) (older : Past) (fh : FhId) (f : FileEvents) → is_open older fh ≡ true → is_open (e ∷ older) fh ≡ true
    → with_withdrawn fh e.step (happened verdicts plan older fh) ≡ happened verdicts plan older fh → ((c : ℕ) → subscribed_by fh c e.step ≡ None) → ((c : ℕ) → subscribed (e ∷ older) fh c ≡ subscribed older fh c)
    → AreEvents verdicts plan older fh f → AreEvents verdicts plan (e ∷ older) fh (raised_by verdicts plan e older fh (range_with_len 0 (length plan.controls)) f)
unfolding happened
raises_open verdicts plan e older fh f live still stays none subs are =
    let heard_of : List (ℕ × Changes) = filter_map (λ c. option_map {U = ℕ × Changes} (λ change. (c, change)) (heard fh (subscribed older fh c) e.step (changed verdicts plan e older c) c)) (range_with_len 0 (length plan.controls)) in
    let all = raises_kept verdicts plan e older fh (range_with_len 0 (length plan.controls)) f (happened verdicts plan older fh) (opened_kept verdicts plan older fh f live are) are.subscribed in
    kept_opened verdicts plan (e ∷ older) fh _ still (λ c. all.1 c ∙ sym (subs c))
    (subst (λ (rs : List (ℕ × Changes)). IsWhatHappened (with_raises (payload verdicts plan (e ∷ older)) rs (with_withdrawn fh e.step (happened verdicts plan older fh))) (raised_by verdicts plan e older fh (range_with_len 0 (length plan.controls)) f))
    (sym (same_picked _ _ (range_with_len 0 (length plan.controls)) (λ c. ap (option_map {U = ℕ × Changes} (λ change. (c, change))) (told_heard verdicts plan e older fh c (none c)))))
    (subst (λ (hs : List Happening). IsWhatHappened (with_raises (payload verdicts plan (e ∷ older)) heard_of hs) (raised_by verdicts plan e older fh (range_with_len 0 (length plan.controls)) f)) (sym stays) all.0))

-- the subscriptions, where one is added
flags_added : (ss : List Subscription) (c0 : ℕ) (flags : SubFlags) (c : ℕ) → flags_in (ss ++ record { control = c0; flags = flags } ∷ []) c ≡ option_or (flags_in ss c) (cond (nat_eq c c0) (Some flags) None)
flags_added [] c0 flags c = refl
flags_added (s ∷ ss) c0 flags c = by (nat_eq c s.control) (flags_added ss c0 flags c)
  where
    by : (b : Bool) → flags_in (ss ++ record { control = c0; flags = flags } ∷ []) c ≡ option_or (flags_in ss c) (cond (nat_eq c c0) (Some flags) None)
        → cond b (Some s.flags) (flags_in (ss ++ record { control = c0; flags = flags } ∷ []) c) ≡ option_or (cond b (Some s.flags) (flags_in ss c)) (cond (nat_eq c c0) (Some flags) None)
    by true rest = refl
    by false rest = rest

-- and where one is ended
flags_left : (ss : List Subscription) (c0 c : ℕ) → flags_in (filter (λ s. not (nat_eq c0 s.control)) ss) c ≡ cond (nat_eq c0 c) None (flags_in ss c)
flags_left [] c0 c = by (nat_eq c0 c)
  where
    by : (b : Bool) → ◌≡◌ {A = Option SubFlags} None (cond b None None)
    by true = refl
    by false = refl
flags_left (s ∷ ss) c0 c = by (nat_eq c0 s.control) (nat_eq c s.control) (nat_eq c0 c) refl refl refl (flags_left ss c0 c)
  where
    by : (a b t : Bool) → nat_eq c0 s.control ≡ a → nat_eq c s.control ≡ b → nat_eq c0 c ≡ t → flags_in (filter (λ s. not (nat_eq c0 s.control)) ss) c ≡ cond t None (flags_in ss c)
        → flags_in (cond (not a) (s ∷ filter (λ s. not (nat_eq c0 s.control)) ss) (filter (λ s. not (nat_eq c0 s.control)) ss)) c ≡ cond t None (cond b (Some s.flags) (flags_in ss c))
    by true true true f g h rest = rest
    by true true false f g h rest = absurd (true≢false (sym (eq-eqb c0 c (equal c0 s.control f ∙ sym (equal c s.control g))) ∙ h))
    by true false true f g h rest = rest
    by true false false f g h rest = rest
    by false true true f g h rest = absurd (true≢false (sym (eq-eqb c0 s.control (equal c0 c h ∙ equal c s.control g)) ∙ f))
    by false true false f g h rest = rw g refl
    by false false true f g h rest = rw g rest
    by false false false f g h rest = rw g rest

-- what is found is one of those that are shown
one_of : (P : ℕ → Type 0) (controls : List Control) (numbers : List ℕ) (id : CtrlId) (c : ℕ) → first_with_id controls numbers id ≡ Some c → All P numbers → P c
one_of P controls [] id c found all = cc
one_of P controls (d ∷ numbers) id c found all = by (nat_eq (control_in controls d).id.0 id.0) found (λ h. one_of P controls numbers id c h (All-tail P d numbers all))
  where
    by : (b : Bool) → cond b (Some d) (first_with_id controls numbers id) ≡ Some c → (first_with_id controls numbers id ≡ Some c → P c) → P c
    by true h more =
        let same : d ≡ c = cc in
        subst P same (All-head P d numbers all)
    by false h more = more h

-- a control that is shown to a file handle is one of the plan's
pub shown_known : (plan : PlanData) (past : Past) (fh : FhId) (id : CtrlId) (c : ℕ) → IsPlan plan → shown plan past fh id ≡ Some c → c < length plan.controls
shown_known plan past fh id c plans is = by (handler_of past fh) is
  where
    by : (handler : Option ℕ) → option_and_then (λ h. find plan h id) handler ≡ Some c → c < length plan.controls
    by None h = cc
    by (Some handler) h = one_of (λ n. n < length plan.controls) plan.controls (visible plan handler) id c h (visible_known plan handler plans)

pub subscribes_known : (verdicts : Verdicts) (plan : PlanData) (older : Past) (fh : FhId) (c : ℕ) (flags : SubFlags) → IsPlan plan → MayFollow verdicts plan older (steps.Subscribe fh c flags) → c < length plan.controls
subscribes_known verdicts plan older fh c flags plans may = by (shown plan older fh (control plan c).id) refl (may_decided verdicts plan older (steps.Subscribe fh c flags) may).1
  where
    by : (o : Option ℕ) → shown plan older fh (control plan c).id ≡ o → option_map (λ d. steps.Subscribe fh d flags) o ≡ Some (steps.Subscribe fh c flags) → c < length plan.controls
    by None is h = cc
    by (Some d) is h =
        let same : d ≡ c = cc in
        subst (λ (n : ℕ). n < length plan.controls) same (shown_known plan older fh (control plan c).id d plans is)

-- the first event that waits is of the control that is taken
takes_first : (verdicts : Verdicts) (plan : PlanData) (older : Past) (fh : FhId) (c : ℕ) → MayFollow verdicts plan older (steps.Take fh c) → first_control (pending verdicts plan older fh) ≡ Some c
takes_first verdicts plan older fh c may = by (first_control (pending verdicts plan older fh)) refl (may_decided verdicts plan older (steps.Take fh c) may).1
  where
    by : (o : Option ℕ) → first_control (pending verdicts plan older fh) ≡ o → option_map (λ d. steps.Take fh d) o ≡ Some (steps.Take fh c) → first_control (pending verdicts plan older fh) ≡ Some c
    by None is h = cc
    by (Some d) is h =
        let same : d ≡ c = cc in
        is ∙ ap (λ (n : ℕ). Some n) same

-- A new subscription of an open file handle, or one that is there already.
subscribes_own : (verdicts : Verdicts) (plan : PlanData) (e : Entry Step) (older : Past) (fh g : FhId) (c0 : ℕ) (flags : SubFlags) (f : FileEvents) → IsPlan plan → IsLegal verdicts plan older → MayFollow verdicts plan older e.step
    → e.step ≡ steps.Subscribe g c0 flags → nat_eq g.0 fh.0 ≡ true → is_open older fh ≡ true → is_open (e ∷ older) fh ≡ true → AreEvents verdicts plan older fh f
    → AreEvents verdicts plan (e ∷ older) fh (after_subscribe c0 flags (initial_changes (control plan c0).flags) (payload verdicts plan (e ∷ older) c0) f)
unfolding happened with_raises pick
subscribes_own verdicts plan e older fh g c0 flags f plans legal may is own live still are = by (subscribed older fh c0) refl (sends_initial flags) refl
  where
    change : Changes
    change = initial_changes (control plan c0).flags

    told : ℕ → Payload
    told = payload verdicts plan (e ∷ older)

    hs : List Happening
    hs = happened verdicts plan older fh

    kept : IsWhatHappened hs f
    kept = opened_kept verdicts plan older fh f live are

    asks : (c : ℕ) → subscribed_by fh c e.step ≡ cond (nat_eq c0 c) (Some flags) None
    asks c = ap (subscribed_by fh c) is ∙ ap (λ (b : Bool). cond (b && nat_eq c0 c) (Some flags) None) own

    none_asked : (o : Option SubFlags) (own : Flags) → initially o None own ≡ None
    none_asked None ctrl = refl
    none_asked (Some x) ctrl = refl

    each : (c : ℕ) → raised_for verdicts plan e older fh c ≡ cond (nat_eq c0 c) (initially (subscribed older fh c0) (Some flags) (control plan c0).flags) None
    each c =
        ap (λ (o : Option Changes). option_or o (initially (subscribed older fh c) (subscribed_by fh c e.step) (control plan c).flags))
        (heard_nothing fh (subscribed older fh c) e.step (changed verdicts plan e older c) c (changes_none verdicts plan e older (ap (λ (s : Step). values_after verdicts plan older s (now verdicts plan older)) is, ap (pairs_applied verdicts plan older) is, ap (λ (s : Step). grabbed_after s (grabbed plan older)) is, ap (λ (s : Step). ranges_after s (ranges_now plan older)) is) c))
        ∙ ap (λ (o : Option SubFlags). initially (subscribed older fh c) o (control plan c).flags) (asks c) ∙ at (nat_eq c0 c) refl
      where
        at : (b : Bool) → nat_eq c0 c ≡ b → initially (subscribed older fh c) (cond b (Some flags) None) (control plan c).flags ≡ cond b (initially (subscribed older fh c0) (Some flags) (control plan c0).flags) None
        at true same = ap (λ (n : ℕ). initially (subscribed older fh n) (Some flags) (control plan n).flags) (sym (equal c0 c same))
        at false other = none_asked (subscribed older fh c) (control plan c).flags

    one_told : all_raised_for verdicts plan e older fh ≡ cons_option (option_map (λ x. (c0, x)) (initially (subscribed older fh c0) (Some flags) (control plan c0).flags)) []
    one_told =
        same_picked _ (pick c0 (initially (subscribed older fh c0) (Some flags) (control plan c0).flags)) (range_with_len 0 (length plan.controls)) (λ c. ap (option_map {U = ℕ × Changes} (λ x. (c, x))) (each c))
        ∙ picks_one c0 _ 0 (length plan.controls) (omega arith) (omega (arith, subscribes_known verdicts plan older g c0 flags plans (subst (MayFollow verdicts plan older) is may)))

    now_happened : (o : Option SubFlags) → subscribed older fh c0 ≡ o → happened verdicts plan (e ∷ older) fh ≡ with_raises told (cons_option (option_map (λ x. (c0, x)) (initially o (Some flags) (control plan c0).flags)) []) hs
    now_happened o known =
        ap (λ (rs : List (ℕ × Changes)). with_raises told rs (with_withdrawn fh e.step hs)) (one_told ∙ ap (λ (s : Option SubFlags). cons_option (option_map (λ x. (c0, x)) (initially s (Some flags) (control plan c0).flags)) []) known)
        ∙ ap (λ (s : Step). with_raises told (cons_option (option_map (λ x. (c0, x)) (initially o (Some flags) (control plan c0).flags)) []) (with_withdrawn fh s hs)) is

    subs : (c : ℕ) → subscribed (e ∷ older) fh c ≡ option_or (subscribed older fh c) (cond (nat_eq c0 c) (Some flags) None)
    subs c = subscribed_more verdicts plan e older fh c legal may ∙ ap (λ (s : Step). subscribed_after s fh c (subscribed older fh c)) is
        ∙ ap (λ (b : Bool). option_or (subscribed older fh c) (cond (b && nat_eq c0 c) (Some flags) None)) own

    turned : (c : ℕ) → nat_eq c c0 ≡ nat_eq c0 c
    turned c = at (nat_eq c c0) (nat_eq c0 c) refl refl
      where
        at : (a b : Bool) → nat_eq c c0 ≡ a → nat_eq c0 c ≡ b → a ≡ b
        at true true f h = refl
        at true false f h = sym (eq-eqb c0 c (sym (equal c c0 f))) ∙ h
        at false true f h = sym f ∙ eq-eqb c c0 (sym (equal c0 c h))
        at false false f h = refl

    added : (c : ℕ) → flags_in (with_subscription c0 flags f).subscribed c ≡ subscribed (e ∷ older) fh c
    added c = flags_added f.subscribed c0 flags c ∙ ap (λ (o : Option SubFlags). option_or o (cond (nat_eq c c0) (Some flags) None)) (are.subscribed c) ∙ ap (λ (b : Bool). option_or (subscribed older fh c) (cond b (Some flags) None)) (turned c) ∙ sym (subs c)

    by : (o : Option SubFlags) → subscribed older fh c0 ≡ o → (b : Bool) → sends_initial flags ≡ b → AreEvents verdicts plan (e ∷ older) fh (after_subscribe c0 flags change (told c0) f)
    by (Some x) known b sends =
        subst (λ (k : FileEvents). AreEvents verdicts plan (e ∷ older) fh k)
        (sym (ap (λ (o : Option SubFlags). cond (is_some o) f (cond (sends_initial flags) (raised c0 change (told c0) (with_subscription c0 flags f)) (with_subscription c0 flags f))) (are.subscribed c0 ∙ known)))
        (stays_open verdicts plan e older fh f live still (now_happened (Some x) known) there are)
      where
        there : (c : ℕ) → subscribed (e ∷ older) fh c ≡ subscribed older fh c
        there c = subs c ∙ at (nat_eq c0 c) refl
          where
            at : (b : Bool) → nat_eq c0 c ≡ b → option_or (subscribed older fh c) (cond b (Some flags) None) ≡ subscribed older fh c
            at false other = or_none (subscribed older fh c)
            at true same = ap (λ (o : Option SubFlags). option_or o (Some flags)) own_flags ∙ sym own_flags
              where
                own_flags : subscribed older fh c ≡ Some x
                own_flags = ap (λ (n : ℕ). subscribed older fh n) (sym (equal c0 c same)) ∙ known
    by None known false sends =
        subst (λ (k : FileEvents). AreEvents verdicts plan (e ∷ older) fh k)
        (sym (ap (λ (o : Option SubFlags). cond (is_some o) f (cond (sends_initial flags) (raised c0 change (told c0) (with_subscription c0 flags f)) (with_subscription c0 flags f))) (are.subscribed c0 ∙ known)
        ∙ ap (λ (b : Bool). cond b (raised c0 change (told c0) (with_subscription c0 flags f)) (with_subscription c0 flags f)) sends))
        (kept_opened verdicts plan (e ∷ older) fh (with_subscription c0 flags f) still added
        (subst (λ (k : List Happening). IsWhatHappened k (with_subscription c0 flags f)) (sym (now_happened None known ∙ ap (λ (b : Bool). with_raises told (cons_option (option_map (λ x. (c0, x)) (cond b (Some change) None)) []) hs) sends))
        (kept_subscribed hs f c0 flags kept)))
    by None known true sends =
        subst (λ (k : FileEvents). AreEvents verdicts plan (e ∷ older) fh k)
        (sym (ap (λ (o : Option SubFlags). cond (is_some o) f (cond (sends_initial flags) (raised c0 change (told c0) (with_subscription c0 flags f)) (with_subscription c0 flags f))) (are.subscribed c0 ∙ known)
        ∙ ap (λ (b : Bool). cond b (raised c0 change (told c0) (with_subscription c0 flags f)) (with_subscription c0 flags f)) sends))
        (kept_opened verdicts plan (e ∷ older) fh (raised c0 change (told c0) (with_subscription c0 flags f)) still added
        (subst (λ (k : List Happening). IsWhatHappened k (raised c0 change (told c0) (with_subscription c0 flags f))) (sym (now_happened None known ∙ ap (λ (b : Bool). with_raises told (cons_option (option_map (λ x. (c0, x)) (cond b (Some change) None)) []) hs) sends))
        (subst (λ (n : ℕ). IsWhatHappened (raise (record { control = c0; changes = change; payload = told c0; sequence = n }) ∷ hs) (raised c0 change (told c0) (with_subscription c0 flags f))) kept.next
        (kept_raised hs (with_subscription c0 flags f) c0 change (told c0) (kept_subscribed hs f c0 flags kept)))))

-- The end of a subscription of an open file handle.
ends_own : (verdicts : Verdicts) (plan : PlanData) (e : Entry Step) (older : Past) (fh g : FhId) (d : Option ℕ) (f : FileEvents) → IsLegal verdicts plan older → MayFollow verdicts plan older e.step
    → e.step ≡ steps.Unsubscribe g d → nat_eq g.0 fh.0 ≡ true → is_open older fh ≡ true → is_open (e ∷ older) fh ≡ true → AreEvents verdicts plan older fh f → AreEvents verdicts plan (e ∷ older) fh (unsubscribed_if_named d f)
unfolding happened with_raises
ends_own verdicts plan e older fh g d f legal may is own live still are = by d refl
  where
    hs : List Happening
    hs = happened verdicts plan older fh

    calm : ChangesNoControl verdicts plan older e.step
    calm = (ap (λ (s : Step). values_after verdicts plan older s (now verdicts plan older)) is, ap (pairs_applied verdicts plan older) is, ap (λ (s : Step). grabbed_after s (grabbed plan older)) is, ap (λ (s : Step). ranges_after s (ranges_now plan older)) is)

    now_happened : happened verdicts plan (e ∷ older) fh ≡ withdrawn_if_named d hs
    now_happened =
        ap (λ (rs : List (ℕ × Changes)). with_raises (payload verdicts plan (e ∷ older)) rs (with_withdrawn fh e.step hs)) (told_controls_left verdicts plan e older fh calm (λ c. ap (subscribed_by fh c) is))
        ∙ ap (λ (s : Step). with_withdrawn fh s hs) is ∙ ap (λ (b : Bool). cond b (withdrawn_if_named d hs) hs) own

    subs : (c : ℕ) → subscribed (e ∷ older) fh c ≡ cond (is_control c d) None (subscribed older fh c)
    subs c = subscribed_more verdicts plan e older fh c legal may ∙ ap (λ (s : Step). subscribed_after s fh c (subscribed older fh c)) is
        ∙ ap (λ (b : Bool). cond (b && is_control c d) None (option_or (subscribed older fh c) None)) own ∙ ap (λ (o : Option SubFlags). cond (is_control c d) None o) (or_none (subscribed older fh c))

    by : (o : Option ℕ) → d ≡ o → AreEvents verdicts plan (e ∷ older) fh (unsubscribed_if_named o f)
    by None none = stays_open verdicts plan e older fh f live still (now_happened ∙ ap (λ (o : Option ℕ). withdrawn_if_named o hs) none) (λ c. subs c ∙ ap (λ (o : Option ℕ). cond (is_control c o) None (subscribed older fh c)) none) are
    by (Some c0) some =
        kept_opened verdicts plan (e ∷ older) fh (after_unsubscribe c0 f) still
        (λ c. flags_left f.subscribed c0 c ∙ ap (λ (o : Option SubFlags). cond (nat_eq c0 c) None o) (are.subscribed c) ∙ sym (subs c ∙ ap (λ (o : Option ℕ). cond (is_control c o) None (subscribed older fh c)) some))
        (subst (λ (k : List Happening). IsWhatHappened k (after_unsubscribe c0 f)) (sym (now_happened ∙ ap (λ (o : Option ℕ). withdrawn_if_named o hs) some)) (kept_unsubscribed hs f c0 (opened_kept verdicts plan older fh f live are)))

-- A take through an open file handle.
takes_own : (verdicts : Verdicts) (plan : PlanData) (e : Entry Step) (older : Past) (fh g : FhId) (c0 : ℕ) (f : FileEvents) → IsLegal verdicts plan older → MayFollow verdicts plan older e.step
    → e.step ≡ steps.Take g c0 → nat_eq g.0 fh.0 ≡ true → is_open older fh ≡ true → is_open (e ∷ older) fh ≡ true → AreEvents verdicts plan older fh f → AreEvents verdicts plan (e ∷ older) fh (after_take f)
unfolding happened with_raises
takes_own verdicts plan e older fh g c0 f legal may is own live still are = by f.waiting refl first
  where
    hs : List Happening
    hs = happened verdicts plan older fh

    calm : ChangesNoControl verdicts plan older e.step
    calm = (ap (λ (s : Step). values_after verdicts plan older s (now verdicts plan older)) is, ap (pairs_applied verdicts plan older) is, ap (λ (s : Step). grabbed_after s (grabbed plan older)) is, ap (λ (s : Step). ranges_after s (ranges_now plan older)) is)

    now_happened : happened verdicts plan (e ∷ older) fh ≡ withdrawn c0 ∷ hs
    now_happened =
        ap (λ (rs : List (ℕ × Changes)). with_raises (payload verdicts plan (e ∷ older)) rs (with_withdrawn fh e.step hs)) (told_controls_left verdicts plan e older fh calm (λ c. ap (subscribed_by fh c) is))
        ∙ ap (λ (s : Step). with_withdrawn fh s hs) is ∙ ap (λ (b : Bool). cond b (withdrawn c0 ∷ hs) hs) own

    subs : (c : ℕ) → subscribed (e ∷ older) fh c ≡ subscribed older fh c
    subs c = subscribed_more verdicts plan e older fh c legal may ∙ ap (λ (s : Step). subscribed_after s fh c (subscribed older fh c)) is ∙ or_none (subscribed older fh c)

    first : first_control f.waiting ≡ Some c0
    first = ap first_control are.waiting ∙ ap (λ (n : ℕ). first_control (pending verdicts plan older (record { 0 = n }))) (sym (equal g.0 fh.0 own)) ∙ takes_first verdicts plan older g c0 (subst (MayFollow verdicts plan older) is may)

    by : (ws : List Waiting) → f.waiting ≡ ws → first_control ws ≡ Some c0 → AreEvents verdicts plan (e ∷ older) fh (after_take f)
    by [] none h = cc
    by (w ∷ ws) some h =
        let same : w.control ≡ c0 = cc in
        kept_opened verdicts plan (e ∷ older) fh (after_take f) still (λ c. are.subscribed c ∙ sym (subs c))
        (subst (λ (k : List Happening). IsWhatHappened k (after_take f)) (ap (λ (n : ℕ). withdrawn n ∷ hs) same ∙ sym now_happened) (kept_taken hs f w ws (opened_kept verdicts plan older fh f live are) some))

-- What is kept of a file handle that is open is what the history makes of it, also after one more entry.
opened_more_events : (verdicts : Verdicts) (plan : PlanData) (e : Entry Step) (older : Past) (fh : FhId) (f : FileEvents) → IsPlan plan → IsLegal verdicts plan older → MayFollow verdicts plan older e.step → is_open older fh ≡ true
    → AreEvents verdicts plan older fh f → AreEvents verdicts plan (e ∷ older) fh (events_after verdicts plan e older fh f)
opened_more_events verdicts plan e older fh f plans legal may live are = by e.step refl
  where
    subs : (step : Step) → e.step ≡ step → (c : ℕ) → subscribed (e ∷ older) fh c ≡ subscribed_after step fh c (subscribed older fh c)
    subs step is c = subscribed_more verdicts plan e older fh c legal may ∙ ap (λ (s : Step). subscribed_after s fh c (subscribed older fh c)) is

    still : (step : Step) → e.step ≡ step → opened_after (length older) step (opened older) ≡ opened older → is_open (e ∷ older) fh ≡ true
    still step is same = ap is_some (handler_more e older step fh is same) ∙ live

    calm : (step : Step) → e.step ≡ step → is_open (e ∷ older) fh ≡ true → ChangesNoControl verdicts plan older step → ((c : ℕ) → subscribed_by fh c step ≡ None) → with_withdrawn fh step (happened verdicts plan older fh) ≡ happened verdicts plan older fh
        → ((c : ℕ) → subscribed_after step fh c (subscribed older fh c) ≡ subscribed older fh c) → AreEvents verdicts plan (e ∷ older) fh f
    calm step is stays rests none kept same =
        stays_open verdicts plan e older fh f live stays
        (happened_same verdicts plan e older fh
        (told_controls_left verdicts plan e older fh (subst (ChangesNoControl verdicts plan older) (sym is) rests) (λ c. ap (subscribed_by fh c) is ∙ none c))
        (ap (λ (s : Step). with_withdrawn fh s (happened verdicts plan older fh)) is ∙ kept))
        (λ c. subs step is c ∙ same c) are

    simple : (step : Step) → e.step ≡ step → opened_after (length older) step (opened older) ≡ opened older → ChangesNoControl verdicts plan older step → ((c : ℕ) → subscribed_by fh c step ≡ None)
        → with_withdrawn fh step (happened verdicts plan older fh) ≡ happened verdicts plan older fh → ((c : ℕ) → subscribed_after step fh c (subscribed older fh c) ≡ option_or (subscribed older fh c) None) → AreEvents verdicts plan (e ∷ older) fh f
    simple step is same rests none kept ends = calm step is (still step is same) rests none kept (λ c. ends c ∙ or_none (subscribed older fh c))

    raises : (step : Step) → e.step ≡ step → opened_after (length older) step (opened older) ≡ opened older → ((c : ℕ) → subscribed_by fh c step ≡ None)
        → with_withdrawn fh step (happened verdicts plan older fh) ≡ happened verdicts plan older fh → ((c : ℕ) → subscribed_after step fh c (subscribed older fh c) ≡ option_or (subscribed older fh c) None)
        → AreEvents verdicts plan (e ∷ older) fh (raised_by verdicts plan e older fh (range_with_len 0 (length plan.controls)) f)
    raises step is same none kept ends =
        raises_open verdicts plan e older fh f live (still step is same) (ap (λ (s : Step). with_withdrawn fh s (happened verdicts plan older fh)) is ∙ kept) (λ c. ap (subscribed_by fh c) is ∙ none c)
        (λ c. subs step is c ∙ ends c ∙ or_none (subscribed older fh c)) are

    opens : (handler : ℕ) → e.step ≡ steps.OpenFh handler → AreEvents verdicts plan (e ∷ older) fh f
    opens handler is = at (nat_eq fh.0 (length older)) refl
      where
        at : (b : Bool) → nat_eq fh.0 (length older) ≡ b → AreEvents verdicts plan (e ∷ older) fh f
        at true own = absurd (true≢false (sym live ∙ ap is_some (not_yet older fh (omega (arith, equal fh.0 (length older) own)))))
        at false other = calm _ is (ap is_some (handler_other e older handler fh is other) ∙ live) (refl, refl, refl, refl) (λ c. refl) refl (λ c. or_none (subscribed older fh c))

    closes_it : (g : FhId) → e.step ≡ steps.CloseFh g → (b : Bool) → nat_eq g.0 fh.0 ≡ b → AreEvents verdicts plan (e ∷ older) fh (cond b no_events f)
    closes_it g is true own = nothing_closed verdicts plan (e ∷ older) fh no_events (ap is_some (handler_gone e older g fh is own)) nothing_first
    closes_it g is false other = calm _ is (ap is_some (handler_left e older g fh is other) ∙ live) (refl, refl, refl, refl) (λ c. refl) refl (λ c. ap (λ (b : Bool). cond b None (subscribed older fh c)) other)

    subscribes : (g : FhId) (c0 : ℕ) (flags : SubFlags) → e.step ≡ steps.Subscribe g c0 flags → (b : Bool) → nat_eq g.0 fh.0 ≡ b
        → AreEvents verdicts plan (e ∷ older) fh (cond b (after_subscribe c0 flags (initial_changes (control plan c0).flags) (payload verdicts plan (e ∷ older) c0) f) f)
    subscribes g c0 flags is true own = subscribes_own verdicts plan e older fh g c0 flags f plans legal may is own live (still _ is refl) are
    subscribes g c0 flags is false other =
        simple _ is refl (refl, refl, refl, refl) (λ c. ap (λ (b : Bool). cond (b && nat_eq c0 c) (Some flags) None) other) refl
        (λ c. ap (λ (b : Bool). option_or (subscribed older fh c) (cond (b && nat_eq c0 c) (Some flags) None)) other)

    ends : (g : FhId) (d : Option ℕ) → e.step ≡ steps.Unsubscribe g d → (b : Bool) → nat_eq g.0 fh.0 ≡ b → AreEvents verdicts plan (e ∷ older) fh (cond b (unsubscribed_if_named d f) f)
    ends g d is true own = ends_own verdicts plan e older fh g d f legal may is own live (still _ is refl) are
    ends g d is false other =
        simple _ is refl (refl, refl, refl, refl) (λ c. refl) (ap (λ (b : Bool). cond b (withdrawn_if_named d (happened verdicts plan older fh)) (happened verdicts plan older fh)) other)
        (λ c. ap (λ (b : Bool). cond (b && is_control c d) None (option_or (subscribed older fh c) None)) other)

    takes : (g : FhId) (c0 : ℕ) → e.step ≡ steps.Take g c0 → (b : Bool) → nat_eq g.0 fh.0 ≡ b → AreEvents verdicts plan (e ∷ older) fh (cond b (after_take f) f)
    takes g c0 is true own = takes_own verdicts plan e older fh g c0 f legal may is own live (still _ is refl) are
    takes g c0 is false other = simple _ is refl (refl, refl, refl, refl) (λ c. refl) (ap (λ (b : Bool). cond b (withdrawn c0 ∷ happened verdicts plan older fh) (happened verdicts plan older fh)) other) (λ c. refl)

    by : (step : Step) → e.step ≡ step → AreEvents verdicts plan (e ∷ older) fh (events_by verdicts plan e older fh step f)
    by (steps.OpenFh handler) is = opens handler is
    by (steps.CloseFh g) is = closes_it g is (nat_eq g.0 fh.0) refl
    by (steps.Set g pairs) is = raises _ is refl (λ c. refl) refl (λ c. refl)
    by (steps.Grab c on) is = raises _ is refl (λ d. refl) refl (λ d. refl)
    by (steps.ModifyRange c low high apart default_value) is = raises _ is refl (λ d. refl) refl (λ d. refl)
    by (steps.Begin r) is = raises _ is refl (λ c. refl) refl (λ c. refl)
    by (steps.Subscribe g c0 flags) is = subscribes g c0 flags is (nat_eq g.0 fh.0) refl
    by (steps.Unsubscribe g d) is = ends g d is (nat_eq g.0 fh.0) refl
    by (steps.Take g c0) is = takes g c0 is (nat_eq g.0 fh.0) refl
    by _ is = simple _ is refl (refl, refl, refl, refl) (λ c. refl) refl (λ c. refl)

none_numbered : AreNumbered []
unfolding AreNumbered
none_numbered = tt

none_raised : length (raises_in []) ≡ 0
unfolding raises_in
none_raised = refl

-- a file handle that is opened
newly_opened : (verdicts : Verdicts) (plan : PlanData) (e : Entry Step) (older : Past) (fh : FhId) (handler : ℕ) (f : FileEvents) → IsLegal verdicts plan older → MayFollow verdicts plan older e.step → e.step ≡ steps.OpenFh handler → nat_eq fh.0 (length older) ≡ true
    → IsNothing f → AreEvents verdicts plan (e ∷ older) fh f
unfolding IsNothing
newly_opened verdicts plan e older fh handler f legal may is own none =
    let late : length older ≤ fh.0 = omega (arith, equal fh.0 (length older) own) in
    let shut : is_open older fh ≡ false = ap is_some (not_yet older fh late) in
    let empty : happened verdicts plan (e ∷ older) fh ≡ [] =
    happened_same verdicts plan e older fh (told_closed verdicts plan e older fh may shut) (gone_closed verdicts plan older fh e.step _ may shut) ∙ never_happened verdicts plan older fh legal late in
    kept_opened verdicts plan (e ∷ older) fh f (ap is_some (handler_new e older handler fh is own))
    (λ c. none.0 c ∙ sym (subscribed_more verdicts plan e older fh c legal may ∙ ap (λ (s : Step). subscribed_after s fh c (subscribed older fh c)) is ∙ or_none (subscribed older fh c) ∙ ap (λ (b : Bool). cond b (first_flags fh c (since_ended fh c older)) None) shut))
    (subst (λ (hs : List Happening). IsWhatHappened hs f) (sym empty) (record { numbered = none_numbered; waiting = none.1 ∙ sym pending_start; next = none.2 ∙ sym none_raised }))

-- What is kept of a file handle is what the history makes of it, also after one more entry.
pub events_more : (verdicts : Verdicts) (plan : PlanData) (e : Entry Step) (older : Past) (fh : FhId) (f : FileEvents) → IsPlan plan → IsLegal verdicts plan older → MayFollow verdicts plan older e.step
    → AreEvents verdicts plan older fh f → AreEvents verdicts plan (e ∷ older) fh (events_after verdicts plan e older fh f)
events_more verdicts plan e older fh f plans legal may are = by (is_open older fh) refl
  where
    still : (shut : is_open older fh ≡ false) → is_open (e ∷ older) fh ≡ false → AreEvents verdicts plan (e ∷ older) fh (events_after verdicts plan e older fh f)
    still shut stays = nothing_closed verdicts plan (e ∷ older) fh _ stays (closed_more verdicts plan e older fh f may shut (closed_nothing verdicts plan older fh f shut are))

    same : is_open older fh ≡ false → (step : Step) → e.step ≡ step → opened_after (length older) step (opened older) ≡ opened older → AreEvents verdicts plan (e ∷ older) fh (events_after verdicts plan e older fh f)
    same shut step is left = still shut (ap is_some (handler_more e older step fh is left) ∙ shut)

    opens : is_open older fh ≡ false → (handler : ℕ) → e.step ≡ steps.OpenFh handler → (b : Bool) → nat_eq fh.0 (length older) ≡ b → AreEvents verdicts plan (e ∷ older) fh (events_after verdicts plan e older fh f)
    opens shut handler is false other = still shut (ap is_some (handler_other e older handler fh is other) ∙ shut)
    opens shut handler is true own =
        subst (λ (s : Step). AreEvents verdicts plan (e ∷ older) fh (events_by verdicts plan e older fh s f)) (sym is)
        (newly_opened verdicts plan e older fh handler f legal may is own (closed_nothing verdicts plan older fh f shut are))

    closes_it : is_open older fh ≡ false → (g : FhId) → e.step ≡ steps.CloseFh g → (b : Bool) → nat_eq g.0 fh.0 ≡ b → AreEvents verdicts plan (e ∷ older) fh (events_after verdicts plan e older fh f)
    closes_it shut g is true own = still shut (ap is_some (handler_gone e older g fh is own))
    closes_it shut g is false other = still shut (ap is_some (handler_left e older g fh is other) ∙ shut)

    each : is_open older fh ≡ false → (step : Step) → e.step ≡ step → AreEvents verdicts plan (e ∷ older) fh (events_after verdicts plan e older fh f)
    each shut (steps.OpenFh handler) is = opens shut handler is (nat_eq fh.0 (length older)) refl
    each shut (steps.CloseFh g) is = closes_it shut g is (nat_eq g.0 fh.0) refl
    each shut _ is = same shut _ is refl

    by : (b : Bool) → is_open older fh ≡ b → AreEvents verdicts plan (e ∷ older) fh (events_after verdicts plan e older fh f)
    by true live = opened_more_events verdicts plan e older fh f plans legal may live are
    by false shut = each shut e.step refl

-- the same of a history
pub events_add : (verdicts : Verdicts) (plan : PlanData) (entries : History) (e : Entry Step) (fh : FhId) (f : FileEvents) → IsPlan plan → IsLegal verdicts plan (past entries) → MayFollow verdicts plan (past entries) e.step
    → AreEvents verdicts plan (past entries) fh f → AreEvents verdicts plan (past (entries ++ e ∷ [])) fh (events_after verdicts plan e (past entries) fh f)
events_add verdicts plan entries e fh f plans legal may are =
    subst (λ (p : Past). AreEvents verdicts plan p fh (events_after verdicts plan e (past entries) fh f)) (sym (past_add entries e)) (events_more verdicts plan e (past entries) fh f plans legal may are)

pub events_start : (verdicts : Verdicts) (plan : PlanData) (fh : FhId) → AreEvents verdicts plan (past []) fh no_events
unfolding opened ever_opened
events_start verdicts plan fh = record { subscribed = λ c. refl; waiting = refl; next = refl }
