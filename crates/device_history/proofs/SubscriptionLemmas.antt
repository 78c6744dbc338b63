-- Which file handles are open, and the subscriptions, after one more entry.
use Rattle.std.proofs.Common.{arith, ◌≡◌, ◌∙◌, ◌≤◌, ℕ, Bool, true, false, not, ◌&&◌, cond, List, [], ◌∷◌, ◌++◌, filter, length, Option, None, Some, is_some, Result, Err, nat_eq, eq-eqb, refl, ap, sym, subst}
use Rattle.std.proofs.lemmas.Bool.Decides.{nat_tests}
use Rattle.std.specs.Map.{lookup}
use Rattle.std.specs.Option.{option_or}
use Rattle.std.specs.Result.{result_err}
use Rattle.history.specs.declared.entry.Entry.{Entry}
use Rattle.history.specs.Past.{past}
use Rattle.history.proofs.Pasts.{past_add}
use Rattle.ctrl_types.specs.declared.check.Check.{Check}
use Rattle.ctrl_types.specs.declared.check.Check.TheVariants.{HandleNotOpen}
use Rattle.ctrl_types.specs.declared.ids.FhId.{FhId}
use Rattle.ctrl_types.specs.declared.sub_flags.SubFlags.{SubFlags}
use Rattle.ctrl_calls.specs.Meanings.{Verdicts}
use Rattle.ctrl_events.specs.declared.event.Event.{Event}
use Rattle.ctrl_handlers.specs.Plan.{PlanData}
use Rattle.device_history.specs.declared.ask.Reply.{Reply}
use Rattle.device_history.specs.declared.ask.Reply.TheVariants as replies
use Rattle.device_history.specs.declared.ask.Step.{Step}
use Rattle.device_history.specs.declared.ask.Step.TheVariants as steps
use Rattle.device_history.specs.Steps.{History, Past}
use Rattle.device_history.specs.Refusals.{fault_of, stepped, stepped_with}
use Rattle.device_history.specs.Handles.{ever_opened, handler_of, opened, opened_after, through}
use Rattle.device_history.specs.Legal.{IsLegal, MayFollow}
use Rattle.device_history.specs.Subscriptions.{first_flags, is_ended_by, since_ended, subscribed, subscribed_after, subscribed_by}
use Rattle.device_history.proofs.AskingLemmas.{may_decided}
use Rattle.device_history.proofs.PastLemmas.{absent, dropped, opened_below, opened_fresh, opened_more}

pub equal : (m n : ℕ) → nat_eq m n ≡ true → m ≡ n
equal m n h = grind (arith, nat_tests, h)

-- an open file handle
abbrev pub is_open : Past → FhId → Bool
is_open past fh = is_some (handler_of past fh)

-- what another key finds isn't changed by what is dropped
pub other_dropped : (g k : ℕ) (os : List (ℕ × ℕ)) → nat_eq g k ≡ false → lookup (nat_eq k) (filter (λ h. not (nat_eq g h.0)) os) ≡ lookup (nat_eq k) os
other_dropped g k [] apart = refl
other_dropped g k (o ∷ os) apart = by (nat_eq g o.0) (nat_eq k o.0) refl refl (other_dropped g k os apart)
  where
    by : (b t : Bool) → nat_eq g o.0 ≡ b → nat_eq k o.0 ≡ t → lookup (nat_eq k) (filter (λ h. not (nat_eq g h.0)) os) ≡ lookup (nat_eq k) os
        → lookup (nat_eq k) (cond (not b) (o ∷ filter (λ h. not (nat_eq g h.0)) os) (filter (λ h. not (nat_eq g h.0)) os)) ≡ cond t (Some o.1) (lookup (nat_eq k) os)
    by true true is own rest =
        let same : g ≡ k = grind (arith, nat_tests, is, own) in
        let clash : nat_eq g k ≡ true = rw same (eq-eqb k k refl) in
        cc
    by true false is own rest = rest
    by false true is own rest = rw own refl
    by false false is own rest = rw own rest

-- nor by what is added
pub other_added : (n handler k : ℕ) (os : List (ℕ × ℕ)) → nat_eq k n ≡ false → lookup (nat_eq k) (os ++ (n, handler) ∷ []) ≡ lookup (nat_eq k) os
other_added n handler k [] apart = rw apart refl
other_added n handler k (o ∷ os) apart = ap (λ (rest : Option ℕ). cond (nat_eq k o.0) (Some o.1) rest) (other_added n handler k os apart)

-- what was added is found where nothing was
pub own_added : (n handler : ℕ) (os : List (ℕ × ℕ)) → lookup (nat_eq n) os ≡ None → lookup (nat_eq n) (os ++ (n, handler) ∷ []) ≡ Some handler
own_added n handler [] none = rw (eq-eqb n n refl) refl
own_added n handler (o ∷ os) none = by (nat_eq n o.0) none (own_added n handler os)
  where
    by : (b : Bool) → cond b (Some o.1) (lookup (nat_eq n) os) ≡ None → (lookup (nat_eq n) os ≡ None → lookup (nat_eq n) (os ++ (n, handler) ∷ []) ≡ Some handler)
        → cond b (Some o.1) (lookup (nat_eq n) (os ++ (n, handler) ∷ [])) ≡ Some handler
    by true h rest = cc
    by false h rest = rest h

-- a file handle with a later number isn't open
pub not_yet : (past : Past) (fh : FhId) → length past ≤ fh.0 → handler_of past fh ≡ None
not_yet past fh late = absent (length past) fh.0 (opened past) late (opened_below past)

-- what nothing refuses came through an open file handle
stepped_open : (o : Option Check) (past : Past) (fh : FhId) (reply : Reply) → fault_of (stepped (through past fh o) past reply) ≡ None → is_open past fh ≡ true
stepped_open o past fh reply h = by (is_open past fh) h
  where
    by : (b : Bool) → fault_of (stepped (cond b o (Some HandleNotOpen)) past reply) ≡ None → b ≡ true
    by true k = refl
    by false k = cc

-- what found a control did
shown_open : (b : Bool) (found : Result ℕ Check) (past : Past) (reply : Reply) → fault_of (stepped (result_err (cond b found (Err HandleNotOpen))) past reply) ≡ None → b ≡ true
shown_open true found past reply h = refl
shown_open false found past reply h = cc

-- and what found an event
event_open : (b : Bool) (found : Result Event Check) (past : Past) → fault_of (stepped_with (λ event. replies.Event event) (cond b found (Err HandleNotOpen)) past) ≡ None → b ≡ true
event_open true found past h = refl
event_open false found past h = cc

pub subscribes_open : (verdicts : Verdicts) (plan : PlanData) (older : Past) (fh : FhId) (c : ℕ) (flags : SubFlags) → MayFollow verdicts plan older (steps.Subscribe fh c flags) → is_open older fh ≡ true
subscribes_open verdicts plan older fh c flags may = shown_open (is_open older fh) _ older _ (may_decided verdicts plan older (steps.Subscribe fh c flags) may).0

pub unsubscribes_open : (verdicts : Verdicts) (plan : PlanData) (older : Past) (fh : FhId) (c : Option ℕ) → MayFollow verdicts plan older (steps.Unsubscribe fh c) → is_open older fh ≡ true
unsubscribes_open verdicts plan older fh c may = stepped_open _ older fh _ (may_decided verdicts plan older (steps.Unsubscribe fh c) may).0

pub takes_open : (verdicts : Verdicts) (plan : PlanData) (older : Past) (fh : FhId) (c : ℕ) → MayFollow verdicts plan older (steps.Take fh c) → is_open older fh ≡ true
takes_open verdicts plan older fh c may = event_open (is_open older fh) _ older (may_decided verdicts plan older (steps.Take fh c) may).0

-- what may follow doesn't subscribe a file handle that isn't open
pub closed_by_none : (verdicts : Verdicts) (plan : PlanData) (older : Past) (fh : FhId) (c : ℕ) (step : Step) → MayFollow verdicts plan older step → is_open older fh ≡ false → subscribed_by fh c step ≡ None
closed_by_none verdicts plan older fh c (steps.Subscribe f d flags) may shut = by (nat_eq f.0 fh.0) refl
  where
    by : (b : Bool) → nat_eq f.0 fh.0 ≡ b → cond (b && nat_eq d c) (Some flags) None ≡ None
    by true is =
        let same : f ≡ fh = ap {B = FhId} (λ (n : ℕ). record { 0 = n }) (equal f.0 fh.0 is) in
        let clash : is_open older fh ≡ true = subst (λ (g : FhId). is_open older g ≡ true) same (subscribes_open verdicts plan older f d flags may) in
        cc
    by false is = refl
closed_by_none verdicts plan older fh c _ may shut = refl

-- nothing subscribed a file handle that isn't open yet
pub never_subscribed : (verdicts : Verdicts) (plan : PlanData) (past : Past) (fh : FhId) (c : ℕ) → IsLegal verdicts plan past → length past ≤ fh.0 → first_flags fh c (since_ended fh c past) ≡ None
unfolding IsLegal first_flags since_ended
never_subscribed verdicts plan [] fh c legal late = refl
never_subscribed verdicts plan (e ∷ older) fh c legal late =
    let early : length older ≤ fh.0 = omega (arith, late) in
    by (is_ended_by fh c e.step) (never_subscribed verdicts plan older fh c legal.0 early) (closed_by_none verdicts plan older fh c e.step legal.1 (ap is_some (not_yet older fh early)))
  where
    by : (b : Bool) → first_flags fh c (since_ended fh c older) ≡ None → subscribed_by fh c e.step ≡ None → first_flags fh c (cond b [] (e ∷ since_ended fh c older)) ≡ None
    by true before own = refl
    by false before own = rw before own

-- the subscription of a file handle, open or not, after one more entry
since_more : (e : Entry Step) (older : Past) (fh : FhId) (c : ℕ)
    → first_flags fh c (since_ended fh c (e ∷ older)) ≡ cond (is_ended_by fh c e.step) None (option_or (first_flags fh c (since_ended fh c older)) (subscribed_by fh c e.step))
unfolding first_flags since_ended
since_more e older fh c = by (is_ended_by fh c e.step)
  where
    by : (b : Bool) → first_flags fh c (cond b [] (e ∷ since_ended fh c older)) ≡ cond b None (option_or (first_flags fh c (since_ended fh c older)) (subscribed_by fh c e.step))
    by true = refl
    by false = refl

-- the subscription of a file handle that stays open, or stays closed
subscribed_still : (verdicts : Verdicts) (plan : PlanData) (e : Entry Step) (older : Past) (fh : FhId) (c : ℕ) → MayFollow verdicts plan older e.step → handler_of (e ∷ older) fh ≡ handler_of older fh
    → subscribed (e ∷ older) fh c ≡ cond (is_ended_by fh c e.step) None (option_or (subscribed older fh c) (subscribed_by fh c e.step))
subscribed_still verdicts plan e older fh c may same =
    ap (λ (h : Option ℕ). cond (is_some h) (first_flags fh c (since_ended fh c (e ∷ older))) None) same
    ∙ ap (λ (o : Option SubFlags). cond (is_open older fh) o None) (since_more e older fh c)
    ∙ by (is_open older fh) refl (is_ended_by fh c e.step)
  where
    by : (open_now : Bool) → is_open older fh ≡ open_now → (b : Bool)
        → cond open_now (cond b None (option_or (first_flags fh c (since_ended fh c older)) (subscribed_by fh c e.step))) None
        ≡ cond b None (option_or (cond open_now (first_flags fh c (since_ended fh c older)) None) (subscribed_by fh c e.step))
    by true is b = refl
    by false is true = refl
    by false is false = sym (closed_by_none verdicts plan older fh c e.step may is)

-- the handler of a file handle after one more entry, where its step opens and closes none
pub handler_more : (e : Entry Step) (older : Past) (step : Step) (fh : FhId) → e.step ≡ step → opened_after (length older) step (opened older) ≡ opened older → handler_of (e ∷ older) fh ≡ handler_of older fh
handler_more e older step fh is same = ap (lookup (nat_eq fh.0)) (opened_more e older ∙ ap (λ (s : Step). opened_after (length older) s (opened older)) is ∙ same)

-- the same, where it opens another
pub handler_other : (e : Entry Step) (older : Past) (handler : ℕ) (fh : FhId) → e.step ≡ steps.OpenFh handler → nat_eq fh.0 (length older) ≡ false → handler_of (e ∷ older) fh ≡ handler_of older fh
handler_other e older handler fh is apart =
    ap (lookup (nat_eq fh.0)) (opened_more e older ∙ ap (λ (s : Step). opened_after (length older) s (opened older)) is) ∙ other_added (length older) handler fh.0 (opened older) apart

-- or closes another
pub handler_left : (e : Entry Step) (older : Past) (f fh : FhId) → e.step ≡ steps.CloseFh f → nat_eq f.0 fh.0 ≡ false → handler_of (e ∷ older) fh ≡ handler_of older fh
handler_left e older f fh is apart =
    ap (lookup (nat_eq fh.0)) (opened_more e older ∙ ap (λ (s : Step). opened_after (length older) s (opened older)) is) ∙ other_dropped f.0 fh.0 (opened older) apart

-- or opens it
pub handler_new : (e : Entry Step) (older : Past) (handler : ℕ) (fh : FhId) → e.step ≡ steps.OpenFh handler → nat_eq fh.0 (length older) ≡ true → handler_of (e ∷ older) fh ≡ Some handler
handler_new e older handler fh is same =
    ap (lookup (nat_eq fh.0)) (opened_more e older ∙ ap (λ (s : Step). opened_after (length older) s (opened older)) is)
    ∙ ap (λ (n : ℕ). lookup (nat_eq n) (opened older ++ (length older, handler) ∷ [])) (equal fh.0 (length older) same) ∙ own_added (length older) handler (opened older) (opened_fresh older)

-- or closes it
pub handler_gone : (e : Entry Step) (older : Past) (f fh : FhId) → e.step ≡ steps.CloseFh f → nat_eq f.0 fh.0 ≡ true → handler_of (e ∷ older) fh ≡ None
handler_gone e older f fh is same =
    ap (lookup (nat_eq fh.0)) (opened_more e older ∙ ap (λ (s : Step). opened_after (length older) s (opened older)) is)
    ∙ ap (λ (n : ℕ). lookup (nat_eq n) (filter (λ h. not (nat_eq f.0 h.0)) (opened older))) (sym (equal f.0 fh.0 same)) ∙ dropped f.0 (opened older)

or_none : (o : Option SubFlags) → option_or o None ≡ o
or_none None = refl
or_none (Some flags) = refl

-- a subscription after one more entry
pub subscribed_more : (verdicts : Verdicts) (plan : PlanData) (e : Entry Step) (older : Past) (fh : FhId) (c : ℕ) → IsLegal verdicts plan older → MayFollow verdicts plan older e.step
    → subscribed (e ∷ older) fh c ≡ subscribed_after e.step fh c (subscribed older fh c)
subscribed_more verdicts plan e older fh c legal may = by e.step refl
  where
    still : (step : Step) → e.step ≡ step → handler_of (e ∷ older) fh ≡ handler_of older fh → subscribed (e ∷ older) fh c ≡ cond (is_ended_by fh c step) None (option_or (subscribed older fh c) (subscribed_by fh c step))
    still step is same =
        subscribed_still verdicts plan e older fh c may same ∙ ap (λ (s : Step). cond (is_ended_by fh c s) None (option_or (subscribed older fh c) (subscribed_by fh c s))) is

    stays : (step : Step) → e.step ≡ step → opened_after (length older) step (opened older) ≡ opened older → subscribed (e ∷ older) fh c ≡ cond (is_ended_by fh c step) None (option_or (subscribed older fh c) (subscribed_by fh c step))
    stays step is same = still step is (handler_more e older step fh is same)

    opens : (handler : ℕ) (b : Bool) → e.step ≡ steps.OpenFh handler → nat_eq fh.0 (length older) ≡ b → subscribed (e ∷ older) fh c ≡ option_or (subscribed older fh c) None
    opens handler false is apart = still (steps.OpenFh handler) is (handler_other e older handler fh is apart)
    opens handler true is own =
        let late : length older ≤ fh.0 = omega (arith, equal fh.0 (length older) own) in
        ap (λ (h : Option ℕ). cond (is_some h) (first_flags fh c (since_ended fh c (e ∷ older))) None) (handler_new e older handler fh is own)
        ∙ since_more e older fh c ∙ ap (λ (s : Step). cond (is_ended_by fh c s) None (option_or (first_flags fh c (since_ended fh c older)) (subscribed_by fh c s))) is
        ∙ ap (λ (o : Option SubFlags). option_or o None) (never_subscribed verdicts plan older fh c legal late)
        ∙ sym (ap (λ (h : Option ℕ). option_or (cond (is_some h) (first_flags fh c (since_ended fh c older)) None) None) (not_yet older fh late))

    closes_it : (f : FhId) (b : Bool) → e.step ≡ steps.CloseFh f → nat_eq f.0 fh.0 ≡ b → subscribed (e ∷ older) fh c ≡ cond b None (subscribed older fh c)
    closes_it f true is own = ap (λ (h : Option ℕ). cond (is_some h) (first_flags fh c (since_ended fh c (e ∷ older))) None) (handler_gone e older f fh is own)
    closes_it f false is apart = still (steps.CloseFh f) is (handler_left e older f fh is apart) ∙ or_none (subscribed older fh c)

    by : (step : Step) → e.step ≡ step → subscribed (e ∷ older) fh c ≡ subscribed_after step fh c (subscribed older fh c)
    by (steps.OpenFh handler) is = opens handler (nat_eq fh.0 (length older)) is refl
    by (steps.CloseFh f) is = closes_it f (nat_eq f.0 fh.0) is refl
    by _ is = stays _ is refl

pub subscribed_start : (fh : FhId) (c : ℕ) → subscribed (past []) fh c ≡ None
unfolding opened ever_opened
subscribed_start fh c = refl

pub subscribed_add : (verdicts : Verdicts) (plan : PlanData) (entries : History) (e : Entry Step) (fh : FhId) (c : ℕ) → IsLegal verdicts plan (past entries) → MayFollow verdicts plan (past entries) e.step
    → subscribed (past (entries ++ e ∷ [])) fh c ≡ subscribed_after e.step fh c (subscribed (past entries) fh c)
subscribed_add verdicts plan entries e fh c legal may = rw (past_add entries e) (subscribed_more verdicts plan e (past entries) fh c legal may)
