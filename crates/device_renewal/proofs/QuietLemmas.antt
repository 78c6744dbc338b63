-- Where what each step made is there no longer, nobody is subscribed, and no request is there.
use Rattle.std.proofs.Common.{◌≡◌, ◌∙◌, ℕ, Bool, true, false, ◌&&◌, cond, inl, inr, ◌⊎◌, [], ◌∷◌, length, take, filter_map, Option, None, Some, nat_eq, refl, sym, ap, subst, arith, ◌<◌, ◌+◌, get_or}
use Rattle.std.specs.Option.{option_or}
use Rattle.std.proofs.lemmas.List.{length-take-le, take_more}
use Rattle.std.proofs.Math.Seq.{take-length}
use Rattle.std.proofs.lemmas.List.Elements.{filter_map-append}
use Rattle.history.specs.declared.entry.Entry.{Entry}
use Rattle.history.specs.Past.{past}
use Rattle.history.proofs.Pasts.{length_past, past_add}
use Rattle.ctrl_types.specs.declared.ids.FhId.{FhId}
use Rattle.ctrl_types.specs.declared.sub_flags.SubFlags.{SubFlags}
use Rattle.ctrl_calls.specs.Meanings.{Verdicts}
use Rattle.ctrl_handlers.specs.Plan.{PlanData}
use Rattle.device_history.specs.declared.ask.Step.{Step}
use Rattle.device_history.specs.declared.ask.Step.TheVariants as steps
use Rattle.device_history.specs.Requests.{ever_made, made}
use Rattle.device_history.specs.Snapshots.{request}
use Rattle.device_history.specs.Steps.{History, Past}
use Rattle.device_history.specs.Subscriptions.{first_flags, is_ended_by, since_ended, subscribed, subscribed_by}
use Rattle.device_history.proofs.SubscriptionLemmas.{equal}
use Rattle.device_renewal.specs.Quiet.{IsGone}

-- what each of these steps made, with which a history begins, is there no longer
unfoldable pub AllGone : Verdicts → PlanData → Past → Past → Type 0
AllGone verdicts plan all [] = Unit {0}
AllGone verdicts plan all (e ∷ older) = IsGone verdicts plan all (length older) e.step × AllGone verdicts plan all older

-- at the start nothing was made
pub none_gone : (verdicts : Verdicts) (plan : PlanData) (all : Past) (steps : History) → AllGone verdicts plan all (past (take 0 steps))
unfolding AllGone
none_gone verdicts plan all steps = tt

-- one more step
pub one_gone : (verdicts : Verdicts) (plan : PlanData) (all : Past) (steps : History) (number : ℕ) (e : Entry Step) → number < length steps → get_or steps number e ≡ e
    → AllGone verdicts plan all (past (take number steps)) → IsGone verdicts plan all number e.step → AllGone verdicts plan all (past (take (number + 1) steps))
unfolding AllGone
one_gone verdicts plan all steps number e within is gone own =
    let grown : past (take (number + 1) steps) ≡ e ∷ past (take number steps) =
    ap (λ (xs : History). past xs) (take_more steps number e within) ∙ past_add (take number steps) (get_or steps number e) ∙ ap (λ (x : Entry Step). x ∷ past (take number steps)) is in
    let count : length (past (take number steps)) ≡ number = length_past (take number steps) ∙ length-take-le number steps (omega (arith, within)) in
    subst (λ (p : Past). AllGone verdicts plan all p) (sym grown) (subst (λ (n : ℕ). IsGone verdicts plan all n e.step) (sym count) own, gone)

-- all steps are taken at the end
pub all_gone : (verdicts : Verdicts) (plan : PlanData) (all : Past) (steps : History) (number : ℕ) → number ≡ length steps → AllGone verdicts plan all (past (take number steps)) → AllGone verdicts plan all (past steps)
all_gone verdicts plan all steps number end gone = subst (λ (xs : History). AllGone verdicts plan all (past xs)) (ap (λ (n : ℕ). take n steps) end ∙ take-length steps) gone

-- a step that is gone subscribes a file handle to a control only where it isn't subscribed
not_subscribing : (verdicts : Verdicts) (plan : PlanData) (all : Past) (n : ℕ) (fh : FhId) (c : ℕ) (step : Step) → IsGone verdicts plan all n step → (subscribed_by fh c step ≡ None) ⊎ (subscribed all fh c ≡ None)
not_subscribing verdicts plan all n fh c (steps.Subscribe f d flags) gone = by (nat_eq f.0 fh.0) (nat_eq d c) refl refl
  where
    by : (b t : Bool) → nat_eq f.0 fh.0 ≡ b → nat_eq d c ≡ t → (cond (b && t) (Some flags) None ≡ None) ⊎ (subscribed all fh c ≡ None)
    by true true own same =
        let handle : f.0 ≡ fh.0 = equal f.0 fh.0 own in
        let control : d ≡ c = equal d c same in
        inr (subst (λ (n : ℕ). subscribed all (record { 0 = n }) c ≡ None) handle (subst (λ (n : ℕ). subscribed all f n ≡ None) control gone))
    by true false own same = inl refl
    by false t own same = inl refl
not_subscribing verdicts plan all n fh c step gone = inl refl

-- where all are gone no flags are found, or there is no subscription
no_flags : (verdicts : Verdicts) (plan : PlanData) (all p : Past) (fh : FhId) (c : ℕ) → AllGone verdicts plan all p → (first_flags fh c (since_ended fh c p) ≡ None) ⊎ (subscribed all fh c ≡ None)
unfolding AllGone first_flags since_ended
no_flags verdicts plan all [] fh c gone = inl refl
no_flags verdicts plan all (e ∷ older) fh c gone = by (is_ended_by fh c e.step) (no_flags verdicts plan all older fh c gone.1)
  where
    with_own : first_flags fh c (since_ended fh c older) ≡ None → (subscribed_by fh c e.step ≡ None) ⊎ (subscribed all fh c ≡ None)
        → (option_or (first_flags fh c (since_ended fh c older)) (subscribed_by fh c e.step) ≡ None) ⊎ (subscribed all fh c ≡ None)
    with_own none (inl own) = inl (rw none own)
    with_own none (inr none_at_all) = inr none_at_all

    by : (b : Bool) → (first_flags fh c (since_ended fh c older) ≡ None) ⊎ (subscribed all fh c ≡ None) → (first_flags fh c (cond b [] (e ∷ since_ended fh c older)) ≡ None) ⊎ (subscribed all fh c ≡ None)
    by true before = inl refl
    by false (inl none) = with_own none (not_subscribing verdicts plan all (length older) fh c e.step gone.0)
    by false (inr none) = inr none

-- nobody is subscribed
pub unheard : (verdicts : Verdicts) (plan : PlanData) (all : Past) (fh : FhId) (c : ℕ) → AllGone verdicts plan all all → subscribed all fh c ≡ None
unheard verdicts plan all fh c gone = by (no_flags verdicts plan all all fh c gone)
  where
    where_open : (b : Bool) (flags : Option SubFlags) → flags ≡ None → cond b flags None ≡ None
    where_open true flags none = none
    where_open false flags none = refl

    by : (first_flags fh c (since_ended fh c all) ≡ None) ⊎ (subscribed all fh c ≡ None) → subscribed all fh c ≡ None
    by (inl none) = where_open _ _ none
    by (inr none) = none

-- a step that is gone made no request that is there
not_making : (verdicts : Verdicts) (plan : PlanData) (all : Past) (n : ℕ) (step : Step) → IsGone verdicts plan all n step → filter_map (request verdicts plan all) (made n step) ≡ []
not_making verdicts plan all n steps.Alloc gone = rw gone refl
not_making verdicts plan all n step gone = refl

-- no request is there
pub no_requests : (verdicts : Verdicts) (plan : PlanData) (all p : Past) → AllGone verdicts plan all p → filter_map (request verdicts plan all) (ever_made p) ≡ []
unfolding AllGone ever_made
no_requests verdicts plan all [] gone = refl
no_requests verdicts plan all (e ∷ older) gone =
    filter_map-append (request verdicts plan all) (ever_made older) (made (length older) e.step)
    ∙ rw (no_requests verdicts plan all older gone.1) (not_making verdicts plan all (length older) e.step gone.0)
