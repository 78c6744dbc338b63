-- The raises of a step that a file handle hears of, picked control by control.
use Rattle.std.proofs.Common.{arith, ◌≡◌, ◌∙◌, ◌<◌, ◌≤◌, ◌+◌, ℕ, zero, suc, Bool, true, false, not, ◌||◌, cond, List, [], ◌∷◌, filter_map, length, Option, None, Some, nat_eq, eq-eqb, refl, ap, sym, subst, true≢false, if◌then◌else◌}
use Rattle.std.proofs.lemmas.Bool.Decides.{nat_tests}
use Rattle.std.specs.List.{cons_option, range_with_len}
use Rattle.std.specs.Option.{option_map}
use Rattle.history.specs.declared.entry.Entry.{Entry}
use Rattle.ctrl_types.specs.Events.{is_nothing}
use Rattle.ctrl_types.specs.declared.changes.Changes.{Changes}
use Rattle.ctrl_types.specs.declared.ids.FhId.{FhId}
use Rattle.ctrl_types.specs.declared.sub_flags.SubFlags.{SubFlags}
use Rattle.ctrl_calls.specs.Meanings.{Verdicts}
use Rattle.ctrl_events.specs.declared.event.Payload.{Payload}
use Rattle.ctrl_events.specs.Events.{FileEvents, flags_in, is_from, raised, reaches}
use Rattle.ctrl_events.specs.Pending.{IsWhatHappened, Happening, raise, raises as raises_in}
use Rattle.ctrl_events.proofs.PendingLemmas.{kept_raised}
use Rattle.ctrl_handlers.specs.Plan.{PlanData, control}
use Rattle.device_history.specs.declared.ask.Step.{Step}
use Rattle.device_history.specs.Steps.{Past}
use Rattle.device_history.specs.Subscriptions.{subscribed}
use Rattle.device_history.specs.Events.{changed, heard, hears, payload, with_raises, from_of}
use Rattle.device_history.specs.EventSteps.{raised_by}
use Rattle.ctrl_raises.specs.Raises.{raised_all}

-- whether a subscriber hears of a change is whether its raise reaches it
hears_reaches : (fh : FhId) (flags : SubFlags) (step : Step) (change : Changes) (c : ℕ) → hears fh flags step change c ≡ reaches (is_from (from_of step change c) fh.0) (Some flags)
hears_reaches fh flags step change c = refl

-- nothing is picked where nothing passes
pub none_picked : {Y : Type 0} (g : ℕ → Option Y) (cs : List ℕ) → ((c : ℕ) → g c ≡ None) → filter_map g cs ≡ []
none_picked g [] none = refl
none_picked g (c ∷ cs) none = rw (none c, none_picked g cs none) refl

-- choices that agree pick the same
pub same_picked : {Y : Type 0} (g h : ℕ → Option Y) (cs : List ℕ) → ((c : ℕ) → g c ≡ h c) → filter_map g cs ≡ filter_map h cs
same_picked g h [] same = refl
same_picked g h (c ∷ cs) same = rw (same c, same_picked g h cs same) refl

-- a choice of one control alone
unfoldable pub pick : ℕ → Option Changes → ℕ → Option (ℕ × Changes)
pick c0 v c = option_map (λ change. (c, change)) (cond (nat_eq c0 c) v None)

picks_none : (c0 : ℕ) (v : Option Changes) (a n : ℕ) → c0 < a → filter_map (pick c0 v) (range_with_len a n) ≡ []
unfolding pick
picks_none c0 v a zero less = refl
picks_none c0 v a (suc n) less =
    let other : nat_eq c0 a ≡ false = grind (arith, nat_tests, less) in
    rw (other, picks_none c0 v (a + 1) n (omega (arith, less))) refl

pub picks_one : (c0 : ℕ) (v : Option Changes) (a n : ℕ) → a ≤ c0 → c0 < a + n → filter_map (pick c0 v) (range_with_len a n) ≡ cons_option (option_map (λ change. (c0, change)) v) []
unfolding pick
picks_one c0 v a zero low high = absurd (omega (arith, low, high))
picks_one c0 v a (suc n) low high = by (nat_eq c0 a) refl (λ below. picks_one c0 v (a + 1) n below (omega (arith, high)))
  where
    by : (b : Bool) → nat_eq c0 a ≡ b → (a + 1 ≤ c0 → filter_map (pick c0 v) (range_with_len (a + 1) n) ≡ cons_option (option_map (λ change. (c0, change)) v) []) → filter_map (pick c0 v) (a ∷ range_with_len (a + 1) n) ≡ cons_option (option_map (λ change. (c0, change)) v) []
    by true is more =
        let same : c0 ≡ a = grind (arith, nat_tests, is) in
        ap (λ (b : Bool). cons_option (option_map (λ change. (a, change)) (cond b v None)) (filter_map (pick c0 v) (range_with_len (a + 1) n))) is
        ∙ ap (λ (rest : List (ℕ × Changes)). cons_option (option_map (λ change. (a, change)) v) rest) (picks_none c0 v (a + 1) n (omega (arith, same)))
        ∙ sym (ap (λ (k : ℕ). cons_option (option_map (λ change. (k, change)) v) []) same)
    by false is more =
        let apart : c0 ≡ a → ⊥ = λ same. true≢false (sym (eq-eqb c0 a same) ∙ is) in
        let above : a + 1 ≤ c0 = grind (arith, low, apart) in
        rw is (more above)

-- raises of some controls, one after another
pub raises_kept : (verdicts : Verdicts) (plan : PlanData) (e : Entry Step) (older : Past) (fh : FhId) (cs : List ℕ) (f : FileEvents) (hs : List Happening) → IsWhatHappened hs f → ((c : ℕ) → flags_in f.subscribed c ≡ subscribed older fh c)
    → IsWhatHappened (with_raises (payload verdicts plan (e ∷ older)) (filter_map (λ c. option_map (λ change. (c, change)) (heard fh (subscribed older fh c) e.step (changed verdicts plan e older c) c)) cs) hs) (raised_by verdicts plan e older fh cs f)
    × ((c : ℕ) → flags_in (raised_by verdicts plan e older fh cs f).subscribed c ≡ subscribed older fh c)
unfolding with_raises raised_all
raises_kept verdicts plan e older fh [] f hs kept subs = (kept, subs)
raises_kept verdicts plan e older fh (c ∷ cs) f hs kept subs = by (raises_kept verdicts plan e older fh cs) (subscribed older fh c) refl (is_nothing change) refl
  where
    change : Changes
    change = changed verdicts plan e older c

    told : ℕ → Payload
    told = payload verdicts plan (e ∷ older)

    rest : List (ℕ × Changes)
    rest = filter_map (λ d. option_map (λ x. (d, x)) (heard fh (subscribed older fh d) e.step (changed verdicts plan e older d) d)) cs

    from : Option ℕ
    from = from_of e.step change c

    Kept : List (ℕ × Changes) → List Happening → FileEvents → Type 0
    Kept rs all own = IsWhatHappened (with_raises told rs all) (raised_by verdicts plan e older fh cs own) × ((d : ℕ) → flags_in (raised_by verdicts plan e older fh cs own).subscribed d ≡ subscribed older fh d)

    More : Type 0
    More = (g : FileEvents) (all : List Happening) → IsWhatHappened all g → ((d : ℕ) → flags_in g.subscribed d ≡ subscribed older fh d) → Kept rest all g

    stays : More → (own : FileEvents) → own ≡ f → Kept rest hs own
    stays more own same = subst (λ (g : FileEvents). Kept rest hs g) (sym same) (more f hs kept subs)

    unheard : flags_in f.subscribed c ≡ None → (if reaches (is_from from fh.0) (flags_in f.subscribed c) then raised c change (told c) f else f) ≡ f
    unheard none = ap (λ (o : Option SubFlags). cond (reaches (is_from from fh.0) o) (raised c change (told c) f) f) none

    goes : More → (flags : SubFlags) → flags_in f.subscribed c ≡ Some flags → (r : Bool) → reaches (is_from from fh.0) (Some flags) ≡ r
        → Kept (cons_option (option_map (λ x. (c, x)) (cond (not r) None (Some change))) rest) hs (if reaches (is_from from fh.0) (flags_in f.subscribed c) then raised c change (told c) f else f)
    goes more flags own false off = stays more _ (ap (λ (o : Option SubFlags). cond (reaches (is_from from fh.0) o) (raised c change (told c) f) f) own ∙ ap (λ (b : Bool). cond b (raised c change (told c) f) f) off)
    goes more flags own true on =
        subst (λ (g : FileEvents). Kept ((c, change) ∷ rest) hs g)
        (sym (ap (λ (o : Option SubFlags). cond (reaches (is_from from fh.0) o) (raised c change (told c) f) f) own ∙ ap (λ (b : Bool). cond b (raised c change (told c) f) f) on))
        (more (raised c change (told c) f) (raise (record { control = c; changes = change; payload = told c; sequence = length (raises_in hs) }) ∷ hs)
        (subst (λ (n : ℕ). IsWhatHappened (raise (record { control = c; changes = change; payload = told c; sequence = n }) ∷ hs) (raised c change (told c) f)) kept.next (kept_raised hs f c change (told c) kept))
        subs)

    by : More → (o : Option SubFlags) → subscribed older fh c ≡ o → (n : Bool) → is_nothing change ≡ n
        → Kept (cons_option (option_map (λ x. (c, x)) (heard fh o e.step change c)) rest) hs (cond n f (if reaches (is_from from fh.0) (flags_in f.subscribed c) then raised c change (told c) f else f))
    by more None is true nothing = stays more f refl
    by more None is false some = stays more _ (unheard (subs c ∙ is))
    by more (Some flags) is true nothing = subst (λ (b : Bool). Kept (cons_option (option_map (λ x. (c, x)) (cond (b || not (hears fh flags e.step change c)) None (Some change))) rest) hs f) (sym nothing) (stays more f refl)
    by more (Some flags) is false some =
        subst (λ (b : Bool). Kept (cons_option (option_map (λ x. (c, x)) (cond (b || not (hears fh flags e.step change c)) None (Some change))) rest) hs (if reaches (is_from from fh.0) (flags_in f.subscribed c) then raised c change (told c) f else f)) (sym some)
        (subst (λ (b : Bool). Kept (cons_option (option_map (λ x. (c, x)) (cond (not b) None (Some change))) rest) hs (if reaches (is_from from fh.0) (flags_in f.subscribed c) then raised c change (told c) f else f)) (sym (hears_reaches fh flags e.step change c))
        (goes more flags (subs c ∙ is) (reaches (is_from from fh.0) (Some flags)) refl))
