-- Each kind of step keeps the device's parts what they are defined to be.
use Rattle.std.proofs.Common.{◌≡◌, ℕ, nat_eq, ◌<◌, Bool, false, List, [], ◌∷◌, ◌++◌, length, Some, None, true, if◌then◌else◌, nat_le, slice_set, refl, ap, sym, ◌∙◌, subst, arith, length-append}
use Rattle.std.specs.List.{list_any}
use Rattle.std.specs.Map.{lookup}
use Rattle.std.proofs.lemmas.Bool.Decides.{nat_tests}
use Rattle.std.proofs.lemmas.List.Elements.{All-map}
use Rattle.history.specs.declared.entry.Entry.{Entry}
use Rattle.history.specs.Past.{past}
use Rattle.history.proofs.Pasts.{length_past}
use Rattle.ctrl_types.specs.declared.check.Check.TheVariants.{ControlMissing}
use Rattle.ctrl_types.specs.declared.ids.FhId.{FhId}
use Rattle.ctrl_calls.specs.Meanings.{Verdicts, Words}
use Rattle.ctrl_handlers.specs.Plan.{IsFinished, PlanData, members}
use Rattle.ctrl_clusters.specs.Changes.{members_change}
use Rattle.ctrl_clusters.specs.ControlsData.{ControlsData}
use Rattle.ctrl_clusters.specs.NewRows.{clusters_of, written}
use Rattle.ctrl_clusters.specs.Notified.{HaveWords, AreNotified}
use Rattle.ctrl_clusters.specs.Rows.{AreControlsOf, Values, row_of}
use Rattle.ctrl_clusters.proofs.NotifyLemmas.{words_between}
use Rattle.ctrl_clusters.specs.declared.new_row.NewRow.{NewRow}
use Rattle.ctrl_lists.specs.Touched.{TouchedData}
use Rattle.ctrl_lists.proofs.TouchedLemmas.{touched_is}
use Rattle.ctrl_forecast.specs.Boards.{BoardData, no_board}
use Rattle.device_history.specs.declared.limits.TheConstants.{MAX_STEPS}
use Rattle.device_history.specs.declared.ask.Ask.TheVariants as asks
use Rattle.device_history.specs.declared.ask.Step.{Step}
use Rattle.device_history.specs.declared.ask.Step.TheVariants.{OpenFh, CloseFh, Set, Grab}
use Rattle.device_history.specs.Steps.{History, Past}
use Rattle.device_history.specs.Handles.{open_check, through}
use Rattle.device_history.specs.Ranges.{ranges_now}
use Rattle.device_history.specs.Grabs.{grabbed, grab_check}
use Rattle.device_history.specs.Values.{now}
use Rattle.device_history.specs.Refusals.{fault_of, is_full, step_check}
use Rattle.device_history.specs.Legal.{MayFollow}
use Rattle.device_history.proofs.PresentLemmas.{length_now}
use Rattle.device_history.proofs.ControlsLemmas.{values_of}
use Rattle.device_parts.specs.Leaving.{leaves_controls}
use Rattle.device_parts.specs.QueuedFrames.{queued_after}
use Rattle.device_history.specs.Laid.{laid}
use Rattle.device_parts.specs.Makes.{Cover, Makes}
use Rattle.device_parts.specs.State.{IsMade, IsReady, StateData}
use Rattle.device_parts.proofs.MadeLemmas.{made_fresh, made_ready}
use Rattle.device_state.specs.Kept.{Caches, IsKept}
use Rattle.device_state.specs.Changed.{values_then}
use Rattle.device_state.specs.Setting.{CanBeSet}
use Rattle.device_state.proofs.BoardLemmas.{board_same, board_start, line_kept}
use Rattle.device_state.proofs.SetLemmas.{laid_written}
use Rattle.device_state.proofs.StepLemmas.{step_answered, step_passes}
use Rattle.device_history.specs.Forecasts.{board_over, queued_frames, waiting_after}
use Rattle.device_history.proofs.QueuedFrames.{waiting_add}
use Rattle.ctrl_forecast.specs.Forecasts.{QueuedData}

-- a device without steps
pub kept_start : (verdicts : Verdicts) (told : Words) (plan : PlanData) (steps : History) (caches : Caches) → steps ≡ [] → IsMade verdicts plan [] caches.state → HaveWords told plan caches.state.controls.values caches.words → IsFinished plan
    → ◌≡◌ {A = BoardData} caches.board no_board → IsKept verdicts told plan steps caches
kept_start verdicts told plan steps caches s made w plans b = rw s (record {
  plans = plans;
  few = omega arith;
  made = made;
  board = b ∙ sym (board_start verdicts plan);
  words = w;
})

-- the number of the next step is no open file handle's id
pub kept_fresh : (verdicts : Verdicts) (told : Words) (plan : PlanData) (steps : History) (caches : Caches) → IsKept verdicts told plan steps caches → lookup (nat_eq (length steps)) caches.state.file_handles ≡ None
kept_fresh verdicts told plan steps caches kept = made_fresh verdicts plan steps caches.state kept.made

-- one more entry of a step that may follow, with the parts that it makes
pub kept_makes : (verdicts : Verdicts) (told : Words) (plan : PlanData) (steps steps' : History) (caches caches' : Caches) (e : Entry Step)
    → IsKept verdicts told plan steps caches → length steps < MAX_STEPS → MayFollow verdicts plan (past steps) e.step → steps' ≡ steps ++ e ∷ []
    → Makes verdicts plan (length steps) e.step caches.state caches'.state → HaveWords told plan caches'.state.controls.values caches'.words
    → (queued : List QueuedData) → caches'.board ≡ board_over verdicts plan caches'.state.controls queued → queued ≡ waiting_after plan (past steps) e.step (queued_frames plan (past steps)) → IsKept verdicts told plan steps' caches'
kept_makes verdicts told plan steps steps' caches caches' e kept room may s makes w queued b line = rw s (record {
  plans = kept.plans;
  few = omega (arith, length-append steps (e ∷ []));
  made = made;
  board = b ∙ board_same verdicts plan made.controls (line ∙ sym (waiting_add verdicts plan steps e kept.made.legal may));
  words = w;
})
  where
    made : IsMade verdicts plan (steps ++ e ∷ []) caches'.state
    made = makes steps e refl refl kept.made may

-- where a list is set, one more step is kept
pub set_room : (steps : History) → is_full (past steps) ≡ false → length steps < MAX_STEPS
set_room steps room = grind (arith, nat_tests, length_past steps, room)

-- where the values stay, the words are such as were told of them
same_words : (told : Words) (plan : PlanData) (words : List ℕ) (old new : ControlsData) → new ≡ old → HaveWords told plan old.values words → HaveWords told plan new.values words
same_words told plan words old new is have = subst (λ (m : ControlsData). HaveWords told plan m.values words) (sym is) have

-- an opening
pub kept_open : (verdicts : Verdicts) (told : Words) (plan : PlanData) (steps steps' : History) (caches : Caches) (state : StateData) (seat handler : ℕ)
    → IsKept verdicts told plan steps caches → step_check (past steps) (open_check plan (past steps) handler) ≡ None → steps' ≡ steps ++ record { seat = seat; step = OpenFh handler } ∷ []
    → Makes verdicts plan (length steps) (OpenFh handler) caches.state state → state.controls ≡ caches.state.controls → IsKept verdicts told plan steps' (record caches { state = state })
kept_open verdicts told plan steps steps' caches state seat handler kept accepted s makes same =
    kept_makes verdicts told plan steps steps' caches (record caches { state = state }) (record { seat = seat; step = OpenFh handler }) kept (set_room steps (step_passes (past steps) _ accepted).1)
    (asks.OpenFh handler, ap fault_of (step_answered (past steps) _ _ accepted), refl) s makes (same_words told plan caches.words caches.state.controls state.controls same kept.words)
    (queued_frames plan (past steps)) (kept.board ∙ board_same verdicts plan (sym (same ∙ kept.made.controls)) refl) refl

-- a close
pub kept_close : (verdicts : Verdicts) (told : Words) (plan : PlanData) (steps steps' : History) (caches : Caches) (state : StateData) (seat : ℕ) (fh : FhId)
    → IsKept verdicts told plan steps caches → step_check (past steps) (through (past steps) fh None) ≡ None → steps' ≡ steps ++ record { seat = seat; step = CloseFh fh } ∷ []
    → Makes verdicts plan (length steps) (CloseFh fh) caches.state state → state.controls ≡ caches.state.controls → IsKept verdicts told plan steps' (record caches { state = state })
kept_close verdicts told plan steps steps' caches state seat fh kept accepted s makes same =
    kept_makes verdicts told plan steps steps' caches (record caches { state = state }) (record { seat = seat; step = CloseFh fh }) kept (set_room steps (step_passes (past steps) _ accepted).1)
    (asks.CloseFh fh, ap fault_of (step_answered (past steps) _ _ accepted), refl) s makes (same_words told plan caches.words caches.state.controls state.controls same kept.words)
    (queued_frames plan (past steps)) (kept.board ∙ board_same verdicts plan (sym (same ∙ kept.made.controls)) refl) refl

-- the control that may be grabbed is there
pub grab_known : (plan : PlanData) (steps : History) (c : ℕ) → step_check (past steps) (grab_check plan c) ≡ None → c < length plan.controls
grab_known plan steps c accepted = below c (length plan.controls) (by (nat_le (length plan.controls) c) (step_passes (past steps) _ accepted).0)
  where
    by : (b : Bool) → (if b then Some ControlMissing else None) ≡ None → b ≡ false
    by true h = cc
    by false h = refl

    below : (a b : ℕ) → nat_le b a ≡ false → a < b
    below a b h = grind (arith, nat_tests, h)

-- a grab
pub kept_grab : (verdicts : Verdicts) (told : Words) (plan : PlanData) (steps steps' : History) (caches : Caches) (state : StateData) (b : BoardData) (seat c : ℕ) (on : Bool)
    → IsKept verdicts told plan steps caches → step_check (past steps) (grab_check plan c) ≡ None → steps' ≡ steps ++ record { seat = seat; step = Grab c on } ∷ []
    → Makes verdicts plan (length steps) (Grab c on) caches.state state → state.controls ≡ record caches.state.controls { grabs = slice_set caches.state.controls.grabs c on }
    → b ≡ board_over verdicts plan state.controls caches.board.queued
    → IsKept verdicts told plan steps' (record caches { state = state; board = b })
kept_grab verdicts told plan steps steps' caches state b seat c on kept accepted s makes g renewed =
    kept_makes verdicts told plan steps steps' caches (record caches { state = state; board = b }) (record { seat = seat; step = Grab c on }) kept (set_room steps (step_passes (past steps) _ accepted).1)
    (asks.Grab c on, ap fault_of (step_answered (past steps) _ _ accepted), refl) s makes
    (subst (λ (vs : Values). HaveWords told plan vs caches.words) (sym (ap (λ (m : ControlsData). m.values) g)) kept.words)
    caches.board.queued renewed (ap (λ (x : BoardData). x.queued) kept.board)

-- the values that a set's rows make of the present ones are those of its step
pub set_then : (verdicts : Verdicts) (plan : PlanData) (past : Past) (values : Values) (fh : FhId) (touch : TouchedData) → CanBeSet verdicts plan past fh None touch → values ≡ now verdicts plan past
    → written plan values touch.rows ≡ values_then verdicts plan past (Set fh touch.pairs)
set_then verdicts plan past values fh touch sets own =
    ap (λ (v : Values). written plan v touch.rows) own ∙ sym (laid_written verdicts plan (ranges_now plan past) (now verdicts plan past) (grabbed plan past) touch.pairs touch.rows sets.plans sets.judged sets.free)

-- a set
pub kept_set : (verdicts : Verdicts) (told : Words) (plan : PlanData) (steps steps' : History) (caches : Caches) (state : StateData) (b : BoardData) (words : List ℕ) (seat : ℕ) (fh : FhId)
    (touch : TouchedData) → IsKept verdicts told plan steps caches → CanBeSet verdicts plan (past steps) fh None touch
    → steps' ≡ steps ++ record { seat = seat; step = Set fh touch.pairs } ∷ [] → Makes verdicts plan (length steps) (Set fh touch.pairs) caches.state state
    → AreNotified told plan (members_change plan caches.state.controls.values state.controls.values touch.pairs) (λ k. row_of state.controls.values (members plan k)) caches.words words
    → b ≡ board_over verdicts plan state.controls caches.board.queued
    → IsKept verdicts told plan steps' (record caches { state = state; board = b; words = words })
kept_set verdicts told plan steps steps' caches state b words seat fh touch kept sets s makes retold renewed =
    kept_makes verdicts told plan steps steps' caches (record caches { state = state; board = b; words = words }) (record { seat = seat; step = Set fh touch.pairs }) kept (set_room steps sets.room) sets.follows s makes
    (words_between told plan caches.state.controls.values state.controls.values touch.pairs caches.words words kept.words retold)
    caches.board.queued renewed (ap (λ (x : BoardData). x.queued) kept.board)

-- what a set lays over the values
pub set_lays : (verdicts : Verdicts) (plan : PlanData) (steps : History) (state : StateData) (values : Values) (fh : FhId) (touch : TouchedData) → IsMade verdicts plan steps state
    → CanBeSet verdicts plan (past steps) fh None touch → values ≡ written plan state.controls.values touch.rows → values ≡ laid verdicts plan state.controls touch.pairs
set_lays verdicts plan steps state values fh touch made sets v =
    v ∙ set_then verdicts plan (past steps) state.controls.values fh touch sets (values_of made.controls) ∙ sym (ap (λ (d : ControlsData). laid verdicts plan d touch.pairs) made.controls)

-- the clusters of its rows cover its pairs
pub set_cover : (verdicts : Verdicts) (plan : PlanData) (past : Past) (fh : FhId) (touch : TouchedData) → CanBeSet verdicts plan past fh None touch → Cover plan (clusters_of touch.rows) touch.pairs
set_cover verdicts plan past fh touch sets = record {
  known = All-map (λ (k : ℕ). k < length plan.clusters) (λ (r : NewRow). r.cluster) touch.rows sets.judged.within;
  others = λ k lt outside. touched_is plan touch.pairs k sets.plans lt ∙ ap (list_any (nat_eq k)) (sym sets.judged.each_once) ∙ outside;
}

-- a step that leaves file handles, grabs, ranges and values
pub kept_controls_left : (verdicts : Verdicts) (told : Words) (plan : PlanData) (steps steps' : History) (caches : Caches) (state : StateData) (b : BoardData) (seat : ℕ) (step : Step)
    → IsKept verdicts told plan steps caches → is_full (past steps) ≡ false → MayFollow verdicts plan (past steps) step → leaves_controls step ≡ true → steps' ≡ steps ++ record { seat = seat; step = step } ∷ []
    → Makes verdicts plan (length steps) step caches.state state → state.controls ≡ caches.state.controls
    → b ≡ board_over verdicts plan caches.state.controls (queued_after caches.state.frames step caches.board.queued)
    → IsKept verdicts told plan steps' (record caches { state = state; board = b })
kept_controls_left verdicts told plan steps steps' caches state b seat step kept room may leaves s makes same renewed =
    kept_makes verdicts told plan steps steps' caches (record caches { state = state; board = b }) (record { seat = seat; step = step }) kept (set_room steps room) may s makes
    (same_words told plan caches.words caches.state.controls state.controls same kept.words)
    (queued_after caches.state.frames step caches.board.queued) (renewed ∙ board_same verdicts plan (sym same) refl)
    (line_kept verdicts plan (past steps) step caches.state.frames caches.board.queued kept.made.legal may leaves kept.made.frames (ap (λ (x : BoardData). x.queued) kept.board))

-- the state is ready for one more step
pub ready : (verdicts : Verdicts) (told : Words) (plan : PlanData) (steps : History) (caches : Caches) → IsKept verdicts told plan steps caches → IsReady plan caches.state
ready verdicts told plan steps caches kept = made_ready verdicts plan steps caches.state kept.made kept.few

-- the ranges are of the plan's controls
pub ranges_kept : (verdicts : Verdicts) (told : Words) (plan : PlanData) (steps : History) (caches : Caches) → IsKept verdicts told plan steps caches → AreControlsOf plan caches.state.controls.ranges
ranges_kept verdicts told plan steps caches kept = (ready verdicts told plan steps caches kept).ranges

-- there is a value for each control
pub values_kept : (verdicts : Verdicts) (told : Words) (plan : PlanData) (steps : History) (caches : Caches) → IsKept verdicts told plan steps caches → length caches.state.controls.values ≡ length plan.controls
values_kept verdicts told plan steps caches kept = ap length (values_of kept.made.controls) ∙ length_now verdicts plan (past steps)
