-- Words stay such as clusters may have been told, where those don't change.
use Rattle.std.proofs.Common.{◌≡◌, ℕ, suc, ◌||◌, Bool, false, List, [], ◌∷◌, length, Some, refl, sym, ap, ◌∙◌, ◌++◌}
use Rattle.std.specs.List.{list_any}
use Rattle.ctrl_calls.specs.Meanings.{Verdicts, Words}
use Rattle.ctrl_types.specs.declared.ids.Pair.{Pair}
use Rattle.device_history.specs.declared.ask.Step.{Step}
use Rattle.device_history.specs.declared.ask.Step.TheVariants as steps
use Rattle.ctrl_handlers.specs.Plan.{PlanData, calls_of, members}
use Rattle.device_history.specs.Grabs.{grabbed}
use Rattle.ctrl_clusters.specs.Overlay.{overlay}
use Rattle.device_history.specs.Requests.{asked}
use Rattle.device_history.specs.Snapshots.{begun_pairs}
use Rattle.ctrl_clusters.specs.Changes.{is_changed, row_changes}
use Rattle.ctrl_clusters.specs.Notified.{MaySay}
use Rattle.ctrl_clusters.proofs.NotifyLemmas.{same_row}
use Rattle.ctrl_clusters.specs.Rows.{Values, value_at, row_of}
use Rattle.device_history.specs.Values.{now, values_after}
use Rattle.device_history.specs.Steps.{History, Past}
use Rattle.device_history.specs.Ranges.{ranges_now, settled_after}
use Rattle.history.specs.declared.entry.Entry.{Entry}
use Rattle.history.specs.Past.{past}
use Rattle.device_history.specs.Words.{pairs_applied, changes}
use Rattle.device_history.proofs.PastLemmas.{now_add}

-- some member is changed exactly where the row that they have afterwards changes one
pub changed_row : (plan : PlanData) (values after : Values) (pairs : List Pair) (cs : List ℕ) → list_any (changes plan values after (Some pairs)) cs ≡ row_changes plan values pairs cs (row_of after cs)
changed_row plan values after pairs [] = refl
changed_row plan values after pairs (c ∷ cs) =
    ap (λ (b : Bool). is_changed plan values pairs c (value_at after c) || b) (changed_row plan values after pairs cs)

-- values after which some controls are unchanged leave their row
unchanged_row : (plan : PlanData) (values after : Values) (pairs : List Pair) (cs : List ℕ) → list_any (changes plan values after (Some pairs)) cs ≡ false → row_of after cs ≡ row_of values cs
unchanged_row plan values after pairs cs h = sym (same_row plan values pairs cs (row_of after cs) (long cs) (sym (changed_row plan values after pairs cs) ∙ h))
  where
    long : (cs : List ℕ) → length (row_of after cs) ≡ length cs
    long [] = refl
    long (c ∷ cs) = ap suc (long cs)

-- a step that leaves some controls unchanged leaves their row
row_stays : (verdicts : Verdicts) (plan : PlanData) (older : Past) (step : Step) (values : Values) (cs : List ℕ)
    → list_any (changes plan values (values_after verdicts plan older step values) (pairs_applied verdicts plan older step)) cs ≡ false
    → row_of (values_after verdicts plan older step values) cs ≡ row_of values cs
row_stays verdicts plan older (steps.Set fh pairs) values cs h = unchanged_row plan values (overlay verdicts plan (ranges_now plan older) values (grabbed plan older) pairs) pairs cs h
row_stays verdicts plan older (steps.Begin r) values cs h =
    unchanged_row plan values (overlay verdicts plan (ranges_now plan older) values (grabbed plan older) (asked plan older r.0)) (begun_pairs verdicts plan older r.0) cs h
row_stays verdicts plan older (steps.ModifyRange c low high apart default_value) values cs h =
    unchanged_row plan values (settled_after (steps.ModifyRange c low high apart default_value) (ranges_now plan older) values) [] cs h
row_stays verdicts plan older _ values cs h = refl

-- a cluster of which no member changes keeps a word that it may have been told
pub word_stays : (told : Words) (verdicts : Verdicts) (plan : PlanData) (entries : History) (e : Entry Step) (k word : ℕ)
    → list_any (changes plan (now verdicts plan (past entries)) (values_after verdicts plan (past entries) e.step (now verdicts plan (past entries))) (pairs_applied verdicts plan (past entries) e.step)) (members plan k) ≡ false
    → MaySay told (calls_of plan k).notifier (row_of (now verdicts plan (past entries)) (members plan k)) word
    → MaySay told (calls_of plan k).notifier (row_of (now verdicts plan (past (entries ++ e ∷ []))) (members plan k)) word
word_stays told verdicts plan entries e k word same may =
    rw (now_add verdicts plan entries e, row_stays verdicts plan (past entries) e.step (now verdicts plan (past entries)) (members plan k) same) may
