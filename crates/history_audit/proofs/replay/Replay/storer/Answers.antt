use Rattle.std.proofs.Common.{◌≡◌, ℕ, map, List, Option, None, Some, refl, ap, sym, ◌∙◌, take, rules, tests}
use Rattle.std.specs.List.{find as first_that}
use Rattle.std.specs.Option.{option_map}
use Rattle.std.proofs.lemmas.Iterator.Consumers.{YieldsList-at, YieldsList-from_copied, YieldsList-from_rest}
use Rattle.std.proofs.lemmas.Iterator.Search.{find_from_yields_List}
use Rattle.indexmap.specs.IndexMap.{values}
use Rattle.history.specs.Past.{past}
use Rattle.device_history.specs.Asking.{shows_pairs}
use Rattle.device_history.specs.Handles.{opened}
use Rattle.history_audit.proofs.ShowLemmas.{by_handlers}
use Rattle.history_audit.proofs.replay.Replay.storer.Goals as goal

itself : (o : Option ℕ) → option_map (λ h. h) o ≡ o
itself None = refl
itself (Some h) = refl

-- the handlers of the open file handles are searched in their order
pub returns : goal.returns
returns g c =
    let r = c.self.inside in
    let found = find_from_yields_List (λ h. shows_pairs r.plan.now h c.args.pairs.now) _ _ c.find.result c.find.ensures.ran
    (YieldsList-from_copied (YieldsList-at c.copied.ensures.source (YieldsList-from_rest (values c.file_handles.result.now) c.values.ensures.rest))) (λ x b q k. search (rules, tests)) in
    rw (← c.self.view_is)
    (sym (itself c.find.result) ∙ found
    ∙ ap (λ (os : List (ℕ × ℕ)). first_that (λ h. shows_pairs r.plan.now h c.args.pairs.now) (map (λ o. o.1) os)) (c.file_handles.ensures ∙ c.self.invariant.made.file_handles)
    ∙ by_handlers r.plan.now c.args.pairs.now (opened (past (take r.count r.steps.now))))
