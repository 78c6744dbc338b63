use Rattle.std.proofs.Common.{◌≡◌, ◌<◌, ℕ, Some, List, [], ◌∷◌, length, take, slice_get, ap, sym, subst, ◌∙◌}
use Rattle.std.specs.List.{All}
use Rattle.history.specs.declared.entry.Entry.{Entry}
use Rattle.history.specs.Past.{past}
use Rattle.ctrl_types.specs.declared.ids.Pair.{Pair}
use Rattle.ctrl_clusters.specs.Rows.{Values}
use Rattle.ctrl_clusters.proofs.OverlayLemmas.{length_overlay}
use Rattle.ctrl_forecast.specs.Applied.{applied_pairs}
use Rattle.req_book.proofs.SettingLemmas.{known_latest}
use Rattle.frame_queue.specs.Frames.{FramesData}
use Rattle.device_history.specs.declared.ask.Step.{Step}
use Rattle.device_history.specs.declared.ask.Step.TheVariants as steps
use Rattle.device_history.specs.Frames.{first_of, queue}
use Rattle.device_history.specs.Grabs.{grabbed}
use Rattle.device_history.specs.Ranges.{ranges_now}
use Rattle.device_history.specs.Requests.{asked, since, stored}
use Rattle.device_history.specs.Snapshots.{begun_refused, begun_values}
use Rattle.device_history.specs.Values.{now}
use Rattle.device_history.proofs.FitLemmas.{fits}
use Rattle.device_history.proofs.PresentLemmas.{length_now}
use Rattle.device_parts.proofs.CoverLemmas.{named_cover}
use Rattle.device_parts.proofs.MakesLemmas.{asked_made, begun_applied, begun_laid}
use Rattle.history_audit.proofs.FollowLemmas.{begin_there}
use Rattle.history_audit.proofs.MadeLemmas.{behind_next, replay_makes, replay_ready}
use Rattle.history_audit.proofs.replay.Replay.begin.Goals as goal

-- the request is there
pub lay-requires : goal.lay-requires
lay-requires g c = begin_there g.D.Validates.verdict c.args.self.now.plan (past c.args.self.now.steps) c.args.request c.requires.follows

pub asked_by-requires : goal.asked_by-requires
asked_by-requires g c = begin_there g.D.Validates.verdict c.args.self.now.plan (past c.args.self.now.steps) c.args.request c.requires.follows

-- there is a value for each control
pub applied-requires-clause-values : goal.applied-requires-clause-values
applied-requires-clause-values g c =
    let r = c.self.inside in
    let P : List (Entry Step) = past (take r.count r.steps.now) in
    ap length (c.as_slice.ensures ∙ (rw (← c.self.view_is) at c.in_ok-forecast.ensures.values))
    ∙ length_overlay g.D.Validates.verdict r.plan.now (ranges_now r.plan.now P) (now g.D.Validates.verdict r.plan.now P) (grabbed r.plan.now P) (asked r.plan.now P c.args.request.0)
    ∙ length_now g.D.Validates.verdict r.plan.now P

-- it asks for controls that are there
pub applied-requires-clause-pairs : goal.applied-requires-clause-pairs
applied-requires-clause-pairs g c =
    let r = c.self.inside in
    let asks = rw (← c.self.view_is) at c.asked_by.ensures in
    subst (λ (l : List Pair). All (λ p. p.control < length r.plan.now.controls) l) (sym asks)
    (known_latest (length r.plan.now.controls) (stored c.args.request.0 (since c.args.request.0 (past (take r.count r.steps.now)))))

-- the state is ready for a step
pub begin-requires-clause-ready : goal.begin-requires-clause-ready
begin-requires-clause-ready g c = replay_ready g.D.Validates.verdict c.self.inside.plan.now c.self.inside.steps.now c.self.inside.count _ c.self.invariant

-- none runs, and it is the first that waits
pub begin-requires-clause-free : goal.begin-requires-clause-free
begin-requires-clause-free g c =
    let r = c.self.inside in
    ap (λ (f : FramesData). f.running) c.self.invariant.made.frames ∙ (fits g.D.Validates.verdict r.plan.now (past (take r.count r.steps.now)) (steps.Begin c.args.request) (rw (← c.self.view_is) at c.requires.follows)).1.0

pub begin-requires-clause-first : goal.begin-requires-clause-first
begin-requires-clause-first g c =
    let r = c.self.inside in
    let fit = fits g.D.Validates.verdict r.plan.now (past (take r.count r.steps.now)) (steps.Begin c.args.request) (rw (← c.self.view_is) at c.requires.follows) in
    ap (λ (f : FramesData). slice_get f.queue 0) c.self.invariant.made.frames ∙ at_first (queue (past (take r.count r.steps.now))) c.args.request.0 fit.1.1
  where
    at_first : (ids : List ℕ) (n : ℕ) → first_of ids ≡ Some n → slice_get ids 0 ≡ Some n
    at_first [] n h = cc
    at_first (k ∷ ids) n h = h

-- the clusters that it names cover what it asks for
pub begin-requires-clause-cover : goal.begin-requires-clause-cover
begin-requires-clause-cover g c =
    let r = c.self.inside in
    let made = c.self.invariant.made in
    let named = rw (← c.self.view_is) at c.in_ok-forecast.ensures.clusters in
    let asks = asked_made g.D.Validates.verdict r.plan.now (take r.count r.steps.now) r.state.frames c.args.request made.frames made.legal (rw (← c.self.view_is) at c.requires.follows) in
    rw (c.as_slice-4.ensures, named, asks) (named_cover r.plan.now (asked r.plan.now (past (take r.count r.steps.now)) c.args.request.0))

-- the values are what that makes of those before it
pub begin-requires-clause-laid : goal.begin-requires-clause-laid
begin-requires-clause-laid g c =
    let r = c.self.inside in
    c.into_vec-values.ensures ∙ (rw (← c.self.view_is) at c.in_ok-forecast.ensures.values)
    ∙ sym (begun_laid g.D.Validates.verdict r.plan.now (take r.count r.steps.now) r.state c.args.request c.self.invariant.made (rw (← c.self.view_is) at c.requires.follows))

pub begin-requires-clause-applied : goal.begin-requires-clause-applied
begin-requires-clause-applied g c =
    let r = c.self.inside in
    let P : List (Entry Step) = past (take r.count r.steps.now) in
    let n : ℕ = c.args.request.0 in
    let values = rw (← c.self.view_is) at c.in_ok-forecast.ensures.values in
    let refused = rw (← c.self.view_is) at c.in_ok-forecast.ensures.refused in
    let asks = rw (← c.self.view_is) at c.asked_by.ensures in
    c.as_slice-3.ensures.value ∙ c.in_ok-given.ensures
    ∙ ap (λ (v : Values). applied_pairs r.plan.now v c.as_slice-2.result.now c.asked_by.result.now) (c.as_slice.ensures ∙ values)
    ∙ ap (λ (l : List ℕ). applied_pairs r.plan.now (begun_values g.D.Validates.verdict r.plan.now P n) l c.asked_by.result.now) (c.as_slice-2.ensures ∙ refused)
    ∙ ap (λ (ps : List Pair). applied_pairs r.plan.now (begun_values g.D.Validates.verdict r.plan.now P n) (begun_refused g.D.Validates.verdict r.plan.now P n) ps) asks
    ∙ sym (begun_applied g.D.Validates.verdict r.plan.now (take r.count r.steps.now) r.state c.args.request c.self.invariant.made (rw (← c.self.view_is) at c.requires.follows))

-- the state is what the begin makes of it
pub invariant_of-self : goal.invariant_of-self
invariant_of-self g c =
    let r = c.self.inside in
    replay_makes g.D.Validates.verdict r.plan.now r.steps.now r.count r.state _ (steps.Begin c.args.request) c.self.invariant (rw (← c.self.view_is) at c.requires.next) (rw (← c.self.view_is) at c.requires.room) (rw (← c.self.view_is) at c.requires.follows)
    (c.begin.ensures.makes r.count)

-- one more step was replayed
pub returns-clause-ok : goal.returns-clause-ok
returns-clause-ok g c = rw (← c.self.view_is) (behind_next c.self.inside.plan.now c.self.inside.steps.now c.self.inside.count c.self.invariant.within)
