use Rattle.std.proofs.Common.{◌≡◌, ◌∙◌, ◌<◌, ◌+◌, ℕ, List, drop, length, map, refl, sym, ap, subst, arith}
use Rattle.std.specs.List.{All, remove}
use Rattle.std.proofs.lemmas.List.{get_or_read_under, length-map}
use Rattle.ctrl_forecast.specs.Boards.{BoardData, asked_at, board_of, named_clusters}
use Rattle.ctrl_forecast.specs.Forecasts.{QueuedData, named_by_frames}
use Rattle.ctrl_forecast.specs.Frames.{AreReadyAt, FrameData, Setting, frame_at, no_frame, queued_of, setting}
use Rattle.ctrl_forecast.proofs.AskingLemmas.{behind_removed, kept_asked}
use Rattle.ctrl_forecast.proofs.ReadyLemmas.{kept_named, named_within, removed_queued}
use Rattle.ctrl_forecast.proofs.TurnLemmas.{ready_without}
use Rattle.ctrl_forecast.proofs.board.Board.remove.Goals as goal

pub renew_clusters-requires-clause-clusters : goal.renew_clusters-requires-clause-clusters
renew_clusters-requires-clause-clusters g c =
    let fs : List FrameData = c.self.inside.frames.items in
    let p : ℕ = c.args.place in
    let lt : p < length fs = omega (arith, c.requires.place, ap (λ (b : BoardData). length b.queued) c.self.view_is, length-map fs queued_of) in
    let own : c.remove-removed.result ≡ frame_at fs p = get_or_read_under fs p (length fs) c.remove-removed.result no_frame c.remove-removed.ensures.value lt refl in
    let named : c.named.result.now ≡ named_clusters c.args.at.now.plan.now (frame_at fs p).asked =
    c.named.ensures ∙ ap (λ (f : FrameData). f.named) own ∙ kept_named g.D.Validates.verdict c.args.at.now.plan.now c.args.at.now.ranges.now c.args.at.now.grabs.now c.args.at.now.values.now fs p c.args.at.now.valued lt c.args.self.now.queued (c.self.view_is ∙ c.requires.kept) in
    subst (λ (ks : List ℕ). All (λ k. k < length c.args.at.now.plan.now.clusters) ks) (sym named) (named_within c.args.at.now.plan.now (frame_at fs p).asked)

pub renew_clusters-requires-clause-ready : goal.renew_clusters-requires-clause-ready
renew_clusters-requires-clause-ready g c =
    let s : Setting = setting g.D.Validates.verdict c.args.at.now.plan.now c.args.at.now.ranges.now c.args.at.now.values.now c.args.at.now.grabs.now in
    let fs : List FrameData = c.self.inside.frames.items in
    let p : ℕ = c.args.place in
    let lt : p < length fs = omega (arith, c.requires.place, ap (λ (b : BoardData). length b.queued) c.self.view_is, length-map fs queued_of) in
    let own : c.remove-removed.result ≡ frame_at fs p = get_or_read_under fs p (length fs) c.remove-removed.result no_frame c.remove-removed.ensures.value lt refl in
    let named : c.named.result.now ≡ (frame_at fs p).named = c.named.ensures ∙ ap (λ (f : FrameData). f.named) own in
    let asks : c.args.self.now.queued ≡ map queued_of fs = sym (ap (λ (b : BoardData). b.queued) c.self.view_is) in
    let kept = c.self.view_is ∙ c.requires.kept ∙ ap (board_of g.D.Validates.verdict c.args.at.now.plan.now c.args.at.now.ranges.now c.args.at.now.values.now c.args.at.now.grabs.now) asks in
    subst (λ (l : List FrameData). AreReadyAt s p c.named.result.now l) (sym c.remove-removed.ensures.items)
    (subst (λ (ks : List ℕ). AreReadyAt s p ks (remove fs p)) (sym named)
    (ready_without g.D.Validates.verdict c.args.at.now.plan.now c.args.at.now.ranges.now c.args.at.now.grabs.now c.args.at.now.values.now p fs c.args.at.now.planned.is_plan c.args.at.now.valued lt kept))

pub returns-clause-frames : goal.returns-clause-frames
returns-clause-frames g c =
    let fs : List FrameData = c.self.inside.frames.items in
    let p : ℕ = c.args.place in
    c.renew_clusters.ensures.frames
    ∙ ap (board_of g.D.Validates.verdict c.args.at.now.plan.now c.args.at.now.ranges.now c.args.at.now.values.now c.args.at.now.grabs.now)
    (ap (map queued_of) c.remove-removed.ensures.items ∙ removed_queued fs p ∙ ap (λ (qs : List QueuedData). remove qs p) (ap (λ (b : BoardData). b.queued) c.self.view_is))

-- a frame that doesn't name the cluster asks nobody
pub returns-clause-asked : goal.returns-clause-asked
returns-clause-asked g c =
    let fs : List FrameData = c.self.inside.frames.items in
    let p : ℕ = c.args.place in
    let qs : List QueuedData = c.args.self.now.queued in
    let count : List QueuedData → List ℕ → ℕ = named_by_frames c.args.at.now.plan.now in
    let lt : p < length fs = omega (arith, c.requires.place, ap (λ (b : BoardData). length b.queued) c.self.view_is, length-map fs queued_of) in
    let own : c.remove-removed.result ≡ frame_at fs p = get_or_read_under fs p (length fs) c.remove-removed.result no_frame c.remove-removed.ensures.value lt refl in
    let asks : (frame_at fs p).asked ≡ asked_at qs p = kept_asked fs p lt ∙ ap (λ (b : BoardData). asked_at b.queued p) c.self.view_is in
    let named : c.named.result.now ≡ named_clusters c.args.at.now.plan.now (asked_at qs p) =
    c.named.ensures ∙ ap (λ (f : FrameData). f.named) own ∙ kept_named g.D.Validates.verdict c.args.at.now.plan.now c.args.at.now.ranges.now c.args.at.now.grabs.now c.args.at.now.values.now fs p c.args.at.now.valued lt qs (c.self.view_is ∙ c.requires.kept)
    ∙ ap (named_clusters c.args.at.now.plan.now) asks in
    let behind : drop p (map queued_of c.remove-removed.new.self.items) ≡ drop (p + 1) qs =
    ap (drop p) (ap (map queued_of) c.remove-removed.ensures.items ∙ removed_queued fs p ∙ ap (λ (b : BoardData). remove b.queued p) c.self.view_is) ∙ behind_removed qs p c.requires.place in
    omega (arith, c.renew_clusters.ensures.asked, ap (count (drop p (map queued_of c.remove-removed.new.self.items))) named, ap (λ (l : List QueuedData). count l (named_clusters c.args.at.now.plan.now (asked_at qs p))) behind)
