use Rattle.std.proofs.Common.{◌≡◌, ◌∙◌, ◌+◌, ap, List, ℕ, suc, slice_set, arith}
use Rattle.std.proofs.lemmas.List.{get_or-set_same, set-set}
use Rattle.ctrl_settle.specs.Control.{Control}
use Rattle.ctrl_handlers.specs.Plan.{PlanData}
use Rattle.ctrl_clusters.specs.Following.{ranges_under}
use Rattle.ctrl_clusters.specs.Rows.{Values}
use Rattle.frame_forecast.specs.Sparse.{SparseFrame, followed_clusters, judged_all, linked, no_sparse_frame, sparse_at, values_upto}
use Rattle.frame_forecast.proofs.SparseLemmas.{upto_set}
use Rattle.frame_forecast.proofs.renewal.renew_frame.Goals as goal

pub returns-clause-frames : goal.returns-clause-frames
returns-clause-frames g c =
    let plan : PlanData = c.args.at.now.plan.now in
    let controls : List Control = c.args.at.now.ranges.now in
    let vs : Values = c.args.at.now.values.now in
    let old : List SparseFrame = c.args.frames.now.items in
    let p = c.args.place in
    let ks : List ℕ = c.args.clusters.now in
    let base : Values = values_upto vs old p in
    let judged : SparseFrame = judged_all g.D.Validates.verdict plan (ranges_under plan.followers controls base) c.args.at.now.grabs.now base ks (sparse_at old p) in
    let first : c.judge_clusters.new.frames.items ≡ slice_set old p judged = c.judge_clusters.ensures.frames in
    let behind : p + 1 ≡ suc p = omega arith in
    let here : sparse_at (slice_set old p judged) p ≡ judged = get_or-set_same old p judged no_sparse_frame c.requires.place in
    let mid : values_upto vs (slice_set old p judged) (p + 1) ≡ linked judged base =
    ap (values_upto vs (slice_set old p judged)) behind
    ∙ ap (λ (f : SparseFrame). linked f (values_upto vs (slice_set old p judged) p)) here
    ∙ ap (linked judged) (upto_set vs old p judged p (omega arith)) in
    c.follow_clusters.ensures
    ∙ ap (λ (l : List SparseFrame). slice_set l p (followed_clusters plan controls (values_upto vs l (p + 1)) ks (sparse_at l p))) first
    ∙ set-set old p judged (followed_clusters plan controls (values_upto vs (slice_set old p judged) (p + 1)) ks (sparse_at (slice_set old p judged) p))
    ∙ ap (λ (f : SparseFrame). slice_set old p (followed_clusters plan controls (values_upto vs (slice_set old p judged) (p + 1)) ks f)) here
    ∙ ap (λ (m : Values). slice_set old p (followed_clusters plan controls m ks judged)) mid
