use Rattle.std.proofs.Common.{◌≡◌, ◌∙◌, List, length, refl, ap}
use Rattle.std.proofs.lemmas.List.{get_or_read_under}
use Rattle.ctrl_forecast.specs.Frames.{AreKeptFrames, FrameData, frame_at, no_frame}
use Rattle.ctrl_forecast.proofs.RenewLemmas.{base_long}
use Rattle.ctrl_forecast.proofs.renewing.is_kept_at.Goals as goal

pub has_values_of-requires-clause-own : goal.has_values_of-requires-clause-own
unfolding AreKeptFrames
has_values_of-requires-clause-own g c =
    let fs : List FrameData = c.args.frames.now in
    let read : c.index-frames-place.result ≡ frame_at fs c.args.place = get_or_read_under fs c.args.place (length fs) c.index-frames-place.result no_frame c.index-frames-place.is c.requires.place refl in
    ap (λ (f : FrameData). length f.values) read ∙ (c.requires.frames c.args.place c.requires.place).long

pub has_values_of-requires-clause-values : goal.has_values_of-requires-clause-values
has_values_of-requires-clause-values g c =
    ap length c.values_before-base.ensures ∙ base_long c.args.at.now.plan.now c.args.at.now.values.now c.args.frames.now c.args.place c.args.at.now.valued c.requires.frames c.requires.place
