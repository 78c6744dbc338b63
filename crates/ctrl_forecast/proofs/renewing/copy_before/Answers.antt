use Rattle.std.proofs.Common.{◌∙◌, ◌<◌, ◌+◌, ℕ, List, length, drop, get_or, ap, arith, get_or-set_same}
use Rattle.std.proofs.lemmas.List.{length-set}
use Rattle.ctrl_clusters.specs.Rows.{Values, value_at}
use Rattle.ctrl_forecast.specs.Frames.{FrameData, frame_at, no_frame, values_before}
use Rattle.ctrl_forecast.proofs.CopyLemmas.{before_set, copied, copied_next, one_copied}
use Rattle.ctrl_forecast.proofs.renewing.copy_before.Goals as goal

pub loop-member-preserved : goal.loop-member-preserved
loop-member-preserved c =
    let vs : Values = c.args.values.now in
    let ms : List ℕ = c.args.members.now in
    let fs : List FrameData = c.loop-member.frames.items in
    let p : ℕ = c.args.place in
    let i : ℕ = c.loop-member.member-index in
    let f : FrameData = one_copied vs p (get_or ms i 0) fs in
    let within : p < length fs = omega (arith, c.requires.place, c.loop-member.invariant.many) in
    record {
      rest = ap (copied vs p (drop (i + 1) ms)) c.copy_one_before.ensures ∙ copied_next vs p ms fs i within c.loop-member-test.true ∙ c.loop-member.invariant.rest;
      many = ap length c.copy_one_before.ensures ∙ length-set fs p f ∙ c.loop-member.invariant.many;
      own = ap (λ (l : List FrameData). length (frame_at l p).values) c.copy_one_before.ensures ∙ ap (λ (g : FrameData). length g.values) (get_or-set_same fs p f no_frame within)
          ∙ length-set (frame_at fs p).values (get_or ms i 0) (value_at (values_before vs fs p) (get_or ms i 0)) ∙ c.loop-member.invariant.own;
      before = ap (λ (l : List FrameData). values_before vs l p) c.copy_one_before.ensures ∙ before_set vs fs p f ∙ c.loop-member.invariant.before;
    }
