use Rattle.std.proofs.Common.{◌<◌, ℕ, sym, subst}
use Rattle.std.specs.List.{All}
use Rattle.ctrl_forecast.specs.Frames.{AreKeptFrames}
use Rattle.ctrl_forecast.proofs.CopyLemmas.{copied_marked}
use Rattle.ctrl_forecast.proofs.RenewLemmas.{base_long}
use Rattle.ctrl_forecast.proofs.renewing.keep_at.Goals as goal

pub copy_before-requires-clause-own : goal.copy_before-requires-clause-own
unfolding AreKeptFrames
copy_before-requires-clause-own g c =
    subst (λ (n : ℕ). All (λ m. m < n) c.members.result.now) (sym (c.requires.frames c.args.place c.requires.place).long) c.members.ensures.known

pub copy_before-requires-clause-before : goal.copy_before-requires-clause-before
copy_before-requires-clause-before g c =
    subst (λ (n : ℕ). All (λ m. m < n) c.members.result.now)
    (sym (base_long c.args.at.now.plan.now c.args.at.now.values.now c.args.frames.now.items c.args.place c.args.at.now.valued c.requires.frames c.requires.place)) c.members.ensures.known

pub returns-clause-frames : goal.returns-clause-frames
returns-clause-frames g c =
    copied_marked c.args.at.now.plan.now c.args.at.now.values.now c.args.cluster c.args.place c.args.is_refused c.members.result.now c.args.frames.now.items c.copy_before.new.frames.items c.index_mut-frame.result.now c.set_refused.new.self
    c.members.ensures.plan c.requires.frames c.requires.cluster c.requires.place c.members.ensures.members c.copy_before.ensures c.index_mut-frame.ensures.value c.set_refused.ensures
