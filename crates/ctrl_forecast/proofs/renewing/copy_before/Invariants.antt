use Rattle.std.proofs.Common.{◌≡◌, drop, length}
use Rattle.ctrl_forecast.specs.Frames.{frame_at, values_before}
use Rattle.ctrl_forecast.proofs.CopyLemmas.{copied}
use Rattle.ctrl_forecast.proofs.renewing.copy_before.Given as goal

-- the members that are left make the whole
abbrev pub invariant-loop-member : goal.invariant-loop-member
invariant-loop-member l = record {
  rest : copied l.values l.place (drop l.member-index l.members) l.frames.items ≡ copied l.values l.place l.members l.initial.frames.items;
  many : length l.frames.items ≡ length l.initial.frames.items;
  own : length (frame_at l.frames.items l.place).values ≡ length (frame_at l.initial.frames.items l.place).values;
  before : values_before l.values l.frames.items l.place ≡ values_before l.values l.initial.frames.items l.place;
}
