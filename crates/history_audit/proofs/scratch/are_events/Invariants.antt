use Rattle.std.proofs.Common.{◌≡◌, take}
use Rattle.history_audit.specs.Scratch.{open_events}
use Rattle.history_audit.proofs.scratch.are_events.Given as goal

-- what is listed is the same so far
abbrev pub invariant-loop-place : goal.invariant-loop-place
invariant-loop-place l = take l.place (open_events l.own_events l.own_handles.entries) ≡ take l.place (open_events l.events l.file_handles.entries)
