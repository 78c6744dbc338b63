use Rattle.std.proofs.Common.{◌≡◌, ◌≤◌, length, map, vec_capacity}
use Rattle.std.specs.List.{All, range_with_len}
use Rattle.call_structs.specs.Entries.{id_at}
use Rattle.ctl_session.specs.Ids.{form_by_id}
use Rattle.ctl_session.specs.Lists.{HasSlot}
use Rattle.ctl_session.proofs.lists.forms_of.Given as goal

-- the forms so far
abbrev pub invariant-loop-place : goal.invariant-loop-place
invariant-loop-place g l = record {
  read : l.forms.items ≡ map (λ place. form_by_id l.plan l.handler (id_at place l.arg)) (range_with_len 0 l.place);
  each : length l.forms.items ≡ l.place;
  slots : All HasSlot l.forms.items;
  room : l.count ≤ vec_capacity l.forms;
}
