use Rattle.std.proofs.Common.{ℕ, List, nat_eq, ap, ◌∙◌}
use Rattle.indexmap.proofs.CallerLemmas.{insert_entry-new}
use Rattle.device_parts.specs.State.{StateData}
use Rattle.device_parts.proofs.MakesLemmas.{makes_open}
use Rattle.device_parts.proofs.state.State.open.Goals as goal

-- it is the last
pub returns-clause-ok : goal.returns-clause-ok
returns-clause-ok c = rw (← c.self.view_is) (ap (λ (h : List (ℕ × ℕ)). (let d : StateData = record { file_handles = h; controls = c.self.inside.controls; frames = c.self.inside.frames; events = c.self.inside.events } in d))
    (c.in_ok-insert.ensures.entries ∙ insert_entry-new nat_eq c.self.inside.file_handles c.args.number c.args.handler (rw (← c.self.view_is) at c.requires)))

pub returns-clause-makes : goal.returns-clause-makes
returns-clause-makes c = rw (← c.self.view_is)
    (makes_open c.args.number c.args.handler _ _
    (ap (λ (h : List (ℕ × ℕ)). (let d : StateData = record { file_handles = h; controls = c.self.inside.controls; frames = c.self.inside.frames; events = c.self.inside.events } in d))
    (c.in_ok-insert.ensures.entries ∙ insert_entry-new nat_eq c.self.inside.file_handles c.args.number c.args.handler (rw (← c.self.view_is) at c.requires))))
