use Rattle.std.proofs.Common.{◌≡◌, ◌++◌, take, codes}
use Rattle.std.specs.List.{flat_map}
use Rattle.script_replies.specs.Replies.{entry_text}
use Rattle.script_replies.proofs.reply.print_values.Given as goal

-- the values so far
abbrev pub invariant-loop-entry : goal.invariant-loop-entry
invariant-loop-entry l =
    l.line ≡ l.fn.line ++ (codes "ok" ++ flat_map entry_text (take l.entry-index l.list))
