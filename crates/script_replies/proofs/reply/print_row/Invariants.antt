use Rattle.std.proofs.Common.{◌≡◌, ◌++◌, take, codes}
use Rattle.std.specs.List.{flat_map}
use Rattle.script_replies.specs.Replies.{value_text}
use Rattle.script_replies.proofs.reply.print_row.Given as goal

-- the values so far
abbrev pub invariant-loop-value : goal.invariant-loop-value
invariant-loop-value l =
    l.line ≡ l.fn.line ++ (codes " values" ++ flat_map value_text (take l.value-index l.values))
