use Rattle.std.proofs.Common.{◌≡◌, ◌++◌, take}
use Rattle.std.specs.Fmt.{decimal}
use Rattle.std.specs.List.{flat_map}
use Rattle.script_replies.specs.Replies.{further_text}
use Rattle.script_replies.proofs.reply.print_joined.Given as goal

-- the numbers so far
abbrev pub invariant-loop-cluster : goal.invariant-loop-cluster
invariant-loop-cluster l =
    l.line ≡ l.fn.line ++ (decimal l.fn.first ++ flat_map further_text (take l.cluster-index l.more))
