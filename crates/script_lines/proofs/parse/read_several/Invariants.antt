use Rattle.std.proofs.Common.{◌≡◌, ◌+◌, ◌++◌, ◌≤◌, length, vec_len, vec_capacity}
use Rattle.std.specs.Option.{option_map}
use Rattle.script_lines.specs.Commands.{list_of, words}
use Rattle.script_lines.proofs.parse.read_several.Given as goal

-- the entries so far, and room for the others
abbrev pub invariant-loop-word : goal.invariant-loop-word
invariant-loop-word l = (vec_len l.list + length (words l.rest) ≤ vec_capacity l.list)
    × (vec_len l.list + length l.rest ≤ length l.text)
    × (option_map (λ es. l.list.items ++ es) (list_of l.known l.form (words l.rest)) ≡ list_of l.known l.form (words l.text))

abbrev pub decreases-loop-word : goal.decreases-loop-word
decreases-loop-word l = length l.rest
