use Rattle.std.proofs.Common.{◌∙◌, sym, arith}
use Rattle.std.proofs.lemmas.Grind.{common_steps}
use Rattle.std.proofs.lemmas.List.{take_rest}
use Rattle.script_lines.proofs.Walks.{word_at}
use Rattle.script_lines.proofs.walk.first_word.Goals as goal

pub returns-clause-words : goal.returns-clause-words
returns-clause-words c =
    let text = c.behind_spaces-text in
    let end = c.word_end-end in
    rw take_rest
    (sym text.ensures.words ∙ word_at text.result.now end.result (grind (arith, common_steps)) text.ensures.word end.ensures.word end.ensures.end)
