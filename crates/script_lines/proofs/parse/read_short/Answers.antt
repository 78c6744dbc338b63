use Rattle.std.proofs.Common.{◌≡◌, ◌∙◌, arith, map, take, length}
use Rattle.std.proofs.lemmas.Grind.{common_steps}
use Rattle.script_lines.proofs.Walks.{count_seen, five_and_more, put_more}
use Rattle.script_lines.proofs.parse.read_short.Goals as goal

-- too many operands
pub returns-then-count-eq-MOST : goal.returns-then-count-eq-MOST
returns-then-count-eq-MOST c =
    let room = c.loop-word.room in
    let count = c.loop-word.count in
    let inv = c.loop-word.invariant in
    let len : length (map (λ w. w.now) (take count room)) ≡ 5 = count_seen room count (omega (arith, inv.0, inv.1)) ∙ c.if-count-eq-MOST.true in
    rw (inv.2, c.in-Some.ensures.words)
    (five_and_more c.args.known.now c.args.verb (map (λ w. w.now) (take count room)) _ _ c.requires len)

pub loop-word-preserved : goal.loop-word-preserved
loop-word-preserved c =
    let inv = c.loop-word.invariant in (
      omega (arith, inv.0, c.if-count-eq-MOST.false),
      grind (arith, common_steps),
      put_more c.loop-word.room c.loop-word.count c.in-Some.word _ _ _ (omega (arith, inv.0, inv.1, c.if-count-eq-MOST.false)) inv.2 c.in-Some.ensures.words,
    )
