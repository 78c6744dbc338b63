use Rattle.std.proofs.Common.{◌≡◌, ℕ, ◌+◌, ◌≤◌, List, ◌∷◌, ◌++◌, length, Option, None, Some, MatchOption, Bor, ap, ◌∙◌, arith}
use Rattle.std.proofs.lemmas.List.{length-append}
use Rattle.ctl_view.proofs.script.show_script.Invariants.{lines_left}
use Rattle.ctl_view.proofs.script.show_script.Goals as goal

-- fewer lines are left behind one
fewer : (text line : List ℕ) (more : Option (Bor (List ℕ))) → MatchOption more (line ≡ text) (λ m. text ≡ line ++ 10 ∷ m.now) → lines_left more + 1 ≤ length text + 1
fewer text line None parts = omega arith
fewer text line (Some m) parts = let n = ap length parts ∙ length-append line (10 ∷ m.now) in omega arith

pub loop-rest-init : goal.loop-rest-init
loop-rest-init g c = (omega (arith, c.requires), tt)

pub loop-rest-preserved : goal.loop-rest-preserved
loop-rest-preserved g c =
    let loop = c.loop-rest in
    let line = c.first_line.result.0.now in
    let more = c.first_line.result.1 in
    let left = ap lines_left c.in-Some.is in
    (omega (arith, fewer c.in-Some.text.now line more c.first_line.ensures.parts, loop.invariant.0, left), c.show_line.ensures.made)
