use Rattle.std.proofs.Common.{◌≡◌, codes, refl, arith}
use Rattle.std.proofs.lemmas.Grind.{common_steps}
use Rattle.script_lines.proofs.Walks.{six}
use Rattle.script_lines.proofs.parse.fixed_which.Goals as goal

-- the word by its bytes
pub returns-in-camera : goal.returns-in-camera
returns-in-camera c =
    let is : c.args.word.now ≡ codes "camera" = six c.args.word.now 99 97 109 101 114 97 (omega arith) (grind (arith, common_steps)) (grind (arith, common_steps)) (grind (arith, common_steps)) (grind (arith, common_steps)) (grind (arith, common_steps)) (grind (arith, common_steps)) in
    rw is refl
