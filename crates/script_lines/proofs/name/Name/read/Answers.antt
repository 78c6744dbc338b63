use Rattle.std.proofs.Common.{◌≡◌, ℕ, length, true, refl, sym}
use Rattle.std.proofs.lemmas.List.{drop-replicate}
use Rattle.script_lines.specs.Names.{is_name}
use Rattle.script_lines.proofs.name.Name.read.Goals as goal

pub returns : goal.returns
returns c =
    let zeros = drop-replicate {X = ℕ} (length c.args.word.now) 16 0 in
    let test : is_name c.args.word.now ≡ true = sym c.if-not-is_name.ensures in
    rw (c.copy_from_slice.ensures.after, zeros, test) refl
