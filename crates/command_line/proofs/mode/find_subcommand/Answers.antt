use Rattle.std.proofs.Common.{rules, ◌≡◌, ◌∙◌, Option, Some, None, codes, map, unwrap_or, true, refl, ap, subst, []}
use Rattle.clap.proofs.OnLiterals.{clap_on_literals}
use Rattle.clap.specs.Words.{App, Text, fault_of, is_simple_and_free, is_simple, subcommand_of}
use Rattle.command_line.specs.Modes.{tool}
use Rattle.command_line.proofs.Named.{run_named}
use Rattle.command_line.proofs.mode.find_subcommand.Goals.{in_default-via-in-Some+in_default, in_default-via-in_default}
use Rattle.command_line.proofs.mode.find_subcommand.Goals as goal

simple : is_simple_and_free tool ≡ true
unfolding clap_on_literals
simple = refl

pub returns-in-Some-board-clause-fails : goal.returns-in-Some-board-clause-fails
returns-in-Some-board-clause-fails g c =
    subst (λ (a : App). fault_of a (map g.S.AsStr.text c.args.words.now) ≡ []) c.in_ok-tool.ensures
    (c.in-Ok.ensures.kinds (ap is_simple_and_free c.in_ok-tool.ensures ∙ simple))

pub returns-in-Some-pair-clause-fails : goal.returns-in-Some-pair-clause-fails
returns-in-Some-pair-clause-fails g c =
    subst (λ (a : App). fault_of a (map g.S.AsStr.text c.args.words.now) ≡ []) c.in_ok-tool.ensures
    (c.in-Ok.ensures.kinds (ap is_simple_and_free c.in_ok-tool.ensures ∙ simple))

pub returns-in-Ok-clause-fails : goal.returns-in-Ok-clause-fails
returns-in-Ok-clause-fails g c =
    subst (λ (a : App). fault_of a (map g.S.AsStr.text c.args.words.now) ≡ []) c.in_ok-tool.ensures
    (c.in-Ok.ensures.kinds (ap is_simple_and_free c.in_ok-tool.ensures ∙ simple))

pub returns-in-Ok-clause-named : goal.returns-in-Ok-clause-named
returns-in-Ok-clause-named g c =
    let words = map g.S.AsStr.text c.args.words.now in
    let rows = (c.in-Ok.ensures.matches (ap is_simple c.in_ok-tool.ensures)).1 ∙ ap (λ (a : App). subcommand_of a words) c.in_ok-tool.ensures in
    run_named words c.in-Ok.matches c.subcommand_name.result (returns-in-Ok-clause-fails g c) rows c.subcommand_name.ensures
    (λ is. elim c.in_default.branch [
      | in_default-via-in-Some+in_default w ↦
          let same : Some w.in_default.field-0.now ≡ Some (codes "pair") = rw w.in_default.is at is in
          let text : w.in_default.field-0.now ≡ codes "pair" = ap (λ (o : Option Text). unwrap_or o []) same in
          search (rules, text, w.in_default.not-pair)
      | in_default-via-in_default w ↦
          let none : None ≡ Some (codes "pair") = rw w.in_default.is at is in
          cc
    ])
    (λ is. elim c.in_default.branch [
      | in_default-via-in-Some+in_default w ↦
          let same : Some w.in_default.field-0.now ≡ Some (codes "board") = rw w.in_default.is at is in
          let text : w.in_default.field-0.now ≡ codes "board" = ap (λ (o : Option Text). unwrap_or o []) same in
          search (rules, text, w.in_default.not-board)
      | in_default-via-in_default w ↦
          let none : None ≡ Some (codes "board") = rw w.in_default.is at is in
          cc
    ])
