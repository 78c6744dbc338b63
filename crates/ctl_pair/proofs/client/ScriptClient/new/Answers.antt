use Rattle.std.proofs.Common.{◌≡◌, ◌<◌, true, All, length, get_or, take, reverse, sym, ap, ◌∙◌, subst, arith}
use Rattle.std.proofs.lemmas.List.{reverse-reverse, take_all}
use Rattle.std.proofs.lemmas.List.Elements.{All-get_or, All-more, All-weaker}
use Rattle.std.proofs.lemmas.List.Sorted.{All-permutation}
use Rattle.ctl_script.specs.Bindings.{binding_of, is_entered}
use Rattle.ctl_script.specs.declared.binding.Binding.TheVariants as bindings
use Rattle.ctl_pair.specs.Scripts.{IsAsk}
use Rattle.ctl_pair.specs.Client.{CanBeAsked}
use Rattle.ctl_pair.proofs.Coming.{IsCome, come_new}
use Rattle.ctl_pair.proofs.client.ScriptClient.new.Goals as goal

pub loop-command-preserved : goal.loop-command-preserved
loop-command-preserved c =
    let i = c.loop-command.command-index in
    let xs = c.args.commands.items in
    let before = c.loop-command.names in
    let after = c.enter.new.names in
    let item = c.command-item.result in
    let same = c.deref-command-items.ensures.value in
    let within : i < length xs = subst (λ l. i < length l) same c.loop-command-test.true in
    let entered : is_entered after (binding_of item) ≡ true = subst (λ b. is_entered after b ≡ true) c.of.ensures c.in_ok-enter.ensures.entered in (
      c.enter.ensures.bound ∙ c.loop-command.invariant.0,
      All-more (CanBeAsked after) xs i item within
          (All-weaker (CanBeAsked before) (CanBeAsked after) (λ x r. (r.0, c.enter.ensures.kept (binding_of x) r.1)) (take i xs) c.loop-command.invariant.1)
          (All-get_or IsAsk xs i item within c.requires, subst (λ x. is_entered after (binding_of x) ≡ true) (c.command-item.is ∙ ap (λ l. get_or l i item) same) entered),
    )

pub invariant_of-result-clause-come : goal.invariant_of-result-clause-come
invariant_of-result-clause-come c =
    let xs = c.args.commands.items in
    let left = c.reverse.new.self.items in
    let names = c.loop-command.names in
    let i = c.loop-command.command-index in
    let all : take i xs ≡ xs = take_all i xs (omega (arith, c.loop-command-test.false, ap length c.deref-command-items.ensures.value)) in
    let ready : All (CanBeAsked names) left = All-permutation (CanBeAsked names) xs left c.reverse.ensures.permutation (subst (All (CanBeAsked names)) all c.loop-command.invariant.1) in
    subst (IsCome c.of-script.result.value.items left names bindings.None) (sym c.in_ok-said.ensures.items)
    (come_new c.of-script.result.value.items left names (ap (λ v. v.items) c.of-script.ensures ∙ sym (reverse-reverse xs) ∙ ap reverse (sym c.reverse.ensures.items)) c.loop-command.invariant.0 ready)
