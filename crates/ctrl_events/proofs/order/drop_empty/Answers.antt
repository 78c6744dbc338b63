use Rattle.std.proofs.Common.{rules, ◌∙◌}
use Rattle.std.proofs.lemmas.Fn.{filter_same}
use Rattle.ctrl_events.proofs.OrderLemmas.{filtered}
use Rattle.ctrl_events.proofs.order.drop_empty.Goals as goal

pub returns-clause-numbers : goal.returns-clause-numbers
returns-clause-numbers c = filter_same _ _ _ (λ x b f' k. search rules) _ _ c.retain.ensures.filtered ∙ filtered c.args.log.now.items
