use Rattle.std.proofs.Common.{rules}
use Rattle.std.proofs.lemmas.Fn.{filter_same}
use Rattle.ctrl_clusters.proofs.rising.leave_out.Goals as goal

pub returns-clause-others : goal.returns-clause-others
returns-clause-others c = filter_same _ _ _ (λ x b f' k. search rules) _ _ c.retain.ensures.filtered
