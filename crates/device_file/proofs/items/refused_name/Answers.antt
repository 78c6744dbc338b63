-- What is wrong with the item is the misfit of its refusal.
use Rattle.std.proofs.Common.{ap, ◌∙◌}
use Rattle.file_faults.specs.declared.problem.Problem.{Problem}
use Rattle.device_file.specs.Refusals.{item_fault, refused}
use Rattle.device_file.proofs.items.refused_name.Goals as goal

pub returns : goal.returns
returns c = c.refused_item.ensures ∙ ap (λ (misfit : Problem). refused (item_fault c.args.index misfit) c.args.fault) c.name_problem_of.ensures
