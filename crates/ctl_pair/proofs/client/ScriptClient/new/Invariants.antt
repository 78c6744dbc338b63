use Rattle.std.proofs.Common.{◌≡◌, All, take}
use Rattle.ctl_script.specs.Bindings.{bound_names, unbound}
use Rattle.ctl_pair.specs.Client.{CanBeAsked}
use Rattle.ctl_pair.proofs.client.ScriptClient.new.Given as goal

-- the commands so far have room for what they bind
abbrev pub invariant-loop-command : goal.invariant-loop-command
invariant-loop-command l = (bound_names l.names ≡ unbound) × All (CanBeAsked l.names) (take l.command-index l.fn.commands.items)
