-- How far a script's client has come at its seat: what its fields are to each other, of the code and no rule.
use Rattle.std.specs.Prelude.{◌≡◌, true, List, [], ◌∷◌, ◌++◌, map, reverse, length, All, Option, Some}
use Rattle.device_history.specs.declared.ask.Ask.{Ask}
use Rattle.device_history.specs.Refusals.{Answer}
use Rattle.script_lines.specs.declared.command.Command.{Command}
use Rattle.ctl_script.specs.Asks.{asked_in, all_bound}
use Rattle.ctl_script.specs.Bindings.{binding_of, bound_names, is_entered, unbound}
use Rattle.ctl_pair.specs.Scripts.{IsAsk}
use Rattle.ctl_script.specs.declared.binding.Binding.{Binding}
use Rattle.ctl_script.specs.declared.binding.Binding.TheVariants as bindings
use Rattle.ctl_script.specs.declared.names.Bindings.{Bindings}

-- what the last of these commands binds
abbrev pub last_binding : List Command → Binding
last_binding [] = bindings.None
last_binding (command ∷ []) = binding_of command
last_binding (command ∷ next ∷ commands) = last_binding (next ∷ commands)

-- it asks something, and there is room for what it binds
abbrev pub CanBeAsked : Bindings → Command → Type 0
CanBeAsked names command = IsAsk command × (is_entered names (binding_of command) ≡ true)

-- Of a script these commands were asked, and these are still to be, the last of them next; and this was said so far.
pub record HasCome (script done left : List Command) (names : Bindings) (binding : Binding) (said : List (Ask × Option Answer)) : Type 0 where
  pub split : script ≡ done ++ reverse left
  pub each : length said ≡ length done
  pub asked : map (λ line. Some line.0) said ≡ asked_in unbound done (map (λ line. line.1) said)
  -- what names stand for now, and what the last command binds
  pub bound : bound_names names ≡ all_bound unbound done (map (λ line. line.1) said)
  pub binding_is : binding ≡ last_binding done
  pub entered : is_entered names binding ≡ true
  pub ready : All (CanBeAsked names) left
