-- What the commands of a script bind, and what its names stand for then (of this project).
use Rattle.std.specs.Prelude.{ℕ, Bool, true, if◌then◌else◌, unwrap_or, is_some, Ok}
use Rattle.indexmap.specs.IndexMap.{get}
use Rattle.device_history.specs.declared.ask.Reply.TheVariants as replies
use Rattle.device_history.specs.Refusals.{Answer}
use Rattle.script_lines.specs.declared.command.Command.{Command}
use Rattle.script_lines.specs.declared.command.Command.TheVariants.{Open, Alloc}
use Rattle.script_lines.specs.declared.name.Name.{Name}
use Rattle.script_lines.specs.contracts.name.NamePartialEq.TheImpl as name_eq
use Rattle.ctl_script.specs.declared.binding.Binding.{Binding}
use Rattle.ctl_script.specs.declared.binding.Binding.TheVariants.{None, FileHandle, Request}
use Rattle.ctl_script.specs.declared.names.Bindings.{Bindings}
use Rattle.ctl_script.specs.declared.names.Names.{Names}

-- what a command binds where it is accepted
abbrev pub binding_of : Command → Binding
binding_of (Open fh handler) = FileHandle fh
binding_of (Alloc request) = Request request
binding_of _ = None

-- what the names of a script stand for; file handles and requests have separate ones
pub record Bound : Type 0 where
  pub file_handles : Name → ℕ
  pub requests : Name → ℕ

-- no name is bound: each stands for an id that no file handle and no request has
abbrev pub unbound : Bound
unbound = record { file_handles = λ name. 4294967295; requests = λ name. 4294967295 }

abbrev pub is_same_name : Name → Name → Bool
is_same_name = (name_eq.ghosts).eq

-- this name stands for this id, and any other for what it stood for
abbrev pub with_id : Name → ℕ → (Name → ℕ) → Name → ℕ
with_id bound id ids name = if is_same_name name bound then id else ids name

-- what names stand for once a command is answered: what an accepted one gives is bound, and else all stays
abbrev pub answer_bound : Binding → Answer → Bound → Bound
answer_bound (FileHandle name) (Ok (replies.Fh fh)) bound = record { file_handles = with_id name fh.0 bound.file_handles; requests = bound.requests }
answer_bound (Request name) (Ok (replies.Request request)) bound = record { file_handles = bound.file_handles; requests = with_id name request.0 bound.requests }
answer_bound _ _ bound = bound

-- a table has the name, and what the name stands for there
abbrev pub is_bound : Names → Name → Bool
is_bound names name = is_some (get is_same_name names.ids name)

abbrev pub ids_in : Names → Name → ℕ
ids_in names name = unwrap_or (get is_same_name names.ids name) 4294967295

-- of both tables: there is room for the binding, and what all names stand for
abbrev pub is_entered : Bindings → Binding → Bool
is_entered names None = true
is_entered names (FileHandle name) = is_bound names.file_handles name
is_entered names (Request name) = is_bound names.requests name

abbrev pub bound_names : Bindings → Bound
bound_names names = record { file_handles = ids_in names.file_handles; requests = ids_in names.requests }
