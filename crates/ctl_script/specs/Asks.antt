-- What the commands of a script ask of a device (of this project).
use Rattle.std.specs.Prelude.{◌≡◌, ℕ, List, [], ◌∷◌, map, length, Option, None, Some}
use Rattle.ctrl_types.specs.declared.ids.ExtControl.{ExtControl}
use Rattle.ctrl_types.specs.declared.ids.FhId.{FhId}
use Rattle.ctrl_types.specs.declared.ids.RequestId.{RequestId}
use Rattle.device_history.specs.declared.ask.Ask.{Ask}
use Rattle.device_history.specs.declared.ask.Ask.TheVariants as asks
use Rattle.device_history.specs.Refusals.{Answer}
use Rattle.script_lines.specs.declared.command.Command.{Command}
use Rattle.script_lines.specs.declared.command.Command.TheVariants as commands
use Rattle.script_lines.specs.declared.command.WhichWord.{WhichWord}
use Rattle.script_lines.specs.declared.command.WhichWord.TheVariants.{Number, Request}
use Rattle.script_lines.specs.declared.name.Name.{Name}
use Rattle.ctl_script.specs.Bindings.{Bound, binding_of, answer_bound, unbound}

-- the file handle and the request that a name stands for
abbrev pub fh_bound : Bound → Name → FhId
fh_bound bound name = record { 0 = bound.file_handles name }

abbrev pub request_bound : Bound → Name → RequestId
request_bound bound name = record { 0 = bound.requests name }

-- the number by which a list says which values it is about, and the request where it is about one's
abbrev pub which_bound : Bound → WhichWord → ℕ × Option RequestId
which_bound bound (Number number) = (number, None)
which_bound bound (Request name) = (0x0f010000, Some (request_bound bound name))

-- an ask about a list of controls
abbrev pub list_ask_by : (FhId → ℕ → Option RequestId → List ExtControl → Ask) → Bound → Name → WhichWord → List ExtControl → Ask
list_ask_by make bound fh which list = make (fh_bound bound fh) (which_bound bound which).0 (which_bound bound which).1 list

-- what a command asks while names stand for this; an audit asks nothing
abbrev pub asked_by : Bound → Command → Option Ask
asked_by bound (commands.Open fh handler) = Some (asks.OpenFh handler)
asked_by bound (commands.Close fh) = Some (asks.CloseFh (fh_bound bound fh))
asked_by bound (commands.Get fh which list) = Some (list_ask_by asks.GetCtrls bound fh which list)
asked_by bound (commands.Set fh which list) = Some (list_ask_by asks.SetCtrls bound fh which list)
asked_by bound (commands.Try fh which list) = Some (list_ask_by asks.TryCtrls bound fh which list)
asked_by bound (commands.Grab control on) = Some (asks.Grab control on)
asked_by bound (commands.Range control min max step default_value) = Some (asks.ModifyRange control min max step default_value)
asked_by bound (commands.Query fh id) = Some (asks.Query (fh_bound bound fh) id)
asked_by bound (commands.Next fh id) = Some (asks.NextId (fh_bound bound fh) id)
asked_by bound (commands.Menu fh id index) = Some (asks.MenuItem (fh_bound bound fh) id index)
asked_by bound (commands.Told cluster) = Some (asks.Told cluster)
asked_by bound (commands.Alloc request) = Some asks.Alloc
asked_by bound (commands.Buffer request buffer) = Some (asks.AddBuffer (request_bound bound request) buffer)
asked_by bound (commands.Queue request) = Some (asks.Queue (request_bound bound request))
asked_by bound (commands.Cancel request) = Some (asks.Cancel (request_bound bound request))
asked_by bound (commands.Reinit request) = Some (asks.Reinit (request_bound bound request))
asked_by bound (commands.Free request) = Some (asks.Free (request_bound bound request))
asked_by bound (commands.State request) = Some (asks.StateOf (request_bound bound request))
asked_by bound (commands.Row place) = Some (asks.Forecast place)
asked_by bound commands.Begin = Some asks.Begin
asked_by bound commands.Complete = Some asks.Complete
asked_by bound commands.Off = Some asks.StreamOff
asked_by bound (commands.Subscribe fh id flags) = Some (asks.Subscribe (fh_bound bound fh) id flags)
asked_by bound (commands.Unsubscribe fh id) = Some (asks.Unsubscribe (fh_bound bound fh) id)
asked_by bound (commands.Take fh) = Some (asks.Take (fh_bound bound fh))
asked_by bound commands.Audit = None

-- what names stand for behind a command; one that has no answer binds nothing
abbrev pub bound_behind : Command → Option Answer → Bound → Bound
bound_behind command (Some answer) bound = answer_bound (binding_of command) answer bound
bound_behind command None bound = bound

-- what the commands of a script ask where they are answered so: each by what names stand for behind those before it
abbrev pub asked_in : Bound → List Command → List (Option Answer) → List (Option Ask)
asked_in bound (command ∷ commands) (answer ∷ answers) = asked_by bound command ∷ asked_in (bound_behind command answer bound) commands answers
asked_in bound [] answers = []
asked_in bound (command ∷ commands) [] = []

-- what names stand for behind these commands
abbrev pub all_bound : Bound → List Command → List (Option Answer) → Bound
all_bound bound (command ∷ commands) (answer ∷ answers) = all_bound (bound_behind command answer bound) commands answers
all_bound bound [] answers = bound
all_bound bound (command ∷ commands) [] = bound

-- A transcript has each command of a script once, in order, asked with the ids that its names stood for then, by the answers that it has.
pub record IsTranscript (script : List Command) (said : List (Ask × Option Answer)) : Type 0 where
  pub each : length said ≡ length script
  pub asked : map (λ line. Some line.0) said ≡ asked_in unbound script (map (λ line. line.1) said)
