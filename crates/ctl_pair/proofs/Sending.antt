-- A script may go to another thread.
use denote.Param.Send.{IsSend, sendable, recorded_send, struct_send}
use denote.Struct.Declared.{shape}
use Rattle.std.proofs.Crossing.{crosses}
use Rattle.ctrl_types.specs.contracts.errno.Fault as fault
use Rattle.device_history.specs.contracts.ask.Ask as ask
use Rattle.device_history.specs.contracts.ask.Reply as reply
use Rattle.script_lines.specs.contracts.command.Command as command
use Rattle.ctl_script.specs.contracts.names.Bindings as bindings
use Rattle.ctl_script.specs.contracts.binding.Binding as binding
use Rattle.ctl_pair.specs.contracts.client.ScriptClient as client

command_send : IsSend command.the_row
command_send = search (sendable, crosses) depth 40 fits 20000

bindings_send : IsSend (bindings.the_field).row
bindings_send = search (sendable, crosses) depth 40

binding_send : IsSend (binding.the_field).row
binding_send = search sendable depth 20

ask_send : IsSend ask.the_row
ask_send = search (sendable, crosses) depth 40 fits 20000

reply_send : IsSend reply.the_row
reply_send = search (sendable, crosses) depth 40 fits 20000

fault_send : IsSend fault.the_row
fault_send = search sendable depth 20

pub client_send : IsSend client.the_row
client_send =
    let O = client.the_type in
    recorded_send (client.the_field).row _ _ O.to_one
    (struct_send (shape O) (search (sendable, crosses) depth 20, (bindings_send, (search (command_send, sendable, crosses) depth 40, (binding_send, (search (ask_send, reply_send, fault_send, sendable, crosses) depth 40, tt))))))
