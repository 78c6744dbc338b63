-- Why the reading of a table, or of a whole file, stops (of this project).
use Rattle.std.specs.Prelude.{◌≡◌, Result, Err}
use Rattle.file_faults.specs.declared.fault.FileFault.{FileFault}
use Rattle.file_faults.specs.declared.fault.FileFault.TheVariants as files
use Rattle.file_faults.specs.declared.fault.KeyFault.{KeyFault}
use Rattle.file_faults.specs.declared.place.Place.{Place}
use Rattle.device_file.specs.declared.stop.ReadError.{ReadError}
use Rattle.device_file.specs.declared.stop.ReadError.TheVariants as errors

-- why reading a table stops: memory is wanting, or there is a fault, and then it is the first
abbrev pub Stops : {A : Type 0} → Result A KeyFault → ReadError → Type 0
Stops wanted errors.Memory = Unit {0}
Stops wanted (errors.Key fault) = wanted ≡ Err fault

-- such a stop, as that of a whole file whose table stands at this place
abbrev pub stop_at : Place → ReadError → FileFault
stop_at place errors.Memory = files.Memory
stop_at place (errors.Key fault) = files.Table place fault

-- why reading a whole file stops
abbrev pub FileStops : {A : Type 0} → Result A FileFault → FileFault → Type 0
FileStops wanted files.Memory = Unit {0}
FileStops wanted (files.Table place fault) = wanted ≡ Err (files.Table place fault)
