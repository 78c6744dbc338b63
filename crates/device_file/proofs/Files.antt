-- Why a text is refused.
use Rattle.std.proofs.Common.{◌≡◌, ◌≤◌, ◌<◌, ◌∙◌, inl, inr, ℕ, List, length, Some, None, option_map, refl, ap}
use Rattle.std.specs.Str.{IsUtf8}
use Rattle.toml.specs.Data.{Members}
use Rattle.toml.specs.Parse.{parse_document}
use Rattle.toml.specs.declared.de.error.Error.{Error}
use Rattle.device_file.specs.Devices.{IsRefusedWith, IsUnreadable, device_of, in_file}
use Rattle.device_file.specs.Stops.{FileStops}
use Rattle.device_file.specs.declared.device.TheConstants.{MAX_FILE}
use Rattle.file_faults.specs.declared.fault.FileFault.{FileFault}
use Rattle.file_faults.specs.declared.fault.FileFault.TheVariants as files
use Rattle.file_faults.specs.declared.problem.Problem.TheVariants as problems

pub too_long : (text : List ℕ) (fault : FileFault) → MAX_FILE < length text → fault ≡ in_file problems.TooLong → IsUnreadable text fault
too_long text fault long said = inr (inl (record { long = long; said = said }))

pub no_toml : (text : List ℕ) (error : Error) (fault : FileFault) → length text ≤ MAX_FILE → (IsUtf8 text → parse_document text ≡ None)
    → fault ≡ in_file (problems.Syntax error) → IsUnreadable text fault
no_toml text error fault short no_document said = inr (inr (record { short = short; no_document = no_document; error = error; said = said }))

pub unread : (text : List ℕ) (fault : FileFault) → IsUnreadable text fault → IsRefusedWith text fault
unread text fault h = inl h

pub first_fault : (text : List ℕ) (file : Members) (fault : FileFault) → length text ≤ MAX_FILE → parse_document text ≡ Some file
    → FileStops (device_of file) fault → IsRefusedWith text fault
first_fault text file files.Memory short parsed stops = inl (inl refl)
first_fault text file (files.Table place fault) short parsed stops =
    inr (record { short = short; first = ap (option_map device_of) parsed ∙ ap Some stops })
