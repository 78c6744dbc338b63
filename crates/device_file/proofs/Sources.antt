-- What a key follows isn't read where the control of that name isn't.
use Rattle.std.proofs.Common.{◌≡◌, ◌∙◌, ℕ, ℤ, List, Option, Some, Result, Ok, Err, sym, ap}
use Rattle.ctrl_settle.specs.Control.{Control}
use Rattle.range_followers.specs.declared.follower.Follower.{Follower}
use Rattle.range_followers.specs.declared.follower.Source.{Source}
use Rattle.script_lines.specs.ControlWords.{ControlWord}
use Rattle.file_faults.specs.Faults.{read_then}
use Rattle.file_faults.specs.declared.fault.KeyFault.{KeyFault}
use Rattle.file_faults.specs.declared.key.Key.{Key}
use Rattle.device_file.specs.Ranges.{source_by, source_named}

pub unread : (controls : List Control) (words : List ControlWord) (followers : List Follower) (key : Key) (name : List ℕ) (plus : ℤ) (named : Option (List ℕ)) (fault : KeyFault)
    → named ≡ Some name → source_named controls words followers key name plus ≡ Err fault → Err fault ≡ source_by controls words followers key named plus
unread controls words followers key name plus named fault is failed =
    sym (ap (λ (it : Option (List ℕ)). source_by controls words followers key it plus) is
    ∙ ap (λ (it : Result Source KeyFault). read_then (λ (source : Source). Ok (Some source)) it) failed)
