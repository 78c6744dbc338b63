-- A device with headings, made of two readings of one file.
use Rattle.std.proofs.Common.{◌≡◌, ◌∙◌, List, Result, Ok, Err, IfOk, sym, ap}
use Rattle.toml.specs.Data.{Members}
use Rattle.ctrl_handlers.specs.Plan.{PlanData, finished}
use Rattle.range_followers.specs.declared.follower.Follower.{Follower}
use Rattle.script_lines.specs.ControlWords.{ControlWord}
use Rattle.file_faults.specs.Faults.{read_then}
use Rattle.file_faults.specs.declared.fault.FileFault.{FileFault}
use Rattle.device_file.specs.Classes.{ClassName}
use Rattle.device_file.specs.Devices.{FileData, camera_of, data_of, device_of, file_of, parts_of, with_plan}
use Rattle.device_file.specs.Headings.{headed, with_headings}
use Rattle.device_file.specs.declared.device.DeviceFile.{DeviceFile}
use Rattle.device_file.proofs.Finishing.{headed_first}

-- what was read, or something else where nothing was
abbrev read_or : FileData → Result FileData FileFault → FileData
read_or other (Ok it) = it
read_or other (Err fault) = other

-- the plan of the one reading says which headings the plan of the other gets
pub with_both : (file : Members) (plain : FileData) (plan made : PlanData) (words : List ControlWord) (followers : List Follower) (classes : List ClassName) (it : FileData)
    → device_of file ≡ Ok plain → parts_of file ≡ Ok (file_of plan words followers classes) → made ≡ with_headings plain.device.plan plan
    → it ≡ file_of (finished made) words followers classes → camera_of file ≡ Ok it
with_both file plain plan made words followers classes it read parts headings is =
    ap (read_then (λ (d : FileData). Ok (with_plan d (headed d.device.plan)))) again
    ∙ sym (ap Ok (is ∙ ap of_plan (ap finished (headings ∙ ap (λ (d : FileData). with_headings d.device.plan plan) same) ∙ headed_first plan)))
  where
    of_plan : PlanData → FileData
    of_plan finished_plan = file_of finished_plan words followers classes

    again : device_of file ≡ Ok (of_plan (finished plan))
    again = ap (read_then (λ (d : FileData). Ok (with_plan d (finished d.device.plan)))) parts

    same : plain ≡ of_plan (finished plan)
    same = ap (read_or plain) (sym read ∙ again)

-- so it is where the plan is finished
pub camera_read : (file : Members) (plain : FileData) (plan made : PlanData) (words : List ControlWord) (followers : List Follower) (classes : List ClassName) (result : Result DeviceFile FileFault)
    → device_of file ≡ Ok plain → parts_of file ≡ Ok (file_of plan words followers classes) → made ≡ with_headings plain.device.plan plan
    → IfOk result (λ it. data_of it ≡ file_of (finished made) words followers classes) → IfOk result (λ it. camera_of file ≡ Ok (data_of it))
camera_read file plain plan made words followers classes (Ok it) read parts headings is = with_both file plain plan made words followers classes (data_of it) read parts headings is
camera_read file plain plan made words followers classes (Err fault) read parts headings is = is
