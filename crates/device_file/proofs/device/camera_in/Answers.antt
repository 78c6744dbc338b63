-- The headings are those that the plan of the first reading says.
use Rattle.toml.specs.View.{table_view}
use Rattle.device_file.specs.Devices.{data_of}
use Rattle.device_file.proofs.Cameras.{camera_read}
use Rattle.device_file.proofs.device.camera_in.Goals as goal

pub returns-in-Ok-clause-ok : goal.returns-in-Ok-clause-ok
returns-in-Ok-clause-ok c =
    let parts = c.in_ok-parts.parts in
    camera_read (table_view c.args.file.now) (data_of c.in_ok-plain.plain) parts.builder c.add_headings.new.builder parts.words parts.followers.items parts.classes c.finish.result
    c.in_ok-plain.ensures.ok c.in_ok-parts.ensures.ok c.in-Ok.ensures c.finish.ensures.ok
