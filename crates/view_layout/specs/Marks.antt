-- How a control fares in a queued frame (of this project).
use Rattle.std.specs.Prelude.{Bool, if◌then◌else◌, not, ◌&&◌, is_some}
use Rattle.ctrl_types.specs.Values.{is_same}
use Rattle.view_layout.specs.declared.cell.Cell.{Cell}
use Rattle.view_layout.specs.declared.cell.Look.{Look}
use Rattle.view_layout.specs.declared.cell.Mark.{Mark}
use Rattle.view_layout.specs.declared.cell.Mark.TheVariants as marks

-- the same value, and INACTIVE in both or in neither
abbrev pub is_alike : Look → Look → Bool
is_alike before behind = is_same before.value behind.value && (if before.is_inactive then behind.is_inactive else not behind.is_inactive)

-- a value that is asked for in vain comes first: the control is as before then
abbrev pub mark : Cell → Mark
mark cell =
    if cell.is_refused && is_some cell.asked then marks.Refused
    else if is_alike cell.before cell.behind then marks.Stays
    else marks.Changes
