-- The checks that can refuse an ask: which errno each has (Linux userspace API, "Generic Error Codes"; which of them are the manuals' and which this
-- project's, docs/RULES.md says at each), and which number in docs/RULES.md (of this project).
use Rattle.std.specs.Prelude.{ℕ, Option, None, Some, Result, Ok, Err}
use Rattle.ctrl_types.specs.declared.check.Check.{Check}
use Rattle.ctrl_types.specs.declared.check.Check.TheVariants as checks
use Rattle.ctrl_types.specs.declared.errno.Errno.{Errno}
use Rattle.ctrl_types.specs.declared.errno.Errno.TheVariants.{ENOENT, EBADF, ENOMEM, EACCES, EBUSY, EINVAL, ENOSPC, ERANGE}

-- the errno that an ask is refused with; of a cluster that doesn't take its row the one that it comes with: of the first member that doesn't settle, or else of
-- judging
abbrev pub errno_of : Check → Errno
errno_of checks.ListHandleNotOpen = EBADF
errno_of checks.WhichUnknown = EINVAL
errno_of checks.DefaultsWritten = EINVAL
errno_of checks.ListRequestMissing = EINVAL
errno_of checks.ListRequestNotIdle = EBUSY
errno_of checks.ListRequestNotComplete = EACCES
errno_of checks.TooManyEntries = EINVAL
errno_of checks.ClassNotShown = EINVAL
errno_of checks.EntryNotShown = EINVAL
errno_of checks.EntryOfOtherClass = EINVAL
errno_of checks.EntryDisabled = EINVAL
errno_of checks.EntryWriteOnly = EACCES
errno_of checks.EntryReadOnly = EACCES
errno_of checks.EntryGrabbed = EBUSY
errno_of checks.ValueOutsideMenu = ERANGE
errno_of checks.ValueSkipped = EINVAL
errno_of checks.ValueNotOfKind = EINVAL
errno_of (checks.RowRefused errno) = errno
errno_of checks.ListHistoryFull = ENOSPC
errno_of checks.HandlerMissing = EINVAL
errno_of checks.TooManyHandles = ENOSPC
errno_of checks.HandleNotOpen = EBADF
errno_of checks.ControlMissing = EINVAL
errno_of checks.ClusterMissing = EINVAL
errno_of checks.IdNotShown = EINVAL
errno_of checks.NoGreaterId = EINVAL
errno_of checks.ItemMissing = EINVAL
errno_of checks.TooManyRequests = ENOSPC
errno_of checks.RequestMissing = EINVAL
errno_of checks.NotIdle = EBUSY
errno_of checks.AlreadyHasBuffer = EBUSY
errno_of checks.BufferHeld = EBUSY
errno_of checks.BufferMissing = ENOENT
errno_of checks.FrameRunning = EBUSY
errno_of checks.QueueEmpty = ENOENT
errno_of checks.NoFrameRunning = ENOENT
errno_of checks.RequestRunning = EBUSY
errno_of checks.NotQueued = EINVAL
errno_of checks.StillPending = EBUSY
errno_of checks.NotComplete = EACCES
errno_of checks.NothingQueuedThere = ENOENT
errno_of checks.NoEventWaits = ENOENT
errno_of checks.HistoryFull = ENOSPC
errno_of checks.MemoryRefused = ENOMEM
errno_of checks.RangeReversed = ERANGE
errno_of checks.RangeStepZero = ERANGE
errno_of checks.RangeNotOfKind = ERANGE
errno_of checks.RangeDefaultNotTaken = ERANGE

-- a check's number in docs/RULES.md, as an ask is refused by it
abbrev pub check_number : Check → ℕ
check_number checks.ListHandleNotOpen = 1
check_number checks.WhichUnknown = 2
check_number checks.DefaultsWritten = 2
check_number checks.ListRequestMissing = 3
check_number checks.ListRequestNotIdle = 3
check_number checks.ListRequestNotComplete = 3
check_number checks.TooManyEntries = 4
check_number checks.ClassNotShown = 5
check_number checks.EntryNotShown = 6
check_number checks.EntryOfOtherClass = 6
check_number checks.EntryDisabled = 6
check_number checks.EntryWriteOnly = 7
check_number checks.EntryReadOnly = 7
check_number checks.EntryGrabbed = 7
check_number checks.ValueOutsideMenu = 7
check_number checks.ValueSkipped = 7
check_number checks.ValueNotOfKind = 7
check_number (checks.RowRefused errno) = 8
check_number checks.ListHistoryFull = 9
check_number checks.HandlerMissing = 10
check_number checks.TooManyHandles = 11
check_number checks.HandleNotOpen = 12
check_number checks.ControlMissing = 13
check_number checks.ClusterMissing = 14
check_number checks.IdNotShown = 15
check_number checks.NoGreaterId = 16
check_number checks.ItemMissing = 17
check_number checks.TooManyRequests = 18
check_number checks.RequestMissing = 19
check_number checks.NotIdle = 20
check_number checks.AlreadyHasBuffer = 21
check_number checks.BufferHeld = 22
check_number checks.BufferMissing = 23
check_number checks.FrameRunning = 24
check_number checks.QueueEmpty = 25
check_number checks.NoFrameRunning = 26
check_number checks.RequestRunning = 27
check_number checks.NotQueued = 28
check_number checks.StillPending = 29
check_number checks.NotComplete = 30
check_number checks.NothingQueuedThere = 31
check_number checks.NoEventWaits = 32
check_number checks.HistoryFull = 33
check_number checks.MemoryRefused = 34
check_number checks.RangeReversed = 55
check_number checks.RangeStepZero = 55
check_number checks.RangeNotOfKind = 55
check_number checks.RangeDefaultNotTaken = 55

-- the check of a value or of a range that is meant, where an ask's check is made of several
abbrev pub part_of : Check → Option ℕ
part_of checks.ValueOutsideMenu = Some 51
part_of checks.ValueSkipped = Some 52
part_of checks.ValueNotOfKind = Some 57
part_of checks.RangeReversed = Some 35
part_of checks.RangeStepZero = Some 36
part_of checks.RangeNotOfKind = Some 37
part_of checks.RangeDefaultNotTaken = Some 38
part_of _ = None

-- an answer that tells the errno of the check that refuses
abbrev pub with_errno : {X : Type 0} → Result X Check → Result X Errno
with_errno (Ok x) = Ok x
with_errno (Err check) = Err (errno_of check)
