-- The numbers by which Linux names errors and kinds of control.
use Rattle.std.specs.Prelude.{ℕ}
use Rattle.ctrl_types.specs.declared.errno.Errno.{Errno}
use Rattle.ctrl_types.specs.declared.errno.Errno.TheVariants.{ENOENT, EBADF, ENOMEM, EACCES, EBUSY, EINVAL, ENOSPC, ERANGE}
use Rattle.ctrl_types.specs.declared.kind.Kind.{Kind}
use Rattle.ctrl_types.specs.declared.kind.Kind.TheVariants.{Integer, Boolean, Menu, Button, Integer64, Bitmask, IntegerMenu, U8}

-- an error's number, as errno.h has it
abbrev pub errno_number : Errno → ℕ
errno_number ENOENT = 2
errno_number EBADF = 9
errno_number ENOMEM = 12
errno_number EACCES = 13
errno_number EBUSY = 16
errno_number EINVAL = 22
errno_number ENOSPC = 28
errno_number ERANGE = 34

-- a kind's number, as enum v4l2_ctrl_type has it
abbrev pub kind_number : Kind → ℕ
kind_number Integer = 1
kind_number Boolean = 2
kind_number Menu = 3
kind_number Button = 4
kind_number Integer64 = 5
kind_number Bitmask = 8
kind_number IntegerMenu = 9
kind_number U8 = 256
