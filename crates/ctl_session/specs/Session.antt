-- What a session is seen as, and what an ask of it does (of this project).
use Rattle.std.specs.Prelude.{◌≡◌, ◌⊎◌, ℕ, Bool, true, List, Option, None, Ok, Err}
use Rattle.history.specs.Past.{past}
use Rattle.ctrl_calls.specs.Meanings.{Verdicts}
use Rattle.ctrl_types.specs.Numbers.{errno_number}
use Rattle.ctrl_types.specs.Refusals.{memory_refusal}
use Rattle.ctrl_types.specs.declared.errno.Errno.TheVariants.{ENOMEM}
use Rattle.ctrl_types.specs.declared.refusal.Refusal.{Refusal}
use Rattle.device_history.specs.declared.ask.Ask.{Ask}
use Rattle.device_history.specs.AskChecks.{published, refusal_of}
use Rattle.device_history.specs.Refusals.{Answer}
use Rattle.device_state.specs.Device.{DeviceData}
use Rattle.range_followers.specs.declared.follower.Follower.{Follower}
use Rattle.following_ranges.specs.declared.asking.RangeAsk.{RangeAsk}
use Rattle.following_ranges.specs.Following.{HandlesAndFollows, is_change}

-- A session: its device, how ranges of it follow other controls, and whether one that was refused is owed.
pub record SessionData : Type 0 where
  pub device : DeviceData
  pub followers : List Follower
  pub owed : Bool

-- no room was made
abbrev pub without_room : Answer
without_room = Err (record { errno = ENOMEM; index = None })

-- The device handles an ask, and the ranges follow that are to.
abbrev pub Follows : Verdicts → SessionData → SessionData → Ask → Answer → Type 0
Follows verdicts old new ask answer =
    (new.followers ≡ old.followers) × (new.device.plan ≡ old.device.plan)
    × ((ranges : List RangeAsk) × HandlesAndFollows verdicts old.followers old.device new.device old.owed new.owed 0 ask answer ranges)

-- A session that was only asked what would refuse an ask stays as it is, but for the counts of its device's last call.
abbrev pub Stays : SessionData → SessionData → Type 0
Stays old new = new ≡ record old { device = record old.device { work = new.device.work } }

-- What an ask of a session does: that; or, where it can be a change, there was no room for the answers of ranges, and nothing was asked.
abbrev pub Asked : Verdicts → SessionData → SessionData → Ask → Answer → Type 0
Asked verdicts old new ask answer = Follows verdicts old new ask answer ⊎ ((is_change ask ≡ true) × (new ≡ old) × (answer ≡ published ask (Err memory_refusal)))

-- what would refuse an ask, where memory suffices
abbrev pub refusal_in : Verdicts → SessionData → Ask → Option Refusal
refusal_in verdicts session ask = refusal_of verdicts session.device.plan (past session.device.steps) ask

-- the errno of an answer, 0 for none
abbrev pub errno_in : Answer → ℕ
errno_in (Ok reply) = 0
errno_in (Err fault) = errno_number fault.errno
