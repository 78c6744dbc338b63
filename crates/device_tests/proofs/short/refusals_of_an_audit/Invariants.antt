use Rattle.std.proofs.Common.{IfSome}
use Rattle.data_driver.specs.Data.{data_verdict}
use Rattle.history_audit.specs.Replay.{IsProgressOf}
use Rattle.device_tests.proofs.short.refusals_of_an_audit.Given as goal

-- what was put aside is of the device
abbrev pub invariant-loop-times : goal.invariant-loop-times
invariant-loop-times l = IfSome l.made (IsProgressOf data_verdict l.device.plan l.device.steps)
