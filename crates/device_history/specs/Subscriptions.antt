-- Which controls' events a file handle is subscribed to (Linux userspace API, "ioctl VIDIOC_SUBSCRIBE_EVENT,
-- VIDIOC_UNSUBSCRIBE_EVENT").
use Rattle.std.specs.Prelude.{ℕ, Bool, false, ◌&&◌, nat_eq, cond, [], ◌∷◌, Option, None, Some, is_some}
use Rattle.std.specs.Option.{option_or}
use Rattle.ctrl_types.specs.declared.ids.FhId.{FhId}
use Rattle.ctrl_types.specs.declared.sub_flags.SubFlags.{SubFlags}
use Rattle.device_history.specs.declared.ask.Step.{Step}
use Rattle.device_history.specs.declared.ask.Step.TheVariants as steps
use Rattle.device_history.specs.Steps.{Past}
use Rattle.device_history.specs.Handles.{handler_of}

-- how a step subscribes a file handle to a control, where it does
abbrev pub subscribed_by : FhId → ℕ → Step → Option SubFlags
subscribed_by fh c (steps.Subscribe f d flags) = cond (nat_eq f.0 fh.0 && nat_eq d c) (Some flags) None
subscribed_by fh c _ = None

-- whether this is the control
abbrev pub is_control : ℕ → Option ℕ → Bool
is_control c None = false
is_control c (Some d) = nat_eq d c

-- a step ends the subscription of a file handle to a control
abbrev pub is_ended_by : FhId → ℕ → Step → Bool
is_ended_by fh c (steps.Unsubscribe f d) = nat_eq f.0 fh.0 && is_control c d
is_ended_by fh c _ = false

-- what was entered since the last such step
unfoldable pub since_ended : FhId → ℕ → Past → Past
since_ended fh c [] = []
since_ended fh c (e ∷ older) = cond (is_ended_by fh c e.step) [] (e ∷ since_ended fh c older)

-- the flags of the first step that subscribes a file handle to a control
unfoldable pub first_flags : FhId → ℕ → Past → Option SubFlags
first_flags fh c [] = None
first_flags fh c (e ∷ older) = option_or (first_flags fh c older) (subscribed_by fh c e.step)

-- The flags of the subscription of an open file handle to a control, where there is one: those of the first subscription since the last
-- that was ended.
abbrev pub subscribed : Past → FhId → ℕ → Option SubFlags
subscribed past fh c = cond (is_some (handler_of past fh)) (first_flags fh c (since_ended fh c past)) None

-- What a step makes of a subscription, as the law `subscriptions` says: the first one counts until it is ended; a file handle that is closed has
-- none.
abbrev pub subscribed_after : Step → FhId → ℕ → Option SubFlags → Option SubFlags
subscribed_after (steps.CloseFh f) fh c before = cond (nat_eq f.0 fh.0) None before
subscribed_after step fh c before = cond (is_ended_by fh c step) None (option_or before (subscribed_by fh c step))
