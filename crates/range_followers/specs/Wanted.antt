-- The range that a control is wanted to have whose bounds follow other controls' values (of this project; so the driver of a sensor moves the range of exposure where
-- vertical blanking is set: Linux driver API, `v4l2_ctrl_modify_range`).
use Rattle.std.specs.Prelude.{ℕ, ◌-◌, ◌^◌, ℤ, pos, negsuc, ◌+ℤ◌, int_lt, Bool, true, false, not, ◌&&◌, ◌||◌, ◌==◌, if◌then◌else◌, List, find, Option, None, Some, is_some, slice_index_or}
use Rattle.std.specs.List.{list_any}
use Rattle.std.specs.Option.{option_map, option_and_then}
use Rattle.std.specs.Ordering.{int_eq}
use Rattle.ctrl_types.specs.Values.{is_same, number_of, zero_value}
use Rattle.ctrl_types.specs.declared.kind.Kind.{Kind}
use Rattle.ctrl_types.specs.declared.kind.Kind.TheVariants.{Integer, Integer64}
use Rattle.ctrl_types.specs.declared.value.CtrlValue.{CtrlValue}
use Rattle.ctrl_settle.specs.Control.{Control, with_range}
use Rattle.ctrl_settle.specs.Grid.{nearest}
use Rattle.range_followers.specs.declared.follower.DefaultSource.{DefaultSource}
use Rattle.range_followers.specs.declared.follower.DefaultSource.TheVariants.{Number, Value}
use Rattle.range_followers.specs.declared.follower.Follower.{Follower}
use Rattle.range_followers.specs.declared.follower.Source.{Source}

-- the lesser and the greater of two numbers
abbrev pub lesser : ℤ → ℤ → ℤ
lesser a b = if int_lt b a then b else a

abbrev pub greater : ℤ → ℤ → ℤ
greater a b = if int_lt a b then b else a

-- whether the bounds of the kind can follow
abbrev pub can_follow : Kind → Bool
can_follow Integer = true
can_follow Integer64 = true
can_follow _ = false

-- the least and the greatest number that the type holds
abbrev pub least_of : Kind → ℤ
least_of Integer64 = negsuc (2 ^ 63 - 1)
least_of _ = negsuc (2 ^ 31 - 1)

abbrev pub most_of : Kind → ℤ
most_of Integer64 = pos (2 ^ 63 - 1)
most_of _ = pos (2 ^ 31 - 1)

-- a number, cut to what the type holds
abbrev pub cut : Kind → ℤ → ℤ
cut kind number = lesser (greater number (least_of kind)) (most_of kind)

-- The minimum stays where it isn't asked to be another. Else it is the number that it is asked to be; the maximum, where that stays, isn't passed.
abbrev pub wanted_minimum : Control → Option ℤ → Bool → ℤ
wanted_minimum ctrl None moves_maximum = ctrl.minimum
wanted_minimum ctrl (Some low) true = cut ctrl.kind low
wanted_minimum ctrl (Some low) false = lesser (cut ctrl.kind low) ctrl.maximum

-- The maximum stays where it isn't asked to be another. Else it is the number that it is asked to be, and never below the minimum.
abbrev pub wanted_maximum : Control → ℤ → Option ℤ → ℤ
wanted_maximum ctrl minimum None = ctrl.maximum
wanted_maximum ctrl minimum (Some high) = greater (cut ctrl.kind high) minimum

-- a control with these bounds; its default is the value of this range that is nearest to a number
abbrev pub with_bounds : Control → ℤ → ℤ → ℤ → Control
with_bounds ctrl minimum maximum number =
    with_range ctrl minimum maximum ctrl.step (nearest (with_range ctrl minimum maximum ctrl.step minimum) (cut ctrl.kind number))

-- a control with the range that it is wanted to have, where its bounds are asked to be these numbers, and its default to be nearest to this one
abbrev pub wanted_of : Control → Option ℤ → Option ℤ → ℤ → Control
wanted_of ctrl low high number =
    with_bounds ctrl (wanted_minimum ctrl low (is_some high)) (wanted_maximum ctrl (wanted_minimum ctrl low (is_some high)) high) number

-- the same, where the bounds of the control can follow
abbrev pub wanted_where : Control → Option ℤ → Option ℤ → ℤ → Option Control
wanted_where ctrl low high number = if can_follow ctrl.kind then Some (wanted_of ctrl low high number) else None

-- the value of a control; 0 where it isn't there
abbrev pub value_at : List CtrlValue → ℕ → CtrlValue
value_at values c = slice_index_or values c zero_value

-- what a source makes of the values: the followed one, and the number
abbrev pub number_from : List CtrlValue → Source → ℤ
number_from values source = number_of (value_at values source.control) +ℤ source.plus

-- what a default is nearest to
abbrev pub default_from : List CtrlValue → DefaultSource → ℤ
default_from values (Number number) = number
default_from values (Value source) = number_from values source

-- a control with the range that it is wanted to have under some values, where this is how it follows
abbrev pub wanted_by : Control → List CtrlValue → Follower → Option Control
wanted_by ctrl values f =
    wanted_where ctrl (option_map (number_from values) f.minimum) (option_map (number_from values) f.maximum) (default_from values f.default_value)

-- how a control follows, where it does: the first follower of its number
abbrev pub follower_of : List Follower → ℕ → Option Follower
follower_of followers c = find (λ f. f.control == c) followers

-- a control of this number with the range that it is wanted to have; none where it follows nothing, or isn't of a kind that can
abbrev pub wanted_range : List Follower → ℕ → Control → List CtrlValue → Option Control
wanted_range followers c ctrl values = option_and_then (wanted_by ctrl values) (follower_of followers c)

-- whether two ranges of a control are the same; their steps are
abbrev pub has_range_of : Control → Control → Bool
has_range_of ctrl wanted = int_eq ctrl.minimum wanted.minimum && (int_eq ctrl.maximum wanted.maximum && int_eq ctrl.default_value wanted.default_value)

-- a range that is wanted, where the control has another
abbrev pub unless_there : Control → Option Control → Option Control
unless_there ctrl None = None
unless_there ctrl (Some wanted) = if has_range_of ctrl wanted then None else Some wanted

-- The range that is due: the one that the control is wanted to have, where it has another.
abbrev pub range_due : List Follower → ℕ → Control → List CtrlValue → Option Control
range_due followers c ctrl values = unless_there ctrl (wanted_range followers c ctrl values)

-- whether a followed value has become another
abbrev pub value_moved : List CtrlValue → List CtrlValue → Source → Bool
value_moved before after source = not (is_same (value_at before source.control) (value_at after source.control))

-- the same, where there is a source
abbrev pub source_moved : List CtrlValue → List CtrlValue → Option Source → Bool
source_moved before after None = false
source_moved before after (Some source) = value_moved before after source

abbrev pub default_moved : List CtrlValue → List CtrlValue → DefaultSource → Bool
default_moved before after (Number number) = false
default_moved before after (Value source) = value_moved before after source

-- whether a value that this follower follows has
abbrev pub has_moved : List CtrlValue → List CtrlValue → Follower → Bool
has_moved before after f = source_moved before after f.minimum || (source_moved before after f.maximum || default_moved before after f.default_value)

-- whether one that some follower follows has
abbrev pub have_moved : List Follower → List CtrlValue → List CtrlValue → Bool
have_moved followers before after = list_any (has_moved before after) followers
