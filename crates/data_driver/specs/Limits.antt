-- What a limit makes of a row, the values of a cluster's members (Linux driver API, "V4L2 Controls", "Control Clusters": what `try_ctrl`
-- answers, and what it leaves in the cluster's values; the limits are of this project).
use Rattle.std.specs.Prelude.{ℕ, ℤ, pos, negsuc, ◌+ℤ◌, ◌*ℤ◌, int_lt, int_le, ◌&&◌, if◌then◌else◌, [], ◌∷◌, List, Option, None, Some, slice_get, slice_set}
use Rattle.std.specs.Option.{option_and_then}
use Rattle.std.specs.Ordering.{int_eq}
use Rattle.ctrl_types.specs.Values.{number_of}
use Rattle.ctrl_types.specs.declared.value.CtrlValue.{CtrlValue}
use Rattle.ctrl_types.specs.declared.value.CtrlValue.TheVariants.{Number, Bytes}
use Rattle.ctrl_calls.specs.declared.verdict.Verdict.{Verdict}
use Rattle.ctrl_calls.specs.declared.verdict.Verdict.TheVariants.{Accept, Refuse}
use Rattle.ctrl_types.specs.declared.errno.Errno.TheVariants.{EINVAL}
use Rattle.data_driver.specs.declared.limit.Excess.{Excess}
use Rattle.data_driver.specs.declared.limit.Excess.TheVariants.{Refused, Lowered}
use Rattle.data_driver.specs.declared.limit.Limit.{Limit}
use Rattle.data_driver.specs.declared.limit.Limit.TheVariants.{Sum, Product, AtMost, AtMostMember, AtMostWhile}

-- the number that a value is; an array has none
abbrev pub number_in : CtrlValue → Option ℤ
number_in (Number number) = Some number
number_in (Bytes _) = None

-- the number at a place, where the row has the place and no array there
abbrev pub number_at : List CtrlValue → ℕ → Option ℤ
number_at row place = option_and_then number_in (slice_get row place)

-- all numbers together; an array adds nothing
abbrev pub sum_of_values : List CtrlValue → ℤ
sum_of_values [] = pos 0
sum_of_values (value ∷ row) = number_of value +ℤ sum_of_values row

-- one member's number times another's, where the row has both
abbrev pub product : Option ℤ → Option ℤ → Option ℤ
product (Some first) (Some second) = Some (first *ℤ second)
product _ _ = None

-- a member's number and a margin, where the row has it
abbrev pub with_margin : Option ℤ → ℤ → Option ℤ
with_margin (Some value) margin = Some (value +ℤ margin)
with_margin None margin = None

-- the lesser of two
abbrev pub lesser : ℤ → ℤ → ℤ
lesser a b = if int_le a b then a else b

-- the least value of 64 bits
abbrev pub least : ℤ
least = negsuc 9223372036854775807

-- a row is refused where the number is above the most, or where it lacks the number of a member that is named
abbrev pub refused_above : Option ℤ → Option ℤ → List CtrlValue → Verdict
refused_above (Some number) (Some most) row = if int_lt most number then Refuse EINVAL else Accept row
refused_above _ _ row = Refuse EINVAL

-- the value at a place becomes the lesser of it and the most; a row is refused where the most is below every value of 64 bits, or where it lacks
-- the number of a member that is named
abbrev pub lowered_to : ℕ → Option ℤ → Option ℤ → List CtrlValue → Verdict
lowered_to place (Some value) (Some most) row =
    if int_lt most least then Refuse EINVAL else Accept (slice_set row place (Number (lesser value most)))
lowered_to place _ _ row = Refuse EINVAL

-- the value at a place is at most this: the row is refused, or the value lowered
abbrev pub limited_to : Excess → ℕ → Option ℤ → Option ℤ → List CtrlValue → Verdict
limited_to Refused place value most row = refused_above value most row
limited_to Lowered place value most row = lowered_to place value most row

-- while the other member has that value, a row is refused where the one is above the most; also where it lacks the number of one of them
abbrev pub refused_while : Option ℤ → ℤ → Option ℤ → ℤ → List CtrlValue → Verdict
refused_while (Some value) most (Some other) when row =
    if int_eq other when && int_lt most value then Refuse EINVAL else Accept row
refused_while _ most _ when row = Refuse EINVAL

-- what a limit makes of a row
abbrev pub verdict_of : Limit → List CtrlValue → Verdict
verdict_of (Sum most) row = refused_above (Some (sum_of_values row)) (Some most) row
verdict_of (Product first second most) row =
    refused_above (product (number_at row first) (number_at row second)) (Some most) row
verdict_of (AtMost member most excess) row = limited_to excess member (number_at row member) (Some most) row
verdict_of (AtMostMember member other margin excess) row =
    limited_to excess member (number_at row member) (with_margin (number_at row other) margin) row
verdict_of (AtMostWhile member most other when) row =
    refused_while (number_at row member) most (number_at row other) when row

-- the places that a limit names
abbrev pub limit_places : Limit → List ℕ
limit_places (Sum most) = []
limit_places (Product first second most) = first ∷ second ∷ []
limit_places (AtMost member most excess) = member ∷ []
limit_places (AtMostMember member other margin excess) = member ∷ other ∷ []
limit_places (AtMostWhile member most other when) = member ∷ other ∷ []
