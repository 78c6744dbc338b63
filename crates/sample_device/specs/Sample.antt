-- The sample device (of this project), and what its driver means by its relations.
use Rattle.std.specs.Prelude.{◌≡◌, ℕ, ℤ, pos, negsuc, ◌+ℤ◌, ◌*ℤ◌, ◌≤ℤ◌, int_lt, int_le, if◌then◌else◌, ⊤, true, false, [], ◌∷◌, ◌++◌, List, None, Some, ◌==◌, codes, MatchBool}
use Rattle.ctrl_types.specs.declared.value.CtrlValue.{CtrlValue}
use Rattle.ctrl_types.specs.declared.value.CtrlValue.TheVariants.{Number}
use Rattle.ctrl_calls.specs.Meanings.{Verdicts, Words}
use Rattle.ctrl_calls.specs.declared.relation.Relations.{Relations}
use Rattle.ctrl_calls.specs.declared.verdict.Verdict.{Verdict}
use Rattle.ctrl_calls.specs.declared.verdict.Verdict.TheVariants.{Accept, Refuse}
use Rattle.ctrl_types.specs.declared.errno.Errno.TheVariants.{EINVAL}
use Rattle.ctrl_types.specs.declared.kind.Kind.TheVariants.{Boolean, Integer, Menu, Button}
use Rattle.ctrl_types.specs.declared.flags.Flags.{Flags}
use Rattle.ctrl_settle.specs.Control.{Control, described, described_array}
use Rattle.ctrl_handlers.specs.ClusterData.{ClusterData}
use Rattle.ctrl_handlers.specs.Plan.{PlanData, no_handler, alone, with_control}
use Rattle.menu_items.specs.declared.item.MenuItem.TheVariants.{Name}

abbrev pub no_flags : Flags
no_flags = record { 0 = 0 }

-- off or on, on at the start
abbrev pub autogain : Control
autogain = described (record { 0 = 0x00980912 }) Boolean (pos 0) (pos 1) 1 (pos 1) 0 no_flags false

-- 0 to 255, 16 at the start
abbrev pub gain : Control
gain = described (record { 0 = 0x00980913 }) Integer (pos 0) (pos 255) 1 (pos 16) 0 no_flags false

-- off or on, off at the start
abbrev pub flip : ℕ → Control
flip id = described (record { 0 = id }) Boolean (pos 0) (pos 1) 1 (pos 0) 0 no_flags false

-- 0, 3, 6 or 9, 0 at the start; handlers that add this one's don't show it
abbrev pub hue : Control
hue = described (record { 0 = 0x00980903 }) Integer (pos 0) (pos 10) 3 (pos 0) 0 no_flags true

-- -64, -60, .. 64, 0 at the start
abbrev pub brightness : Control
brightness = described (record { 0 = 0x00980900 }) Integer (negsuc 63) (pos 64) 4 (pos 0) 0 no_flags false

-- three items, of which the second stands at the start; a fourth is skipped and has no name
abbrev pub power : Control
power = described (record { 0 = 0x00980918 }) Menu (pos 0) (pos 3) 1 (pos 1) 8 no_flags false

-- something to press
abbrev pub button : Control
button = described (record { 0 = 0x0098090d }) Button (pos 0) (pos 0) 0 (pos 0) 0 no_flags false

-- a share of a colour: 0 to 255, 128 at the start
abbrev pub balance : ℕ → Control
balance id = described (record { 0 = id }) Integer (pos 0) (pos 255) 1 (pos 128) 0 no_flags false

-- two handlers, and the controls of the first: autogain, gain, hflip, vflip and hue, numbered 0 to 4
abbrev pub first_controls : PlanData
first_controls = record {
  controls = autogain ∷ gain ∷ flip 0x00980914 ∷ flip 0x00980915 ∷ hue ∷ [];
  handlers = record { own = 0 ∷ 1 ∷ 2 ∷ 3 ∷ 4 ∷ []; added = [] } ∷ no_handler ∷ [];
  items = [];
  clusters = [];
  followers = [];
}

-- The sample device's handlers and controls. Handler 1 has brightness, power, button, red and blue, numbered 5 to 9, and adds
-- handler 0.
abbrev pub sample_controls : PlanData
sample_controls = record {
  controls = autogain ∷ gain ∷ flip 0x00980914 ∷ flip 0x00980915 ∷ hue ∷ brightness ∷ power ∷ button ∷ balance 0x0098090e ∷ balance 0x0098090f ∷ [];
  handlers = record { own = 0 ∷ 1 ∷ 2 ∷ 3 ∷ 4 ∷ []; added = [] } ∷ record { own = 5 ∷ 6 ∷ 7 ∷ 8 ∷ 9 ∷ []; added = 0 ∷ [] } ∷ [];
  items = [];
  clusters = [];
  followers = [];
}

-- the sample device before a cluster is named: the items of power have names
abbrev pub sample_before : PlanData
sample_before = record sample_controls {
  items = ((6, 0), Name (codes "Disabled")) ∷ ((6, 1), Name (codes "50 Hz")) ∷ ((6, 2), Name (codes "60 Hz")) ∷ [];
}

-- The sample device's named clusters: 0 is the auto cluster of autogain and gain, whose manual value is 0, 1 is red and blue, 2 is
-- the button, and 3 is brightness.
abbrev pub clusters_with_calls : Relations → Relations → Relations → Relations → List ClusterData
clusters_with_calls of_gain of_balance of_button of_brightness =
    record { members = 0 ∷ 1 ∷ []; manual = Some (pos 0); calls = of_gain }
    ∷ record { members = 8 ∷ 9 ∷ []; manual = None; calls = of_balance }
    ∷ record { members = 7 ∷ []; manual = None; calls = of_button }
    ∷ record { members = 5 ∷ []; manual = None; calls = of_brightness }
    ∷ []

-- the sample device with its named clusters
abbrev pub sample : Relations → Relations → Relations → Relations → PlanData
sample of_gain of_balance of_button of_brightness = record sample_before {
  clusters = clusters_with_calls of_gain of_balance of_button of_brightness;
}

-- the whole sample device: hflip, vflip, hue and power are alone in clusters 4 to 7
abbrev pub whole_sample : Relations → Relations → Relations → Relations → PlanData
whole_sample of_gain of_balance of_button of_brightness = record sample_before {
  clusters = clusters_with_calls of_gain of_balance of_button of_brightness ++ alone 2 ∷ alone 3 ∷ alone 4 ∷ alone 6 ∷ [];
}

-- four weights, each 0, 10, .. 250, 0 at the start
abbrev pub weights : Control
weights = described_array (record { 0 = 0x00981000 }) 4 (pos 0) (pos 250) 10 (pos 0) no_flags false

-- the array device: the sample device with its named clusters, and weights, numbered 10, behind the other controls of handler 1
abbrev pub array_sample : Relations → Relations → Relations → Relations → PlanData
array_sample of_gain of_balance of_button of_brightness = with_control (sample of_gain of_balance of_button of_brightness) 1 weights

-- the lesser of two
abbrev pub lesser : ℤ → ℤ → ℤ
lesser a b = if int_le a b then a else b

-- relation 1: of two values the second is at most the first bound
abbrev pub limited : List ℤ → List CtrlValue → Verdict
limited (limit ∷ rest) (Number first ∷ Number second ∷ []) = Accept (Number first ∷ Number (lesser second limit) ∷ [])
limited _ row = Accept row

-- relation 2: two values whose sum is above the first bound are refused
abbrev pub bounded_sum : List ℤ → List CtrlValue → Verdict
bounded_sum (limit ∷ rest) (Number first ∷ Number second ∷ []) = if int_lt limit (first +ℤ second) then Refuse EINVAL else Accept (Number first ∷ Number second ∷ [])
bounded_sum _ row = Accept row

-- what the sample driver's validators make of a row; under another relation it is accepted as it is
abbrev pub sample_verdict : Verdicts
sample_verdict relation row =
    if relation.number == 1 then limited relation.bounds row
    else if relation.number == 2 then bounded_sum relation.bounds row
    else Accept row

-- neither below 0 nor above 2147483647
abbrev pub IsSmall : ℤ → Type 0
IsSmall value = (pos 0 ≤ℤ value) × (value ≤ℤ pos 2147483647)

-- relation 11: 256 times the first value and the second, of two values that are neither below 0 nor above 2147483647
abbrev pub IsJoined : List CtrlValue → ℕ → Type 0
IsJoined (Number first ∷ Number second ∷ []) word = IsSmall first → IsSmall second → pos word ≡ pos 256 *ℤ first +ℤ second
IsJoined _ word = ⊤

-- a word between the first two bounds, both included
abbrev pub IsBetween : List ℤ → ℕ → Type 0
IsBetween (low ∷ high ∷ rest) word = (low ≤ℤ pos word) × (pos word ≤ℤ high)
IsBetween _ word = ⊤

-- relation 12: of one value a word between the bounds
abbrev pub IsAllowed : List ℤ → List CtrlValue → ℕ → Type 0
IsAllowed bounds (Number value ∷ []) word = IsBetween bounds word
IsAllowed bounds _ word = ⊤

-- relation 13: the value and 64, of a value that isn't below -64
abbrev pub IsShifted : List CtrlValue → ℕ → Type 0
IsShifted (Number value ∷ []) word = negsuc 63 ≤ℤ value → pos word ≡ value +ℤ pos 64
IsShifted _ word = ⊤

-- what the sample driver's notifiers may say; under another relation they may say anything
abbrev pub sample_told : Words
sample_told relation row word =
    MatchBool (relation.number == 11) (IsJoined row word)
    (MatchBool (relation.number == 12) (IsAllowed relation.bounds row word)
    (MatchBool (relation.number == 13) (IsShifted row word) ⊤))
