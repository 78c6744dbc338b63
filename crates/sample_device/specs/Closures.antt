-- Which relation each closure of the sample's driver answers by (of this project).
use Rattle.std.specs.Prelude.{None, Some}
use Rattle.ctrl_calls.specs.declared.relation.Relation.{Relation}
use Rattle.ctrl_calls.specs.declared.relation.Relations.{Relations}
use Rattle.ctrl_handlers.specs.Plan.{PlanData}
use Rattle.sample_device.specs.Sample.{whole_sample}
use Rattle.sample_device.specs.declared.driver.Judge.{Judge}
use Rattle.sample_device.specs.declared.driver.Judge.TheVariants.{OfGain, OfBalance}
use Rattle.sample_device.specs.declared.driver.Teller.{Teller}
use Rattle.sample_device.specs.declared.driver.Teller.TheVariants.{OfPair, OfButton, OfBrightness}
use Rattle.sample_device.specs.declared.driver.TheConstants.{GAIN_LIMIT, BALANCE_LIMIT, PAIR_WORDS, BUTTON_WORDS, BRIGHTNESS_WORDS}

-- what a validator judges by
abbrev pub limit_of : Judge → Relation
limit_of OfGain = GAIN_LIMIT
limit_of OfBalance = BALANCE_LIMIT

-- what a notifier tells by
abbrev pub words_of : Teller → Relation
words_of OfPair = PAIR_WORDS
words_of OfButton = BUTTON_WORDS
words_of OfBrightness = BRIGHTNESS_WORDS

-- the calls of a pair of controls
abbrev pub pair_calls : Relation → Relations
pair_calls limit = record { validator = Some limit; notifier = Some PAIR_WORDS }

-- the calls of a control without a validator
abbrev pub told_calls : Relation → Relations
told_calls words = record { validator = None; notifier = Some words }

-- the sample device with its driver's closures
abbrev pub own_sample : PlanData
own_sample = whole_sample (pair_calls GAIN_LIMIT) (pair_calls BALANCE_LIMIT) (told_calls BUTTON_WORDS) (told_calls BRIGHTNESS_WORDS)
