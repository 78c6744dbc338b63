-- Which controls a follower follows (of this project).
use Rattle.std.specs.Prelude.{ℕ, Bool, true, false, not, ◌&&◌, Option, None, Some, nat_eq}
use Rattle.range_followers.specs.declared.follower.DefaultSource.{DefaultSource}
use Rattle.range_followers.specs.declared.follower.DefaultSource.TheVariants.{Number, Value}
use Rattle.range_followers.specs.declared.follower.Follower.{Follower}
use Rattle.range_followers.specs.declared.follower.Source.{Source}

-- what a default follows, if anything
abbrev pub source_of : DefaultSource → Option Source
source_of (Number number) = None
source_of (Value source) = Some source

-- whether the control that is followed passes a test; where none is, it does
abbrev pub passes : (ℕ → Bool) → Option Source → Bool
passes test None = true
passes test (Some source) = test source.control

-- whether each control that a follower follows passes a test
abbrev pub each_followed : (ℕ → Bool) → Follower → Bool
each_followed test f = passes test f.minimum && (passes test f.maximum && passes test (source_of f.default_value))

-- whether a follower follows a control
abbrev pub is_followed_by : Follower → ℕ → Bool
is_followed_by f c = not (each_followed (λ s. not (nat_eq s c)) f)

-- whether it follows any
abbrev pub follows_any : Follower → Bool
follows_any f = not (each_followed (λ _. false) f)
