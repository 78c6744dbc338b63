use Rattle.std.proofs.Common.{◌≡◌, ◌<◌, ℕ, slice_get}
use Rattle.std.specs.Option.{option_map}
use Rattle.req_book.specs.Alike.{compared}
use Rattle.req_book.proofs.objects.Objects.is_like_below.Given as goal

-- the requests so far are alike
abbrev pub invariant-loop-place : goal.invariant-loop-place
invariant-loop-place l = (place : ℕ) → place < l.place → option_map compared (slice_get l.self.all place) ≡ option_map compared (slice_get l.other.all place)
