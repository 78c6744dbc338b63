use Rattle.std.proofs.Common.{◌≡◌, ◌==◌, drop, find}
use Rattle.range_followers.proofs.wanted.follower_of.Given as goal

-- the first of this number stands among those that are left
abbrev pub invariant-loop-follower : goal.invariant-loop-follower
invariant-loop-follower l =
    find (λ f. f.control == l.control) (drop l.follower-index l.followers)
    ≡ find (λ f. f.control == l.control) l.followers
