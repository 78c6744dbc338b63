-- The values of a number control (Linux driver API, "V4L2 Controls"): the minimum, one step more, and so on, never
-- above the maximum. What is asked for is rounded to the nearest of them.
use Rattle.std.specs.Prelude.{◌≡◌, ℕ, zero, suc, ◌*◌, ◌≤◌, ℤ, pos, ◌+ℤ◌, ◌-ℤ◌, ◌≤ℤ◌, unsigned_abs, int_le, nat_lt, if◌then◌else◌}
use Rattle.ctrl_settle.specs.Control.{Control}

-- how far apart two numbers are
abbrev pub distance : ℤ → ℤ → ℕ
distance a b = unsigned_abs (a -ℤ b)

-- the minimum and k steps
abbrev pub grid_value : Control → ℕ → ℤ
grid_value c k = c.minimum +ℤ pos (k * c.step)

-- g is a value of the grid
pub record IsOnGrid (c : Control) (g : ℤ) : Type 0 where
  pub steps : (k : ℕ) × (g ≡ grid_value c k)
  pub within : g ≤ℤ c.maximum

-- g is the value of the grid that is nearest to v, of two at the same distance the larger
pub record IsNearest (c : Control) (v g : ℤ) : Type 0 where
  pub on_grid : IsOnGrid c g
  pub no_nearer : (other : ℤ) → IsOnGrid c other → distance v g ≤ distance v other
  pub larger_on_tie : (other : ℤ) → IsOnGrid c other → distance v other ≡ distance v g → other ≤ℤ g

-- the nearer to v of two values, on a tie the second
abbrev pub nearer : ℤ → ℤ → ℤ → ℤ
nearer v low high = if nat_lt (distance v low) (distance v high) then low else high

-- the nearest to v of the minimum and the values up to k steps above it
unfoldable pub nearest_within : ℕ → Control → ℤ → ℤ
nearest_within zero c v = c.minimum
nearest_within (suc k) c v =
    if int_le (grid_value c (suc k)) c.maximum
    then nearer v (nearest_within k c v) (grid_value c (suc k))
    else nearest_within k c v

-- the nearest to v of all values of the grid: from the minimum to the maximum there are no more steps than numbers
unfoldable pub nearest : Control → ℤ → ℤ
nearest c v = nearest_within (distance c.maximum c.minimum) c v
