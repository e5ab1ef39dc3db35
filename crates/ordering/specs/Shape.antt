-- What this crate's private functions cite. Definitions only; assumes nothing.
use Rattle.std.specs.Prelude.{Bool, not, ◌&&◌, cond, ℕ, ◌+◌, ◌-◌, ◌*◌, ◌<◌, ◌≤◌}
use Rattle.float_format.specs.Format.{Format, sign_bit, infinity, negative, unsigned, signed, is_nan, is_infinite}

-- two patterns of a format
pub record Operands (f : Format) (x y : ℕ) : Type 0 where
  pub first : x < 2 * sign_bit f
  pub second : y < 2 * sign_bit f

-- a pattern that is no NaN and no zero
pub record Nonzero (f : Format) (x : ℕ) : Type 0 where
  pub pattern : x < 2 * sign_bit f
  pub some : 0 < unsigned f x
  pub most : unsigned f x ≤ infinity f

-- the pattern beside x, where x is not zero: towards the numbers above it where up, else towards those below
unfoldable pub moved : Format → Bool → ℕ → ℕ
moved f up x = signed f (negative f x) (cond (cond (negative f x) (not up) up) (unsigned f x + 1) (unsigned f x - 1))

-- refusal 3 of an answer w: x is finite and w infinite
abbrev pub refusal : Format → ℕ → ℕ → ℕ
refusal f x w = cond (not (is_nan f x) && not (is_infinite f x) && is_infinite f w) 3 0
