-- The numbers that products are taken modulo: those with their leading one at 2^55, each with the reciprocal of its leading 32 bits. Definitions
-- only; assumes nothing.
use Rattle.std.specs.Prelude.{◌≡◌, ℕ, ◌+◌, ◌/◌, ◌^◌, ◌<◌, ◌≤◌}

-- the leading 32 bits of d and one more unit of the last: above d
abbrev pub top_of : ℕ → ℕ
top_of d = d / 2 ^ 24 + 1

pub record Modulus (d inverse : ℕ) : Type 0 where
  pub from : 2 ^ 55 ≤ d
  pub below : d < 2 ^ 56
  -- in units of 2^-63
  pub reciprocal : inverse ≡ 2 ^ 63 / top_of d
