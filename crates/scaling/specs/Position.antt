-- What the pieces of frexp and ldexp cite: a power of two as its up part and its down part, and where a number's significand stands once
-- the number is scaled. Definitions only; assumes nothing.
use Rattle.std.specs.Prelude.{◌≡◌, ℕ, suc, ◌+◌, ◌*◌, ◌^◌, ◌<◌, ◌≤◌, ◌⊎◌, ℤ, pos, negsuc}
use Rattle.float_format.specs.Format.{Format, top_field, infinity, unsigned}
use Rattle.float_format.specs.Number.{magnitude}

-- 2 ^ n is 2 ^ raise n / 2 ^ lower n
abbrev pub raise : ℤ → ℕ
raise (pos k) = k
raise (negsuc k) = 0

abbrev pub lower : ℤ → ℕ
lower (pos k) = 0
lower (negsuc k) = suc k

-- the significand m, its leading one in place, of the finite x, which is m * 2 ^ fore / 2 ^ back units
pub record Significand (f : Format) (x m fore back : ℕ) : Type 0 where
  pub from : 2 ^ f.fraction ≤ m
  pub below : m < 2 * 2 ^ f.fraction
  pub units : magnitude f.fraction (unsigned f x) * 2 ^ back ≡ m * 2 ^ fore
  pub finite : unsigned f x < infinity f
  pub fore_short : fore < top_field f
  pub back_short : back ≤ f.fraction

-- The exponent field of x times 2 ^ n would be t, were there no end to the fields: m * 2 ^ (t - 1) units. t is a word, in which a number
-- below zero is 2 ^ 64 more, as n is one of 64 bits.
pub record Position (f : Format) (x m t : ℕ) (n : ℤ) : Type 0 where
  pub fore : ℕ
  pub back : ℕ
  pub significand : Significand f x m fore back
  pub raise_lt : raise n < 2 ^ 63
  pub lower_le : lower n ≤ 2 ^ 63
  pub word : t < 2 ^ 64
  pub place : (t + (lower n + back) ≡ suc (fore + raise n)) ⊎ (t + (lower n + back) ≡ 2 ^ 64 + suc (fore + raise n))
