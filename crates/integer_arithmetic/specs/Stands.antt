-- How a word stands for an exact number that is to be rounded, and a pair of words for a pattern's units. Definitions only; assumes nothing.
use Rattle.std.specs.Prelude.{◌≡◌, ◌⊎◌, ℕ, ◌+◌, ◌-◌, ◌*◌, ◌/◌, ◌%◌, ◌^◌, ◌≤◌, ◌<◌}
use Rattle.float_format.specs.Format.{Format}
use Rattle.float_format.specs.Number.{magnitude, units_of}
use Rattle.float_format.specs.Width.{InWord}

-- a format whose significands a word of 62 digits holds with nine to spare, and whose exponents' sums it holds
pub record Fits (f : Format) : Type 0 where
  pub word : InWord f
  pub short : f.fraction ≤ 52
  pub few : f.exponent ≤ 32

-- ---- a word for an exact number

-- n in parts of v: w of them, or w is the odd one of the two next to it
abbrev pub Sticky : ℕ → ℕ → ℕ → Type 0
Sticky n v w = (n ≡ w * v) ⊎ ((w % 2 ≡ 1) × (w * v < n + v) × (n < w * v + v))

-- n / u units are w * 2 ^ t / 2 ^ b, v being u * 2 ^ t / 2 ^ b; a w that is not exact has digits enough
pub record Stands (w t b n u : ℕ) : Type 0 where
  pub v : ℕ
  pub some : 0 < u
  pub near : Sticky n v w
  pub long : n ≡ w * v ⊎ 2 ^ 54 ≤ w
  pub scale : v * 2 ^ b ≡ u * 2 ^ t

-- ---- a pattern a without its sign

-- its units are m * 2 ^ scale
pub record Scaled (f : Format) (a m scale : ℕ) : Type 0 where
  pub units : magnitude f.fraction a ≡ m * 2 ^ scale
  pub below : m < 2 * 2 ^ f.fraction
  pub from : 0 < scale → 2 ^ f.fraction ≤ m
  pub is : scale ≡ a / 2 ^ f.fraction - 1
  pub upto : scale < 2 ^ 40

-- the same with the leading one in place, and the scale counted from the fraction's digits below
pub record Led (f : Format) (a m scale : ℕ) : Type 0 where
  pub units : magnitude f.fraction a * 2 ^ f.fraction ≡ m * 2 ^ scale
  pub from : 2 ^ f.fraction ≤ m
  pub below : m < 2 * 2 ^ f.fraction
  pub upto : scale < 2 ^ 41

-- ---- the two terms of a sum, x's magnitude the larger

-- how many parts a unit is cut into, so that a significand's leading one is digit 60
abbrev pub lift : Format → ℕ
lift f = 2 ^ (60 - f.fraction)

-- x's units are `large` parts of 2 ^ scale / lift, and y's units are `small` of them, or next to it; where they are not exactly that, x's
-- magnitude is far above y's
pub record Aligned (f : Format) (x y large small scale : ℕ) : Type 0 where
  pub fits : Fits f
  pub order : units_of f y ≤ units_of f x
  pub even : large % 2 ≡ 0
  pub below : large < 2 ^ 61
  pub smaller : small ≤ large
  pub head : units_of f x * lift f ≡ large * 2 ^ scale
  pub near : Sticky (units_of f y * lift f) (2 ^ scale) small
  pub far : units_of f y * lift f ≡ small * 2 ^ scale ⊎ (2 ^ 60 ≤ large) × (small ≤ 2 ^ 59)
  pub upto : scale < 2 ^ 40
