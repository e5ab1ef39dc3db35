-- What the pieces of fmod cite: the sizes that a turn of the division is made for, the operands that have a remainder to be worked out,
-- and the scale of a pattern. Definitions only; assumes nothing.
use Rattle.std.specs.Prelude.{◌≡◌, Bool, ◌&&◌, ◌||◌, ℕ, ◌+◌, ◌-◌, ◌*◌, ◌/◌, ◌%◌, ◌^◌, ◌≤◌, ◌<◌, leb, ltb, eqb}
use Rattle.float_format.specs.Format.{Format, sign_bit, infinity, unsigned}
use Rattle.float_format.specs.Number.{magnitude}
use Rattle.float_format.specs.Width.{InWord}

-- One turn of the division: r, moved up by c places, is reduced by d. d has its leading one in the place of a normal number's.
pub record Turn (F r c d : ℕ) : Type 0 where
  pub least : 19 ≤ F
  pub most : F ≤ 52
  pub few : r < 2 * 2 ^ F
  pub near : c ≤ 11
  pub from : 2 ^ F ≤ d
  pub below : d < 2 * 2 ^ F

-- all turns together: m, moved up by n places
pub record Turns (F m d : ℕ) : Type 0 where
  pub least : 19 ≤ F
  pub most : F ≤ 52
  pub few : m < 2 * 2 ^ F
  pub from : 2 ^ F ≤ d
  pub below : d < 2 * 2 ^ F

-- the leading 20 bits of d and one more unit of the last: above d, for one that has its leading one in the place of a normal number's
abbrev pub top_of : ℕ → ℕ → ℕ
top_of F d = d / 2 ^ (F - 19) + 1

-- its reciprocal, in units of 2^-51
abbrev pub inverse_of : ℕ → ℕ → ℕ
inverse_of F d = 2 ^ 51 / top_of F d

-- one less than the exponent field, and 0 for a subnormal
abbrev pub scale_of : ℕ → ℕ → ℕ
scale_of F a = a / 2 ^ F - 1

-- operands for which the answer needs no division: not both finite, or y zero
abbrev pub is_special : Format → ℕ → ℕ → Bool
is_special f x y = leb (infinity f) (unsigned f x) || leb (infinity f) (unsigned f y) || eqb (unsigned f y) 0

-- the others, in a format whose significands the turns are made for
pub record Ordinary (f : Format) (x y : ℕ) : Type 0 where
  pub word : InWord f
  pub least : 19 ≤ f.fraction
  pub most : f.fraction ≤ 52
  pub pattern : x < 2 * sign_bit f
  pub finite_x : unsigned f x < infinity f
  pub finite_y : unsigned f y < infinity f
  pub nonzero : 0 < unsigned f y

-- both subnormal or zero: their patterns without the signs are their numbers of units
abbrev pub are_units : Format → ℕ → ℕ → Bool
are_units f x y = ltb (unsigned f x) (2 ^ f.fraction) && ltb (unsigned f y) (2 ^ f.fraction)

-- the remainder of such x and y as a number r of units of y's scale
pub record Left (f : Format) (x y r : ℕ) : Type 0 where
  pub few : r < 2 * 2 ^ f.fraction
  pub units : r * 2 ^ scale_of f.fraction (unsigned f y)
      ≡ magnitude f.fraction (unsigned f x) % magnitude f.fraction (unsigned f y)
