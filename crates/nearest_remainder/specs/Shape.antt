-- What the pieces of remainder and remquo cite: a division of two magnitudes, in units of a scale that both have. Definitions only; assumes nothing.
use Rattle.std.specs.Prelude.{◌≡◌, ℕ, ◌-◌, ◌*◌, ◌/◌, ◌%◌, ◌^◌, ◌≤◌, ◌<◌}
use Rattle.std.specs.Float.Ieee.{unlike}
use Rattle.float_format.specs.Format.{Format, sign_bit, top_field, infinity, negative, exponent_field}
use Rattle.float_format.specs.Number.{magnitude}
use Rattle.float_format.specs.Rounding.{with_sign}
use Rattle.remainder.specs.Remainder.{fmod_refusal}
use Rattle.nearest_remainder.specs.Nearest.{remainder, remquo_quotient}

-- A cut division of a by b, patterns without their signs: q is the quotient modulo 8, and r is left of it, in units of 2^j, of which b has w.
pub record Divided (f : Format) (a b q r w j : ℕ) : Type 0 where
  pub few : w < 4 * 2 ^ f.fraction
  pub scale : j < top_field f
  pub divisor : w * 2 ^ j ≡ magnitude f.fraction b
  pub rest : r * 2 ^ j ≡ magnitude f.fraction a % magnitude f.fraction b
  pub quotient : q ≡ magnitude f.fraction a / magnitude f.fraction b % 8

-- Both are finite and normal, and x's exponent is not below y's, nor above it by more than a significand can be moved up in a word.
pub record Close (f : Format) (x y : ℕ) : Type 0 where
  pub normal : 0 < exponent_field f y
  pub from : exponent_field f y ≤ exponent_field f x
  pub upto : exponent_field f x - exponent_field f y ≤ 63 - f.fraction
  pub finite : exponent_field f x < top_field f

-- finite magnitudes, b not zero, in a format whose significands the divisions are made for
pub record Magnitudes (f : Format) (a b : ℕ) : Type 0 where
  pub most : f.fraction ≤ 52
  pub finite_a : a < infinity f
  pub finite_b : b < infinity f
  pub nonzero : 0 < b

-- An answer for x and y: the word, the quotient without its sign, and the refusal's number.
pub record Answered (f : Format) (x y w q r : ℕ) : Type 0 where
  pub word : w ≡ remainder f x y
  pub pattern : w < 2 * sign_bit f
  pub quotient : with_sign (unlike (negative f x) (negative f y)) q ≡ remquo_quotient f x y
  pub small : q < 8
  pub refusal : r ≡ fmod_refusal f x y
