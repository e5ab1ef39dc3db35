-- Formats, the fields of a pattern, its class, and quieting (document 01, "Numbers as whole numbers" and "Classify").
-- A format is given by its field sizes alone. A pattern is a whole number below 2 * sign_bit f: from the top one bit of sign, the
-- exponent field, the fraction. Definitions only; assumes nothing.
use Rattle.std.specs.Prelude.{Bool, not, ◌&&◌, cond, ℕ, ◌+◌, ◌-◌, ◌*◌, ◌/◌, ◌%◌, ◌^◌, ◌≤◌, ◌<◌, leb, eqb}
use Rattle.std.specs.Int.Bits.{bit_or}
use Rattle.float_format.specs.declared.Class.{Class}
use Rattle.float_format.specs.declared.Class.TheVariants.{Nan, Infinite, Zero, Subnormal, Normal}

-- ---- formats

pub record Format : Type 0 where
  -- how many bits the fraction has, and how many the exponent field
  pub fraction : ℕ
  pub exponent : ℕ

abbrev pub binary64 : Format
binary64 = record { fraction = 52; exponent = 11 }

abbrev pub binary32 : Format
binary32 = record { fraction = 23; exponent = 8 }

abbrev pub binary16 : Format
binary16 = record { fraction = 10; exponent = 5 }

-- What the laws over an open format ask of it: one half and one are normal numbers, and the numbers that are all whole begin below
-- infinity. Every interchange format has this.
pub record Valid (f : Format) : Type 0 where
  pub some_fraction : 1 ≤ f.fraction
  pub some_exponent : 3 ≤ f.exponent
  pub near : f.fraction < 2 ^ (f.exponent - 1)

-- the sign's weight in a pattern
abbrev pub sign_bit : Format → ℕ
sign_bit f = 2 ^ (f.exponent + f.fraction)

-- the largest exponent field: 2047, 255, 31
abbrev pub top_field : Format → ℕ
top_field f = 2 ^ f.exponent - 1

-- the pattern of positive infinity
abbrev pub infinity : Format → ℕ
infinity f = top_field f * 2 ^ f.fraction

-- the top bit of the fraction, which a quiet NaN has set
abbrev pub quiet_bit : Format → ℕ
quiet_bit f = 2 ^ (f.fraction - 1)

-- 7ff8000000000000, 7fc00000, 7e00
abbrev pub default_nan : Format → ℕ
default_nan f = infinity f + quiet_bit f

-- ---- fields

abbrev pub negative : Format → ℕ → Bool
negative f x = leb (sign_bit f) x

-- the pattern without its sign
abbrev pub unsigned : Format → ℕ → ℕ
unsigned f x = x % sign_bit f

abbrev pub exponent_field : Format → ℕ → ℕ
exponent_field f x = unsigned f x / 2 ^ f.fraction

abbrev pub fraction_field : Format → ℕ → ℕ
fraction_field f x = unsigned f x % 2 ^ f.fraction

-- the pattern with the sign s and the rest a
abbrev pub signed : Format → Bool → ℕ → ℕ
signed f s a = cond s (sign_bit f) 0 + a

-- the sign cleared, and flipped
unfoldable pub absolute : Format → ℕ → ℕ
absolute f x = unsigned f x

unfoldable pub negated : Format → ℕ → ℕ
negated f x = signed f (not (negative f x)) (unsigned f x)

-- ---- classes

unfoldable pub is_nan : Format → ℕ → Bool
is_nan f x = eqb (exponent_field f x) (top_field f) && not (eqb (fraction_field f x) 0)

unfoldable pub is_infinite : Format → ℕ → Bool
is_infinite f x = eqb (exponent_field f x) (top_field f) && eqb (fraction_field f x) 0

unfoldable pub is_zero : Format → ℕ → Bool
is_zero f x = eqb (exponent_field f x) 0 && eqb (fraction_field f x) 0

unfoldable pub is_subnormal : Format → ℕ → Bool
is_subnormal f x = eqb (exponent_field f x) 0 && not (eqb (fraction_field f x) 0)

-- the number that document 01 gives to a class
abbrev pub class_number : Class → ℕ
class_number Nan = 0
class_number Infinite = 1
class_number Zero = 2
class_number Subnormal = 3
class_number Normal = 4

unfoldable pub classify : Format → ℕ → Class
classify f x =
    cond (is_nan f x) Nan (cond (is_infinite f x) Infinite (cond (is_zero f x) Zero (cond (is_subnormal f x) Subnormal Normal)))

-- ---- NaNs

-- "quieted": the same pattern with the top fraction bit set
unfoldable pub quieted : Format → ℕ → ℕ
quieted f x = bit_or x (quiet_bit f)

-- what a function of one number hands on of a pattern that is not finite: a NaN quieted, an infinity unchanged
unfoldable pub propagated : Format → ℕ → ℕ
propagated f x = cond (is_nan f x) (quieted f x) x
