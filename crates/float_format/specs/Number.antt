-- The number that a pattern stands for, as a whole number of units, and the order of numbers (document 01, "Numbers as whole
-- numbers"). A unit is the format's smallest subnormal: 2^-1074, 2^-149, 2^-24. An infinity's pattern counts by the same rule, which puts it
-- beyond every finite number. Definitions only; assumes nothing.
use Rattle.std.specs.Prelude.{Bool, not, ◌&&◌, cond, ℕ, suc, ◌+◌, ◌-◌, ◌*◌, ◌/◌, ◌%◌, ◌^◌, ◌≤◌, ltb, eqb}
use Rattle.std.specs.Int.Count.{count_leading_zeros}
use Rattle.std.specs.Float.Ieee.{size}
use Rattle.float_format.specs.Format.{Format, sign_bit, negative, unsigned, is_nan, is_infinite}

-- ---- units

-- how many units a pattern without its sign stands for, F being the fraction bits: m when the field e is 0, else (2^F + m) * 2^(e - 1)
unfoldable pub magnitude : ℕ → ℕ → ℕ
magnitude F a = cond (eqb (a / 2 ^ F) 0) (a % 2 ^ F) ((2 ^ F + a % 2 ^ F) * 2 ^ (a / 2 ^ F - 1))

-- the pattern, without a sign, of a number of units that the format holds: the leading suc F digits are kept, and the field says how
-- many stand below them
unfoldable pub encode : ℕ → ℕ → ℕ
encode F n = (size n - suc F) * 2 ^ F + n / 2 ^ (size n - suc F)

-- one, in units
abbrev pub bias : Format → ℕ
bias f = 2 ^ (f.exponent - 1) - 1

abbrev pub one : Format → ℕ
one f = 2 ^ (bias f + f.fraction - 1)

-- how far m's leading one stands below the place of a normal number's, F being the fraction bits: by m's leading zeros in a word
abbrev pub leading_shift : ℕ → ℕ → ℕ
leading_shift F m = count_leading_zeros 64 m - (63 - F)

-- the units of a pattern, without its sign
abbrev pub units_of : Format → ℕ → ℕ
units_of f x = magnitude f.fraction (unsigned f x)

-- a finite number without a fraction: a whole number of ones
unfoldable pub is_integral : Format → ℕ → Bool
is_integral f x = not (is_nan f x) && not (is_infinite f x) && eqb (units_of f x % one f) 0

-- how far two numbers of units are apart
abbrev pub distance : ℕ → ℕ → ℕ
distance a b = (a - b) + (b - a)

-- ---- order

-- the units that a pattern's number lies above zero, and below it: at least one of them is 0, and the number is their difference
unfoldable pub above : Format → ℕ → ℕ
above f x = cond (negative f x) 0 (magnitude f.fraction (unsigned f x))

unfoldable pub under : Format → ℕ → ℕ
under f x = cond (negative f x) (magnitude f.fraction (unsigned f x)) 0

-- x's number is at most y's: above x - under x ≤ above y - under y, with no difference taken. The two zeros are equal.
abbrev pub AtMost : Format → ℕ → ℕ → Type 0
AtMost f x y = above f x + under f y ≤ above f y + under f x

-- x's number is below y's, as a test
abbrev pub below : Format → ℕ → ℕ → Bool
below f x y = ltb (above f x + under f y) (above f y + under f x)

-- A whole number by which patterns compare as their numbers do: the sign's weight, and the rest of the pattern added or taken away.
unfoldable pub rank : Format → ℕ → ℕ
rank f x = cond (negative f x) (sign_bit f - unsigned f x) (sign_bit f + unsigned f x)
