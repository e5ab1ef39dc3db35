-- Rounding to whole numbers (document 01, "Function rules": floor, ceil, trunc, round, nearbyint, lround). Definitions only; assumes
-- nothing.
use Rattle.std.specs.Prelude.{Bool, false, not, ◌&&◌, ◌||◌, cond, ℕ, suc, ◌+◌, ◌-◌, ◌*◌, ◌/◌, ◌%◌, ◌^◌, leb, ltb, eqb, ℤ, pos, neg_ℤ}
use Rattle.std.specs.Float.Ieee.{size}
use Rattle.float_format.specs.declared.Direction.{Direction}
use Rattle.float_format.specs.declared.Direction.TheVariants.{Down, Up, TowardZero, HalfAway, HalfEven}
use Rattle.float_format.specs.Format.{Format, infinity, negative, unsigned, signed, is_nan, is_infinite, quieted}
use Rattle.float_format.specs.Number.{magnitude, encode, one}

-- Whether a magnitude of q whole parts of u, and r past them, goes on to q + 1 and not back to q; s is the number's sign.
abbrev pub goes_away : Direction → Bool → ℕ → ℕ → ℕ → Bool
goes_away Down s q r u = s && ltb 0 r
goes_away Up s q r u = not s && ltb 0 r
goes_away TowardZero s q r u = false
goes_away HalfAway s q r u = leb u (r * 2)
goes_away HalfEven s q r u = ltb u (r * 2) || (eqb u (r * 2) && eqb (q % 2) 1)

-- a magnitude of n, rounded to parts of u: how many
unfoldable pub parts : Direction → Bool → ℕ → ℕ → ℕ
parts d s n u = n / u + cond (goes_away d s (n / u) (n % u) u) 1 0

-- the whole number, without its sign, that a finite pattern x is rounded to
unfoldable pub whole_part : Format → Direction → ℕ → ℕ
whole_part f d x = parts d (negative f x) (magnitude f.fraction (unsigned f x)) (one f)

-- x rounded to a whole number, as a pattern: NaN quieted, infinities unchanged, a zero result with x's sign
unfoldable pub integral : Format → Direction → ℕ → ℕ
integral f d x =
    cond (is_nan f x) (quieted f x)
    (cond (is_infinite f x) x
    (signed f (negative f x) (encode f.fraction (whole_part f d x * one f))))

-- ---- rounded to a format

-- n / u units rounded once to a number of the format without an upper end, F being its fraction bits: of the digits of the whole part
-- suc F are kept
unfoldable pub nearest : ℕ → Direction → Bool → ℕ → ℕ → ℕ
nearest F d s n u = parts d s n (u * 2 ^ (size (n / u) - suc F)) * 2 ^ (size (n / u) - suc F)

-- a pattern without its sign, or infinity's from there on
abbrev pub capped : Format → ℕ → ℕ
capped f a = cond (ltb a (infinity f)) a (infinity f)

-- n / u units with the sign s, rounded once, halves to even, as a pattern
unfoldable pub rounded : Format → Bool → ℕ → ℕ → ℕ
rounded f s n u = signed f s (capped f (encode f.fraction (nearest f.fraction HalfEven s n u)))

-- ---- lround

-- n, negated where s is true
abbrev pub with_sign : Bool → ℕ → ℤ
with_sign s n = cond s (neg_ℤ (pos n)) (pos n)

-- whether that is a signed number of 64 bits: -2^63 to 2^63 - 1
abbrev pub fits64 : Bool → ℕ → Bool
fits64 s n = cond s (leb n (2 ^ 63)) (ltb n (2 ^ 63))

-- the refusal's number, 0 where there is none: 1 for NaN, 3 for an infinity and where round(x) is out of range
unfoldable pub lround_refusal : Format → ℕ → ℕ
lround_refusal f x =
    cond (is_nan f x) 1 (cond (is_infinite f x || not (fits64 (negative f x) (whole_part f HalfAway x))) 3 0)

-- the number returned: round(x), and 0 where it is refused
unfoldable pub lround_value : Format → ℕ → ℤ
lround_value f x = cond (eqb (lround_refusal f x) 0) (with_sign (negative f x) (whole_part f HalfAway x)) (pos 0)
