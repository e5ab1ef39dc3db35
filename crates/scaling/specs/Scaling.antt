-- Powers of two taken out of a number and multiplied in (document 01, "Function rules": frexp, ldexp). Definitions only; assumes nothing.
use Rattle.std.specs.Prelude.{ℕ, ◌+◌, ◌-◌, ◌*◌, ◌/◌, ◌^◌, cond, not, ◌&&◌, ◌||◌, ℤ, pos, ◌-ℤ◌, nat_lt}
use Rattle.std.specs.Float.Ieee.{size, up, down}
use Rattle.float_format.specs.Format.{Format, infinity, negative, unsigned, signed, is_nan, is_infinite, is_zero, quieted}
use Rattle.float_format.specs.Number.{magnitude, encode, bias, one, units_of}
use Rattle.float_format.specs.Rounding.{nearest, rounded}
use Rattle.float_format.specs.declared.Direction.TheVariants.{HalfEven}

-- ---- frexp

-- Of n units, size n binary digits long, the fraction is n / 2 ^ size n, in units again: at least one half and below one.
unfoldable pub frexp_fraction : Format → ℕ → ℕ
frexp_fraction f x =
    cond (is_nan f x) (quieted f x)
    (cond (is_infinite f x || is_zero f x) x
    (signed f (negative f x)
    (encode f.fraction (magnitude f.fraction (unsigned f x) * one f / 2 ^ size (magnitude f.fraction (unsigned f x))))))

-- one is 2 ^ (bias + F - 1) units
unfoldable pub frexp_exponent : Format → ℕ → ℤ
frexp_exponent f x =
    cond (is_nan f x || is_infinite f x || is_zero f x) (pos 0)
    (pos (size (magnitude f.fraction (unsigned f x))) -ℤ pos (bias f + f.fraction - 1))

-- ---- ldexp

-- the pattern, without a sign, of a finite x times 2 ^ n: past infinity's where that is out of range
unfoldable pub scaled : Format → ℕ → ℤ → ℕ
scaled f x n = encode f.fraction (nearest f.fraction HalfEven (negative f x) (units_of f x * up n) (down n))

-- x times 2 ^ n, rounded once, halves to even: NaN quieted, infinities unchanged, x's sign kept
unfoldable pub ldexp : Format → ℕ → ℤ → ℕ
ldexp f x n = cond (is_nan f x) (quieted f x) (cond (is_infinite f x) x (rounded f (negative f x) (units_of f x * up n) (down n)))

-- refusal 3: x finite, the result infinite; 0 where there is none
unfoldable pub ldexp_refusal : Format → ℕ → ℤ → ℕ
ldexp_refusal f x n = cond (not (is_nan f x) && not (is_infinite f x) && not (nat_lt (scaled f x n) (infinity f))) 3 0
