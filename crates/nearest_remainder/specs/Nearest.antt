-- remainder and remquo, as C99 has them (document 02, W-204). Definitions only; assumes nothing. Their refusal is fmod's (`fmod_refusal`).
use Rattle.std.specs.Prelude.{Bool, false, not, ◌||◌, cond, ℕ, ◌*◌, ◌%◌, ltb, ℤ, pos}
use Rattle.std.specs.Float.Ieee.{unlike}
use Rattle.float_format.specs.Format.{Format, default_nan, negative, signed, is_nan, is_infinite, quieted}
use Rattle.float_format.specs.Number.{encode, units_of, distance}
use Rattle.float_format.specs.Rounding.{parts, with_sign}
use Rattle.float_format.specs.declared.Direction.TheVariants.{HalfEven}
use Rattle.remainder.specs.Remainder.{no_remainder}

-- the whole number nearest to a / b, halves to even
abbrev pub nearest_quotient : ℕ → ℕ → ℕ
nearest_quotient a b = parts HalfEven false a b

-- a units with the sign s, less the nearest multiple of b units, exactly. Where that multiple is the larger, the sign turns; so a zero has the sign s.
abbrev pub less_nearest : Format → Bool → ℕ → ℕ → ℕ
less_nearest f s a b =
    signed f (cond (ltb a (nearest_quotient a b * b)) (not s) s) (encode f.fraction (distance a (nearest_quotient a b * b)))

-- x - n * y exactly, n being the integer nearest to x / y, halves to even; a zero has x's sign. The first NaN is quieted; x where y is infinite.
unfoldable pub remainder : Format → ℕ → ℕ → ℕ
remainder f x y =
    cond (is_nan f x) (quieted f x)
    (cond (is_nan f y) (quieted f y)
    (cond (no_remainder f x y) (default_nan f)
    (cond (is_infinite f y) x
    (less_nearest f (negative f x) (units_of f x) (units_of f y)))))

-- what remquo adds: the sign of x / y on the magnitude of n modulo 8. 0 with a NaN or a refusal; n is 0 for an infinite y.
unfoldable pub remquo_quotient : Format → ℕ → ℕ → ℤ
remquo_quotient f x y =
    cond (is_nan f x || is_nan f y || no_remainder f x y || is_infinite f y) (pos 0)
    (with_sign (unlike (negative f x) (negative f y)) (nearest_quotient (units_of f x) (units_of f y) % 8))
