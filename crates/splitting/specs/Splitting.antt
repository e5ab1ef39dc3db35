-- modf: a number's whole part and its fraction, each with x's sign (document 01, "Function rules"). Definitions only; assumes nothing.
use Rattle.std.specs.Prelude.{cond, ℕ, ◌%◌}
use Rattle.float_format.specs.Format.{Format, negative, unsigned, signed, is_nan, is_infinite, quieted}
use Rattle.float_format.specs.Number.{magnitude, encode, one}
use Rattle.float_format.specs.Rounding.{integral}
use Rattle.float_format.specs.declared.Direction.TheVariants.{TowardZero}

-- the whole part is trunc(x): NaN quieted, infinities unchanged
unfoldable pub modf_whole : Format → ℕ → ℕ
modf_whole f x = integral f TowardZero x

-- what is past the whole part: NaN quieted, a zero for an infinity
unfoldable pub modf_fraction : Format → ℕ → ℕ
modf_fraction f x =
    cond (is_nan f x) (quieted f x)
    (cond (is_infinite f x) (signed f (negative f x) 0)
    (signed f (negative f x) (encode f.fraction (magnitude f.fraction (unsigned f x) % one f))))
