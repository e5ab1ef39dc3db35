-- fmod (document 01, "Function rules"). Definitions only; assumes nothing.
use Rattle.std.specs.Prelude.{Bool, not, ◌&&◌, ◌||◌, cond, ℕ, ◌%◌}
use Rattle.float_format.specs.Format.{Format, default_nan, negative, unsigned, signed, is_nan, is_infinite, is_zero, quieted}
use Rattle.float_format.specs.Number.{magnitude, encode}

-- where numbers have no remainder: x infinite or y zero
abbrev pub no_remainder : Format → ℕ → ℕ → Bool
no_remainder f x y = is_infinite f x || is_zero f y

-- x - n * y exactly, of magnitude below y's, with x's sign: the remainder of the units. The first NaN is quieted; x where y is infinite.
unfoldable pub fmod : Format → ℕ → ℕ → ℕ
fmod f x y =
    cond (is_nan f x) (quieted f x)
    (cond (is_nan f y) (quieted f y)
    (cond (no_remainder f x y) (default_nan f)
    (cond (is_infinite f y) x
    (signed f (negative f x)
    (encode f.fraction (magnitude f.fraction (unsigned f x) % magnitude f.fraction (unsigned f y)))))))

-- refusal 2; 0 where there is none
unfoldable pub fmod_refusal : Format → ℕ → ℕ → ℕ
fmod_refusal f x y = cond (not (is_nan f x) && not (is_nan f y) && no_remainder f x y) 2 0
