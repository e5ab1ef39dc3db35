-- Where the language's own operations are held beside the definitions. Definitions only; assumes nothing.
use Rattle.std.specs.Prelude.{Bool, ◌&&◌, cond, ℕ, ltb}
use Rattle.float_format.specs.Format.{binary64, infinity, unsigned, default_nan}

abbrev pub is_finite : ℕ → Bool
is_finite x = ltb (unsigned binary64 x) (infinity binary64)

abbrev pub both_finite : ℕ → ℕ → Bool
both_finite x y = is_finite x && is_finite y

-- r where both operands are finite, else the default NaN
abbrev pub on_finite : ℕ → ℕ → ℕ → ℕ
on_finite x y r = cond (both_finite x y) r (default_nan binary64)
