-- Sums, differences and products (document 02, W-208): exact in units, then rounded once, halves to even. A pattern that is not finite counts by its
-- units as any other does, so that each is defined on all patterns; the step rules refuse an infinite operand before they come to it.
-- Definitions only; assumes nothing.
use Rattle.std.specs.Prelude.{Bool, ◌&&◌, ◌||◌, ℕ, ◌+◌, ◌*◌, ltb}
use Rattle.std.specs.Float.Ieee.{unlike}
use Rattle.float_format.specs.Format.{Format, negative, negated}
use Rattle.float_format.specs.Number.{one, above, under, units_of, distance}
use Rattle.float_format.specs.Rounding.{rounded}

-- p - m units; a zero is -0 where both terms are negative, else +0
abbrev pub sum_at : Format → Bool → ℕ → ℕ → ℕ
sum_at f both p m = rounded f (both || ltb p m) (distance p m) 1

-- the units above zero less the units below it
unfoldable pub sum : Format → ℕ → ℕ → ℕ
sum f x y = sum_at f (negative f x && negative f y) (above f x + above f y) (under f x + under f y)

unfoldable pub difference : Format → ℕ → ℕ → ℕ
difference f x y = sum f x (negated f y)

-- units times units, of which one has as many as `one`; negative where the signs differ, a zero too
unfoldable pub product : Format → ℕ → ℕ → ℕ
product f x y = rounded f (unlike (negative f x) (negative f y)) (units_of f x * units_of f y) (one f)
