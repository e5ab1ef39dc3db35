-- Choosing by the order of numbers, and stepping along it (document 01, "Function rules": nextafter, fmin, fmax; W-202: the two zeros in
-- fmin and fmax). Definitions only; assumes nothing.
use Rattle.std.specs.Prelude.{Bool, not, ◌&&◌, ◌||◌, cond, ℕ, ◌+◌, ◌-◌, eqb}
use Rattle.float_format.specs.Format.{Format, negative, unsigned, signed, is_nan, is_infinite, is_zero, quieted}
use Rattle.float_format.specs.Number.{above, under, below}

-- ---- the order as a test: x's number is y's (`below` and, as a fact, `AtMost` stand with the numbers)

abbrev pub same : Format → ℕ → ℕ → Bool
same f x y = eqb (above f x + under f y) (above f y + under f x)

-- ---- fmin, fmax

-- x comes before y where one of the two is chosen: its number is below y's, or x is -0 and y is +0. Nothing else goes by this order.
abbrev pub before : Format → ℕ → ℕ → Bool
before f x y = below f x y || (is_zero f x && negative f x && is_zero f y && not (negative f y))

-- of two numbers the one that comes first, and the one that comes last
abbrev pub earlier : Format → ℕ → ℕ → ℕ
earlier f x y = cond (before f y x) y x

abbrev pub later : Format → ℕ → ℕ → ℕ
later f x y = cond (before f x y) y x

-- r where x and y are numbers; one NaN gives the other operand, two give the first quieted
abbrev pub past_nans : Format → ℕ → ℕ → ℕ → ℕ
past_nans f x y r = cond (is_nan f x) (cond (is_nan f y) (quieted f x) y) (cond (is_nan f y) x r)

unfoldable pub fmin : Format → ℕ → ℕ → ℕ
fmin f x y = past_nans f x y (earlier f x y)

unfoldable pub fmax : Format → ℕ → ℕ → ℕ
fmax f x y = past_nans f x y (later f x y)

-- ---- nextafter

-- whether y lies on the side of x away from zero
abbrev pub outward : Format → ℕ → ℕ → Bool
outward f x y = cond (negative f x) (below f y x) (below f x y)

-- The neighbour of x towards y: the next pattern away from zero or the one before it, x's sign kept. From zero the smallest subnormal of
-- y's sign. The first NaN is quieted, and equal operands give the second.
unfoldable pub nextafter : Format → ℕ → ℕ → ℕ
nextafter f x y =
    cond (is_nan f x) (quieted f x)
    (cond (is_nan f y) (quieted f y)
    (cond (same f x y) y
    (cond (is_zero f x) (signed f (negative f y) 1)
    (signed f (negative f x) (cond (outward f x y) (unsigned f x + 1) (unsigned f x - 1))))))

-- refusal 3: x finite, the result infinite; 0 where there is none
unfoldable pub nextafter_refusal : Format → ℕ → ℕ → ℕ
nextafter_refusal f x y = cond (not (is_nan f x) && not (is_infinite f x) && is_infinite f (nextafter f x y)) 3 0
