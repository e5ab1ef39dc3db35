-- What the answers are, stated without a rounding: of all numbers of the format none is nearer to the exact sum, difference or product, and where
-- another is as near, the answer's pattern is even; the answer is infinite exactly from halfway past the largest finite number on. The exact
-- number is a difference of naturals, by the units that the operands lie above and below zero. Over every valid format. Assumes nothing.
use mathlib.Core.Path.{◌≡◌, refl, sym, ap, ◌∙◌}
use mathlib.Core.Bool.{Bool, true, false, ◌&&◌, ◌||◌, cond}
use mathlib.Core.Logic.{◌⊎◌, ◌↔◌}
use Prim.Native.Nat.{ℕ, ◌+◌, ◌-◌, ◌*◌, ◌%◌, ◌≤◌, ◌<◌}
use native.Mathlib.Omega.{arith}
use lib.Dec.{ltb}
use lib.Ieee.{unlike}
use lib.Pow.{pow_pos}
use Rattle.float_format.specs.Format.{Format, Valid, infinity, negative, unsigned, negated}
use Rattle.float_format.specs.Number.{magnitude, units_of, bias, one, above, under, distance}
use Rattle.float_format.proofs.Order.{above_at, under_at, above-negated, under-negated}
use Rattle.float_format.proofs.Rounded.{gap, largest, rounded_sign, rounded_no_nearer, rounded_halves, rounded_from_halfway}
use Rattle.arithmetic.specs.Arithmetic.{sum, difference, product}
use Rattle.arithmetic.proofs.Laws.{signs, both_negative}

-- ---- how far z's number lies from the exact one

-- from x's + y's, in units
abbrev pub sum_gap : Format → ℕ → ℕ → ℕ → ℕ
sum_gap f x y z = distance (above f x + above f y + under f z) (above f z + (under f x + under f y))

-- from x's - y's
abbrev pub difference_gap : Format → ℕ → ℕ → ℕ → ℕ
difference_gap f x y z = distance (above f x + under f y + under f z) (above f z + (under f x + above f y))

-- from x's * y's, in units of which one unit has as many as `one`
abbrev pub product_gap : Format → ℕ → ℕ → ℕ → ℕ
product_gap f x y z =
    distance (above f x * above f y + under f x * under f y + under f z * one f) (above f z * one f + (above f x * under f y + under f x * above f y))

-- two differences that are the same number lie as far from a third
shifted : (A B p m Z W : ℕ) → A + m ≡ B + p → distance (A + Z) (W + B) ≡ distance (p + Z) (W + m)
shifted A B p m Z W e = omega arith

-- ---- sums

module _ (f : Format) (v : Valid f) (x y : ℕ) where
  abbrev p : ℕ
  p = above f x + above f y

  abbrev m : ℕ
  m = under f x + under f y

  abbrev s : Bool
  s = negative f x && negative f y || ltb p m

  sum_gap_lem : (z : ℕ) → gap f s (distance p m) 1 z ≡ sum_gap f x y z
  sum_gap_lem z =
      ap (λ (n : ℕ). distance (cond s 0 (distance p m) + n) (above f z * 1 + cond s (distance p m) 0)) (omega arith)
      ∙ ap (λ (n : ℕ). distance (cond s 0 (distance p m) + under f z) (n + cond s (distance p m) 0)) (omega arith)
      ∙ shifted (cond s 0 (distance p m)) (cond s (distance p m) 0) p m (under f z) (above f z) (signs (negative f x && negative f y) p m (both_negative f x y) s refl)

  module _ (l : unsigned f (sum f x y) < infinity f) (z : ℕ) where
    pub sum-nearest : sum_gap f x y (sum f x y) ≤ sum_gap f x y z
    unfolding sum
    sum-nearest = rw (← sum_gap_lem (sum f x y), ← sum_gap_lem z) (rounded_no_nearer f v s (distance p m) 1 (omega arith) l z)

    pub sum_halves : sum_gap f x y z ≡ sum_gap f x y (sum f x y) → unsigned f z ≡ unsigned f (sum f x y) ⊎ sum f x y % 2 ≡ 0
    unfolding sum
    sum_halves e = rounded_halves f v s (distance p m) 1 (omega arith) l z (sum_gap_lem z ∙ e ∙ sym (sum_gap_lem (sum f x y)))

  pub sum-overflows : unsigned f (sum f x y) ≡ infinity f ↔ largest f + magnitude f.fraction (infinity f) ≤ distance p m * 2
  unfolding sum
  sum-overflows =
      let h = rounded_from_halfway f v s (distance p m) 1 (omega arith) in
      (λ e. omega (arith, h.0 e), λ k. h.1 (omega arith))

  -- its sign: that of the exact sum; a zero's is minus where both terms are negative
  pub sum_sign : negative f (sum f x y) ≡ s
  unfolding sum
  sum_sign = rounded_sign f s (distance p m) 1

-- ---- differences

module _ (f : Format) (v : Valid f) (x y : ℕ) where
  turned : (z : ℕ) → sum_gap f x (negated f y) z ≡ difference_gap f x y z
  turned z = rw (above-negated f y, under-negated f y) refl

  module _ (l : unsigned f (difference f x y) < infinity f) (z : ℕ) where
    pub difference-nearest : difference_gap f x y (difference f x y) ≤ difference_gap f x y z
    unfolding difference
    difference-nearest = rw (← turned (difference f x y), ← turned z) (sum-nearest f v x (negated f y) l z)

    pub difference_halves : difference_gap f x y z ≡ difference_gap f x y (difference f x y) → unsigned f z ≡ unsigned f (difference f x y) ⊎ difference f x y % 2 ≡ 0
    unfolding difference
    difference_halves e = sum_halves f v x (negated f y) l z (turned z ∙ e ∙ sym (turned (difference f x y)))

  pub difference-overflows : unsigned f (difference f x y) ≡ infinity f
      ↔ largest f + magnitude f.fraction (infinity f) ≤ distance (above f x + under f y) (under f x + above f y) * 2
  unfolding difference
  difference-overflows = rw (above-negated f y, under-negated f y) at (sum-overflows f v x (negated f y))

-- ---- products

-- by the signs s and t, for magnitudes X and Y
by_signs : (X Y : ℕ) (s t : Bool) → cond (unlike s t) 0 (X * Y) + (cond s 0 X * cond t Y 0 + cond s X 0 * cond t 0 Y)
    ≡ cond (unlike s t) (X * Y) 0 + (cond s 0 X * cond t 0 Y + cond s X 0 * cond t Y 0)
by_signs X Y true true = omega arith
by_signs X Y true false = omega arith
by_signs X Y false true = omega arith
by_signs X Y false false = omega arith

module _ (f : Format) (v : Valid f) (x y : ℕ) where
  abbrev t : Bool
  t = unlike (negative f x) (negative f y)

  abbrev n : ℕ
  n = units_of f x * units_of f y

  some : 0 < one f
  some = pow_pos (bias f + f.fraction - 1)

  product_gap_lem : (z : ℕ) → gap f t n (one f) z ≡ product_gap f x y z
  product_gap_lem z =
      shifted (cond t 0 n) (cond t n 0) (above f x * above f y + under f x * under f y) (above f x * under f y + under f x * above f y) (under f z * one f) (above f z * one f)
      (rw (above_at f x (negative f x) refl, under_at f x (negative f x) refl, above_at f y (negative f y) refl, under_at f y (negative f y) refl)
      (by_signs (units_of f x) (units_of f y) (negative f x) (negative f y)))

  module _ (l : unsigned f (product f x y) < infinity f) (z : ℕ) where
    pub product-nearest : product_gap f x y (product f x y) ≤ product_gap f x y z
    unfolding product
    product-nearest = rw (← product_gap_lem (product f x y), ← product_gap_lem z) (rounded_no_nearer f v t n (one f) some l z)

    pub product_halves : product_gap f x y z ≡ product_gap f x y (product f x y) → unsigned f z ≡ unsigned f (product f x y) ⊎ product f x y % 2 ≡ 0
    unfolding product
    product_halves e = rounded_halves f v t n (one f) some l z (product_gap_lem z ∙ e ∙ sym (product_gap_lem (product f x y)))

  pub product-overflows : unsigned f (product f x y) ≡ infinity f ↔ largest f * one f + magnitude f.fraction (infinity f) * one f ≤ units_of f x * units_of f y * 2
  unfolding product
  product-overflows = rounded_from_halfway f v t n (one f) some

  -- its sign, a zero's too: minus where the signs differ
  pub product_sign : negative f (product f x y) ≡ unlike (negative f x) (negative f y)
  unfolding product
  product_sign = rounded_sign f t n (one f)
