-- What a sheet needs of sums and products: no NaN, monotone in each operand, and a product lies between products of the ends. Over every
-- valid format; `Language` says that these are the language's own operations. Assumes nothing.
use mathlib.Core.Path.{◌≡◌, refl, sym, ap, ◌∙◌}
use mathlib.Core.Bool.{Bool, true, false, ◌&&◌, ◌||◌, true≢false, false≢true, cond}
use mathlib.Core.Logic.{◌⊎◌, inl, inr, ⊎_elim}
use Prim.Native.Nat.{ℕ, suc, ◌+◌, ◌-◌, ◌*◌, ◌/◌, ◌%◌, ◌^◌, ◌≤◌, ◌<◌}
use native.Mathlib.Nat.{mul-le-mul_right, add_comm, mul_comm, mul_assoc, mul-mod_left, mul-sub, mul-mul-mul_comm, div-add-mod', eq-or-lt_of_le}
use native.Mathlib.Omega.{arith}
use lib.Dec.{ltb}
use lib.Pow.{pow_pos, pow-add}
use lib.Ieee.{size, unlike}
use borrow.Author.Tests.{ltb-true, ltb-false, eq-eqb}
use Rattle.float_format.specs.Format.{Format, Valid, sign_bit, infinity, negative, unsigned, signed, negated, is_infinite}
use Rattle.float_format.specs.Number.{bias, one, above, under, units_of, is_integral, distance, magnitude, encode, AtMost}
use Rattle.float_format.proofs.Order.{above_at, under_at, at_most_trans, finite_below-infinity, above-negated, under-negated}
use Rattle.float_format.specs.Rounding.{parts, nearest, rounded}
use Rattle.float_format.specs.declared.Direction.TheVariants.{HalfEven}
use Rattle.float_format.proofs.Units.{lt_or_ge}
use Rattle.float_format.proofs.Parts.{parts_whole}
use Rattle.float_format.proofs.Patterns.{signed_parts, infinite_is}
use Rattle.float_format.proofs.Integers.{integer_units, integer_negated}
use Rattle.float_format.proofs.Nearby.{nearest_units}
use Rattle.arithmetic.specs.Arithmetic.{sum_at, sum, difference, product}
use Rattle.float_format.proofs.Rounded.{rounded_order, rounded-number, rounded_lt, rounded-within, rounded_scale, times_cond}

-- ---- sums

-- what the sign of a sum says
pub signs : (b : Bool) (p m : ℕ) → (b ≡ true → p ≤ m) → (s : Bool) → b || ltb p m ≡ s
    → (cond s 0 ((p - m) + (m - p)) + m ≡ cond s ((p - m) + (m - p)) 0 + p)
signs true p m h true e = omega (arith, h refl)
signs true p m h false e = absurd (true≢false e)
signs false p m h true e = omega (arith, ltb-true p m e)
signs false p m h false e = omega (arith, ltb-false p m e)

sum_at_order : (f : Format) (b c : Bool) (p m q n : ℕ) → Valid f → (b ≡ true → p ≤ m) → (c ≡ true → q ≤ n) → p + n ≤ q + m
    → AtMost f (sum_at f b p m) (sum_at f c q n)
sum_at_order f b c p m q n v hb hc h =
    rounded_order f (b || ltb p m) (c || ltb q n) ((p - m) + (m - p)) ((q - n) + (n - q)) 1 v (omega arith)
    (omega (arith, signs b p m hb (b || ltb p m) refl, signs c q n hc (c || ltb q n) refl))

-- two negative numbers have nothing above zero
pub both_negative : (f : Format) (x y : ℕ) → negative f x && negative f y ≡ true → above f x + above f y ≤ under f x + under f y
both_negative f x y e = go (negative f x) (negative f y) refl refl e
  where
    go : (s t : Bool) → negative f x ≡ s → negative f y ≡ t → s && t ≡ true → above f x + above f y ≤ under f x + under f y
    go true true p q e = omega (arith, above_at f x true p, above_at f y true q)
    go true false p q e = absurd (false≢true e)
    go false t p q e = absurd (false≢true e)

module _ (f : Format) (v : Valid f) (x x' y y' : ℕ) where
  pub sum_mono : AtMost f x x' → AtMost f y y' → AtMost f (sum f x y) (sum f x' y')
  unfolding sum
  sum_mono g h =
      sum_at_order f (negative f x && negative f y) (negative f x' && negative f y') (above f x + above f y) (under f x + under f y) (above f x' + above f y') (under f x' + under f y') v
      (both_negative f x y) (both_negative f x' y') (omega arith)

module _ (f : Format) (x y : ℕ) where
  pub sum_number : unsigned f (sum f x y) ≤ infinity f
  unfolding sum
  sum_number = rounded-number f _ _ 1

  pub sum_lt : sum f x y < 2 * sign_bit f
  unfolding sum
  sum_lt = rounded_lt f _ _ 1

  pub sum_comm : sum f x y ≡ sum f y x
  unfolding sum
  sum_comm =
      rw (and_comm (negative f x) (negative f y), add_comm (above f x) (above f y), add_comm (under f x) (under f y)) refl
    where
      and_comm : (s t : Bool) → s && t ≡ t && s
      and_comm true true = refl
      and_comm true false = refl
      and_comm false true = refl
      and_comm false false = refl

-- ---- products

-- x's number times y's, by their signs and units
product_order : (a a' b : ℕ) (s s' t : Bool) → cond s 0 a + cond s' a' 0 ≤ cond s' 0 a' + cond s a 0 → t ≡ false
    → cond (unlike s t) 0 (a * b) + cond (unlike s' t) (a' * b) 0 ≤ cond (unlike s' t) 0 (a' * b) + cond (unlike s t) (a * b) 0
product_order a a' b true true false h e = omega (arith, mul-le-mul_right {m = a'} {n = a} b (omega arith))
product_order a a' b true false false h e = omega arith
product_order a a' b false true false h e = omega (arith, mul-le-mul_right {m = a} {n = 0} b (omega arith), mul-le-mul_right {m = a'} {n = 0} b (omega arith))
product_order a a' b false false false h e = omega (arith, mul-le-mul_right {m = a} {n = a'} b (omega arith))
product_order a a' b s s' true h e = absurd (true≢false e)

product_turned : (a a' b : ℕ) (s s' t : Bool) → cond s 0 a + cond s' a' 0 ≤ cond s' 0 a' + cond s a 0 → t ≡ true
    → cond (unlike s' t) 0 (a' * b) + cond (unlike s t) (a * b) 0 ≤ cond (unlike s t) 0 (a * b) + cond (unlike s' t) (a' * b) 0
product_turned a a' b true true true h e = omega (arith, mul-le-mul_right {m = a'} {n = a} b (omega arith))
product_turned a a' b true false true h e = omega arith
product_turned a a' b false true true h e = omega (arith, mul-le-mul_right {m = a} {n = 0} b (omega arith), mul-le-mul_right {m = a'} {n = 0} b (omega arith))
product_turned a a' b false false true h e = omega (arith, mul-le-mul_right {m = a} {n = a'} b (omega arith))
product_turned a a' b s s' false h e = absurd (false≢true e)

module _ (f : Format) (v : Valid f) (x x' y : ℕ) (h : AtMost f x x') where
  by_units : cond (negative f x) 0 (units_of f x) + cond (negative f x') (units_of f x') 0
      ≤ cond (negative f x') 0 (units_of f x') + cond (negative f x) (units_of f x) 0
  by_units = rw (above_at f x (negative f x) refl, under_at f x (negative f x) refl, above_at f x' (negative f x') refl, under_at f x' (negative f x') refl) at h

  -- a factor with a plus sign keeps the order, one with a minus sign turns it round
  pub product_mono : negative f y ≡ false → AtMost f (product f x y) (product f x' y)
  unfolding product
  product_mono e =
      rounded_order f (unlike (negative f x) (negative f y)) (unlike (negative f x') (negative f y)) (units_of f x * units_of f y) (units_of f x' * units_of f y) (one f) v (pow_pos _)
      (product_order (units_of f x) (units_of f x') (units_of f y) (negative f x) (negative f x') (negative f y) by_units e)

  pub product_anti : negative f y ≡ true → AtMost f (product f x' y) (product f x y)
  unfolding product
  product_anti e =
      rounded_order f (unlike (negative f x') (negative f y)) (unlike (negative f x) (negative f y)) (units_of f x' * units_of f y) (units_of f x * units_of f y) (one f) v (pow_pos _)
      (product_turned (units_of f x) (units_of f x') (units_of f y) (negative f x) (negative f x') (negative f y) by_units e)

module _ (f : Format) (x y : ℕ) where
  pub product-number : unsigned f (product f x y) ≤ infinity f
  unfolding product
  product-number = rounded-number f _ _ (one f)

  pub product_lt : product f x y < 2 * sign_bit f
  unfolding product
  product_lt = rounded_lt f _ _ (one f)

pub product_comm : (f : Format) (x y : ℕ) → product f x y ≡ product f y x
unfolding product
product_comm f x y =
    ap (λ (n : ℕ). rounded f (unlike (negative f x) (negative f y)) n (one f)) (mul_comm (units_of f x) (units_of f y))
    ∙ ap (λ (s : Bool). rounded f s (units_of f y * units_of f x) (one f)) (swap (negative f x) (negative f y))
  where
    swap : (s t : Bool) → unlike s t ≡ unlike t s
    swap true true = refl
    swap true false = refl
    swap false true = refl
    swap false false = refl

-- x from a to b and y from c to d: the product is at least one of the four products of the ends, and at most one of them
pub data OneOf (P : ℕ → Type 0) (p q r s : ℕ) : Type 0 where
  is_p : P p → OneOf P p q r s
  is_q : P q → OneOf P p q r s
  is_r : P r → OneOf P p q r s
  is_s : P s → OneOf P p q r s

module _ (f : Format) (v : Valid f) (a b c d x y : ℕ) (ax : AtMost f a x) (xb : AtMost f x b) (cy : AtMost f c y) (yd : AtMost f y d) where
  -- from y to an end of its range
  move : (e : ℕ) → AtMost f (product f e c) (product f e y) ⊎ AtMost f (product f e d) (product f e y)
  move e = go (negative f e) refl
    where
      go : (s : Bool) → negative f e ≡ s → AtMost f (product f e c) (product f e y) ⊎ AtMost f (product f e d) (product f e y)
      go false z = inl (rw (product_comm f e c, product_comm f e y) (product_mono f v c y e cy z))
      go true z = inr (rw (product_comm f e d, product_comm f e y) (product_anti f v y d e yd z))

  move_up : (e : ℕ) → AtMost f (product f e y) (product f e c) ⊎ AtMost f (product f e y) (product f e d)
  move_up e = go (negative f e) refl
    where
      go : (s : Bool) → negative f e ≡ s → AtMost f (product f e y) (product f e c) ⊎ AtMost f (product f e y) (product f e d)
      go false z = inr (rw (product_comm f e d, product_comm f e y) (product_mono f v y d e yd z))
      go true z = inl (rw (product_comm f e c, product_comm f e y) (product_anti f v c y e cy z))

  pub product_from : OneOf (λ w. AtMost f w (product f x y)) (product f a c) (product f a d) (product f b c) (product f b d)
  product_from = go (negative f y) refl
    where
      go : (s : Bool) → negative f y ≡ s → OneOf (λ w. AtMost f w (product f x y)) (product f a c) (product f a d) (product f b c) (product f b d)
      go false z =
          let l : AtMost f (product f a y) (product f x y) = product_mono f v a x y ax z in
          ⊎_elim (λ k. is_p (at_most_trans f (product f a c) (product f a y) (product f x y) k l)) (λ k. is_q (at_most_trans f (product f a d) (product f a y) (product f x y) k l)) (move a)
      go true z =
          let l : AtMost f (product f b y) (product f x y) = product_anti f v x b y xb z in
          ⊎_elim (λ k. is_r (at_most_trans f (product f b c) (product f b y) (product f x y) k l)) (λ k. is_s (at_most_trans f (product f b d) (product f b y) (product f x y) k l)) (move b)

  pub product_upto : OneOf (λ w. AtMost f (product f x y) w) (product f a c) (product f a d) (product f b c) (product f b d)
  product_upto = go (negative f y) refl
    where
      go : (s : Bool) → negative f y ≡ s → OneOf (λ w. AtMost f (product f x y) w) (product f a c) (product f a d) (product f b c) (product f b d)
      go false z =
          let l : AtMost f (product f x y) (product f b y) = product_mono f v x b y xb z in
          ⊎_elim (λ k. is_r (at_most_trans f (product f x y) (product f b y) (product f b c) l k)) (λ k. is_s (at_most_trans f (product f x y) (product f b y) (product f b d) l k)) (move_up b)
      go true z =
          let l : AtMost f (product f x y) (product f a y) = product_anti f v a x y ax z in
          ⊎_elim (λ k. is_p (at_most_trans f (product f x y) (product f a y) (product f a c) l k)) (λ k. is_q (at_most_trans f (product f x y) (product f a y) (product f a d) l k)) (move_up a)

-- ---- differences

module _ (f : Format) (v : Valid f) (x x' y y' : ℕ) where
  pub difference_mono : AtMost f x x' → AtMost f y' y → AtMost f (difference f x y) (difference f x' y')
  unfolding difference
  difference_mono g h =
      sum_mono f v x x' (negated f y) (negated f y') g (omega (arith, above-negated f y, under-negated f y, above-negated f y', under-negated f y'))

module _ (f : Format) (x y : ℕ) where
  pub difference-number : unsigned f (difference f x y) ≤ infinity f
  unfolding difference
  difference-number = sum_number f x (negated f y)

  pub difference_lt : difference f x y < 2 * sign_bit f
  unfolding difference
  difference_lt = sum_lt f x (negated f y)

-- ---- between finite ends nothing overflows

pub finite_between : (f : Format) (l w h : ℕ) → unsigned f l < infinity f → unsigned f h < infinity f → w < 2 * sign_bit f → unsigned f w ≤ infinity f
    → AtMost f l w → AtMost f w h → unsigned f w < infinity f
finite_between f l w h fl fh p n lw wh = ⊎_elim (λ e. absurd (never e)) (λ k. k) (eq-or-lt_of_le n)
  where
    never : unsigned f w ≡ infinity f → ⊥
    never e = go (negative f w) refl
      where
        plus : signed f false (infinity f) ≡ infinity f
        plus = omega arith

        at : (s : Bool) → negative f w ≡ s → w ≡ signed f s (infinity f)
        at s z = signed_parts f w p ∙ ap (λ (t : Bool). signed f t (unsigned f w)) z ∙ ap (signed f s) e

        go : (s : Bool) → negative f w ≡ s → ⊥
        go true z = (finite_below-infinity f l fl).1 (rw (at true z) at lw)
        go false z = (finite_below-infinity f h fh).0 (rw (at false z ∙ plus) at wh)

-- ---- integers give integers, which is what the mark needs

-- a multiple of 2 ^ w is rounded to one
nearest_multiple : (F w c : ℕ) (s : Bool) → (k : ℕ) × (nearest F HalfEven s (c * 2 ^ w) 1 ≡ k * 2 ^ w)
unfolding nearest
nearest_multiple F w c s = ⊎_elim fine coarse (lt_or_ge w K)
  where
    n : ℕ
    n = c * 2 ^ w

    K : ℕ
    K = size (c * 2 ^ w / 1) - suc F

    fine : w < K → (k : ℕ) × (parts HalfEven s n (1 * 2 ^ K) * 2 ^ K ≡ k * 2 ^ w)
    fine l =
        let p : ℕ = parts HalfEven s n (1 * 2 ^ K) in
        (p * 2 ^ (K - w), ap (λ (z : ℕ). p * z) (ap (λ (z : ℕ). 2 ^ z) (omega arith) ∙ pow-add 2 (K - w) w) ∙ sym (mul_assoc p (2 ^ (K - w)) (2 ^ w)))

    coarse : K ≤ w → (k : ℕ) × (parts HalfEven s n (1 * 2 ^ K) * 2 ^ K ≡ k * 2 ^ w)
    coarse g =
        let e : n ≡ c * 2 ^ (w - K) * (1 * 2 ^ K) =
        ap (λ (z : ℕ). c * z) (ap (λ (z : ℕ). 2 ^ z) (omega arith) ∙ pow-add 2 (w - K) K) ∙ sym (mul_assoc c (2 ^ (w - K)) (2 ^ K)) ∙ ap (λ (z : ℕ). c * 2 ^ (w - K) * z) (omega arith) in
        (c, ap (λ (z : ℕ). z * 2 ^ K) (ap (λ (z : ℕ). parts HalfEven s z (1 * 2 ^ K)) e ∙ parts_whole HalfEven s (c * 2 ^ (w - K)) (1 * 2 ^ K) (omega (arith, pow_pos K))) ∙ omega (arith, e))

-- a whole number of ones is rounded to one, where it does not overflow
rounded-integral : (f : Format) (s : Bool) (c : ℕ) → Valid f → is_infinite f (rounded f s (c * one f) 1) ≡ false → is_integral f (rounded f s (c * one f) 1) ≡ true
rounded-integral f s c v h =
    (integer_units f r).1 (finite, ap (λ (a : ℕ). magnitude F a % one f) (rounded-within f v s n 1 (omega arith) finite) ∙ units (nearest_multiple F (bias f + F - 1) c s))
  where
    F : ℕ
    F = f.fraction

    n : ℕ
    n = c * one f

    r : ℕ
    r = rounded f s (c * one f) 1

    finite : unsigned f r < infinity f
    finite =
        ⊎_elim (λ e. absurd (true≢false (sym (infinite_is f r ∙ eq-eqb (unsigned f r) (infinity f) e) ∙ h))) (λ l. l)
        (eq-or-lt_of_le (rounded-number f s n 1))

    units : (k : ℕ) × (nearest F HalfEven s n 1 ≡ k * one f) → magnitude F (encode F (nearest F HalfEven s n 1)) % one f ≡ 0
    units m =
        ap (λ (a : ℕ). a % one f) (nearest_units F s n 1 (omega arith) ∙ m.1)
        ∙ mul-mod_left m.0 (one f)

-- the units of an integer are a whole number of ones
ones : (f : Format) (x : ℕ) → is_integral f x ≡ true → units_of f x ≡ units_of f x / one f * one f
ones f x e = omega (arith, div-add-mod' (units_of f x) (one f), ((integer_units f x).0 e).1)

module _ (f : Format) (x : ℕ) (e : is_integral f x ≡ true) where
  above_ones : above f x ≡ cond (negative f x) 0 (units_of f x / one f) * one f
  above_ones =
      above_at f x (negative f x) refl ∙ ap (λ (n : ℕ). cond (negative f x) 0 n) (ones f x e)
      ∙ sym (times_cond (negative f x) (units_of f x / one f) (one f)).0

  under_ones : under f x ≡ cond (negative f x) (units_of f x / one f) 0 * one f
  under_ones =
      under_at f x (negative f x) refl ∙ ap (λ (n : ℕ). cond (negative f x) n 0) (ones f x e)
      ∙ sym (times_cond (negative f x) (units_of f x / one f) (one f)).1

-- ---- products with a common factor

grouped : (a b t : ℕ) → a * t + b * t ≡ (a + b) * t
grouped a b t = omega arith

regrouped : (a b t : ℕ) → a * t * (b * t) ≡ a * b * t * t
regrouped a b t = mul-mul-mul_comm a t b t ∙ sym (mul_assoc (a * b) t t)

distance_scale : (p m t : ℕ) → distance (p * t) (m * t) ≡ distance p m * t
distance_scale p m t = omega (arith, less p m t, less m p t)
  where
    less : (i j t : ℕ) → (i - j) * t ≡ i * t - j * t
    less i j t = mul_comm (i - j) t ∙ mul-sub t i j ∙ omega arith

module _ (f : Format) (v : Valid f) (x y : ℕ) (hx : is_integral f x ≡ true) (hy : is_integral f y ≡ true) where
  abbrev a : ℕ
  a = units_of f x / one f

  abbrev b : ℕ
  b = units_of f y / one f

  pub sum-integral : is_infinite f (sum f x y) ≡ false → is_integral f (sum f x y) ≡ true
  unfolding sum
  sum-integral h =
      rw apart
      (rounded-integral f (negative f x && negative f y || ltb (above f x + above f y) (under f x + under f y)) (distance p m) v
      (rw apart at h))
    where
      p : ℕ
      p = cond (negative f x) 0 a + cond (negative f y) 0 b

      m : ℕ
      m = cond (negative f x) a 0 + cond (negative f y) b 0

      apart : distance (above f x + above f y) (under f x + under f y) ≡ distance p m * one f
      apart =
          rw (above_ones f x hx, above_ones f y hy, under_ones f x hx, under_ones f y hy)
          (ap (distance (P * one f + Q * one f)) (grouped M N (one f)) ∙ ap (λ (n : ℕ). distance n ((M + N) * one f)) (grouped P Q (one f)) ∙ distance_scale p m (one f))
        where
          P : ℕ
          P = cond (negative f x) 0 a

          Q : ℕ
          Q = cond (negative f y) 0 b

          M : ℕ
          M = cond (negative f x) a 0

          N : ℕ
          N = cond (negative f y) b 0

  pub product-integral : is_infinite f (product f x y) ≡ false → is_integral f (product f x y) ≡ true
  unfolding product
  product-integral h = rw exact (rounded-integral f s (a * b) v (rw exact at h))
    where
      s : Bool
      s = unlike (negative f x) (negative f y)

      exact : rounded f s (units_of f x * units_of f y) (one f) ≡ rounded f s (a * b * one f) 1
      exact =
          ap (λ (n : ℕ). rounded f s n (one f)) (ap (λ (n : ℕ). n * units_of f y) (ones f x hx) ∙ ap (λ (n : ℕ). a * one f * n) (ones f y hy) ∙ regrouped a b (one f))
          ∙ ap (rounded f s (a * b * one f * one f)) (omega arith)
          ∙ rounded_scale f s (a * b * one f) 1 (one f) (omega arith) (pow_pos (bias f + f.fraction - 1))

pub difference-integral : (f : Format) (v : Valid f) (x y : ℕ) → is_integral f x ≡ true → is_integral f y ≡ true
    → is_infinite f (difference f x y) ≡ false → is_integral f (difference f x y) ≡ true
unfolding difference
difference-integral f v x y hx hy h = sum-integral f v x (negated f y) hx (integer_negated f y ∙ hy) h
