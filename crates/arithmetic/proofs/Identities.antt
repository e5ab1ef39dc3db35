-- What sums and products with zero and one come to, and products with the sign turned. Over every valid format. Assumes nothing.
use mathlib.Core.Path.{◌≡◌, refl, sym, ap, ◌∙◌}
use mathlib.Core.Bool.{Bool, true, false, not}
use mathlib.Core.Logic.{⊎_elim}
use Prim.Native.Nat.{ℕ, suc, ◌+◌, ◌-◌, ◌*◌, ◌^◌, ◌<◌}
use native.Mathlib.Nat.{mod-eq_of_lt}
use native.Mathlib.Omega.{arith}
use lib.Pow.{pow_pos}
use lib.Ieee.{unlike}
use borrow.Author.Tests.{lt-leb}
use Rattle.float_format.specs.Format.{Format, Valid, sign_bit, infinity, negative, unsigned, signed, negated}
use Rattle.float_format.specs.Number.{magnitude, units_of, bias, one}
use Rattle.float_format.specs.Rounding.{parts, nearest, rounded}
use Rattle.float_format.proofs.Units.{lt_or_ge, magnitude_at}
use Rattle.float_format.proofs.Order.{magnitude_zero, infinity-below_sign, negative-negated, unsigned-negated, negated_is}
use Rattle.float_format.proofs.Nearby.{magnitude-same}
use Rattle.float_format.proofs.Integral.{room}
use Rattle.float_format.proofs.Powers.{powers}
use Rattle.float_format.proofs.Patterns.{negative-signed, unsigned_signed, signed_parts}
use Rattle.float_format.proofs.Rounded.{rounded_exact, rounded_zero, rounded_sign, rounded_rest, rounded_is}
use Rattle.arithmetic.specs.Arithmetic.{sum, difference, product}
use Rattle.arithmetic.proofs.Laws.{product_comm}
use Rattle.arithmetic.proofs.Signs.{sum_same, sum_unlike, sum_opposite}

twice : (t : Bool) → t ≡ not (not t)
twice true = refl
twice false = refl

-- ---- zeros

-- of the sign t
abbrev pub zero : Format → Bool → ℕ
zero f t = signed f t 0

module _ (f : Format) (t : Bool) where
  none : 0 < sign_bit f
  none = pow_pos (f.exponent + f.fraction)

  zero_sign : negative f (zero f t) ≡ t
  zero_sign = negative-signed f 0 none t

  zero_units : units_of f (zero f t) ≡ 0
  zero_units = ap (magnitude f.fraction) (unsigned_signed f 0 none t) ∙ magnitude_zero f.fraction

rounded_nothing : (f : Format) → Valid f → (s : Bool) (n u : ℕ) → 0 < u → n ≡ 0 → rounded f s n u ≡ zero f s
rounded_nothing f v s n u hu e = rounded_is f s n u ∙ ap (signed f s) (rounded_zero f v s n u hu e)

-- ---- sums with zero

module _ (f : Format) (v : Valid f) (x : ℕ) (p : x < 2 * sign_bit f) (h : unsigned f x < infinity f) where
  -- x's own units, with its sign
  itself : (s : Bool) (n : ℕ) → negative f x ≡ s → n ≡ units_of f x → rounded f s n 1 ≡ x
  itself s n e g =
      rounded_exact f v s n 1 (omega arith) (unsigned f x) h (g ∙ omega arith)
      ∙ ap (λ (t : Bool). signed f t (unsigned f x)) (sym e)
      ∙ sym (signed_parts f x p)

  same_sign : (t : Bool) → negative f x ≡ t → sum f x (zero f t) ≡ x
  same_sign t e =
      sum_same f x (zero f t) t e (zero_sign f t) ∙ itself t (units_of f x + units_of f (zero f t)) e (omega (arith, zero_units f t))

  other_sign : (t : Bool) → negative f x ≡ not t → 0 < units_of f x → sum f x (zero f t) ≡ x
  other_sign t e l =
      sum_unlike f x (zero f t) (not t) e (zero_sign f t ∙ twice t) (omega (arith, zero_units f t))
      ∙ itself (not t) (units_of f x - units_of f (zero f t)) e (omega (arith, zero_units f t))

  -- x + (-0) is x
  pub sum_minus_zero : sum f x (zero f true) ≡ x
  sum_minus_zero = go (negative f x) refl
    where
      go : (s : Bool) → negative f x ≡ s → sum f x (zero f true) ≡ x
      go true e = same_sign true e
      go false e = ⊎_elim (λ l. other_sign true e l) (λ g. nothing (omega arith)) (lt_or_ge 0 (units_of f x))
        where
          nothing : units_of f x ≡ 0 → sum f x (zero f true) ≡ x
          nothing g = sum_opposite f x (zero f true) false e (zero_sign f true) (zero_units f true ∙ sym g) ∙ itself false 0 e (sym g)

  -- x + 0 is x, but for x = -0
  pub sum_plus_zero : (x ≡ zero f true → ⊥) → sum f x (zero f false) ≡ x
  sum_plus_zero n = go (negative f x) refl
    where
      go : (s : Bool) → negative f x ≡ s → sum f x (zero f false) ≡ x
      go false e = same_sign false e
      go true e = ⊎_elim (λ l. other_sign false e l) (λ g. absurd (n (is e (omega arith)))) (lt_or_ge 0 (units_of f x))
        where
          is : negative f x ≡ true → units_of f x ≡ 0 → x ≡ zero f true
          is e g =
              let rest : unsigned f x ≡ 0 = magnitude-same f.fraction (g ∙ sym (magnitude_zero f.fraction)) in
              signed_parts f x p ∙ ap (λ (t : Bool). signed f t (unsigned f x)) e ∙ ap (signed f true) rest

-- (-0) + 0 is 0
pub sum_zeros : (f : Format) → Valid f → sum f (zero f true) (zero f false) ≡ zero f false
sum_zeros f v =
    sum_opposite f (zero f true) (zero f false) true (zero_sign f true) (zero_sign f false) (zero_units f false ∙ sym (zero_units f true))
    ∙ rounded_nothing f v false 0 1 (omega arith) refl

-- ---- differences

-- x - 0 is x
pub difference_zero : (f : Format) → Valid f → (x : ℕ) → x < 2 * sign_bit f → unsigned f x < infinity f → difference f x (zero f false) ≡ x
unfolding difference
difference_zero f v x p h = ap (sum f x) (negated_is f (zero f false) true 0 (zero_sign f false) (unsigned_signed f 0 (none f false) false)) ∙ sum_minus_zero f v x p h

-- x - x is 0, and never -0
pub difference_self : (f : Format) → Valid f → (x : ℕ) → difference f x x ≡ zero f false
unfolding difference
difference_self f v x =
    sum_opposite f x (negated f x) (negative f x) refl (negative-negated f x) (ap (magnitude f.fraction) (unsigned-negated f x))
    ∙ rounded_nothing f v false 0 1 (omega arith) refl

-- ---- the sign turned

-- to nearest, halves to even, goes by the magnitude alone
rounded_turned : (f : Format) (s : Bool) (n u : ℕ) → negated f (rounded f s n u) ≡ rounded f (not s) n u
unfolding nearest parts
rounded_turned f s n u =
    negated_is f (rounded f s n u) (not s) (unsigned f (rounded f s n u)) (rounded_sign f s n u ∙ twice s) refl
    ∙ ap (signed f (not s)) (rounded_rest f s n u ∙ sym (rounded_rest f (not s) n u))
    ∙ sym (rounded_is f (not s) n u)

unlike_not : (s t : Bool) → not (unlike s t) ≡ unlike (not s) t
unlike_not true true = refl
unlike_not true false = refl
unlike_not false true = refl
unlike_not false false = refl

-- (-x) * y is -(x * y)
pub product-negated : (f : Format) (x y : ℕ) → product f (negated f x) y ≡ negated f (product f x y)
unfolding product
product-negated f x y =
    rw (negative-negated f x, unsigned-negated f x)
    (ap (λ (s : Bool). rounded f s (units_of f x * units_of f y) (one f)) (sym (unlike_not (negative f x) (negative f y)))
    ∙ sym (rounded_turned f (unlike (negative f x) (negative f y)) (units_of f x * units_of f y) (one f)))

-- ---- products with zero and one

-- a zero product is -0 where the signs differ
pub product_zero : (f : Format) → Valid f → (x : ℕ) (t : Bool) → product f x (zero f t) ≡ zero f (unlike (negative f x) t)
unfolding product
product_zero f v x t =
    rw (zero_sign f t)
    (rounded_nothing f v (unlike (negative f x) t) (units_of f x * units_of f (zero f t)) (one f) (pow_pos (bias f + f.fraction - 1))
    (ap (λ (n : ℕ). units_of f x * n) (zero_units f t) ∙ omega arith))

-- the pattern of 1
abbrev pub one_pattern : Format → ℕ
one_pattern f = bias f * 2 ^ f.fraction

module _ (f : Format) (v : Valid f) where
  one_below : one_pattern f < sign_bit f
  one_below = omega (arith, (room f (bias f) v refl).one_whole, (room f (bias f) v refl).whole, infinity-below_sign f)

  one_units : units_of f (one_pattern f) ≡ one f
  one_units =
      let F : ℕ = f.fraction in
      let b : bias f ≡ suc (bias f - 1) = omega (arith, (room f (bias f) v refl).two) in
      let split : one_pattern f ≡ (bias f - 1) * 2 ^ F + 2 ^ F = ap (λ (n : ℕ). n * 2 ^ F) b ∙ omega arith in
      ap (magnitude F) (mod-eq_of_lt one_below ∙ split)
      ∙ magnitude_at F (bias f - 1) (2 ^ F) (omega arith) (omega arith)
      ∙ powers F (bias f - 1) (bias f + F - 1) (omega (arith, b))

  one_sign : negative f (one_pattern f) ≡ false
  one_sign = lt-leb (sign_bit f) (one_pattern f) one_below

  -- x * 1 is x
  pub product-one : (x : ℕ) → x < 2 * sign_bit f → unsigned f x < infinity f → product f x (one_pattern f) ≡ x
  unfolding product
  product-one x p h =
      rw (one_sign, one_units)
      (ap (λ (s : Bool). rounded f s (units_of f x * one f) (one f)) (plain (negative f x))
      ∙ rounded_exact f v (negative f x) (units_of f x * one f) (one f) (pow_pos (bias f + f.fraction - 1)) (unsigned f x) h refl
      ∙ sym (signed_parts f x p))
    where
      plain : (s : Bool) → unlike s false ≡ s
      plain true = refl
      plain false = refl

  -- x * (-1) is -x
  pub product_minus_one : (x : ℕ) → x < 2 * sign_bit f → unsigned f x < infinity f → product f x (negated f (one_pattern f)) ≡ negated f x
  product_minus_one x p h =
      product_comm f x (negated f (one_pattern f))
      ∙ product-negated f (one_pattern f) x
      ∙ ap (negated f) (product_comm f (one_pattern f) x ∙ product-one x p h)
