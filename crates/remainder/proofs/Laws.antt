-- What a user would state of fmod, with no remainder of whole numbers in it: for finite x and y, y not zero, x is a whole number of ys and
-- the answer, which is below y in magnitude and has x's sign, and nothing else is; of whole numbers it is whole; then infinite y, NaNs and
-- refusal 2. Units are those of `float_format`: a finite number is its sign and its units, exactly. Over every format. Assumes nothing.
use mathlib.Core.Path.{◌≡◌, refl, sym, ap, ◌∙◌}
use mathlib.Core.Bool.{Bool, true, false, not, ◌&&◌, ◌||◌, cond}
use mathlib.Core.Logic.{◌⊎◌, inl, inr, ⊎_elim, ◌↔◌}
use Prim.Native.Nat.{ℕ, ◌+◌, ◌*◌, ◌/◌, ◌%◌, ◌≤◌, ◌<◌}
use native.Mathlib.Nat.{div-add-mod', mod-lt, mod-le, mul_assoc, mul-add-mod_self_right, le_antisymm, eq-zero-or-pos}
use native.Mathlib.Omega.{arith}
use lib.Arith.{digits_mod}
use Rattle.float_format.specs.Format.{Format, Valid, sign_bit, infinity, default_nan, negative, unsigned, signed, is_nan, is_infinite, is_zero, quieted}
use Rattle.float_format.specs.Number.{magnitude, encode, one, above, under, units_of, is_integral}
use Rattle.float_format.proofs.Units.{lt_or_ge, three_way, magnitude_mono, magnitude_cancel}
use Rattle.float_format.proofs.Patterns.{negative-signed, unsigned_signed, signed_lt, signed_parts}
use Rattle.float_format.proofs.Integral.{quieted_lt, default_nan_lt}
use Rattle.float_format.proofs.Order.{magnitude_zero, infinity-below_sign, above_at, under_at}
use Rattle.float_format.proofs.Integers.{integer_units}
use Rattle.remainder.specs.Remainder.{fmod, fmod_refusal, no_remainder}
use Rattle.remainder.proofs.Cases.{Answers, nan_first, nan_second, no_remainder_lem, infinite_divisor, finite_operands, either}
use Rattle.remainder.proofs.Exact.{remainder_exact}

-- ---- finite x and y, y not zero

pub record Operands (f : Format) (x y : ℕ) : Type 0 where
  pub finite_x : unsigned f x < infinity f
  pub finite_y : unsigned f y < infinity f
  pub nonzero : 0 < unsigned f y

-- numbers with the signs s and t: of one sign y is taken n times, of two -n times
by_signs : (X R Y n : ℕ) (s t : Bool) → X ≡ n * Y + R → (p : ℕ) × (q : ℕ) ×
    (cond s 0 X + cond s R 0 + p * cond t Y 0 + q * cond t 0 Y ≡ cond s 0 R + cond s X 0 + p * cond t 0 Y + q * cond t Y 0)
by_signs X R Y n true true e = (n, 0, omega arith)
by_signs X R Y n true false e = (0, n, omega arith)
by_signs X R Y n false true e = (0, n, omega arith)
by_signs X R Y n false false e = (n, 0, omega arith)

module _ (f : Format) (x y : ℕ) (o : Operands f x y) where
  rest : ℕ
  rest = encode f.fraction (units_of f x % units_of f y)

  rest_units : magnitude f.fraction rest ≡ units_of f x % units_of f y
  unfolding rest
  rest_units = remainder_exact f.fraction (unsigned f x) (unsigned f y) o.nonzero

  rest_lt : rest < infinity f
  rest_lt =
      let l : rest ≤ unsigned f x = magnitude_cancel f.fraction (omega (arith, rest_units, mod-le (units_of f x) (units_of f y))) in
      omega (arith, o.finite_x)

  rest_fits : rest < sign_bit f
  rest_fits = omega (arith, rest_lt, infinity-below_sign f)

  is : fmod f x y ≡ signed f (negative f x) rest
  unfolding rest
  is = (finite_operands f x y o.finite_x o.finite_y o.nonzero).is

  units : units_of f (fmod f x y) ≡ units_of f x % units_of f y
  units = ap (units_of f) is ∙ ap (magnitude f.fraction) (unsigned_signed f rest rest_fits (negative f x)) ∙ rest_units

  some_units : 0 < units_of f y
  some_units = omega (arith, magnitude_zero f.fraction, magnitude_mono f.fraction o.nonzero)

  -- the answer is finite
  pub fmod_finite : unsigned f (fmod f x y) < infinity f
  fmod_finite = omega (arith, rest_lt, ap (unsigned f) is ∙ unsigned_signed f rest rest_fits (negative f x))

  -- it has x's sign, a zero too
  pub fmod_sign : negative f (fmod f x y) ≡ negative f x
  fmod_sign = ap (negative f) is ∙ negative-signed f rest rest_fits (negative f x)

  -- its magnitude is below y's
  pub fmod-below : units_of f (fmod f x y) < units_of f y
  fmod-below = omega (arith, units, mod-lt (units_of f x) some_units)

  -- and not above x's
  pub fmod_at_most : units_of f (fmod f x y) ≤ units_of f x
  fmod_at_most = omega (arith, units, mod-le (units_of f x) (units_of f y))

  -- x's magnitude is some number of y's and the answer's
  pub fmod_exact : (n : ℕ) × (units_of f x ≡ n * units_of f y + units_of f (fmod f x y))
  fmod_exact = (units_of f x / units_of f y, omega (arith, units, div-add-mod' (units_of f x) (units_of f y)))

  -- with the signs: x less the answer is p - q times y, above - under being a number by its sign
  pub fmod_whole : (p : ℕ) × (q : ℕ) ×
      (above f x + under f (fmod f x y) + p * under f y + q * above f y ≡ above f (fmod f x y) + under f x + p * above f y + q * under f y)
  fmod_whole =
      rw (above_at f x (negative f x) refl, under_at f x (negative f x) refl, above_at f (fmod f x y) (negative f x) fmod_sign, under_at f (fmod f x y) (negative f x) fmod_sign, above_at f y (negative f y) refl, under_at f y (negative f y) refl)
      (by_signs (units_of f x) (units_of f (fmod f x y)) (units_of f y) fmod_exact.0 (negative f x) (negative f y) fmod_exact.1)

  -- no other pattern is so
  pub fmod_only : (r n : ℕ) → r < 2 * sign_bit f → negative f r ≡ negative f x → units_of f r < units_of f y
      → units_of f x ≡ n * units_of f y + units_of f r → r ≡ fmod f x y
  fmod_only r n p s l e =
      let u : units_of f r ≡ units_of f x % units_of f y = sym (ap (λ (k : ℕ). k % units_of f y) e ∙ digits_mod n l) in
      let m : magnitude f.fraction (unsigned f r) ≡ magnitude f.fraction rest = u ∙ sym rest_units in
      let a : unsigned f r ≡ rest = le_antisymm (magnitude_cancel f.fraction (omega arith)) (magnitude_cancel f.fraction (omega arith)) in
      signed_parts f r p ∙ ap (λ (b : Bool). signed f b (unsigned f r)) s ∙ ap (signed f (negative f x)) a ∙ sym is

  -- so x itself, where it is below y already
  pub fmod_smaller : x < 2 * sign_bit f → units_of f x < units_of f y → fmod f x y ≡ x
  fmod_smaller p l = sym (fmod_only x 0 p refl l (omega arith))

-- and a second time nothing more comes off
pub fmod_again : (f : Format) (x y : ℕ) → Operands f x y → fmod f (fmod f x y) y ≡ fmod f x y
fmod_again f x y o =
    fmod_smaller f (fmod f x y) y
    (record { finite_x = fmod_finite f x y o; finite_y = o.finite_y; nonzero = o.nonzero })
    (rw (is f x y o) (signed_lt f (rest f x y o) (rest_fits f x y o) (negative f x)))
    (fmod-below f x y o)

-- ---- whole numbers

-- the rest of a multiple of u by a multiple of u is one
rest_multiple : (X Y R n u : ℕ) → X ≡ n * Y + R → X % u ≡ 0 → Y % u ≡ 0 → R % u ≡ 0
rest_multiple X Y R n u e x y =
    let m : n * Y ≡ n * (Y / u) * u = ap (λ (k : ℕ). n * k) (omega (arith, div-add-mod' Y u)) ∙ sym (mul_assoc n (Y / u) u) in
    let s : X ≡ n * (Y / u) * u + R = omega arith in
    sym (ap (λ (k : ℕ). k % u) s ∙ mul-add-mod_self_right (n * (Y / u)) u R) ∙ x

-- Of two whole numbers, the divisor not zero, the answer is whole.
pub fmod-integral : (f : Format) (x y : ℕ) → is_integral f x ≡ true → is_integral f y ≡ true → 0 < unsigned f y → is_integral f (fmod f x y) ≡ true
fmod-integral f x y hx hy some =
    let wx : (unsigned f x < infinity f) × (units_of f x % one f ≡ 0) = (integer_units f x).0 hx in
    let wy : (unsigned f y < infinity f) × (units_of f y % one f ≡ 0) = (integer_units f y).0 hy in
    let o : Operands f x y = record { finite_x = wx.0; finite_y = wy.0; nonzero = some } in
    let n : (n : ℕ) × (units_of f x ≡ n * units_of f y + units_of f (fmod f x y)) = fmod_exact f x y o in
    (integer_units f (fmod f x y)).1
    (fmod_finite f x y o, rest_multiple (units_of f x) (units_of f y) (units_of f (fmod f x y)) n.0 (one f) n.1 wx.1 wy.1)

-- ---- the other operands

-- the refusal by its test
abbrev code : Bool → ℕ
code t = cond t 2 0

refusal_table : (a b c d : Bool)
    → code (not a && not b && (c || d)) ≡ 2 ↔ (a ≡ false) × (b ≡ false) × ((c ≡ true) ⊎ (d ≡ true))
refusal_table a b c d = (refused a b c d, λ h. table a b c d h.0 h.1 h.2)
  where
    never : {P : Type 0} → ◌≡◌ {A = ℕ} 0 2 → P
    never e = absurd (omega arith)

    refused : (a b c d : Bool) → code (not a && not b && (c || d)) ≡ 2 → (a ≡ false) × (b ≡ false) × ((c ≡ true) ⊎ (d ≡ true))
    refused true b c d e = never e
    refused false true c d e = never e
    refused false false true d e = (refl, refl, inl refl)
    refused false false false true e = (refl, refl, inr refl)
    refused false false false false e = never e

    table : (a b c d : Bool) → a ≡ false → b ≡ false → (c ≡ true) ⊎ (d ≡ true) → code (not a && not b && (c || d)) ≡ 2
    table a b c d ea eb h = simp (ea, eb, either c d h)

one_or_none : (t : Bool) → (code t ≡ 0) ⊎ (code t ≡ 2)
one_or_none true = inr refl
one_or_none false = inl refl

module _ (f : Format) (x y : ℕ) where
  -- fmod(x, infinity) is x for finite x
  pub fmod-infinity : unsigned f x < infinity f → unsigned f y ≡ infinity f → fmod f x y ≡ x
  fmod-infinity h e = (infinite_divisor f x y h e).is

  -- the first NaN, quieted
  pub fmod-first_nan : is_nan f x ≡ true → fmod f x y ≡ quieted f x
  unfolding fmod
  fmod-first_nan e = simp e

  pub fmod-second_nan : is_nan f x ≡ false → is_nan f y ≡ true → fmod f x y ≡ quieted f y
  unfolding fmod
  fmod-second_nan e g = simp (e, g)

  -- ---- refusal 2

  -- exactly where neither is a NaN, and x is infinite or y zero
  pub fmod_refuses : fmod_refusal f x y ≡ 2 ↔ (is_nan f x ≡ false) × (is_nan f y ≡ false) × ((is_infinite f x ≡ true) ⊎ (is_zero f y ≡ true))
  unfolding fmod_refusal
  fmod_refuses = refusal_table (is_nan f x) (is_nan f y) (is_infinite f x) (is_zero f y)

  -- otherwise it refuses nothing
  pub fmod_refuses_or_not : (fmod_refusal f x y ≡ 0) ⊎ (fmod_refusal f x y ≡ 2)
  unfolding fmod_refusal
  fmod_refuses_or_not = one_or_none (not (is_nan f x) && not (is_nan f y) && no_remainder f x y)

  -- and where it does, the answer is the default NaN
  pub fmod_refused : fmod_refusal f x y ≡ 2 → fmod f x y ≡ default_nan f
  unfolding fmod
  fmod_refused e =
      let h : (is_nan f x ≡ false) × (is_nan f y ≡ false) × ((is_infinite f x ≡ true) ⊎ (is_zero f y ≡ true)) = fmod_refuses.0 e in
      simp (h.0, h.1, either (is_infinite f x) (is_zero f y) h.2)

  -- of patterns the answer is a pattern
  pub fmod_lt : Valid f → x < 2 * sign_bit f → y < 2 * sign_bit f → fmod f x y < 2 * sign_bit f
  fmod_lt v p q = three_way (unsigned f x) (infinity f) finite infinite nan
    where
      word_lt : {w r : ℕ} → Answers f x y w r → w < 2 * sign_bit f → fmod f x y < 2 * sign_bit f
      word_lt a l = rw a.is l

      default : (unsigned f x ≤ infinity f) → (unsigned f y ≤ infinity f) → (unsigned f x ≡ infinity f) ⊎ (unsigned f y ≡ 0) → fmod f x y < 2 * sign_bit f
      default hx hy s = word_lt (no_remainder_lem f x y hx hy s) (omega (arith, default_nan_lt f v))

      second : unsigned f x ≤ infinity f → infinity f < unsigned f y → fmod f x y < 2 * sign_bit f
      second hx l = word_lt (nan_second f x y hx l) (quieted_lt f y v q)

      nan : infinity f < unsigned f x → fmod f x y < 2 * sign_bit f
      nan l = word_lt (nan_first f x y l) (quieted_lt f x v p)

      infinite : unsigned f x ≡ infinity f → fmod f x y < 2 * sign_bit f
      infinite e = ⊎_elim (λ l. second (omega arith) l) (λ g. default (omega arith) g (inl e)) (lt_or_ge (infinity f) (unsigned f y))

      finite : unsigned f x < infinity f → fmod f x y < 2 * sign_bit f
      finite l =
          three_way (unsigned f y) (infinity f)
          (λ k. ⊎_elim (λ z. default (omega arith) (omega arith) (inr z)) (λ n. both k n) (eq-zero-or-pos (unsigned f y)))
          (λ e. word_lt (infinite_divisor f x y l e) p)
          (λ k. second (omega arith) k)
        where
          both : unsigned f y < infinity f → 0 < unsigned f y → fmod f x y < 2 * sign_bit f
          both k n =
              let o : Operands f x y = record { finite_x = l; finite_y = k; nonzero = n } in
              rw (is f x y o) (signed_lt f (rest f x y o) (rest_fits f x y o) (negative f x))
