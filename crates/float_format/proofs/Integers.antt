-- When a pattern's number is finite and has no fraction (`is_integral`): what that says of its units and of the roundings, and which patterns
-- are so. The one idea: the test reads the pattern without its sign alone, and of a finite one its units. Over every format; where a rounding
-- or an encoded number comes in, over every valid one. Assumes nothing.
use mathlib.Core.Path.{◌≡◌, refl, sym, ap, ◌∙◌}
use mathlib.Core.Bool.{Bool, true, false}
use mathlib.Core.List.{[], ◌∷◌, map}
use mathlib.Core.Logic.{⊎_elim, ◌↔◌}
use Prim.Native.Nat.{ℕ, suc, ◌+◌, ◌-◌, ◌*◌, ◌%◌, ◌^◌, ◌≤◌, ◌<◌}
use native.Mathlib.Nat.{eq-or-lt_of_le, mod-eq_of_lt, mul-mod_left, mul-le-mul_right, zero-mod}
use native.Mathlib.Omega.{arith}
use lib.Bits.{bit_or, or_mod, or_add_and, and_le_r}
use lib.Dec.{eqb}
use lib.Pow.{pow_pos}
use borrow.Author.Tests.{eq-eqb, ne_eqb, eqb-true, eqb-false, lt-ltb, le-ltb}
use Rattle.float_format.specs.Format.{Format, Valid, binary16, sign_bit, top_field, infinity, quiet_bit, negative, unsigned, signed, absolute, negated, is_nan, is_infinite, quieted}
use Rattle.float_format.specs.Number.{magnitude, encode, bias, one, units_of, is_integral, AtMost}
use Rattle.float_format.specs.Rounding.{integral}
use Rattle.float_format.specs.declared.Direction.{Direction}
use Rattle.float_format.proofs.Units.{lt_or_ge, three_way, encode_at, magnitude_at, magnitude_cancel, held_units}
use Rattle.float_format.proofs.Patterns.{below_sign, unsigned_signed, nan_is, infinite_is}
use Rattle.float_format.proofs.Integral.{integral_nan, integral_infinite}
use Rattle.float_format.proofs.Order.{magnitude_zero, infinity-below_sign, above_at, under_at, unsigned-negated}
use Rattle.float_format.proofs.Laws.{magnitude-same, zero_finite, result_finite, result_whole, whole_unchanged}

never : {A : Type 0} → false ≡ true → A
never e = let z : ◌≡◌ {A = ℕ} 0 1 = cc in absurd (omega arith)

-- ---- the test at its corners, which antt computes, so that a wrong one is refused by a number

-- 0, -0, 1, -3, 1024 and the greatest finite number are whole ..
pub whole_halves : map (is_integral binary16) (0x0000 ∷ 0x8000 ∷ 0x3c00 ∷ 0xc200 ∷ 0x6400 ∷ 0x7bff ∷ []) ≡ true ∷ true ∷ true ∷ true ∷ true ∷ true ∷ []
unfolding is_integral is_nan is_infinite magnitude
whole_halves = refl

-- .. the smallest subnormal, 0.5, -1.5 and 1023.5 are not, nor are the infinities and the default NaN
pub other_halves : map (is_integral binary16) (0x0001 ∷ 0x3800 ∷ 0xbe00 ∷ 0x63ff ∷ 0x7c00 ∷ 0xfc00 ∷ 0x7e00 ∷ [])
    ≡ false ∷ false ∷ false ∷ false ∷ false ∷ false ∷ false ∷ []
unfolding is_integral is_nan is_infinite magnitude
other_halves = refl

-- ---- by units

module _ (f : Format) (x : ℕ) where
  -- a finite pattern, by its units
  pub integer_test : unsigned f x < infinity f → is_integral f x ≡ eqb (units_of f x % one f) 0
  unfolding is_integral
  integer_test h =
      simp (nan_is f x, le-ltb (infinity f) (unsigned f x) (omega arith), infinite_is f x, ne_eqb (unsigned f x) (infinity f) (omega arith))

  -- no infinity and no NaN is a whole number
  pub integer_beyond : infinity f ≤ unsigned f x → is_integral f x ≡ false
  unfolding is_integral
  integer_beyond h = ⊎_elim infinite nan (eq-or-lt_of_le h)
    where
      infinite : infinity f ≡ unsigned f x → is_integral f x ≡ false
      infinite e = simp (nan_is f x, le-ltb (infinity f) (unsigned f x) (omega arith), infinite_is f x, eq-eqb (unsigned f x) (infinity f) (sym e))

      nan : infinity f < unsigned f x → is_integral f x ≡ false
      nan l = simp (nan_is f x, lt-ltb (infinity f) (unsigned f x) l)

  -- A whole number is finite, and a number of ones.
  pub integer_units : is_integral f x ≡ true ↔ ((unsigned f x < infinity f) × (units_of f x % one f ≡ 0))
  integer_units = (
    λ e. ⊎_elim (λ l. (l, eqb-true (units_of f x % one f) 0 (sym (integer_test l) ∙ e))) (λ g. never (sym (integer_beyond g) ∙ e)) (lt_or_ge (unsigned f x) (infinity f)),
    λ h. integer_test h.0 ∙ eq-eqb (units_of f x % one f) 0 h.1,
  )

  pub integer_finite : is_integral f x ≡ true → unsigned f x < infinity f
  integer_finite e = (integer_units.0 e).0

  pub integer_number : is_integral f x ≡ true → is_nan f x ≡ false
  integer_number e = nan_is f x ∙ le-ltb (infinity f) (unsigned f x) (omega (arith, integer_finite e))

-- ---- by the roundings

-- quieting takes no bit away
quieted_rest : (f : Format) (x : ℕ) → unsigned f x ≤ unsigned f (quieted f x)
unfolding quieted
quieted_rest f x =
    let q : ℕ = quiet_bit f % sign_bit f in
    let e : bit_or x (quiet_bit f) % sign_bit f ≡ bit_or (unsigned f x) q = or_mod x (quiet_bit f) (f.exponent + f.fraction) in
    omega (arith, or_add_and (unsigned f x) q, and_le_r (unsigned f x) q)

module _ (f : Format) (d : Direction) (x : ℕ) (v : Valid f) where
  -- Rounding any finite number gives a whole one ..
  pub rounded_integer : unsigned f x < infinity f → is_integral f (integral f d x) ≡ true
  rounded_integer h = (integer_units f (integral f d x)).1 (result_finite f d x v h, result_whole f d x v h)

  -- .. and an answer that is finite is whole: an infinity stays one, and a NaN a NaN ..
  pub finite_integer : unsigned f (integral f d x) < infinity f → is_integral f (integral f d x) ≡ true
  finite_integer h =
      three_way (unsigned f x) (infinity f) rounded_integer
      (λ e. absurd (omega (arith, ap (unsigned f) (integral_infinite f d x e))))
      (λ l. absurd (omega (arith, ap (unsigned f) (integral_nan f d x l), quieted_rest f x)))

  module _ (p : x < 2 * sign_bit f) where
    -- .. so a finite number is whole exactly where a rounding leaves it alone, in whatever direction ..
    pub integer_rounded : unsigned f x < infinity f → is_integral f x ≡ eqb (integral f d x) x
    integer_rounded h = pick (eqb (integral f d x) x) refl
      where
        pick : (t : Bool) → eqb (integral f d x) x ≡ t → is_integral f x ≡ t
        pick true e = ap (is_integral f) (sym (eqb-true (integral f d x) x e)) ∙ rounded_integer h
        pick false e = integer_test f x h ∙ ne_eqb (units_of f x % one f) 0 (λ w. eqb-false (integral f d x) x e (whole_unchanged f d x v p h w))

    -- .. the same as two facts.
    pub integer_unchanged : is_integral f x ≡ true ↔ ((unsigned f x < infinity f) × (integral f d x ≡ x))
    integer_unchanged = (
      λ e. let l : unsigned f x < infinity f = integer_finite f x e in (l, eqb-true (integral f d x) x (sym (integer_rounded l) ∙ e)),
      λ h. integer_rounded h.0 ∙ eq-eqb (integral f d x) x h.1,
    )

-- ---- by the pattern without its sign

-- the test reads nothing else
pub integer_rest : (f : Format) (x y : ℕ) → unsigned f x ≡ unsigned f y → is_integral f x ≡ is_integral f y
unfolding is_integral is_nan is_infinite
integer_rest f x y e = rw e

module _ (f : Format) (x : ℕ) where
  pub integer_absolute : is_integral f (absolute f x) ≡ is_integral f x
  unfolding absolute
  integer_absolute = integer_rest f (unsigned f x) x (mod-eq_of_lt (below_sign f x))

  pub integer_negated : is_integral f (negated f x) ≡ is_integral f x
  integer_negated = integer_rest f (negated f x) x (unsigned-negated f x)

  -- both zeros are whole
  pub zero_integer : Valid f → unsigned f x ≡ 0 → is_integral f x ≡ true
  zero_integer v e =
      let z : units_of f x ≡ 0 = ap (magnitude f.fraction) e ∙ magnitude_zero f.fraction in
      (integer_units f x).1 (zero_finite f v e, ap (λ (n : ℕ). n % one f) z ∙ zero-mod (one f))

-- patterns of one number have one rest: they differ at most in the sign, of a zero
pub equal_rest : (f : Format) (x y : ℕ) → AtMost f x y → AtMost f y x → unsigned f x ≡ unsigned f y
equal_rest f x y g h = magnitude-same f.fraction _ _ (pick (negative f x) (negative f y) refl refl)
  where
    pick : (s t : Bool) → negative f x ≡ s → negative f y ≡ t → units_of f x ≡ units_of f y
    pick true true e e' = omega (arith, above_at f x true e, under_at f x true e, above_at f y true e', under_at f y true e')
    pick true false e e' = omega (arith, above_at f x true e, under_at f x true e, above_at f y false e', under_at f y false e')
    pick false true e e' = omega (arith, above_at f x false e, under_at f x false e, above_at f y true e', under_at f y true e')
    pick false false e e' = omega (arith, above_at f x false e, under_at f x false e, above_at f y false e', under_at f y false e')

-- A number that equals a whole one is whole.
pub integer_equal : (f : Format) (x y : ℕ) → AtMost f x y → AtMost f y x → is_integral f x ≡ is_integral f y
integer_equal f x y g h = integer_rest f x y (equal_rest f x y g h)

-- ---- a number of ones

-- m * 2 ^ j, for m up to 2^(F + 1), is what its pattern stands for, and that is not beyond the pattern of 2^(F + 1)
module _ (F m j : ℕ) (h : m ≤ 2 * 2 ^ F) where
  scaled_units : magnitude F (encode F (m * 2 ^ j)) ≡ m * 2 ^ j
  scaled_units = ⊎_elim top (λ l. held_units F m j l) (eq-or-lt_of_le h)
    where
      top : m ≡ 2 * 2 ^ F → magnitude F (encode F (m * 2 ^ j)) ≡ m * 2 ^ j
      top e = ap (magnitude F) (encode_at F j m (omega arith) h) ∙ magnitude_at F j m (omega arith) h

  scaled-most : encode F (m * 2 ^ j) ≤ j * 2 ^ F + 2 * 2 ^ F
  scaled-most = magnitude_cancel F (omega (arith, scaled_units, magnitude_at F j (2 * 2 ^ F) (omega arith) (omega arith), mul-le-mul_right (2 ^ j) h))

-- the pattern of 2^(F + 1) ones is below infinity's, where F and 1 are below the bias and 1
below-infinity : (f : Format) → Valid f → suc f.fraction < 2 ^ (f.exponent - 1)
    → (bias f + f.fraction - 1) * 2 ^ f.fraction + 2 * 2 ^ f.fraction < infinity f
below-infinity f v near =
    let twice : 2 ^ f.exponent ≡ 2 ^ suc (f.exponent - 1) = ap (λ (n : ℕ). 2 ^ n) (omega (arith, v.some_exponent)) in
    let field : bias f + f.fraction - 1 + 3 ≤ top_field f = omega arith in
    omega (arith, mul-le-mul_right (2 ^ f.fraction) field, pow_pos f.fraction)

-- The pattern of a whole number m up to 2^(F + 1), of either sign, is whole, where the format holds 2^(F + 1): up to there it is exact.
pub encoded_integer : (f : Format) (s : Bool) (m : ℕ) → Valid f → suc f.fraction < 2 ^ (f.exponent - 1) → m ≤ 2 ^ suc f.fraction
    → is_integral f (signed f s (encode f.fraction (m * one f))) ≡ true
encoded_integer f s m v near h =
    let F : ℕ = f.fraction in
    let j : ℕ = bias f + f.fraction - 1 in
    let a : ℕ = encode f.fraction (m * one f) in
    let l : m ≤ 2 * 2 ^ F = omega (arith, h) in
    let finite : a < infinity f = omega (arith, scaled-most F m j l, below-infinity f v near) in
    let rest : unsigned f (signed f s a) ≡ a = unsigned_signed f a (omega (arith, infinity-below_sign f)) s in
    (integer_units f (signed f s a)).1
    (omega arith, ap (λ (n : ℕ). magnitude F n % one f) rest ∙ ap (λ (n : ℕ). n % one f) (scaled_units F m j l) ∙ mul-mod_left m (one f))
