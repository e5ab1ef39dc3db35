-- A pattern is its sign and the rest, and its class follows from the rest alone: beyond infinity's pattern a NaN, below 2 ^ F a
-- subnormal or zero. Over every format. Assumes nothing.
use mathlib.Core.Path.{◌≡◌, sym, ap, ◌∙◌}
use mathlib.Core.Bool.{Bool, true, false, not, ◌&&◌}
use mathlib.Core.Logic.{⊎_elim}
use Prim.Native.Nat.{ℕ, suc, ◌+◌, ◌-◌, ◌*◌, ◌/◌, ◌%◌, ◌^◌, ◌≤◌, ◌<◌}
use native.Mathlib.Nat.{mod-lt, mod-eq_of_lt, div-lt_iff_lt-mul, le-div_iff_mul-le, div-add-mod', div-eq_of_lt}
use native.Mathlib.Omega.{arith}
use lib.Dec.{ltb, eqb}
use lib.Arith.{digits_mod}
use lib.Bits.{bit_xor, xor_block, xor_zero_r, xor_zero_l, xor_self}
use lib.Pow.{pow_pos, pow-add, suc_ones}
use borrow.Author.Tests.{eq-eqb, ne_eqb, lt-ltb, le-ltb, le-leb, lt-leb}
use Rattle.float_format.specs.Format.{Format, sign_bit, top_field, infinity, negative, unsigned, signed, negated, is_nan, is_infinite, is_zero, is_subnormal, classify, quieted, propagated}
use Rattle.float_format.specs.declared.Class.TheVariants.{Nan, Infinite, Zero, Subnormal, Normal}
use Rattle.float_format.proofs.Units.{lt_or_ge}

-- ---- the sign and the rest

pub below_sign : (f : Format) (x : ℕ) → unsigned f x < sign_bit f
below_sign f x = mod-lt x (pow_pos (f.exponent + f.fraction))

module _ (f : Format) (a : ℕ) (h : a < sign_bit f) where
  pub negative-signed : (s : Bool) → negative f (signed f s a) ≡ s
  negative-signed true = le-leb (sign_bit f) (sign_bit f + a) (omega arith)
  negative-signed false = lt-leb (sign_bit f) (0 + a) (omega arith)

  pub unsigned_signed : (s : Bool) → unsigned f (signed f s a) ≡ a
  unsigned_signed true = ap (λ (n : ℕ). (n + a) % sign_bit f) (omega arith) ∙ digits_mod 1 h
  unsigned_signed false = ap (λ (n : ℕ). n % sign_bit f) (omega arith) ∙ mod-eq_of_lt h

  pub signed_lt : (s : Bool) → signed f s a < 2 * sign_bit f
  signed_lt true = omega arith
  signed_lt false = omega arith

module _ (f : Format) (x : ℕ) (h : x < 2 * sign_bit f) where
  pub signed_parts : x ≡ signed f (negative f x) (unsigned f x)
  signed_parts = ⊎_elim (λ l. plus l) (λ g. minus g) (lt_or_ge x (sign_bit f))
    where
      plus : x < sign_bit f → x ≡ signed f (negative f x) (unsigned f x)
      plus l = sym (ap (λ (s : Bool). signed f s (unsigned f x)) (lt-leb (sign_bit f) x l) ∙ ap (λ (n : ℕ). 0 + n) (mod-eq_of_lt l) ∙ omega arith)

      minus : sign_bit f ≤ x → x ≡ signed f (negative f x) (unsigned f x)
      minus g =
          let a : ℕ = x - sign_bit f in
          let e : x ≡ 1 * sign_bit f + a = omega arith in
          let m : unsigned f x ≡ a = ap (λ (n : ℕ). n % sign_bit f) e ∙ digits_mod 1 (omega arith) in
          sym (ap (λ (s : Bool). signed f s (unsigned f x)) (le-leb (sign_bit f) x g) ∙ omega (arith, m))

  -- the sign flipped by one exclusive or
  pub flip_sign : bit_xor x (sign_bit f) ≡ negated f x
  unfolding negated
  flip_sign =
      ap (λ (n : ℕ). bit_xor n (sign_bit f)) signed_parts ∙ flip (negative f x) (unsigned f x) (below_sign f x)
    where
      block : (q a : ℕ) → a < sign_bit f → bit_xor (q * sign_bit f + a) (1 * sign_bit f + 0) ≡ bit_xor q 1 * sign_bit f + a
      block q a l =
          xor_block (f.exponent + f.fraction) q 1 a 0 l (pow_pos (f.exponent + f.fraction)) ∙ ap (λ (n : ℕ). bit_xor q 1 * sign_bit f + n) (xor_zero_r a)

      weight : sign_bit f ≡ 1 * sign_bit f + 0
      weight = omega arith

      flip : (s : Bool) (a : ℕ) → a < sign_bit f → bit_xor (signed f s a) (sign_bit f) ≡ signed f (not s) a
      flip true a l =
          ap (λ (n : ℕ). bit_xor (n + a) (sign_bit f)) (omega arith) ∙ ap (bit_xor (1 * sign_bit f + a)) weight ∙ block 1 a l ∙ ap (λ (n : ℕ). n * sign_bit f + a) (xor_self 1) ∙ omega arith
      flip false a l =
          ap (λ (n : ℕ). bit_xor (n + a) (sign_bit f)) (omega arith) ∙ ap (bit_xor (0 * sign_bit f + a)) weight ∙ block 0 a l ∙ ap (λ (n : ℕ). n * sign_bit f + a) (xor_zero_l 1) ∙ omega arith

-- ---- classes

-- a below suc T * P, its field a / P against the largest, T
module _ (T P a : ℕ) (p : 0 < P) (h : a < suc T * P) where
  field_le : a / P ≤ T
  field_le = omega (arith, (div-lt_iff_lt-mul {k = P} {x = a} {y = suc T} p).1 h)

  split : a / P * P + a % P ≡ a
  split = div-add-mod' a P

  -- the field is the largest exactly from T * P on
  top_field_lem : T * P ≤ a → a / P ≡ T
  top_field_lem g = omega (arith, field_le, (le-div_iff_mul-le {k = P} {x = T} {y = a} p).1 g)

  low_field : a < T * P → a / P < T
  low_field l = (div-lt_iff_lt-mul p).1 l

  at_top : T * P ≤ a → a % P ≡ a - T * P
  at_top g = omega (arith, split, ap (λ (n : ℕ). n * P) (top_field_lem g))

  nan_fields : (eqb (a / P) T && not (eqb (a % P) 0)) ≡ ltb (T * P) a
  nan_fields = ⊎_elim (λ l. low l) (λ g. high g) (lt_or_ge a (T * P))
    where
      low : a < T * P → (eqb (a / P) T && not (eqb (a % P) 0)) ≡ ltb (T * P) a
      low l = simp (ne_eqb (a / P) T (omega (arith, low_field l)), le-ltb (T * P) a (omega arith))

      high : T * P ≤ a → (eqb (a / P) T && not (eqb (a % P) 0)) ≡ ltb (T * P) a
      high g =
          simp (eq-eqb (a / P) T (top_field_lem g), at_top g)
          (⊎_elim
          (λ k. simp (ne_eqb (a - T * P) 0 (omega arith), lt-ltb (T * P) a k))
          (λ k. simp (eq-eqb (a - T * P) 0 (omega arith), le-ltb (T * P) a k))
          (lt_or_ge (T * P) a))

  infinite_fields : (eqb (a / P) T && eqb (a % P) 0) ≡ eqb a (T * P)
  infinite_fields = ⊎_elim (λ l. low l) (λ g. high g) (lt_or_ge a (T * P))
    where
      low : a < T * P → (eqb (a / P) T && eqb (a % P) 0) ≡ eqb a (T * P)
      low l = simp (ne_eqb (a / P) T (omega (arith, low_field l)), ne_eqb a (T * P) (omega arith))

      high : T * P ≤ a → (eqb (a / P) T && eqb (a % P) 0) ≡ eqb a (T * P)
      high g =
          simp (eq-eqb (a / P) T (top_field_lem g), at_top g)
          (⊎_elim
          (λ k. simp (ne_eqb (a - T * P) 0 (omega arith), ne_eqb a (T * P) (omega arith)))
          (λ k. simp (eq-eqb (a - T * P) 0 (omega arith), eq-eqb a (T * P) (omega arith)))
          (lt_or_ge (T * P) a))

module _ (f : Format) (x : ℕ) where
  fits : unsigned f x < suc (top_field f) * 2 ^ f.fraction
  fits = omega (arith, below_sign f x, pow-add 2 f.exponent f.fraction, ap (λ (n : ℕ). n * 2 ^ f.fraction) (suc_ones f.exponent))

  pub nan_is : is_nan f x ≡ ltb (infinity f) (unsigned f x)
  unfolding is_nan
  nan_is = nan_fields (top_field f) (2 ^ f.fraction) (unsigned f x) (pow_pos f.fraction) fits

  pub infinite_is : is_infinite f x ≡ eqb (unsigned f x) (infinity f)
  unfolding is_infinite
  infinite_is = infinite_fields (top_field f) (2 ^ f.fraction) (unsigned f x) (pow_pos f.fraction) fits

  -- a NaN is handed on quieted, any other pattern as it stands
  pub propagated_nan : infinity f < unsigned f x → propagated f x ≡ quieted f x
  unfolding propagated
  propagated_nan l = simp (nan_is, lt-ltb (infinity f) (unsigned f x) l)

  pub propagated-number : unsigned f x ≤ infinity f → propagated f x ≡ x
  unfolding propagated
  propagated-number h = simp (nan_is, le-ltb (infinity f) (unsigned f x) h)

  -- a field of 0, where the rest is the fraction
  low_is : unsigned f x < 2 ^ f.fraction → (is_zero f x ≡ eqb (unsigned f x) 0) × (is_subnormal f x ≡ not (eqb (unsigned f x) 0))
  unfolding is_zero is_subnormal
  low_is l = (
    simp (eq-eqb (unsigned f x / 2 ^ f.fraction) 0 (div-eq_of_lt l), mod-eq_of_lt l),
    simp (eq-eqb (unsigned f x / 2 ^ f.fraction) 0 (div-eq_of_lt l), mod-eq_of_lt l),
  )

  high_is : 2 ^ f.fraction ≤ unsigned f x → (is_zero f x ≡ false) × (is_subnormal f x ≡ false)
  unfolding is_zero is_subnormal
  high_is g =
      let q : 1 ≤ unsigned f x / 2 ^ f.fraction = (le-div_iff_mul-le (pow_pos f.fraction)).1 (omega arith) in (
        simp (ne_eqb (unsigned f x / 2 ^ f.fraction) 0 (omega arith)),
        simp (ne_eqb (unsigned f x / 2 ^ f.fraction) 0 (omega arith)),
      )

  -- ---- the five classes, by the rest of the pattern

  pub class_nan : infinity f < unsigned f x → classify f x ≡ Nan
  unfolding classify
  class_nan l = simp (nan_is, lt-ltb (infinity f) (unsigned f x) l)

  module _ (l : unsigned f x ≤ infinity f) where
    no_nan : is_nan f x ≡ false
    no_nan = nan_is ∙ le-ltb (infinity f) (unsigned f x) l

    pub class_infinite : unsigned f x ≡ infinity f → classify f x ≡ Infinite
    unfolding classify
    class_infinite e = simp (no_nan, infinite_is, eq-eqb (unsigned f x) (infinity f) e)

    module _ (n : unsigned f x ≡ infinity f → ⊥) where
      finite : is_infinite f x ≡ false
      finite = infinite_is ∙ ne_eqb (unsigned f x) (infinity f) n

      pub class_zero : unsigned f x ≡ 0 → classify f x ≡ Zero
      unfolding classify
      class_zero e =
          let z : is_zero f x ≡ true = (low_is (omega (arith, pow_pos f.fraction))).0 ∙ eq-eqb (unsigned f x) 0 e in
          simp (no_nan, finite, z)

      module _ (p : unsigned f x ≡ 0 → ⊥) where
        pub class_subnormal : unsigned f x < 2 ^ f.fraction → classify f x ≡ Subnormal
        unfolding classify
        class_subnormal k =
            let z : is_zero f x ≡ false = (low_is k).0 ∙ ne_eqb (unsigned f x) 0 p in
            let b : is_subnormal f x ≡ true = (low_is k).1 ∙ ap not (ne_eqb (unsigned f x) 0 p) in
            simp (no_nan, finite, z, b)

        pub class_normal : 2 ^ f.fraction ≤ unsigned f x → classify f x ≡ Normal
        unfolding classify
        class_normal g = simp (no_nan, finite, (high_is g).0, (high_is g).1)
