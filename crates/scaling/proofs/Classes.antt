-- What frexp and ldexp give by the class of a pattern: a NaN quieted, an infinity and a zero unchanged, and for a finite number its sign
-- with the rest of the pattern worked out. Over every format. Assumes nothing.
use Rattle.std.proofs.Common.{◌≡◌, ℕ, ◌+◌, ◌-◌, ◌*◌, ◌/◌, ◌%◌, ◌^◌, ◌<◌, ◌≤◌, Bool, true, false, cond, not, eqb, ltb, ◌⊎◌, ℤ, pos, ◌-ℤ◌, sym, refl, ap, ◌∙◌, inl, inr, ⊎_elim, mod-eq_of_lt, eq-or-lt_of_le, le-div_iff_mul-le, arith, pow_pos, le-ltb, lt-ltb, eq-eqb, ne_eqb}
use native.Mathlib.Nat.{div-eq_of_lt}
use lib.Ieee.{size, up, down}
use Rattle.float_format.specs.Format.{Format, Valid, sign_bit, infinity, negative, unsigned, signed, is_nan, is_infinite, is_zero, propagated}
use Rattle.float_format.specs.Number.{magnitude, encode, bias, one, units_of}
use Rattle.float_format.specs.Rounding.{capped, rounded}
use Rattle.float_format.proofs.Units.{lt_or_ge}
use Rattle.float_format.proofs.Patterns.{nan_is, infinite_is}
use Rattle.float_format.proofs.Sizes.{zero_is}
use Rattle.float_format.proofs.Integral.{room}
use Rattle.scaling.specs.Scaling.{frexp_fraction, frexp_exponent, scaled, ldexp, ldexp_refusal}

-- ---- the tests

module _ (f : Format) (x : ℕ) where
  pub is_nan_lem : infinity f < unsigned f x → is_nan f x ≡ true
  is_nan_lem l = nan_is f x ∙ lt-ltb (infinity f) (unsigned f x) l

  pub no_nan : unsigned f x ≤ infinity f → is_nan f x ≡ false
  no_nan h = nan_is f x ∙ le-ltb (infinity f) (unsigned f x) h

  pub is_infinite_lem : unsigned f x ≡ infinity f → is_infinite f x ≡ true
  is_infinite_lem e = infinite_is f x ∙ eq-eqb (unsigned f x) (infinity f) e

  pub no_infinite : unsigned f x < infinity f → is_infinite f x ≡ false
  no_infinite l = infinite_is f x ∙ ne_eqb (unsigned f x) (infinity f) (omega arith)

  zero_by_rest : is_zero f x ≡ eqb (unsigned f x) 0
  unfolding is_zero
  zero_by_rest = ⊎_elim low high (lt_or_ge (unsigned f x) (2 ^ f.fraction))
    where
      low : unsigned f x < 2 ^ f.fraction → is_zero f x ≡ eqb (unsigned f x) 0
      low l = simp (eq-eqb (unsigned f x / 2 ^ f.fraction) 0 (div-eq_of_lt l), mod-eq_of_lt l)

      high : 2 ^ f.fraction ≤ unsigned f x → is_zero f x ≡ eqb (unsigned f x) 0
      high g =
          let q : 1 ≤ unsigned f x / 2 ^ f.fraction = (le-div_iff_mul-le (pow_pos f.fraction)).1 (omega arith) in
          simp (ne_eqb (unsigned f x / 2 ^ f.fraction) 0 (omega arith), ne_eqb (unsigned f x) 0 (omega (arith, pow_pos f.fraction)))

  pub is_zero_lem : unsigned f x ≡ 0 → is_zero f x ≡ true
  is_zero_lem e = zero_by_rest ∙ eq-eqb (unsigned f x) 0 e

  pub no_zero : 0 < unsigned f x → is_zero f x ≡ false
  no_zero l = zero_by_rest ∙ ne_eqb (unsigned f x) 0 (omega arith)

-- ---- what is not finite

-- a NaN or an infinity
either : (f : Format) (x : ℕ) → infinity f ≤ unsigned f x → is_nan f x ≡ true ⊎ (is_nan f x ≡ false × is_infinite f x ≡ true)
either f x h =
    ⊎_elim (λ e. inr (no_nan f x (omega arith), is_infinite_lem f x (sym e))) (λ l. inl (is_nan_lem f x l)) (eq-or-lt_of_le h)

module _ (f : Format) (x r : ℕ) (h : infinity f ≤ unsigned f x) (e : r ≡ propagated f x) where
  pub frexp_not_finite : (r ≡ frexp_fraction f x) × (pos 0 ≡ frexp_exponent f x)
  unfolding frexp_fraction frexp_exponent propagated
  frexp_not_finite =
      ⊎_elim (λ (a : is_nan f x ≡ true). (e ∙ simp a, simp a))
      (λ (w : is_nan f x ≡ false × is_infinite f x ≡ true). (e ∙ simp (w.0, w.1), simp (w.0, w.1)))
      (either f x h)

  pub ldexp_not_finite : (n : ℤ) → (r ≡ ldexp f x n) × (0 ≡ ldexp_refusal f x n)
  unfolding ldexp ldexp_refusal propagated
  ldexp_not_finite n =
      ⊎_elim (λ (a : is_nan f x ≡ true). (e ∙ simp a, simp a))
      (λ (w : is_nan f x ≡ false × is_infinite f x ≡ true). (e ∙ simp (w.0, w.1), simp (w.0, w.1)))
      (either f x h)

-- ---- what is finite

pub signed_from_zero : (f : Format) (x r : ℕ) → x < 2 * sign_bit f → x - x % sign_bit f + r ≡ signed f (negative f x) r
signed_from_zero f x r p = ap (λ (y : ℕ). y + r) (zero_is f x p) ∙ pick (negative f x)
  where
    pick : (s : Bool) → signed f s 0 + r ≡ signed f s r
    pick true = omega arith
    pick false = omega arith

-- a zero, in frexp
pub frexp_zero : (f : Format) (x : ℕ) → Valid f → unsigned f x ≡ 0 → (x ≡ frexp_fraction f x) × (pos 0 ≡ frexp_exponent f x)
unfolding frexp_fraction frexp_exponent
frexp_zero f x v e =
    let big : 0 < infinity f = omega (arith, (room f (bias f) v refl).whole, pow_pos f.fraction) in
    let a : is_nan f x ≡ false = no_nan f x (omega arith) in
    let b : is_infinite f x ≡ false = no_infinite f x (omega arith) in
    let c : is_zero f x ≡ true = is_zero_lem f x e in
    (simp (a, b, c), simp (a, b, c))

-- another number, in frexp: n units, with x's sign
module _ (f : Format) (x : ℕ) (some : 0 < unsigned f x) (h : unsigned f x < infinity f) where
  pub frexp_fraction_at : frexp_fraction f x
      ≡ signed f (negative f x)
      (encode f.fraction (magnitude f.fraction (unsigned f x) * one f / 2 ^ size (magnitude f.fraction (unsigned f x))))
  unfolding frexp_fraction
  frexp_fraction_at = simp (no_nan f x (omega arith), no_infinite f x h, no_zero f x some)

  pub frexp_exponent_at : frexp_exponent f x ≡ pos (size (magnitude f.fraction (unsigned f x))) -ℤ pos (bias f + f.fraction - 1)
  unfolding frexp_exponent
  frexp_exponent_at = simp (no_nan f x (omega arith), no_infinite f x h, no_zero f x some)

-- ldexp, by whether the answer is in range
module _ (f : Format) (x : ℕ) (n : ℤ) (h : unsigned f x < infinity f) where
  pub ldexp_is : ldexp f x n ≡ rounded f (negative f x) (units_of f x * up n) (down n)
  unfolding ldexp
  ldexp_is = simp (no_nan f x (omega arith), no_infinite f x h)

  ldexp_at : ldexp f x n ≡ signed f (negative f x) (capped f (scaled f x n))
  unfolding rounded scaled
  ldexp_at = ldexp_is

  pub refusal_at : ldexp_refusal f x n ≡ cond (not (ltb (scaled f x n) (infinity f))) 3 0
  unfolding ldexp_refusal
  refusal_at = simp (no_nan f x (omega arith), no_infinite f x h)

  pub ldexp_in : scaled f x n < infinity f → (ldexp f x n ≡ signed f (negative f x) (scaled f x n)) × (ldexp_refusal f x n ≡ 0)
  ldexp_in l =
      let t : ltb (scaled f x n) (infinity f) ≡ true = lt-ltb (scaled f x n) (infinity f) l in (
        ldexp_at ∙ ap (λ (b : Bool). signed f (negative f x) (cond b (scaled f x n) (infinity f))) t,
        refusal_at ∙ ap (λ (b : Bool). cond (not b) 3 0) t,
      )

  pub ldexp_out : infinity f ≤ scaled f x n → (ldexp f x n ≡ signed f (negative f x) (infinity f)) × (ldexp_refusal f x n ≡ 3)
  ldexp_out g =
      let t : ltb (scaled f x n) (infinity f) ≡ false = le-ltb (scaled f x n) (infinity f) g in (
        ldexp_at ∙ ap (λ (b : Bool). signed f (negative f x) (cond b (scaled f x n) (infinity f))) t,
        refusal_at ∙ ap (λ (b : Bool). cond (not b) 3 0) t,
      )

  -- as the code puts it together, from the zero of x's sign
  module _ (p : x < 2 * sign_bit f) where
    pub in_range : (r : ℕ) → scaled f x n ≡ r → r < infinity f → (x - x % sign_bit f + r ≡ ldexp f x n) × (0 ≡ ldexp_refusal f x n)
    in_range r e l =
        let a : (ldexp f x n ≡ signed f (negative f x) (scaled f x n)) × (ldexp_refusal f x n ≡ 0) = ldexp_in (omega arith) in
        (signed_from_zero f x r p ∙ ap (signed f (negative f x)) (sym e) ∙ sym a.0, sym a.1)

    pub out_of_range : infinity f ≤ scaled f x n → (x - x % sign_bit f + infinity f ≡ ldexp f x n) × (3 ≡ ldexp_refusal f x n)
    out_of_range g = (signed_from_zero f x (infinity f) p ∙ sym (ldexp_out g).0, sym (ldexp_out g).1)
