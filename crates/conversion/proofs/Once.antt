-- A number taken to another format is rounded once: of all numbers there the answer is nearest, halves to even; it is refused exactly where
-- it is infinite, from halfway past the largest finite number on; the sign and the order are kept. Over any two valid formats. Assumes
-- nothing.
use mathlib.Core.Path.{◌≡◌, refl, sym, ap, ◌∙◌}
use mathlib.Core.Bool.{Bool, true, false, cond}
use mathlib.Core.Logic.{◌⊎◌, ⊎_elim, ◌↔◌}
use Prim.Native.Nat.{ℕ, ◌+◌, ◌*◌, ◌%◌, ◌≤◌, ◌<◌}
use native.Mathlib.Nat.{eq-or-lt_of_le, mul-le-mul_right}
use native.Mathlib.Omega.{arith}
use lib.Dec.{eqb}
use lib.Pow.{pow_pos}
use borrow.Author.Tests.{eq-eqb, ne_eqb, lt-ltb, le-ltb, eqb-true}
use Rattle.float_format.specs.Format.{Format, Valid, infinity, negative, unsigned}
use Rattle.float_format.specs.Number.{magnitude, bias, one, AtMost, units_of}
use Rattle.float_format.specs.Rounding.{rounded}
use Rattle.float_format.proofs.Units.{magnitude_mono_le}
use Rattle.float_format.proofs.Patterns.{nan_is, infinite_is, negative-signed, unsigned_signed}
use Rattle.float_format.proofs.Order.{infinity-below_sign, magnitude_zero}
use Rattle.float_format.proofs.Integral.{room}
use Rattle.float_format.proofs.Laws.{one_pos}
use Rattle.float_format.proofs.Monotone.{Keeps, keeps_at_most}
use Rattle.float_format.proofs.Rounded.{rest_mono, rounded_rest, rounded_sign, rounded-number, rounded_zero, largest, rounded_from_halfway, gap, rounded_no_nearer, rounded_halves}
use Rattle.conversion.specs.Conversion.{converted, converted_refusal}
use Rattle.conversion.proofs.Conversion.{converted_infinite, converted_finite}

-- ---- what is not finite is not refused

module _ (f g : Format) (x : ℕ) where
  pub nan_not_refused : infinity f < unsigned f x → converted_refusal f g x ≡ 0
  unfolding converted_refusal
  nan_not_refused l = simp (nan_is f x, lt-ltb (infinity f) (unsigned f x) l)

  pub infinity_not_refused : unsigned f x ≡ infinity f → converted_refusal f g x ≡ 0
  unfolding converted_refusal
  infinity_not_refused e =
      simp (nan_is f x, le-ltb (infinity f) (unsigned f x) (omega arith), infinite_is f x, eq-eqb (unsigned f x) (infinity f) e)

-- ---- a finite number

three_if : (t : Bool) → ◌≡◌ {A = ℕ} (cond t 3 0) 3 ↔ t ≡ true
three_if true = (λ _. refl, λ _. refl)
three_if false = (λ e. absurd (omega (arith, e)), λ e. absurd (let z : ◌≡◌ {A = ℕ} 0 1 = cc in omega arith))

module _ (f g : Format) (x : ℕ) (v : Valid g) (h : unsigned f x < infinity f) where
  refusal_at : converted_refusal f g x ≡ cond (eqb (unsigned g (converted f g x)) (infinity g)) 3 0
  unfolding converted_refusal
  refusal_at =
      simp (nan_is f x, le-ltb (infinity f) (unsigned f x) (omega arith), infinite_is f x, ne_eqb (unsigned f x) (infinity f) (omega arith), infinite_is g (converted f g x))

  -- refused exactly where the answer is infinite
  pub refused_is_infinite : converted_refusal f g x ≡ 3 ↔ unsigned g (converted f g x) ≡ infinity g
  refused_is_infinite = (
    λ e. eqb-true (unsigned g (converted f g x)) (infinity g) ((three_if (eqb (unsigned g (converted f g x)) (infinity g))).0 (sym refusal_at ∙ e)),
    λ e. refusal_at ∙ ap (λ (t : Bool). cond t 3 0) (eq-eqb (unsigned g (converted f g x)) (infinity g) e),
  )

  pub finite_not_refused : unsigned g (converted f g x) < infinity g → converted_refusal f g x ≡ 0
  finite_not_refused l = refusal_at ∙ ap (λ (t : Bool). cond t 3 0) (ne_eqb (unsigned g (converted f g x)) (infinity g) (omega arith))

  -- and that is from halfway on between the largest finite number and the power of two that follows it
  pub refused_from_halfway : converted_refusal f g x ≡ 3
      ↔ largest g * one f + magnitude g.fraction (infinity g) * one f ≤ units_of f x * one g * 2
  refused_from_halfway =
      let r = rounded_from_halfway g v (negative f x) (units_of f x * one g) (one f) (one_pos f) in
      let i = rw (converted_finite f g x h) at refused_is_infinite in
      (λ e. r.0 (i.0 e), λ l. i.1 (r.1 l))

  module _ (l : unsigned g (converted f g x) < infinity g) (z : ℕ) where
    finite : unsigned g (rounded g (negative f x) (units_of f x * one g) (one f)) < infinity g
    finite = rw (converted_finite f g x h) at l

    -- with their signs: no number of the format g is nearer to x than the answer, both sides times one f
    pub converted_no_nearer : gap g (negative f x) (units_of f x * one g) (one f) (converted f g x) ≤ gap g (negative f x) (units_of f x * one g) (one f) z
    converted_no_nearer = rw (converted_finite f g x h) (rounded_no_nearer g v (negative f x) (units_of f x * one g) (one f) (one_pos f) finite z)

    -- halves to even: where z is as near, it is the answer but for a zero's sign, or the answer's pattern is even
    pub converted_halves : gap g (negative f x) (units_of f x * one g) (one f) z ≡ gap g (negative f x) (units_of f x * one g) (one f) (converted f g x)
        → unsigned g z ≡ unsigned g (converted f g x) ⊎ converted f g x % 2 ≡ 0
    converted_halves = rw (converted_finite f g x h) (rounded_halves g v (negative f x) (units_of f x * one g) (one f) (one_pos f) finite z)

-- ---- the sign and the order are kept

module _ (f g : Format) (v : Valid g) where
  rest_infinite : (x : ℕ) → unsigned f x ≡ infinity f → unsigned g (converted f g x) ≡ infinity g
  rest_infinite x e = ap (unsigned g) (converted_infinite f g x e) ∙ unsigned_signed g (infinity g) (infinity-below_sign g) (negative f x)

  pub converted_sign : (x : ℕ) → unsigned f x ≤ infinity f → negative g (converted f g x) ≡ negative f x
  converted_sign x n =
      ⊎_elim
      (λ e. ap (negative g) (converted_infinite f g x e) ∙ negative-signed g (infinity g) (infinity-below_sign g) (negative f x))
      (λ l. ap (negative g) (converted_finite f g x l) ∙ rounded_sign g (negative f x) (units_of f x * one g) (one f))
      (eq-or-lt_of_le n)

  -- what is no NaN gives none
  pub converted-number : (x : ℕ) → unsigned f x ≤ infinity f → unsigned g (converted f g x) ≤ infinity g
  converted-number x n =
      ⊎_elim
      (λ e. omega (arith, rest_infinite x e))
      (λ l. rw (converted_finite f g x l) (rounded-number g (negative f x) (units_of f x * one g) (one f)))
      (eq-or-lt_of_le n)

  keeps : Valid f → (x : ℕ) → unsigned f x ≤ infinity f → Keeps f g x (converted f g x)
  keeps w x n = record { sign = converted_sign x n; zero = zero }
    where
      zero : unsigned f x ≡ 0 → unsigned g (converted f g x) ≡ 0
      zero e =
          let none : units_of f x * one g ≡ 0 = ap (λ (y : ℕ). magnitude f.fraction y * one g) e ∙ ap (λ (y : ℕ). y * one g) (magnitude_zero f.fraction) ∙ omega arith in
          rw (converted_finite f g x (omega (arith, e, (room f (bias f) w refl).whole, pow_pos f.fraction))) (rounded_zero g v (negative f x) (units_of f x * one g) (one f) (one_pos f) none)

  grows : (x y : ℕ) → unsigned f y ≤ infinity f → unsigned f x ≤ unsigned f y → unsigned g (converted f g x) ≤ unsigned g (converted f g y)
  grows x y n l = ⊎_elim infinite finite (eq-or-lt_of_le n)
    where
      infinite : unsigned f y ≡ infinity f → unsigned g (converted f g x) ≤ unsigned g (converted f g y)
      infinite e = omega (arith, rest_infinite y e, converted-number x (omega arith))

      finite : unsigned f y < infinity f → unsigned g (converted f g x) ≤ unsigned g (converted f g y)
      finite k =
          rw (converted_finite f g x (omega arith), converted_finite f g y k, rounded_rest g (negative f x) (units_of f x * one g) (one f), rounded_rest g (negative f y) (units_of f y * one g) (one f))
          (rest_mono g v (one f) (one_pos f) (negative f x) (negative f y) (mul-le-mul_right (one g) (magnitude_mono_le f.fraction l)))

  pub converted_monotone : Valid f → (x y : ℕ) → unsigned f x ≤ infinity f → unsigned f y ≤ infinity f → AtMost f x y → AtMost g (converted f g x) (converted f g y)
  converted_monotone w x y m n =
      keeps_at_most f g x y (converted f g x) (converted f g y) (keeps w x m) (keeps w y n) (λ l e. grows x y n l) (λ l e. grows y x m l)
