-- A product in the code's own steps: the upper word of two significands' product stands for the exact product. Assumes nothing.
use mathlib.Core.Path.{◌≡◌, refl, sym, ap, ◌∙◌}
use mathlib.Core.Bool.{Bool}
use mathlib.Core.Logic.{inr}
use Prim.Native.Nat.{ℕ, ◌+◌, ◌-◌, ◌*◌, ◌^◌, ◌≤◌, ◌<◌}
use native.Mathlib.Nat.{mul_assoc, mul-le-mul, mul-le-mul_right, mul-lt-mul_of_pos_right}
use native.Mathlib.Omega.{arith}
use lib.Pow.{pow_pos}
use lib.Ieee.{unlike}
use Rattle.float_format.specs.Format.{Format, Valid, negative, unsigned, signed}
use Rattle.float_format.specs.Number.{magnitude, units_of, bias, one}
use Rattle.float_format.proofs.Order.{magnitude_zero}
use Rattle.float_format.proofs.Powers.{powers}
use Rattle.float_format.specs.Rounding.{rounded}
use Rattle.arithmetic.specs.Arithmetic.{product}
use Rattle.float_format.proofs.Rounded.{rounded_scale}
use Rattle.integer_arithmetic.specs.Stands.{Fits, Sticky, Stands, Led}
use Rattle.integer_arithmetic.proofs.Packing.{zero_rounded}
use Rattle.integer_arithmetic.proofs.Sums.{sticky_scale, sticky_high}

-- ---- the whole product

module _ (f : Format) (z : Fits f) (a b pm ps qm qs lift : ℕ) (p : Led f a pm ps) (q : Led f b qm qs) (el : lift ≡ 2 ^ (52 - f.fraction)) where
  abbrev F : ℕ
  F = f.fraction

  abbrev pub ux : ℕ
  ux = magnitude f.fraction a

  abbrev pub uy : ℕ
  uy = magnitude f.fraction b

  short : F ≤ 52
  short = z.short

  whole : 2 ^ F * lift ≡ 2 ^ 52
  whole = ap (λ (y : ℕ). 2 ^ F * y) el ∙ powers F (52 - F) 52 (omega (arith, short))

  lift_pos : 0 < lift
  lift_pos = omega (arith, el, pow_pos (52 - F))

  lifted : (m : ℕ) → m < 2 * 2 ^ F → m * lift < 2 ^ 53
  lifted m h = omega (arith, mul-lt-mul_of_pos_right h lift_pos, mul_assoc 2 (2 ^ F) lift, whole)

  pub left_lt : pm * lift < 2 ^ 53
  left_lt = lifted pm p.below

  pub right_lt : qm * lift < 2 ^ 53
  right_lt = lifted qm q.below

  exact : ux * uy * 2 ^ 104 ≡ pm * lift * (qm * lift) * 2 ^ (ps + qs)
  exact =
      let e : 2 ^ 104 ≡ 2 ^ F * lift * (2 ^ F * lift) = sym (ap (λ (y : ℕ). y * (2 ^ F * lift)) whole ∙ ap (λ (y : ℕ). 2 ^ 52 * y) whole ∙ powers 52 52 104 refl) in
      let g : ux * uy * (2 ^ F * lift * (2 ^ F * lift)) ≡ ux * 2 ^ F * (uy * 2 ^ F) * (lift * lift) = omega arith in
      let h : pm * 2 ^ ps * (qm * 2 ^ qs) * (lift * lift) ≡ pm * lift * (qm * lift) * (2 ^ ps * 2 ^ qs) = omega arith in
      ap (λ (y : ℕ). ux * uy * y) e ∙ g
      ∙ ap (λ (y : ℕ). y * (uy * 2 ^ F) * (lift * lift)) p.units
      ∙ ap (λ (y : ℕ). pm * 2 ^ ps * y * (lift * lift)) q.units
      ∙ h
      ∙ ap (λ (y : ℕ). pm * lift * (qm * lift) * y) (powers ps qs (ps + qs) refl)

  -- it has digits enough
  pub long : (w : ℕ) → Sticky (pm * lift * (qm * lift)) (2 ^ 44) w → 2 ^ 54 ≤ w
  long w st =
      let low : 2 ^ 52 * 2 ^ 52 ≤ pm * lift * (qm * lift) =
      mul-le-mul {n₁ = 2 ^ 52} {m₁ = 2 ^ 52} {n₂ = pm * lift} {m₂ = qm * lift} (omega (arith, whole, mul-le-mul_right lift p.from)) (omega (arith, whole, mul-le-mul_right lift q.from)) in
      omega (arith, sticky_high (pm * lift * (qm * lift)) (2 ^ 44) w (pow_pos 44) st)

  pub multiplied : (w : ℕ) → Sticky (pm * lift * (qm * lift)) (2 ^ 44) w → Stands w (ps + qs + 61) (bias f + f.fraction + 120) (ux * uy * 2 ^ 104) (one f * 2 ^ 104)
  multiplied w st =
      let some : 1 ≤ F = z.word.valid.some_fraction in
      let T : ℕ = 44 + (ps + qs) + (bias f + F + 120) in
      let left : 2 ^ 44 * 2 ^ (ps + qs) * 2 ^ (bias f + F + 120) ≡ 2 ^ T =
      ap (λ (y : ℕ). y * 2 ^ (bias f + F + 120)) (powers 44 (ps + qs) (44 + (ps + qs)) refl) ∙ powers (44 + (ps + qs)) (bias f + F + 120) T refl in
      let right : one f * 2 ^ 104 * 2 ^ (ps + qs + 61) ≡ 2 ^ T =
      ap (λ (y : ℕ). y * 2 ^ (ps + qs + 61)) (powers (bias f + F - 1) 104 (bias f + F - 1 + 104) refl) ∙ powers (bias f + F - 1 + 104) (ps + qs + 61) T (omega arith) in
      record {
        v = 2 ^ 44 * 2 ^ (ps + qs);
        some = omega (arith, pow_pos (bias f + F - 1));
        near = rw exact (sticky_scale (pm * lift * (qm * lift)) (2 ^ 44) w (2 ^ (ps + qs)) (pow_pos (ps + qs)) st);
        long = inr (long w st);
        scale = left ∙ sym right;
      }

-- in units
pub unscaled : (f : Format) (s : Bool) (m n : ℕ) → rounded f s (m * n * 2 ^ 104) (one f * 2 ^ 104) ≡ rounded f s (m * n) (one f)
unscaled f s m n = rounded_scale f s (m * n) (one f) (2 ^ 104) (pow_pos (bias f + f.fraction - 1)) (pow_pos 104)

module _ (f : Format) (x y : ℕ) where
  product_is : product f x y ≡ rounded f (unlike (negative f x) (negative f y)) (units_of f x * units_of f y) (one f)
  unfolding product
  product_is = refl

  -- a zero with the product's sign, and the magnitude's pattern
  pub product_answer : (r : ℕ) → signed f (unlike (negative f x) (negative f y)) r ≡ rounded f (unlike (negative f x) (negative f y)) (units_of f x * units_of f y) (one f)
      → signed f (unlike (negative f x) (negative f y)) 0 + r ≡ product f x y
  product_answer r e = omega arith ∙ e ∙ sym product_is

  product_none : Valid f → units_of f x * units_of f y ≡ 0 → signed f (unlike (negative f x) (negative f y)) 0 ≡ product f x y
  product_none v e = zero_rounded f v (unlike (negative f x) (negative f y)) (units_of f x * units_of f y) (one f) (pow_pos _) e ∙ sym product_is

  pub product_left : Valid f → unsigned f x ≡ 0 → signed f (unlike (negative f x) (negative f y)) 0 ≡ product f x y
  product_left v e = product_none v (ap (λ (k : ℕ). k * units_of f y) (ap (magnitude f.fraction) e ∙ magnitude_zero f.fraction) ∙ omega arith)

  pub product_right : Valid f → unsigned f y ≡ 0 → signed f (unlike (negative f x) (negative f y)) 0 ≡ product f x y
  product_right v e = product_none v (ap (λ (k : ℕ). units_of f x * k) (ap (magnitude f.fraction) e ∙ magnitude_zero f.fraction) ∙ omega arith)
