-- A pattern taken to another format: a number that the other format holds is its own answer; a wider format and back gives the same bits;
-- and rounding to a whole number there and back is rounding here. Over any two formats. Assumes nothing.
use mathlib.Core.Path.{◌≡◌, sym, ap, ◌∙◌}
use mathlib.Core.Bool.{Bool}
use mathlib.Core.Logic.{⊎_elim}
use Prim.Native.Nat.{ℕ, ◌+◌, ◌*◌, ◌^◌, ◌≤◌, ◌<◌}
use native.Mathlib.Nat.{mul_assoc, mul_comm, mul-lt-mul_of_pos_right}
use native.Mathlib.Omega.{arith}
use lib.Pow.{pow_pos, pow_mono, pow-add}
use borrow.Author.Tests.{eq-eqb, ne_eqb, lt-ltb, le-ltb}
use Rattle.float_format.specs.Format.{Format, Valid, sign_bit, infinity, negative, unsigned, signed}
use Rattle.float_format.specs.Number.{magnitude, encode, one, units_of}
use Rattle.float_format.specs.Rounding.{parts, whole_part, integral}
use Rattle.float_format.specs.declared.Direction.{Direction}
use Rattle.float_format.proofs.Units.{lt_or_ge, magnitude-low, magnitude_mono, magnitude_mono_le, Normal, normal, held_units}
use Rattle.float_format.proofs.Parts.{parts_scale}
use Rattle.float_format.proofs.Patterns.{nan_is, infinite_is, negative-signed, unsigned_signed, signed_parts}
use Rattle.float_format.proofs.Order.{infinity-below_sign}
use Rattle.float_format.proofs.Laws.{Result, result, one_pos}
use Rattle.float_format.proofs.Nearby.{rounds_nearest, exact}
use Rattle.float_format.specs.Rounding.{capped, rounded}
use Rattle.float_format.proofs.Rounded.{capped_in}
use Rattle.conversion.specs.Conversion.{converted_nan, converted}

-- ---- by class

module _ (f g : Format) (x : ℕ) where
  pub converted_nan_lem : infinity f < unsigned f x → converted f g x ≡ converted_nan f g x
  unfolding converted
  converted_nan_lem l = simp (nan_is f x, lt-ltb (infinity f) (unsigned f x) l)

  pub converted_infinite : unsigned f x ≡ infinity f → converted f g x ≡ signed g (negative f x) (infinity g)
  unfolding converted
  converted_infinite e =
      simp (nan_is f x, le-ltb (infinity f) (unsigned f x) (omega arith), infinite_is f x, eq-eqb (unsigned f x) (infinity f) e)

  pub converted_finite : unsigned f x < infinity f → converted f g x ≡ rounded g (negative f x) (units_of f x * one g) (one f)
  unfolding converted
  converted_finite l =
      simp (nan_is f x, le-ltb (infinity f) (unsigned f x) (omega arith), infinite_is f x, ne_eqb (unsigned f x) (infinity f) (omega arith))

  -- where the other format holds the number
  pub converted_exact : Valid g → (a : ℕ) → unsigned f x < infinity f → a < infinity g → units_of f x * one g ≡ magnitude g.fraction a * one f
      → converted f g x ≡ signed g (negative f x) a
  unfolding rounded
  converted_exact v a l k e =
      let r : encode g.fraction _ ≡ a = exact g.fraction (units_of f x * one g) (one f) _ a (one_pos f) (rounds_nearest g.fraction (negative f x) (units_of f x * one g) (one f) v.some_fraction (one_pos f)) e in
      converted_finite l ∙ ap (λ (n : ℕ). signed g (negative f x) (capped g n)) r ∙ ap (signed g (negative f x)) (capped_in g k)

-- ---- what one format holds of another

-- y is x's number in the format g
pub record Same (f g : Format) (x y : ℕ) : Type 0 where
  pub sign : negative g y ≡ negative f x
  pub finite : unsigned g y < infinity g
  pub units : units_of g y * one f ≡ units_of f x * one g

module _ (f g : Format) (x y : ℕ) (v : Valid f) (w : Valid g) (p : x < 2 * sign_bit f) (h : unsigned f x < infinity f) (s : Same f g x y) where
  -- back to the same bits
  pub returns : converted g f y ≡ x
  returns = converted_exact g f y v (unsigned f x) s.finite h s.units ∙ ap (λ (t : Bool). signed f t (unsigned f x)) s.sign ∙ sym (signed_parts f x p)

  -- the same number of whole ones
  pub same_whole : (d : Direction) → whole_part g d y ≡ whole_part f d x
  unfolding whole_part
  same_whole d =
      ap (λ (t : Bool). parts d t (units_of g y) (one g)) s.sign
      ∙ sym (parts_scale d (negative f x) (units_of g y) (one g) (one f) (one_pos g) (one_pos f))
      ∙ ap (λ (n : ℕ). parts d (negative f x) n (one g * one f)) s.units
      ∙ ap (parts d (negative f x) (units_of f x * one g)) (mul_comm (one g) (one f))
      ∙ parts_scale d (negative f x) (units_of f x) (one f) (one g) (one_pos f) (one_pos g)

  -- rounded there and taken back
  pub rounds_through : (d : Direction) → converted g f (integral g d y) ≡ integral f d x
  rounds_through d = go (result g d y w s.finite) (result f d x v h)
    where
      go : Result g d y → Result f d x → converted g f (integral g d y) ≡ integral f d x
      go r q =
          converted_exact g f (integral g d y) v (unsigned f (integral f d x)) r.finite q.finite
          (ap (λ (n : ℕ). n * one f) r.units ∙ ap (λ (n : ℕ). n * one g * one f) (same_whole d) ∙ turn (whole_part f d x) (one g) (one f) ∙ sym (ap (λ (n : ℕ). n * one g) q.units))
          ∙ ap (λ (t : Bool). signed f t (unsigned f (integral f d x))) (r.sign ∙ s.sign)
          ∙ sym q.pattern
        where
          turn : (a b c : ℕ) → a * b * c ≡ a * c * b
          turn a b c = omega arith

-- ---- a wider format holds every number

-- g has k digits more, its one is 2 ^ d times f's, and it reaches as far
pub record Wider (f g : Format) (k d : ℕ) : Type 0 where
  pub digits : g.fraction ≡ f.fraction + k
  pub ones : one g ≡ 2 ^ d * one f
  pub reach : magnitude f.fraction (infinity f) * 2 ^ d ≤ magnitude g.fraction (infinity g)

module _ (f g : Format) (k d x : ℕ) (w : Wider f g k d) (v : Valid g) (h : unsigned f x < infinity f) where
  as_long : 2 ^ f.fraction ≤ 2 ^ g.fraction
  as_long = pow_mono {i = f.fraction} {j = g.fraction} (omega (arith, w.digits))

  -- its units there
  abbrev image : ℕ
  image = encode g.fraction (units_of f x * 2 ^ d)

  image_units : magnitude g.fraction image ≡ units_of f x * 2 ^ d
  image_units = ⊎_elim (λ l. low l) (λ k. high (normal f.fraction (unsigned f x) k)) (lt_or_ge (unsigned f x) (2 ^ f.fraction))
    where
      low : unsigned f x < 2 ^ f.fraction → magnitude g.fraction image ≡ units_of f x * 2 ^ d
      low l = held_units g.fraction (units_of f x) d (omega (arith, as_long, magnitude-low f.fraction (unsigned f x) l))

      high : Normal f.fraction (unsigned f x) → magnitude g.fraction image ≡ units_of f x * 2 ^ d
      high n =
          let e : units_of f x * 2 ^ d ≡ n.M * 2 ^ (n.j + d) = ap (λ (k : ℕ). k * 2 ^ d) n.units ∙ mul_assoc n.M (2 ^ n.j) (2 ^ d) ∙ ap (λ (k : ℕ). n.M * k) (sym (pow-add 2 n.j d)) in
          ap (λ (k : ℕ). magnitude g.fraction (encode g.fraction k)) e ∙ held_units g.fraction n.M (n.j + d) (omega (arith, as_long, n.hi)) ∙ sym e

  image_finite : image < infinity g
  image_finite = ⊎_elim (λ k. k) (λ k. absurd (never k)) (lt_or_ge image (infinity g))
    where
      never : infinity g ≤ image → ⊥
      never k =
          omega (arith, image_units, w.reach, magnitude_mono_le g.fraction k, mul-lt-mul_of_pos_right (magnitude_mono f.fraction h) (pow_pos d))

  image_same : units_of f x * one g ≡ magnitude g.fraction image * one f
  image_same = ap (λ (n : ℕ). units_of f x * n) w.ones ∙ sym (mul_assoc (units_of f x) (2 ^ d) (one f)) ∙ ap (λ (n : ℕ). n * one f) (sym image_units)

  pub widened_is : converted f g x ≡ signed g (negative f x) image
  widened_is = converted_exact f g x v image h image_finite image_same

  -- no number is lost: its sign and its value
  pub widened : Same f g x (converted f g x)
  widened =
      let l : image < sign_bit g = omega (arith, image_finite, infinity-below_sign g) in
      let r : unsigned g (converted f g x) ≡ image = ap (unsigned g) widened_is ∙ unsigned_signed g image l (negative f x) in
      record {
        sign = ap (negative g) widened_is ∙ negative-signed g image l (negative f x);
        finite = omega (arith, r, image_finite);
        units = ap (λ (n : ℕ). magnitude g.fraction n * one f) r ∙ sym image_same;
      }
