-- frexp in the code's own steps: the significand stays, and the exponent field becomes that of one half. Over every valid format.
-- Assumes nothing.
use Rattle.std.proofs.Common.{◌≡◌, ℕ, suc, ◌+◌, ◌-◌, ◌*◌, ◌/◌, ◌%◌, ◌^◌, ◌<◌, ◌≤◌, pos, ◌-ℤ◌, sym, refl, ap, ◌∙◌, ⊎_elim, mul-le-mul_right, mod-lt, mul_assoc, mul-lt-mul_of_pos_right, mul-div_cancel, arith, pow_pos, pow_mono, pow-add}
use native.Mathlib.Nat.{mod-le}
use lib.Ieee.{size}
use Rattle.float_format.specs.Format.{Format, Valid, sign_bit, top_field, infinity, exponent_field, negative, unsigned, signed}
use Rattle.float_format.specs.Number.{magnitude, encode, bias, one, leading_shift}
use Rattle.float_format.specs.Width.{InWord}
use Rattle.float_format.proofs.Units.{lt_or_ge, size_is, encode_at}
use Rattle.float_format.proofs.Integral.{Room, room}
use Rattle.float_format.proofs.Sizes.{zero_le}
use Rattle.float_format.proofs.Order.{magnitude_zero}
use Rattle.scaling.specs.Scaling.{frexp_fraction, frexp_exponent}
use Rattle.scaling.specs.Position.{Significand}
use Rattle.scaling.proofs.Significands.{field_split, normal_significand, lifted_significand}
use Rattle.scaling.proofs.Classes.{signed_from_zero, frexp_fraction_at, frexp_exponent_at}
use Rattle.float_format.proofs.Powers.{swap, powers, gather, double, suc_times, cancel_le, cancel_lt, cancel_right}

module _ (f : Format) (x m : ℕ) (v : Valid f) (fore back : ℕ) (g : Significand f x m fore back) where
  abbrev units : ℕ
  units = magnitude f.fraction (unsigned f x)

  -- how many binary digits there are below the leading one
  abbrev lead : ℕ
  lead = f.fraction + fore - back

  lead_back : lead + back ≡ f.fraction + fore
  lead_back = omega (arith, g.back_short)

  from : 2 ^ lead ≤ units
  from =
      cancel_le (2 ^ back) (pow_pos back)
      (omega (arith, powers lead back (f.fraction + fore) lead_back, pow-add 2 f.fraction fore, g.units, mul-le-mul_right (2 ^ fore) g.from))

  below : units < 2 ^ suc lead
  below =
      cancel_lt (2 ^ back)
      (omega (arith, double lead (2 ^ back), powers lead back (f.fraction + fore) lead_back, pow-add 2 f.fraction fore, g.units, mul-lt-mul_of_pos_right g.below (pow_pos fore), mul_assoc 2 (2 ^ f.fraction) (2 ^ fore)))

  pub digits : size units ≡ suc lead
  digits = size_is units lead from below

  pub some_units : 0 < units
  some_units = omega (arith, from, pow_pos lead)

  pub some_rest : 0 < unsigned f x
  some_rest = ⊎_elim (λ l. l) (λ h. absurd (none h)) (lt_or_ge 0 (unsigned f x))
    where
      none : unsigned f x ≤ 0 → ⊥
      none h =
          let z : units ≡ 0 = ap (magnitude f.fraction) (omega arith) ∙ magnitude_zero f.fraction in
          omega (arith, some_units)

  -- the fraction is m * 2 ^ (bias - 2) units, exactly
  pub whole_units : Room f (bias f) → units * one f ≡ m * 2 ^ (bias f - 2) * 2 ^ suc lead
  whole_units rm = cancel_right (2 ^ back) (pow_pos back) (left ∙ sym right)
    where
      all : ℕ
      all = fore + (bias f + f.fraction - 1)

      left : units * one f * 2 ^ back ≡ m * 2 ^ all
      left = swap units (one f) (2 ^ back) ∙ ap (λ (y : ℕ). y * one f) g.units ∙ gather m fore (bias f + f.fraction - 1) all refl

      right : m * 2 ^ (bias f - 2) * 2 ^ suc lead * 2 ^ back ≡ m * 2 ^ all
      right =
          ap (λ (y : ℕ). y * 2 ^ back) (gather m (bias f - 2) (suc lead) (bias f - 2 + suc lead) refl)
          ∙ gather m (bias f - 2 + suc lead) back all (omega (arith, lead_back, rm.two))

  half_units : units * one f / 2 ^ size units ≡ m * 2 ^ (bias f - 2)
  half_units =
      ap (λ (y : ℕ). units * one f / 2 ^ y) digits
      ∙ ap (λ (y : ℕ). y / 2 ^ suc lead) (whole_units (room f (bias f) v refl))
      ∙ mul-div_cancel (m * 2 ^ (bias f - 2)) (pow_pos (suc lead))

  -- as a pattern: the significand with the field of one half
  pub fraction_is : frexp_fraction f x ≡ signed f (negative f x) ((bias f - 2) * 2 ^ f.fraction + m)
  fraction_is =
      frexp_fraction_at f x some_rest g.finite
      ∙ ap (λ (y : ℕ). signed f (negative f x) (encode f.fraction y)) half_units
      ∙ ap (signed f (negative f x)) (encode_at f.fraction (bias f - 2) m g.from (omega (arith, g.below)))

  pub exponent_is : frexp_exponent f x ≡ pos (suc lead) -ℤ pos (bias f + f.fraction - 1)
  exponent_is = frexp_exponent_at f x some_rest g.finite ∙ ap (λ (y : ℕ). pos y -ℤ pos (bias f + f.fraction - 1)) digits

-- ---- the code's steps

-- of a normal number x with the exponent field e, u being the fraction's weight and b the bias
pub record Halved (f : Format) (x e u b : ℕ) : Type 0 where
  pub field_le : e * u ≤ x
  pub half_lt : (b - 1) * u < infinity f
  pub is : x - e * u + (b - 1) * u ≡ frexp_fraction f x
  pub fits : x - e * u + (b - 1) * u < 2 * sign_bit f
  pub exponent : pos (f.fraction + e) -ℤ pos (bias f + f.fraction - 1) ≡ frexp_exponent f x

pub halved : (f : Format) (x e u b : ℕ) → Valid f → x < 2 * sign_bit f → e ≡ exponent_field f x → 0 < e → e < top_field f
    → u ≡ 2 ^ f.fraction → b ≡ bias f → Halved f x e u b
halved f x e u b v p ee some l eu eb = go (room f (bias f) v refl) (normal_significand f x e ee some l)
  where
    P : ℕ
    P = 2 ^ f.fraction

    go : Room f (bias f) → Significand f x (P + x % P) (e - 1) 0 → Halved f x e u b
    go rm g =
        let a : x % sign_bit f ≡ e * P + x % P = field_split f x e ee in
        let z : x - x % sign_bit f ≤ sign_bit f = zero_le f x p in
        let m : x % sign_bit f ≤ x = mod-le x (sign_bit f) in
        let r : x % P < P = mod-lt x (pow_pos f.fraction) in
        let up : (bias f - 1) * P ≡ (bias f - 2) * P + P = ap (λ (y : ℕ). y * P) (omega (arith, rm.two)) ∙ suc_times (bias f - 2) P in
        let half : (b - 1) * u ≡ (bias f - 1) * P = rw (eu, eb) refl in
        let eq : e * u ≡ e * P = ap (λ (y : ℕ). e * y) eu in
        let low : (b - 1) * u + P ≤ infinity f = omega (arith, rm.half_one, rm.one_whole, rm.whole) in
        let e1 : x - e * u + (b - 1) * u ≡ x - x % sign_bit f + ((bias f - 2) * P + (P + x % P)) = omega arith in
        record {
          field_le = omega arith;
          half_lt = omega (arith, pow_pos f.fraction);
          is = e1 ∙ signed_from_zero f x ((bias f - 2) * P + (P + x % P)) p ∙ sym (fraction_is f x (P + x % P) v (e - 1) 0 g);
          fits = omega (arith, rm.top);
          exponent = ap (λ (y : ℕ). pos y -ℤ pos (bias f + f.fraction - 1)) (omega arith) ∙ sym (exponent_is f x (P + x % P) v (e - 1) 0 g);
        }

-- of a subnormal one, of the rest a, whose leading one is k places too low
pub record Lifted (f : Format) (x a k b : ℕ) : Type 0 where
  pub fits : x - x % sign_bit f + ((b - 2) * 2 ^ f.fraction + a * 2 ^ k) < 2 * sign_bit f
  pub is : x - x % sign_bit f + ((b - 2) * 2 ^ f.fraction + a * 2 ^ k) ≡ frexp_fraction f x
  pub exponent : pos (f.fraction + 1 - k) -ℤ pos (bias f + f.fraction - 1) ≡ frexp_exponent f x

pub lifted : (f : Format) (x a k b : ℕ) → InWord f → x < 2 * sign_bit f → a ≡ unsigned f x → 0 < a → a < 2 ^ f.fraction → k ≤ f.fraction
    → k ≡ leading_shift f.fraction a → b ≡ bias f → Lifted f x a k b
lifted f x a k b w p ea some low short ek eb = go (room f (bias f) w.valid refl) (lifted_significand f x a k w ea some low short ek)
  where
    P : ℕ
    P = 2 ^ f.fraction

    go : Room f (bias f) → Significand f x (a * 2 ^ k) 0 k → Lifted f x a k b
    go rm g =
        let z : x - x % sign_bit f ≤ sign_bit f = zero_le f x p in
        let up : (bias f - 1) * P ≡ (bias f - 2) * P + P = ap (λ (y : ℕ). y * P) (omega (arith, rm.two)) ∙ suc_times (bias f - 2) P in
        let half : (b - 2) * P ≡ (bias f - 2) * P = ap (λ (y : ℕ). (y - 2) * P) eb in
        let low : (bias f - 1) * P + P + P ≤ infinity f = omega (arith, rm.half_one, rm.one_whole, rm.whole) in
        record {
          fits = omega (arith, rm.top, g.below);
          is =
              ap (λ (y : ℕ). x - x % sign_bit f + (y + a * 2 ^ k)) half
              ∙ signed_from_zero f x ((bias f - 2) * P + a * 2 ^ k) p
              ∙ sym (fraction_is f x (a * 2 ^ k) w.valid 0 k g);
          exponent = ap (λ (y : ℕ). pos y -ℤ pos (bias f + f.fraction - 1)) (omega arith) ∙ sym (exponent_is f x (a * 2 ^ k) w.valid 0 k g);
        }

-- the number of digits is one of 63 bits
pub digits-short : (f : Format) (e : ℕ) → InWord f → e ≤ top_field f → f.fraction + e < 2 ^ 63
digits-short f e w h =
    let n : f.exponent + f.fraction < 64 = w.narrow in
    let a : 1 ≤ f.fraction = w.valid.some_fraction in
    let b : 3 ≤ f.exponent = w.valid.some_exponent in
    omega (arith, pow_mono {i = f.exponent} {j = 62} (omega arith))
