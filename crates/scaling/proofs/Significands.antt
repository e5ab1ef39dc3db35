-- The significand of a pattern, with its leading one in place: of a normal number as it stands, of a subnormal one moved up. Over every
-- format. Assumes nothing.
use Rattle.std.proofs.Common.{◌≡◌, ℕ, suc, ◌+◌, ◌-◌, ◌*◌, ◌%◌, ◌^◌, ◌<◌, ◌≤◌, sym, refl, ap, ◌∙◌, ⊎_elim, mul-le-mul_right, mod-lt, div-lt_iff_lt-mul, mul-lt-mul_of_pos_right, div-add-mod', arith, pow_pos, pow_mono}
use lib.Ieee.{size}
use lib.Ieee.Digits.{size-lt, size-le, size_reaches}
use lib.Pow.{mod-mod-pow}
use Rattle.float_format.specs.Format.{Format, Valid, top_field, infinity, exponent_field, unsigned}
use Rattle.float_format.specs.Number.{magnitude, bias, leading_shift}
use Rattle.float_format.specs.Width.{InWord}
use Rattle.float_format.proofs.Lead.{subnormal_shift}
use Rattle.float_format.proofs.Units.{lt_or_ge, magnitude_at, magnitude-low}
use Rattle.float_format.proofs.Sizes.{rest_below, field_from}
use Rattle.float_format.proofs.Integral.{room}
use Rattle.scaling.specs.Position.{Significand}
use Rattle.float_format.proofs.Powers.{powers}

pub field_split : (f : Format) (x e : ℕ) → e ≡ exponent_field f x → unsigned f x ≡ e * 2 ^ f.fraction + x % 2 ^ f.fraction
field_split f x e h =
    let m : unsigned f x % 2 ^ f.fraction ≡ x % 2 ^ f.fraction = mod-mod-pow x f.exponent f.fraction in
    omega (arith, div-add-mod' (unsigned f x) (2 ^ f.fraction), ap (λ (y : ℕ). y * 2 ^ f.fraction) h)

-- of a normal number, with the exponent field e
pub normal_significand : (f : Format) (x e : ℕ) → e ≡ exponent_field f x → 0 < e → e < top_field f
    → Significand f x (2 ^ f.fraction + x % 2 ^ f.fraction) (e - 1) 0
normal_significand f x e h some l =
    let P : ℕ = 2 ^ f.fraction in
    let m : x % P < P = mod-lt x (pow_pos f.fraction) in
    let back : suc (e - 1) ≡ e = omega arith in
    let a : unsigned f x ≡ (e - 1) * P + (P + x % P) = omega (arith, field_split f x e h, ap (λ (y : ℕ). y * P) back) in
    record {
      from = omega arith;
      below = omega arith;
      units = ap (λ (y : ℕ). magnitude f.fraction y * 1) a ∙ omega (arith, magnitude_at f.fraction (e - 1) (P + x % P) (omega arith) (omega arith));
      finite = rest_below f x e (top_field f) h l;
      fore_short = omega arith;
      back_short = omega arith;
    }

-- of a subnormal one, whose leading one is k places too low
pub subnormal_significand : (f : Format) (x a k : ℕ) → Valid f → a ≡ unsigned f x → a < 2 ^ f.fraction → k ≤ f.fraction
    → 2 ^ f.fraction ≤ a * 2 ^ k → a * 2 ^ k < 2 * 2 ^ f.fraction → Significand f x (a * 2 ^ k) 0 k
subnormal_significand f x a k v e l short lo hi =
    record {
      from = lo;
      below = hi;
      units = ap (λ (y : ℕ). y * 2 ^ k) (ap (magnitude f.fraction) (sym e) ∙ magnitude-low f.fraction a l) ∙ omega arith;
      finite = omega (arith, (room f (bias f) v refl).whole);
      fore_short = omega (arith, (room f (bias f) v refl).near);
      back_short = short;
    }

-- by the shift that the code takes
pub lifted_significand : (f : Format) (x a k : ℕ) → InWord f → a ≡ unsigned f x → 0 < a → a < 2 ^ f.fraction → k ≤ f.fraction
    → k ≡ leading_shift f.fraction a → Significand f x (a * 2 ^ k) 0 k
lifted_significand f x a k w e some l short ek =
    let s = subnormal_shift f a w some l in
    subnormal_significand f x a k w.valid e l short (rw ek s.0) (rw ek (omega (arith, s.1)))

-- every finite number but zero has one
pub record Found (f : Format) (x : ℕ) : Type 0 where
  pub m : ℕ
  pub fore : ℕ
  pub back : ℕ
  pub is : Significand f x m fore back

pub found : (f : Format) (x : ℕ) → Valid f → 0 < unsigned f x → unsigned f x < infinity f → Found f x
found f x v some h = ⊎_elim low high (lt_or_ge (unsigned f x) (2 ^ f.fraction))
  where
    F : ℕ
    F = f.fraction

    low : unsigned f x < 2 ^ F → Found f x
    low l =
        let a : ℕ = unsigned f x in
        let k : ℕ = suc F - size a in
        let long : 0 < size a = ⊎_elim (λ y. y) (λ y. absurd (none y)) (lt_or_ge 0 (size a)) in
        let short : size a ≤ F = size-le a F l in
        let lo : 2 ^ (size a - 1) ≤ a = size_reaches a (size a - 1) (omega arith) in
        let hi : a < 2 ^ size a = size-lt a in
        let from : 2 ^ F ≤ a * 2 ^ k = omega (arith, mul-le-mul_right (2 ^ k) lo, powers (size a - 1) k F (omega arith)) in
        let below : a * 2 ^ k < 2 * 2 ^ F = omega (arith, mul-lt-mul_of_pos_right hi (pow_pos k), powers (size a) k (suc F) (omega arith)) in
        record { m = a * 2 ^ k; fore = 0; back = k; is = subnormal_significand f x a k v refl l (omega arith) from below }
      where
        none : size (unsigned f x) ≤ 0 → ⊥
        none y = omega (arith, size-lt (unsigned f x), pow_mono {i = size (unsigned f x)} {j = 0} y)

    high : 2 ^ F ≤ unsigned f x → Found f x
    high g =
        let e : ℕ = exponent_field f x in
        let lo : 0 < e = field_from f x e 1 refl (omega arith) in
        let hi : e < top_field f = (div-lt_iff_lt-mul (pow_pos F)).1 h in
        record { m = 2 ^ F + x % 2 ^ F; fore = e - 1; back = 0; is = normal_significand f x e refl lo hi }

-- with the exponent field 0 the rest of a pattern is its fraction
pub low_rest : (f : Format) (x e : ℕ) → e ≡ exponent_field f x → e ≡ 0 → unsigned f x < 2 ^ f.fraction
low_rest f x e h z = omega (arith, rest_below f x e 1 h (omega arith))

-- and with any other it is not zero
pub some_rest : (f : Format) (x e : ℕ) → e ≡ exponent_field f x → 0 < e → 0 < unsigned f x
some_rest f x e h some =
    omega (arith, field_split f x e h, mul-le-mul_right {m = 1} {n = e} (2 ^ f.fraction) some, pow_pos f.fraction)
