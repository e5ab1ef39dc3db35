-- The cut division, in the code's own steps: of significands, then of magnitudes in units of a common scale. Over every format. Assumes nothing.
use mathlib.Core.Path.{◌≡◌, refl, sym, ap, ap₂, ◌∙◌}
use Prim.Native.Nat.{ℕ, suc, ◌+◌, ◌-◌, ◌*◌, ◌/◌, ◌%◌, ◌^◌, ◌≤◌, ◌<◌}
use native.Mathlib.Nat.{div-add-mod', mod-lt, mod-eq_of_lt, div-eq_of_lt, mul_assoc, div-mul-le_self, mul-div-mul_right, mul-le-mul_left, mul-le-mul, mul-lt-mul_of_pos_right}
use native.Mathlib.Omega.{arith}
use lib.Arith.{digits_div, digits_mod, mod-mul}
use lib.Pow.{pow_pos, pow_mono, pow-add, shl_exact, mod-mod-pow}
use Rattle.float_format.specs.Format.{Format, top_field, infinity, unsigned, exponent_field}
use Rattle.float_format.specs.Number.{magnitude}
use Rattle.float_format.proofs.Sizes.{rest_below}
use Rattle.float_format.proofs.Units.{magnitude_mono}
use Rattle.remainder.specs.Shape.{scale_of}
use Rattle.remainder.proofs.Split.{Split, split, scale_lt, remainder-scaled}
use Rattle.nearest_remainder.specs.Shape.{Divided, Close, Magnitudes}

-- ---- significands

-- nothing is shifted out
pub moved_whole : (F m n : ℕ) → F ≤ 52 → m < 2 * 2 ^ F → n ≤ 63 - F → m * 2 ^ n % 2 ^ 64 ≡ m * 2 ^ n
moved_whole F m n most few near = shl_exact (suc F) n 64 (omega arith) (omega arith)

-- the digits counted one after another: q of them and t left
pub counted : (r w q t : ℕ) → q * w + t ≡ r → t < w → (q ≡ r / w) × (t ≡ r % w)
counted r w q t e l = (sym (ap (λ (k : ℕ). k / w) (sym e) ∙ digits_div q l), sym (ap (λ (k : ℕ). k % w) (sym e) ∙ digits_mod q l))

-- what is left of n by 8 * w has n's last three digits by w, and n's rest
module _ (n w : ℕ) (some : 0 < w) where
  eight : n % (8 * w) ≡ n / w % 8 * w + n % w
  eight = mod-mul n {m = 8} {c = w} (omega arith) some

  pub eight_quotient : n % (8 * w) / w ≡ n / w % 8
  eight_quotient = ap (λ (k : ℕ). k / w) eight ∙ digits_div (n / w % 8) (mod-lt n some)

  pub eight_rest : n % (8 * w) % w ≡ n % w
  eight_rest = ap (λ (k : ℕ). k % w) eight ∙ digits_mod (n / w % 8) (mod-lt n some)

-- ---- magnitudes

-- n, moved up in two parts
pub in_parts : (n i k : ℕ) → n * 2 ^ (k + i) ≡ n * 2 ^ k * 2 ^ i
in_parts n i k = ap (λ (t : ℕ). n * t) (pow-add 2 k i) ∙ sym (mul_assoc n (2 ^ k) (2 ^ i))

module _ (f : Format) (a b : ℕ) (o : Magnitudes f a b) where
  -- a below b, in units of a's scale i; b's scale is k above it
  pub smaller_divided : (i k m w v : ℕ) → a < b → Split f.fraction a i m → Split f.fraction b (k + i) w → i ≡ scale_of f.fraction a → k ≤ 1
      → v ≡ w * 2 ^ k → Divided f a b 0 m v i
  smaller_divided i k m w v l sa sb ei near ev =
      let two : w * 2 ^ k ≤ w * 2 = mul-le-mul_left w (pow_mono {i = k} {j = 1} near) in
      let lt : magnitude f.fraction a < magnitude f.fraction b = magnitude_mono f.fraction l in
      record {
        few = omega (arith, two, sb.few);
        scale = rw ei (scale_lt f a o.finite_a);
        divisor = ap (λ (n : ℕ). n * 2 ^ i) ev ∙ sym (in_parts w i k) ∙ sym sb.units;
        rest = sym sa.units ∙ sym (mod-eq_of_lt lt);
        quotient = sym (ap (λ (n : ℕ). n % 8) (div-eq_of_lt lt));
      }

  -- in units of b's scale j; n is a's significand, moved up
  pub scaled_divided : (i j m w q r : ℕ) → j ≤ i → Split f.fraction a i m → Split f.fraction b j w → j ≡ scale_of f.fraction b
      → q % 8 ≡ m * 2 ^ (i - j) / w % 8 → r ≡ m * 2 ^ (i - j) % w → Divided f a b (q % 8) r w j
  scaled_divided i j m w q r le sa sb ej eq er =
      let e : magnitude f.fraction a ≡ m * 2 ^ (i - j) * 2 ^ j = sa.units ∙ ap (λ (n : ℕ). m * 2 ^ n) {x = i} {y = i - j + j} (omega arith) ∙ in_parts m j (i - j) in
      record {
        few = omega (arith, sb.few);
        scale = rw ej (scale_lt f b o.finite_b);
        divisor = sym sb.units;
        rest = remainder-scaled f.fraction a b i j m w r sa sb o.nonzero le er;
        quotient = eq ∙ sym (ap (λ (n : ℕ). n % 8) (ap₂ ◌/◌ e sb.units ∙ mul-div-mul_right {m = 2 ^ j} (m * 2 ^ (i - j)) w (pow_pos j)));
      }

-- ---- normal numbers whose exponents lie close

-- a normal number's significand is its fraction and the leading one
pub normal_split : (f : Format) (x : ℕ) → 0 < exponent_field f x → Split f.fraction (unsigned f x) (exponent_field f x - 1) (x % 2 ^ f.fraction + 2 ^ f.fraction)
normal_split f x h =
    let q : unsigned f x / 2 ^ f.fraction ≡ scale_of f.fraction (unsigned f x) + 1 = omega arith in
    split f.fraction (unsigned f x) (exponent_field f x - 1) (x % 2 ^ f.fraction + 2 ^ f.fraction) refl
    (ap (λ (n : ℕ). n + 2 ^ f.fraction) (sym (mod-mod-pow x f.exponent f.fraction)) ∙ omega (arith, div-add-mod' (unsigned f x) (2 ^ f.fraction), ap (λ (n : ℕ). n * 2 ^ f.fraction) q))

module _ (f : Format) (x y : ℕ) (c : Close f x y) where
  finite_at : (z : ℕ) → exponent_field f z < top_field f → unsigned f z < infinity f
  finite_at z h = rest_below f z (exponent_field f z) (top_field f) refl h

  pub close_finite_x : unsigned f x < infinity f
  close_finite_x = finite_at x c.finite

  pub close_finite_y : unsigned f y < infinity f
  close_finite_y = finite_at y (omega (arith, c.from, c.finite))

  pub close_nonzero : 0 < unsigned f y
  close_nonzero = omega (arith, div-mul-le_self (unsigned f y) (2 ^ f.fraction), mul-le-mul {n₁ = 1} {m₁ = 1} {n₂ = exponent_field f y} {m₂ = 2 ^ f.fraction} c.normal (pow_pos f.fraction))

-- ---- scales two or more apart

-- a's units are less than half of b's
pub far_smaller : (F a b : ℕ) → scale_of F a + 1 < scale_of F b → magnitude F a * 2 < magnitude F b
far_smaller F a b h =
    let sa : Split F a (scale_of F a) (a - scale_of F a * 2 ^ F) = split F a _ _ refl refl in
    let sb : Split F b (scale_of F b) (b - scale_of F b * 2 ^ F) = split F b _ _ refl refl in
    let q : b / 2 ^ F ≡ scale_of F b + 1 = omega arith in
    let lo : 2 ^ F ≤ b - scale_of F b * 2 ^ F = omega (arith, div-mul-le_self b (2 ^ F), ap (λ (n : ℕ). n * 2 ^ F) q) in
    let u : 2 ^ (2 + scale_of F a) ≤ 2 ^ scale_of F b = pow_mono (omega arith) in
    let l : 2 ^ F * 2 ^ (2 + scale_of F a) ≤ (b - scale_of F b * 2 ^ F) * 2 ^ scale_of F b = mul-le-mul lo u in
    let e : 2 ^ F * 2 ^ (2 + scale_of F a) ≡ 2 ^ F * 4 * 2 ^ scale_of F a = in_parts (2 ^ F) (scale_of F a) 2 in
    let s : (a - scale_of F a * 2 ^ F) * 2 ^ scale_of F a < 2 * 2 ^ F * 2 ^ scale_of F a = mul-lt-mul_of_pos_right sa.few (pow_pos (scale_of F a)) in
    omega (arith, sa.units, sb.units, l, e, s)
