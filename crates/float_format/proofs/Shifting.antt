-- A significand divided by a power of two and rounded, halves to even: as the code shifts it, and as a pattern of fewer digits. Over every
-- pair of sizes. Assumes nothing.
use mathlib.Core.Path.{◌≡◌, refl, sym, ap, ◌∙◌}
use mathlib.Core.Bool.{Bool, true, false}
use mathlib.Core.Logic.{⊎_elim}
use Prim.Native.Nat.{ℕ, suc, ◌+◌, ◌-◌, ◌*◌, ◌/◌, ◌%◌, ◌^◌, ◌≤◌, ◌<◌}
use native.Mathlib.Nat.{mod-lt, div-add-mod', div-eq_of_lt, mod-eq_of_lt, mul_assoc, mul-le-mul_left, mul-le-mul_right, mul-lt-mul_of_pos_right, div-lt_iff_lt-mul, le-div_iff_mul-le}
use native.Mathlib.Omega.{arith}
use lib.Arith.{digits_div}
use lib.Ieee.{size}
use lib.Pow.{pow_pos, pow_mono}
use borrow.Author.Tests.{lt-ltb, le-ltb, eq-eqb, ne_eqb}
use Rattle.float_format.specs.Number.{encode}
use Rattle.float_format.specs.Rounding.{parts, nearest}
use Rattle.float_format.specs.declared.Direction.TheVariants.{HalfEven}
use Rattle.float_format.proofs.Powers.{powers}
use Rattle.float_format.proofs.Units.{lt_or_ge, three_way, size_is, encode_at}
use Rattle.float_format.proofs.Parts.{parts_at, parts-least, parts-most, parts_scale}
use Rattle.float_format.proofs.Nearby.{encode_small, nearest_scale, nearest-low}

-- ---- what does not matter

-- the sign has no say where halves go to even
pub even_sign : (s t : Bool) (m u : ℕ) → parts HalfEven s m u ≡ parts HalfEven t m u
unfolding parts
even_sign s t m u = refl

-- less than half of a part is none
pub parts_none : (s : Bool) (m u : ℕ) → m * 2 < u → parts HalfEven s m u ≡ 0
unfolding parts
parts_none s m u h =
    let none : m / u ≡ 0 = div-eq_of_lt (omega arith) in
    let all : m % u ≡ m = mod-eq_of_lt (omega arith) in
    simp (none, all, le-ltb u (m * 2) (omega arith), ne_eqb u (m * 2) (omega arith))

-- and so is a significand divided by 2 ^ (F + 2) or more
pub far_below : (F m d : ℕ) → m < 2 * 2 ^ F → suc F < d → m * 2 < 2 ^ d
far_below F m d h l = omega (arith, pow_mono {i = suc (suc F)} {j = d} l)

-- ---- as the code shifts

pub shifted_is : (m u v : ℕ) → u ≡ v * 2 → 0 < v → (m + (v - 1 + m / u % 2)) / u ≡ parts HalfEven false m u
shifted_is m u v e p = three_way r v less tie more
  where
    q : ℕ
    q = m / u

    r : ℕ
    r = m % u

    add : ℕ
    add = v - 1 + q % 2

    whole : q * u + r ≡ m
    whole = div-add-mod' m u

    -- without a carry and with one
    stays : r + add < u → (m + add) / u ≡ q + 0
    stays l =
        let s : m + add ≡ q * u + (r + add) = omega (arith, whole) in
        ap (λ (y : ℕ). y / u) s ∙ digits_div q l ∙ omega arith

    carries : u ≤ r + add → (m + add) / u ≡ q + 1
    carries g =
        let l : r < u = mod-lt m (omega arith) in
        let s : m + add ≡ suc q * u + (r + add - u) = omega (arith, whole) in
        ap (λ (y : ℕ). y / u) s ∙ digits_div (suc q) (omega arith) ∙ omega arith

    less : r < v → (m + add) / u ≡ parts HalfEven false m u
    less l = stays (omega arith) ∙ sym (parts_at HalfEven false m u false (simp (le-ltb u (r * 2) (omega arith), ne_eqb u (r * 2) (omega arith))))

    more : v < r → (m + add) / u ≡ parts HalfEven false m u
    more l = carries (omega arith) ∙ sym (parts_at HalfEven false m u true (simp (lt-ltb u (r * 2) (omega arith))))

    tie : r ≡ v → (m + add) / u ≡ parts HalfEven false m u
    tie k = ⊎_elim even odd (lt_or_ge (q % 2) 1)
      where
        even : q % 2 < 1 → (m + add) / u ≡ parts HalfEven false m u
        even o =
            stays (omega arith)
            ∙ sym (parts_at HalfEven false m u false (simp (le-ltb u (r * 2) (omega arith), eq-eqb u (r * 2) (omega arith), ne_eqb (q % 2) 1 (omega arith))))

        odd : 1 ≤ q % 2 → (m + add) / u ≡ parts HalfEven false m u
        odd o =
            carries (omega arith)
            ∙ sym (parts_at HalfEven false m u true (simp (le-ltb u (r * 2) (omega arith), eq-eqb u (r * 2) (omega arith), eq-eqb (q % 2) 1 (omega arith))))

-- the significand m divided by u, which is 2 ^ d
pub record Shifted (F m u d : ℕ) : Type 0 where
  pub some : 0 < u
  pub half : 1 ≤ u / 2
  pub fits : m + (u / 2 - 1 + m / u % 2) < 2 ^ 64
  pub is : (m + (u / 2 - 1 + m / u % 2)) / u ≡ parts HalfEven false m (2 ^ d)
  pub most : (m + (u / 2 - 1 + m / u % 2)) / u ≤ 2 ^ F

pub shifted : (F m u d : ℕ) → F < 62 → m < 2 * 2 ^ F → 1 ≤ d → d ≤ F + 1 → u ≡ 2 ^ d → Shifted F m u d
shifted F m u d narrow few some near eu =
    let e : u ≡ 2 ^ suc (d - 1) = eu ∙ ap (λ (y : ℕ). 2 ^ y) (omega arith) in
    let h : u ≡ u / 2 * 2 = omega arith in
    let v : 0 < u / 2 = omega (arith, pow_pos (d - 1)) in
    let top : u ≤ 2 * 2 ^ F = omega (arith, pow_mono {i = d} {j = suc F} (omega arith)) in
    let word : 2 ^ F ≤ 2 ^ 62 = pow_mono {i = F} {j = 62} (omega arith) in
    let q : m / u < 2 ^ F = (div-lt_iff_lt-mul {k = u} (omega arith)).1 (omega (arith, mul-le-mul_left {m = 2} {n = u} (2 ^ F) (omega arith))) in
    let i : (m + (u / 2 - 1 + m / u % 2)) / u ≡ parts HalfEven false m u = shifted_is m u (u / 2) h v in
    record {
      some = omega arith;
      half = v;
      fits = omega arith;
      is = i ∙ ap (parts HalfEven false m) eu;
      most = omega (arith, parts-most HalfEven false m u);
    }

pub shifted_out : (F m d : ℕ) → m < 2 * 2 ^ F → F + 1 < d → 0 ≡ parts HalfEven false m (2 ^ d)
shifted_out F m d few h = sym (parts_none false m (2 ^ d) (far_below F m d few (omega arith)))

-- how large the quotient is: of suc F digits d go, and G are left
pub shifted_most : (F G m d : ℕ) → m < 2 * 2 ^ F → suc F ≤ G + d → parts HalfEven false m (2 ^ d) ≤ 2 ^ G
shifted_most F G m d few h =
    let top : 2 * 2 ^ F ≤ 2 ^ G * 2 ^ d = omega (arith, powers G d (G + d) refl, pow_mono {i = suc F} {j = G + d} h) in
    let q : m / 2 ^ d < 2 ^ G = (div-lt_iff_lt-mul {k = 2 ^ d} {x = m} {y = 2 ^ G} (pow_pos d)).1 (omega arith) in
    omega (arith, parts-most HalfEven false m (2 ^ d))

-- ---- as a pattern: G digits are kept past the leading one, d more are there

module _ (G d M : ℕ) (s : Bool) (lo : 2 ^ (G + d) ≤ M) (hi : M < 2 * 2 ^ (G + d)) where
  -- parts of the d digits that go
  whole : 2 ^ G * 2 ^ d ≡ 2 ^ (G + d)
  whole = powers G d (G + d) refl

  pub kept_least : 2 ^ G ≤ parts HalfEven s M (2 ^ d)
  kept_least = omega (arith, parts-least HalfEven s M (2 ^ d), (le-div_iff_mul-le {k = 2 ^ d} {x = 2 ^ G} {y = M} (pow_pos d)).1 (omega (arith, whole)))

  pub kept_most : parts HalfEven s M (2 ^ d) ≤ 2 * 2 ^ G
  kept_most = omega (arith, parts-most HalfEven s M (2 ^ d), (div-lt_iff_lt-mul {k = 2 ^ d} {x = M} {y = 2 * 2 ^ G} (pow_pos d)).1 (omega (arith, whole, mul_assoc 2 (2 ^ G) (2 ^ d))))

  module _ (A B : ℕ) (h : B ≤ A + d) where
    K : ℕ
    K = A + d - B

    digits : size (M * 2 ^ A / 2 ^ B) - suc G ≡ A + d - B
    unfolding K
    digits =
        let a : 2 ^ (G + K) * 2 ^ B ≡ 2 ^ (G + d) * 2 ^ A = powers (G + K) B (G + d + A) (omega arith) ∙ sym (powers (G + d) A (G + d + A) refl) in
        let b : 2 ^ suc (G + K) * 2 ^ B ≡ 2 * 2 ^ (G + d) * 2 ^ A = powers (suc (G + K)) B (suc (G + d) + A) (omega arith) ∙ sym (powers (suc (G + d)) A (suc (G + d) + A) refl) ∙ ap (λ (y : ℕ). y * 2 ^ A) (omega arith) in
        let lo' : 2 ^ (G + K) ≤ M * 2 ^ A / 2 ^ B = (le-div_iff_mul-le {k = 2 ^ B} {x = 2 ^ (G + K)} {y = M * 2 ^ A} (pow_pos B)).1 (omega (arith, a, mul-le-mul_right (2 ^ A) lo)) in
        let hi' : M * 2 ^ A / 2 ^ B < 2 ^ suc (G + K) = (div-lt_iff_lt-mul {k = 2 ^ B} {x = M * 2 ^ A} {y = 2 ^ suc (G + K)} (pow_pos B)).1 (omega (arith, b, mul-lt-mul_of_pos_right hi (pow_pos A))) in
        omega (arith, size_is (M * 2 ^ A / 2 ^ B) (G + K) lo' hi')

    -- a normal answer
    pub place : encode G (nearest G HalfEven s (M * 2 ^ A) (2 ^ B)) ≡ (A + d - B) * 2 ^ G + parts HalfEven s M (2 ^ d)
    unfolding nearest
    place =
        let p : ℕ = parts HalfEven s M (2 ^ d) in
        ap (λ (k : ℕ). encode G (parts HalfEven s (M * 2 ^ A) (2 ^ B * 2 ^ k) * 2 ^ k)) digits
        ∙ ap (λ (u : ℕ). encode G (parts HalfEven s (M * 2 ^ A) u * 2 ^ (A + d - B))) (powers B (A + d - B) (d + A) (omega arith) ∙ sym (powers d A (d + A) refl))
        ∙ ap (λ (q : ℕ). encode G (q * 2 ^ (A + d - B))) (parts_scale HalfEven s M (2 ^ d) (2 ^ A) (pow_pos d) (pow_pos A))
        ∙ encode_at G (A + d - B) p kept_least kept_most

  -- one below the normal numbers
  pub below : (A B : ℕ) → A + d < B → encode G (nearest G HalfEven s (M * 2 ^ A) (2 ^ B)) ≡ parts HalfEven s M (2 ^ (B - A))
  below A B h =
      ap (encode G)
      (ap (nearest G HalfEven s (M * 2 ^ A)) (sym (powers (B - A) A B (omega arith)))
      ∙ nearest_scale G HalfEven s M (2 ^ (B - A)) (2 ^ A) (pow_pos (B - A)) (pow_pos A)
      ∙ nearest-low G HalfEven s M (2 ^ (B - A)) (omega (arith, few)))
      ∙ encode_small G (parts HalfEven s M (2 ^ (B - A))) (omega (arith, few, parts-most HalfEven s M (2 ^ (B - A))))
    where
      few : M / 2 ^ (B - A) < 2 ^ G
      few =
          (div-lt_iff_lt-mul {k = 2 ^ (B - A)} {x = M} {y = 2 ^ G} (pow_pos (B - A))).1
          (omega (arith, powers G (suc d) (G + suc d) refl, ap (λ (k : ℕ). 2 ^ k) (more G d), mul-le-mul_left (2 ^ G) (pow_mono {i = suc d} {j = B - A} (omega arith))))
        where
          more : (G d : ℕ) → G + suc d ≡ suc (G + d)
          more G d = omega arith
