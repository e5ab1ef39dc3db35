-- The turns of the division, in the code's own steps: F is the number of fraction bits, n is r moved up by c places. Assumes nothing.
use mathlib.Core.Path.{◌≡◌, refl, sym, ap, ◌∙◌}
use Prim.Native.Nat.{ℕ, suc, ◌+◌, ◌-◌, ◌*◌, ◌/◌, ◌%◌, ◌^◌, ◌≤◌, ◌<◌}
use native.Mathlib.Nat.{mod-eq_of_lt, mod-lt, lt_of_lt_of_le, mul_assoc, mul-le-mul, div-add-mod', mul-add-mod_self_right, div-le_of_le-mul, le-div_iff_mul-le}
use native.Mathlib.Omega.{arith}
use lib.Pow.{pow_pos, pow_mono, pow-add, shl_lt, shr_lt}
use Rattle.remainder.specs.Shape.{Turn, Turns, top_of, inverse_of}
use Rattle.remainder.proofs.Estimate.{Near, Quotient, near, by_division, by_reciprocal}

-- ---- sizes

module _ (F d : ℕ) (least : 19 ≤ F) (below : d < 2 * 2 ^ F) where
  pub top_le : top_of F d ≤ 1048576
  top_le =
      let e : suc F ≡ 20 + (F - 19) = omega arith in
      let t : d < 2 ^ (20 + (F - 19)) = omega (arith, below, ap (λ (k : ℕ). 2 ^ k) e) in
      omega (arith, shr_lt 20 (F - 19) t)

module _ (F r c d : ℕ) (t : Turn F r c d) where
  moved : r * 2 ^ c < 2 ^ (31 + (F - 19))
  moved = lt_of_lt_of_le (shl_lt (suc F) c (omega (arith, t.few))) (pow_mono (omega (arith, t.least, t.near)))

  pub fits : r * 2 ^ c < 2 ^ 64
  fits = lt_of_lt_of_le moved (pow_mono {i = 31 + (F - 19)} {j = 64} (omega (arith, t.most)))

  -- nothing is shifted out
  pub whole : r * 2 ^ c % 2 ^ 64 ≡ r * 2 ^ c
  whole = mod-eq_of_lt fits

  pub high_lt : r * 2 ^ c % 2 ^ 64 / 2 ^ (F - 19) < 2147483648
  high_lt = rw whole (shr_lt 31 (F - 19) moved)

  -- ---- the estimate is right, or one too small

  leading : 524288 * 2 ^ (F - 19) ≤ d
  leading = omega (arith, t.from, sym (pow-add 2 19 (F - 19)) ∙ ap (λ (k : ℕ). 2 ^ k) {x = 19 + (F - 19)} {y = F} (omega (arith, t.least)))

  module _ (q : ℕ) where
    estimated : Quotient (r * 2 ^ c % 2 ^ 64 / 2 ^ (F - 19)) (top_of F d) q → Near (r * 2 ^ c % 2 ^ 64) d q
    estimated w = near (2 ^ (F - 19)) (r * 2 ^ c % 2 ^ 64) d _ _ q (pow_pos (F - 19)) leading refl refl high_lt w

    pub divided : (top : ℕ) → top ≡ top_of F d → q ≡ r * 2 ^ c % 2 ^ 64 / 2 ^ (F - 19) / top → Near (r * 2 ^ c % 2 ^ 64) d q
    divided top et eq = estimated (by_division _ _ q (omega arith) (eq ∙ ap (λ (k : ℕ). r * 2 ^ c % 2 ^ 64 / 2 ^ (F - 19) / k) et))

    pub multiplied : (inverse : ℕ) → inverse ≡ inverse_of F d → q ≡ r * 2 ^ c % 2 ^ 64 / 2 ^ (F - 19) * inverse / 2251799813685248
        → Near (r * 2 ^ c % 2 ^ 64) d q
    multiplied inverse ei eq =
        estimated (by_reciprocal _ _ inverse q (omega arith) (top_le F d t.least t.below) high_lt ei eq)

  -- high times the reciprocal fits a word
  pub product_lt : (inverse : ℕ) → inverse ≡ inverse_of F d → r * 2 ^ c % 2 ^ 64 / 2 ^ (F - 19) * inverse < 2 ^ 64
  product_lt inverse ei =
      let i : inverse ≤ 4294967296 = rw ei (div-le_of_le-mul (top_of F d) {n = 4294967296} (omega (arith, least_top))) in
      omega (arith, mul-le-mul {n₁ = r * 2 ^ c % 2 ^ 64 / 2 ^ (F - 19)} {m₁ = inverse} {n₂ = 2147483647} {m₂ = 4294967296} (omega (arith, high_lt)) i)
    where
      least_top : 524288 ≤ top_of F d
      least_top = omega (arith, (le-div_iff_mul-le (pow_pos (F - 19))).1 leading)

-- ---- one turn after another

pub rem_rem : (a t y : ℕ) → (a % y * t) % y ≡ (a * t) % y
rem_rem a t y =
    let e : a * t ≡ a / y * t * y + a % y * t = omega (arith, ap (λ (n : ℕ). n * t) (div-add-mod' a y)) in
    sym (ap (λ (n : ℕ). n % y) e ∙ mul-add-mod_self_right (a / y * t) y (a % y * t))

pub turn_on : (r c left y : ℕ) → c ≤ left → (r * 2 ^ c % y) * 2 ^ (left - c) % y ≡ r * 2 ^ left % y
turn_on r c left y h =
    rem_rem (r * 2 ^ c) (2 ^ (left - c)) y
    ∙ ap (λ (n : ℕ). n % y) (mul_assoc r (2 ^ c) (2 ^ (left - c)) ∙ ap (λ (n : ℕ). r * n) (sym (pow-add 2 c (left - c)) ∙ ap (λ (n : ℕ). 2 ^ n) (omega arith)))

-- the remainder of a turn fits a significand again
pub turned_lt : {F m d : ℕ} (r c t : ℕ) → Turns F m d → t ≡ r * 2 ^ c % d → t < 2 * 2 ^ F
turned_lt {F} {m} {d} r c t w e = omega (arith, mod-lt (r * 2 ^ c) {m = d} (omega (arith, w.from, pow_pos F)), w.below)
