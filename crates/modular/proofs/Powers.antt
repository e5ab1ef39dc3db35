-- Powers of two by the binary digits of the exponent n, and m * 2^n modulo 8 * w from a residue of w's multiple w * 2^k. Assumes nothing.
use Rattle.std.proofs.Common.{◌≡◌, ℕ, suc, ◌+◌, ◌-◌, ◌*◌, ◌/◌, ◌%◌, ◌^◌, ◌<◌, ◌≤◌, sym, ap, ◌∙◌, ⊎_elim, mod-eq_of_lt, mul_assoc, mul_comm, mul-le-mul, div-add-mod', mul-div_cancel, arith, pow_pos, pow_mono, pow-add, shr-shr, shr_lt}
use native.Mathlib.Nat.{zero-div}
use lib.Count.{count_leading_zeros, leading_top}
use Rattle.float_format.proofs.Parts.{mod_scale}
use Rattle.float_format.proofs.Units.{lt_or_ge}
use Rattle.remainder.proofs.Turn.{rem_rem}
use Rattle.modular.specs.Modulus.{Modulus}
use Rattle.modular.proofs.Residues.{products}

-- ---- the digits of n

-- a word's leading zeros, and with them all of its digits but six left out, or but five
pub past_at : (n k : ℕ) → n < 2 ^ 64 → k ≡ 58 - count_leading_zeros 64 n → 54 < n / 2 ^ k → (k + 1 < 64) × (n / 2 ^ (k + 1) ≤ 54)
past_at n k l e h = found (leading_top 64 n (⊎_elim (λ g. g) (λ g. absurd (none (omega arith))) (lt_or_ge 0 n)) l)
  where
    none : n ≡ 0 → ⊥
    none z = omega (arith, h, ap (λ (i : ℕ). i / 2 ^ k) z ∙ zero-div (2 ^ k))

    found : (j : ℕ) × (count_leading_zeros 64 n + suc j ≡ 64) × (2 ^ j ≤ n) × (n < 2 ^ suc j) → (k + 1 < 64) × (n / 2 ^ (k + 1) ≤ 54)
    found t =
        let six : suc t.0 ≤ 5 + (k + 1) = omega (arith, t.1) in
        (omega arith, omega (arith, shr_lt {n = n} 5 (k + 1) (omega (arith, t.3, pow_mono {i = suc t.0} {j = 5 + (k + 1)} six))))

-- the leading digits alone: the power is below every modulus
pub leading_power : (n k d inverse : ℕ) → Modulus d inverse → n / 2 ^ k ≤ 54 → 2 ^ (n / 2 ^ k) ≡ 2 ^ (n / 2 ^ k) % d
leading_power n k d inverse w h = sym (mod-eq_of_lt (omega (arith, pow_mono {i = n / 2 ^ k} {j = 54} h, w.from)))

-- one digit more
digit_more : (n k : ℕ) → n / 2 ^ k ≡ n / 2 ^ suc k + n / 2 ^ suc k + n / 2 ^ k % 2
digit_more n k =
    let h : n / 2 ^ k / 2 ≡ n / 2 ^ suc k = shr-shr n k 1 ∙ ap (λ (i : ℕ). n / 2 ^ i) (omega arith) in
    omega (arith, div-add-mod' (n / 2 ^ k) 2)

-- the square of the power so far, doubled where the digit is 1
pub digit_power : (n k d r square next : ℕ) → r ≡ 2 ^ (n / 2 ^ suc k) % d → square ≡ r * r % d → next ≡ square * 2 ^ (n / 2 ^ k % 2) % d
    → next ≡ 2 ^ (n / 2 ^ k) % d
digit_power n k d r square next er es en =
    let p : ℕ = 2 ^ (n / 2 ^ suc k) in
    let b : ℕ = 2 ^ (n / 2 ^ k % 2) in
    let s : square ≡ p * p % d = es ∙ ap (λ (i : ℕ). i * i % d) er ∙ products p p d in
    let t : p * p * b ≡ 2 ^ (n / 2 ^ k) =
    ap (λ (i : ℕ). i * b) (sym (pow-add 2 (n / 2 ^ suc k) (n / 2 ^ suc k))) ∙ sym (pow-add 2 (n / 2 ^ suc k + n / 2 ^ suc k) (n / 2 ^ k % 2)) ∙ ap (λ (i : ℕ). 2 ^ i) (sym (digit_more n k)) in
    en ∙ ap (λ (i : ℕ). i * b % d) s ∙ rem_rem (p * p) b d ∙ ap (λ (i : ℕ). i % d) t

-- ---- a divisor brought to 2^55

module _ (w k : ℕ) (some : 0 < w) (few : w < 2 ^ 53) (from : 2 ^ 55 ≤ w * 2 ^ k) (below : w * 2 ^ k < 2 ^ 56) where
  -- there is room for three digits of the quotient
  pub three_below : 3 ≤ k
  three_below = ⊎_elim (λ l. absurd (short l)) (λ g. g) (lt_or_ge k 3)
    where
      short : k < 3 → ⊥
      short l = omega (arith, mul-le-mul {n₁ = w} {m₁ = 2 ^ k} {n₂ = 9007199254740991} {m₂ = 4} (omega arith) (pow_mono {i = k} {j = 2} (omega arith)))

  -- nothing is shifted out
  pub brought_whole : w * 2 ^ k % 2 ^ 64 ≡ w * 2 ^ k
  brought_whole = mod-eq_of_lt (omega arith)

  -- r is the residue of m * 2^(n + k - 3), p that of the power alone
  pub taken_back : (m n p r : ℕ) → p ≡ 2 ^ (n + k - 3) % (w * 2 ^ k) → r ≡ m * p % (w * 2 ^ k) → r / 2 ^ (k - 3) ≡ m * 2 ^ n % (8 * w)
  taken_back m n p r ep er =
      let t : ℕ = 2 ^ (k - 3) in
      let a : n + k - 3 ≡ n + (k - 3) = omega (arith, three_below) in
      let e : m * 2 ^ (n + k - 3) ≡ m * 2 ^ n * t = ap (λ (i : ℕ). m * 2 ^ i) a ∙ ap (λ (i : ℕ). m * i) (pow-add 2 n (k - 3)) ∙ sym (mul_assoc m (2 ^ n) t) in
      let d : w * 2 ^ k ≡ 8 * w * t = ap (λ (i : ℕ). w * 2 ^ i) {x = k} {y = 3 + (k - 3)} (omega (arith, three_below)) ∙ ap (λ (i : ℕ). w * i) (pow-add 2 3 (k - 3)) ∙ omega arith in
      let s : r ≡ m * 2 ^ (n + k - 3) % (w * 2 ^ k) =
      er ∙ ap (λ (i : ℕ). m * i % (w * 2 ^ k)) ep ∙ ap (λ (i : ℕ). i % (w * 2 ^ k)) (mul_comm m (2 ^ (n + k - 3) % (w * 2 ^ k))) ∙ rem_rem (2 ^ (n + k - 3)) m (w * 2 ^ k) ∙ ap (λ (i : ℕ). i % (w * 2 ^ k)) (mul_comm (2 ^ (n + k - 3)) m) in
      let u : r ≡ m * 2 ^ n % (8 * w) * t = s ∙ ap (λ (i : ℕ). i % (w * 2 ^ k)) e ∙ ap (λ (i : ℕ). m * 2 ^ n * t % i) d ∙ mod_scale (m * 2 ^ n) (8 * w) t (omega arith) (pow_pos (k - 3)) in
      ap (λ (i : ℕ). i / t) u ∙ mul-div_cancel (m * 2 ^ n % (8 * w)) (pow_pos (k - 3))
