-- Products with powers of two, and what may be cancelled from them. Plain arithmetic. Assumes nothing.
use mathlib.Core.Path.{◌≡◌, sym, ap, ◌∙◌}
use mathlib.Core.Logic.{⊎_elim}
use Prim.Native.Nat.{ℕ, suc, ◌+◌, ◌*◌, ◌^◌, ◌≤◌, ◌<◌}
use native.Mathlib.Nat.{le_antisymm, mul_assoc, mul_comm, mul-le-mul, mul-le-mul_right, mul-lt-mul_of_pos_right, pow-suc}
use native.Mathlib.Omega.{arith}
use lib.Pow.{pow-add}
use Rattle.float_format.proofs.Units.{lt_or_ge}

-- ---- regrouping

pub swap : (a b c : ℕ) → a * b * c ≡ a * c * b
swap a b c = mul_assoc a b c ∙ ap (λ (y : ℕ). a * y) (mul_comm b c) ∙ sym (mul_assoc a c b)

pub powers : (a b c : ℕ) → a + b ≡ c → 2 ^ a * 2 ^ b ≡ 2 ^ c
powers a b c e = sym (pow-add 2 a b) ∙ ap (λ (y : ℕ). 2 ^ y) e

pub gather : (m a b c : ℕ) → a + b ≡ c → m * 2 ^ a * 2 ^ b ≡ m * 2 ^ c
gather m a b c e = mul_assoc m (2 ^ a) (2 ^ b) ∙ ap (λ (y : ℕ). m * y) (powers a b c e)

pub double : (a t : ℕ) → 2 ^ suc a * t ≡ 2 * (2 ^ a * t)
double a t = ap (λ (y : ℕ). y * t) (pow-suc 2 a ∙ mul_comm (2 ^ a) 2) ∙ mul_assoc 2 (2 ^ a) t

pub suc_times : (n q : ℕ) → suc n * q ≡ n * q + q
suc_times n q = omega arith

pub product_pos : {a b : ℕ} → 0 < a → 0 < b → 0 < a * b
product_pos {a} {b} p q = omega (arith, mul-le-mul {n₁ = 1} {m₁ = 1} {n₂ = a} {m₂ = b} p q)

-- ---- cancelling

pub cancel_le : (t : ℕ) {a b : ℕ} → 0 < t → a * t ≤ b * t → a ≤ b
cancel_le t {a} {b} p h = ⊎_elim (λ l. omega (arith, mul-lt-mul_of_pos_right l p)) (λ g. g) (lt_or_ge b a)

pub cancel_lt : (t : ℕ) {a b : ℕ} → a * t < b * t → a < b
cancel_lt t {a} {b} h = ⊎_elim (λ l. l) (λ g. omega (arith, mul-le-mul_right t g)) (lt_or_ge a b)

pub cancel_right : (t : ℕ) {a b : ℕ} → 0 < t → a * t ≡ b * t → a ≡ b
cancel_right t p e = le_antisymm (cancel_le t p (omega arith)) (cancel_le t p (omega arith))
