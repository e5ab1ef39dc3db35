-- The estimate of x * y / d by leading bits is right, or one too small. X is x cut below 2^25, high is X * y cut below 2^28, top is d cut below 2^24
-- and one more; the reciprocal of top is in units of 2^-63, so that the quotient comes in units of 2^34. What all these leave out is less than d.
-- Assumes nothing.
use Rattle.std.proofs.Common.{ℕ, ◌+◌, ◌*◌, ◌/◌, ◌^◌, ◌<◌, ◌≤◌, ap, ⊎_elim, mul-le-mul_right, mul-le-mul, mul-le-mul_left, div-mul-le_self, arith}
use native.Mathlib.Nat.{lt-div-mul-add}
use Rattle.float_format.proofs.Units.{lt_or_ge}
use Rattle.remainder.proofs.Estimate.{Near}
use Rattle.modular.specs.Modulus.{Modulus, top_of}

module _ (x y d inverse : ℕ) (w : Modulus d inverse) (hx : x < d) (hy : y ≤ 2 ^ 28) where
  abbrev X : ℕ
  X = x / 2 ^ 25

  abbrev high : ℕ
  high = X * y / 2 ^ 28

  abbrev top : ℕ
  top = top_of d

  abbrev pub estimate : ℕ
  estimate = high * inverse / 2 ^ 34

  -- ---- sizes

  X_lt : X < 2147483648
  X_lt = omega (arith, w.below)

  first_le : X * y ≤ 2147483647 * 268435456
  first_le = mul-le-mul {n₁ = X} {m₁ = y} {n₂ = 2147483647} {m₂ = 268435456} (omega (arith, X_lt)) hy

  pub first_lt : X * y < 2 ^ 64
  first_lt = omega (arith, first_le)

  high_lt : high < 2147483648
  high_lt = omega (arith, first_le)

  top_from : 2147483649 ≤ top
  top_from = omega (arith, w.from)

  top_upto : top ≤ 4294967296
  top_upto = omega (arith, w.below)

  inverse_under : inverse * top ≤ 9223372036854775808
  inverse_under = omega (arith, ap (λ (k : ℕ). k * top) w.reciprocal, div-mul-le_self 9223372036854775808 top)

  inverse_over : 9223372036854775808 ≤ inverse * top + top
  inverse_over = omega (arith, ap (λ (k : ℕ). k * top) w.reciprocal, lt-div-mul-add {a = 9223372036854775808} {b = top} (omega arith))

  inverse_lt : inverse < 4294967296
  inverse_lt = ⊎_elim (λ l. l) (λ g. absurd (omega (arith, inverse_under, mul-le-mul {n₁ = 4294967296} {m₁ = 2147483649} {n₂ = inverse} {m₂ = top} g top_from))) (lt_or_ge inverse 4294967296)

  second_le : high * inverse ≤ 2147483647 * 4294967295
  second_le = mul-le-mul {n₁ = high} {m₁ = inverse} {n₂ = 2147483647} {m₂ = 4294967295} (omega (arith, high_lt)) (omega (arith, inverse_lt))

  pub second_lt : high * inverse < 2 ^ 64
  second_lt = omega (arith, second_le)

  pub estimate_lt : estimate < 2 ^ 29
  estimate_lt = omega (arith, second_le)

  -- ---- the estimate

  -- 2^63 in high, and high times top, which is below it
  spread : high * 9223372036854775808 ≤ estimate * 17179869184 * top + 17179869184 * top + high * top
  spread =
      let a : high * 9223372036854775808 ≤ high * (inverse * top + top) = mul-le-mul_left high inverse_over in
      let b : high * inverse * top ≤ (estimate * 17179869184 + 17179869184) * top = mul-le-mul_right top (omega arith) in
      omega (arith, a, b)

  gathered : estimate * 17179869184 * top ≤ high * 9223372036854775808
  gathered =
      let a : estimate * 17179869184 * top ≤ high * inverse * top = mul-le-mul_right top (omega arith) in
      let b : high * (inverse * top) ≤ high * 9223372036854775808 = mul-le-mul_left high inverse_under in
      omega (arith, a, b)

  x_under : X * 33554432 * y ≤ x * y
  x_under = mul-le-mul_right y (omega arith)

  x_over : x * y ≤ (X * 33554432 + 33554432) * y
  x_over = mul-le-mul_right y (omega arith)

  d_under : estimate * d ≤ estimate * (top * 16777216)
  d_under = mul-le-mul_left estimate (omega arith)

  d_over : estimate * (top * 16777216) ≤ estimate * (d + 16777216)
  d_over = mul-le-mul_left estimate (omega arith)

  high_top : high * top ≤ 2147483647 * 4294967296
  high_top = mul-le-mul {n₁ = high} {m₁ = top} {n₂ = 2147483647} {m₂ = 4294967296} (omega (arith, high_lt)) top_upto

  high_both : (high * 268435456 ≤ X * y) × (X * y ≤ high * 268435456 + 268435456)
  high_both = (omega arith, omega arith)

  top_both : (d ≤ top * 16777216) × (top * 16777216 ≤ d + 16777216)
  top_both = (omega arith, omega arith)

  -- in these products, and in no others
  under_at : (qd qt xy Xy high : ℕ) → qd ≤ qt * 16777216 → qt * 17179869184 ≤ high * 9223372036854775808 → high * 268435456 ≤ Xy → Xy * 33554432 ≤ xy → qd ≤ xy
  under_at qd qt xy Xy high a b c e = omega arith

  over_at : (q qd qt xy Xy high ht t d : ℕ) → q < 536870912 → 36028797018963968 ≤ d → qt * 16777216 ≤ qd + q * 16777216
      → high * 9223372036854775808 ≤ qt * 17179869184 + 17179869184 * t + ht → ht ≤ 2147483647 * 4294967296 → t * 16777216 ≤ d + 16777216
      → Xy ≤ high * 268435456 + 268435456 → xy ≤ Xy * 33554432 + 9007199254740992 → xy < qd + 2 * d
  over_at q qd qt xy Xy high ht t d a b c e g h i j = omega arith

  pub near : Near (x * y) d estimate
  near =
      record {
        under = under_at (estimate * d) (estimate * top) (x * y) (X * y) high (omega (arith, d_under)) (omega (arith, gathered)) high_both.0 (omega (arith, x_under));
        over = over_at estimate (estimate * d) (estimate * top) (x * y) (X * y) high (high * top) top d estimate_lt w.from (omega (arith, d_over)) (omega (arith, spread)) high_top top_both.1 high_both.1 (omega (arith, x_over, hy));
      }
