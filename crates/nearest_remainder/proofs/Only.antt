-- The nearest whole number is the only one: where a less (p - q) times b is at most half of b, and p - q is even where it is half, p - q is the
-- nearest quotient. The one idea: two multiples of b that are both within half of it differ by b at most, and by b only where both are halves, of
-- which one is odd. Plain arithmetic; no format here. Assumes nothing.
use mathlib.Core.Path.{◌≡◌, ap}
use mathlib.Core.Bool.{false}
use mathlib.Core.Logic.{◌⊎◌, ⊎_elim}
use Prim.Native.Nat.{ℕ, ◌+◌, ◌*◌, ◌%◌, ◌≤◌, ◌<◌}
use native.Mathlib.Omega.{arith}
use Rattle.float_format.specs.Number.{distance}
use Rattle.float_format.proofs.Units.{three_way}
use Rattle.float_format.proofs.Bounds.{Near, Nearer, half_even_near, step}
use Rattle.nearest_remainder.specs.Nearest.{nearest_quotient}

module _ (a b c p q : ℕ) (some : 0 < b) (e : distance (a + q * b) (p * b) ≡ c) (half : c * 2 ≤ b) (even : c * 2 ≡ b → (p + q) % 2 ≡ 0) where
  n : ℕ
  n = nearest_quotient a b

  near : Near a (n * b) b × (n % 2 ≡ 0 ⊎ Nearer a (n * b) b)
  unfolding n
  near = half_even_near false a b some

  -- two whole numbers apart is too far
  far_below : p + 1 < n + q → ⊥
  far_below l = omega (arith, step b l, near.0)

  far_above : n + q + 1 < p → ⊥
  far_above l = let t : n * b + q * b + b + b ≤ p * b = omega (arith, step b l) in beyond (n * b) (q * b) (p * b) t near.0.hi e
    where
      beyond : (N Q P : ℕ) → N + Q + b + b ≤ P → a * 2 ≤ N * 2 + b → distance (a + Q) P ≡ c → ⊥
      beyond N Q P t h d = omega arith

  -- one apart, both are halves
  next_below : p + 1 ≡ n + q → ⊥
  next_below l = ⊎_elim (λ z. omega (arith, both, even both, z)) (λ w. omega (arith, times, w)) near.1
    where
      times : p * b + b ≡ n * b + q * b
      times = let t : (p + 1) * b ≡ (n + q) * b = ap (λ (k : ℕ). k * b) l in omega arith

      both : c * 2 ≡ b
      both = omega (arith, times, near.0)

  next_above : p ≡ n + q + 1 → ⊥
  next_above l = ⊎_elim (λ z. omega (arith, both, even both, z)) (λ w. omega (arith, times, w)) near.1
    where
      times : p * b ≡ n * b + q * b + b
      times = let t : p * b ≡ (n + q + 1) * b = ap (λ (k : ℕ). k * b) l in omega arith

      both : c * 2 ≡ b
      both = omega (arith, times, near.0)

  pub only : p ≡ nearest_quotient a b + q
  unfolding n
  only =
      three_way p (n + q)
      (λ l. absurd (three_way (p + 1) (n + q) far_below next_below (λ g. omega arith)))
      (λ g. g)
      (λ l. absurd (three_way (n + q + 1) p far_above (λ g. next_above (omega arith)) (λ g. omega arith)))
