-- What is left of a units, b units taken off nearest_quotient a b times: a number that the format holds, at most half of b, with the quotient even
-- where it is half, and not above a. It is the remainder of a cut division, or b less that. F is the number of fraction bits. Assumes nothing.
use mathlib.Core.Path.{◌≡◌, refl, sym, ap, ◌∙◌}
use mathlib.Core.Bool.{false}
use mathlib.Core.Logic.{◌⊎◌, ⊎_elim}
use Prim.Native.Nat.{ℕ, suc, ◌+◌, ◌-◌, ◌*◌, ◌/◌, ◌%◌, ◌^◌, ◌≤◌, ◌<◌}
use native.Mathlib.Nat.{div-add-mod', mod-lt, mod-eq_of_lt, mul_assoc, mul-sub, mul_comm, mul-le-mul_right}
use native.Mathlib.Omega.{arith}
use lib.Pow.{pow_pos, pow-add}
use Rattle.float_format.specs.Number.{magnitude, encode, distance}
use Rattle.float_format.specs.declared.Direction.TheVariants.{HalfEven}
use Rattle.float_format.proofs.Units.{lt_or_ge, magnitude-encode, magnitude_mono, Held, held}
use Rattle.float_format.proofs.Parts.{parts-least, parts-most}
use Rattle.float_format.proofs.Bounds.{Near, Nearer, half_even_near}
use Rattle.float_format.proofs.Order.{magnitude_zero}
use Rattle.remainder.specs.Shape.{scale_of}
use Rattle.remainder.proofs.Split.{Split, split, scale_mono, remainder-scaled}
use Rattle.remainder.proofs.Exact.{remainder_exact}
use Rattle.nearest_remainder.specs.Nearest.{nearest_quotient}

module _ (F A B : ℕ) (p : 0 < B) where
  abbrev a : ℕ
  a = magnitude F A

  abbrev b : ℕ
  b = magnitude F B

  some : 0 < b
  some = omega (arith, magnitude_zero F, magnitude_mono F p)

  near : Near a (nearest_quotient a b * b) b × (nearest_quotient a b % 2 ≡ 0 ⊎ Nearer a (nearest_quotient a b * b) b)
  near = half_even_near false a b some

  -- the quotient is cut, or one more
  data Goes : Type 0 where
    stays : nearest_quotient a b * b ≡ a / b * b → Goes
    away : nearest_quotient a b * b ≡ a / b * b + b → Goes

  goes : Goes
  goes = ⊎_elim (λ l. stays (ap (λ (n : ℕ). n * b) (same l))) (λ g. away (ap (λ (n : ℕ). n * b) (next g) ∙ one_more (a / b) b)) (lt_or_ge (nearest_quotient a b) (suc (a / b)))
    where
      same : nearest_quotient a b < suc (a / b) → nearest_quotient a b ≡ a / b
      same l = omega (arith, parts-least HalfEven false a b)

      next : suc (a / b) ≤ nearest_quotient a b → nearest_quotient a b ≡ suc (a / b)
      next g = omega (arith, parts-most HalfEven false a b)

      one_more : (q b : ℕ) → suc q * b ≡ q * b + b
      one_more q b = omega arith

  left : ℕ
  left = distance a (nearest_quotient a b * b)

  left_held : Held F left
  unfolding left
  left_held = pick goes
    where
      whole : a / b * b + a % b ≡ a
      whole = div-add-mod' a b

      cut : nearest_quotient a b * b ≡ a / b * b → Held F (distance a (nearest_quotient a b * b))
      cut e = record { pattern = encode F (a % b); units = omega (arith, whole) ∙ sym (remainder_exact F A B p) }

      -- past the middle: b less the remainder
      past : nearest_quotient a b * b ≡ a / b * b + b → Held F (distance a (nearest_quotient a b * b))
      past e = ⊎_elim less more (lt_or_ge A B)
        where
          rest : distance a (nearest_quotient a b * b) ≡ b - a % b
          rest = omega (arith, whole, mod-lt a some)

          half : b ≤ a % b * 2
          half = omega (arith, whole, near.0.lo)

          sa : Split F A (scale_of F A) (A - scale_of F A * 2 ^ F)
          sa = split F A _ _ refl refl

          sb : Split F B (scale_of F B) (B - scale_of F B * 2 ^ F)
          sb = split F B _ _ refl refl

          m : ℕ
          m = A - scale_of F A * 2 ^ F

          w : ℕ
          w = B - scale_of F B * 2 ^ F

          i : ℕ
          i = scale_of F A

          j : ℕ
          j = scale_of F B

          minus : (x y t : ℕ) → x * t - y * t ≡ (x - y) * t
          minus x y t = sym (mul_comm (x - y) t ∙ mul-sub t x y ∙ omega arith)

          -- x is the smaller, and at least half of y: in units of x's scale what is left is no more than x's own significand
          less : A < B → Held F (distance a (nearest_quotient a b * b))
          less l =
              let r : a % b ≡ m * 2 ^ i = mod-eq_of_lt (magnitude_mono F l) ∙ sa.units in
              let u : b ≡ w * 2 ^ (j - i) * 2 ^ i = sb.units ∙ ap (λ (k : ℕ). w * 2 ^ k) (omega (arith, scale_mono F {a = B} {b = A} (omega arith))) ∙ ap (λ (k : ℕ). w * k) (pow-add 2 (j - i) i) ∙ sym (mul_assoc w (2 ^ (j - i)) (2 ^ i)) in
              let t : b - a % b ≡ (w * 2 ^ (j - i) - m) * 2 ^ i = ap (λ (k : ℕ). k - a % b) u ∙ ap (λ (k : ℕ). w * 2 ^ (j - i) * 2 ^ i - k) r ∙ minus (w * 2 ^ (j - i)) m (2 ^ i) in
              let few : w * 2 ^ (j - i) - m ≤ m = fewer (w * 2 ^ (j - i)) m (2 ^ i) (pow_pos i) (omega (arith, half, r, u)) in
              rw (rest ∙ t) (held F (w * 2 ^ (j - i) - m) i (omega (arith, sa.few)))
            where
              fewer : (x y t : ℕ) → 0 < t → x * t ≤ y * t * 2 → x - y ≤ y
              fewer x y t h k = ⊎_elim (λ l. absurd (beyond l)) (λ g. g) (lt_or_ge y (x - y))
                where
                  beyond : y < x - y → ⊥
                  beyond l = omega (arith, mul-le-mul_right {m = suc (y * 2)} {n = x} t (omega arith))

          -- in units of y's scale it is no more than y's significand
          more : B ≤ A → Held F (distance a (nearest_quotient a b * b))
          more g =
              let z : ℕ = m * 2 ^ (i - j) % w in
              let r : z * 2 ^ j ≡ a % b = remainder-scaled F A B i j m w z sa sb p (scale_mono F g) refl in
              let t : b - a % b ≡ (w - z) * 2 ^ j = ap (λ (k : ℕ). k - a % b) sb.units ∙ ap (λ (k : ℕ). w * 2 ^ j - k) (sym r) ∙ minus w z (2 ^ j) in
              rw (rest ∙ t) (held F (w - z) j (omega (arith, sb.few)))

      pick : Goes → Held F (distance a (nearest_quotient a b * b))
      pick (stays e) = cut e
      pick (away e) = past e

  pub left_exact : magnitude F (encode F (distance a (nearest_quotient a b * b))) ≡ distance a (nearest_quotient a b * b)
  unfolding left
  left_exact = magnitude-encode F (distance a (nearest_quotient a b * b)) left_held.pattern left_held.units

  -- at most half of b
  pub left_half : distance a (nearest_quotient a b * b) * 2 ≤ b
  left_half = omega (arith, near.0)

  -- and n is even where it is half
  pub left_even : distance a (nearest_quotient a b * b) * 2 ≡ b → nearest_quotient a b % 2 ≡ 0
  left_even e = ⊎_elim (λ z. z) (λ n. absurd (never n)) near.1
    where
      never : Nearer a (nearest_quotient a b * b) b → ⊥
      never n = omega (arith, n, some)

  -- no larger than x
  pub left_at_most : distance a (nearest_quotient a b * b) ≤ a
  left_at_most = pick goes
    where
      pick : Goes → distance a (nearest_quotient a b * b) ≤ a
      pick (stays e) = omega (arith, div-add-mod' a b)
      pick (away e) = omega (arith, div-add-mod' a b, mod-lt a some, near.0.lo)
