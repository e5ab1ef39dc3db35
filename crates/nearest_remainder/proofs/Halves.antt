-- The nearest quotient from a cut division: by the half of the divisor and the quotient's last digit it goes on, or not; then the rest, or what it lacks
-- to the divisor, is left, and the sign turns or not. q, r, w and j are the code's quotient, rest, divisor and scale. Over every format. Assumes nothing.
use mathlib.Core.Path.{◌≡◌, refl, sym, ap, ap₂, ◌∙◌}
use mathlib.Core.Bool.{Bool, true, false, not, cond}
use mathlib.Core.Logic.{⊎_elim}
use Prim.Native.Nat.{ℕ, ◌+◌, ◌-◌, ◌*◌, ◌/◌, ◌%◌, ◌^◌, ◌<◌}
use native.Mathlib.Nat.{div-add-mod', mod-lt, mul-le-mul_right, mul_comm, mul-sub}
use native.Mathlib.Omega.{arith}
use lib.Dec.{ltb}
use lib.Pow.{pow_pos}
use borrow.Author.Tests.{eq-eqb, ne_eqb, lt-ltb, le-ltb, ltb-true, ltb-false}
use Rattle.float_format.specs.Format.{Format, sign_bit, negative, signed}
use Rattle.float_format.specs.Number.{magnitude, encode, distance}
use Rattle.float_format.specs.Rounding.{goes_away}
use Rattle.float_format.specs.declared.Direction.TheVariants.{HalfEven}
use Rattle.float_format.proofs.Units.{lt_or_ge, three_way}
use Rattle.float_format.proofs.Parts.{goes_scale, parts_at}
use Rattle.float_format.proofs.Sizes.{zero_is as signed-zero}
use Rattle.nearest_remainder.specs.Nearest.{nearest_quotient, less_nearest}
use Rattle.nearest_remainder.specs.Shape.{Divided}

-- the rounding rule for halves, as the code tests it: k is the quotient, q has its last digit
pub test_is : (k q r w : ℕ) → q % 2 ≡ k % 2 → goes_away HalfEven false k r w ≡ ltb w (2 * r + q % 2)
test_is k q r w e =
    three_way w (r * 2)
    (λ l. simp (lt-ltb w (r * 2) l, lt-ltb w (2 * r + q % 2) (omega arith)))
    (λ h. half h)
    (λ l. simp (le-ltb w (r * 2) (omega arith), ne_eqb w (r * 2) (omega arith), le-ltb w (2 * r + q % 2) (omega arith)))
  where
    half : w ≡ r * 2 → goes_away HalfEven false k r w ≡ ltb w (2 * r + q % 2)
    half h =
        ⊎_elim
        (λ l. simp (le-ltb w (r * 2) (omega arith), eq-eqb w (r * 2) h, ne_eqb (k % 2) 1 (omega arith), le-ltb w (2 * r + q % 2) (omega arith)))
        (λ g. simp (le-ltb w (r * 2) (omega arith), eq-eqb w (r * 2) h, eq-eqb (k % 2) 1 (omega arith), lt-ltb w (2 * r + q % 2) (omega arith)))
        (lt_or_ge (k % 2) 1)

module _ (f : Format) (a b q r w j : ℕ) (d : Divided f a b q r w j) (some : 0 < magnitude f.fraction b) where
  abbrev A : ℕ
  A = magnitude f.fraction a

  abbrev B : ℕ
  B = magnitude f.fraction b

  abbrev n : ℕ
  n = nearest_quotient A B

  -- the code's test
  abbrev on : Bool
  on = ltb w (2 * r + q % 2)

  -- a cut division leaves less than the divisor
  pub rest_lt : r < w
  rest_lt = ⊎_elim (λ l. l) (λ g. absurd (omega (arith, d.divisor, d.rest, mod-lt A some, mul-le-mul_right (2 ^ j) g))) (lt_or_ge r w)

  goes : goes_away HalfEven false (A / B) (A % B) B ≡ on
  goes =
      ap₂ (goes_away HalfEven false (A / B)) (sym d.rest) (sym d.divisor)
      ∙ goes_scale HalfEven false (A / B) r w (2 ^ j) (pow_pos j)
      ∙ test_is (A / B) q r w (omega (arith, d.quotient))

  count : n ≡ A / B + cond on 1 0
  count = parts_at HalfEven false A B on goes

  whole : A / B * B + A % B ≡ A
  whole = div-add-mod' A B

  minus : (w - r) * 2 ^ j ≡ B - A % B
  minus = mul_comm (w - r) (2 ^ j) ∙ mul-sub (2 ^ j) w r ∙ ap₂ ◌-◌ (mul_comm (2 ^ j) w ∙ d.divisor) (mul_comm (2 ^ j) r ∙ d.rest)

  pub quotient_is : (q + cond on 1 0) % 8 ≡ n % 8
  quotient_is = pick on count
    where
      pick : (t : Bool) → n ≡ A / B + cond t 1 0 → (q + cond t 1 0) % 8 ≡ n % 8
      pick true e = omega (arith, d.quotient)
      pick false e = omega (arith, d.quotient)

  pub left_few : cond on (w - r) r < 2 * 2 ^ f.fraction
  left_few = pick on refl
    where
      pick : (t : Bool) → on ≡ t → cond t (w - r) r < 2 * 2 ^ f.fraction
      pick true e = omega (arith, d.few, ltb-true w (2 * r + q % 2) e)
      pick false e = omega (arith, d.few, ltb-false w (2 * r + q % 2) e)

  turns : ltb A (n * B) ≡ on
  turns = pick on count
    where
      pick : (t : Bool) → n ≡ A / B + cond t 1 0 → ltb A (n * B) ≡ t
      pick true e = let m : n * B ≡ (A / B + 1) * B = ap (λ (i : ℕ). i * B) e in lt-ltb A (n * B) (omega (arith, whole, mod-lt A some))
      pick false e = let m : n * B ≡ (A / B + 0) * B = ap (λ (i : ℕ). i * B) e in le-ltb A (n * B) (omega (arith, whole))

  left_is : distance A (n * B) ≡ cond on (w - r) r * 2 ^ j
  left_is = pick on count
    where
      pick : (t : Bool) → n ≡ A / B + cond t 1 0 → distance A (n * B) ≡ cond t (w - r) r * 2 ^ j
      pick true e = let m : n * B ≡ (A / B + 1) * B = ap (λ (i : ℕ). i * B) e in omega (arith, whole, mod-lt A some) ∙ sym minus
      pick false e = let m : n * B ≡ (A / B + 0) * B = ap (λ (i : ℕ). i * B) e in omega (arith, whole) ∙ sym d.rest

  -- the word: sign is x's, turned or not, and e is the pattern of what is left
  pub word_is : (x sign e : ℕ) → x < 2 * sign_bit f → sign ≡ cond on (sign_bit f - (x - x % sign_bit f)) (x - x % sign_bit f)
      → e ≡ encode f.fraction (cond on (w - r) r * 2 ^ j) → sign + e ≡ less_nearest f (negative f x) A B
  word_is x sign e h es ee =
      ap₂ ◌+◌ (es ∙ signs on (negative f x) (signed-zero f x h)) (ee ∙ ap (encode f.fraction) (sym left_is))
      ∙ ap (λ (t : Bool). signed f (cond t (not (negative f x)) (negative f x)) (encode f.fraction (distance A (n * B)))) (sym turns)
    where
      signs : (t s : Bool) → x - x % sign_bit f ≡ signed f s 0 → cond t (sign_bit f - (x - x % sign_bit f)) (x - x % sign_bit f) ≡ cond (cond t (not s) s) (sign_bit f) 0
      signs true true z = omega arith
      signs true false z = omega arith
      signs false true z = omega arith
      signs false false z = omega arith
