-- Export in the code's steps: a is x without its sign. Assumes nothing.
use mathlib.Core.Path.{◌≡◌, refl, sym, ap, ◌∙◌}
use mathlib.Core.Bool.{Bool, false, cond}
use mathlib.Core.Logic.{⊎_elim}
use Prim.Native.Nat.{ℕ, suc, ◌+◌, ◌-◌, ◌*◌, ◌/◌, ◌%◌, ◌^◌, ◌≤◌, ◌<◌}
use native.Mathlib.Nat.{div-eq_of_lt, lt_of_lt_of_le, le_antisymm, le_of_suc-le-suc, div-lt_iff_lt-mul, le-div_iff_mul-le}
use native.Mathlib.Omega.{arith}
use lib.Bits.{bit_or}
use lib.Pow.{pow_pos, pow_mono}
use borrow.Author.Tests.{eq-eqb, ne_eqb, lt-ltb, le-ltb}
use Rattle.float_format.specs.Format.{binary16, binary32, sign_bit, infinity, negative, unsigned, signed, fraction_field, quieted, is_infinite}
use Rattle.float_format.specs.Number.{magnitude, encode, units_of}
use Rattle.float_format.specs.Rounding.{parts}
use Rattle.float_format.specs.declared.Direction.TheVariants.{HalfEven}
use Rattle.float_format.proofs.Units.{lt_or_ge, magnitude-low, Normal, normal, field_at, fraction_at}
use Rattle.float_format.proofs.Patterns.{nan_is, infinite_is, unsigned_signed}
use Rattle.float_format.proofs.Sizes.{minus, plus}
use Rattle.float_format.specs.Rounding.{nearest}
use Rattle.float_format.proofs.Powers.{powers, gather}
use Rattle.float_format.proofs.Nearby.{encode_small, nearest_scale, nearest-low}
use Rattle.float_format.proofs.Shifting.{even_sign, shifted_is, shifted_out, place, below}
use Rattle.float_format.specs.Rounding.{capped, rounded}
use Rattle.float_format.proofs.Rounded.{capped_in, capped_out}
use Rattle.conversion.specs.Conversion.{converted, converted_refusal}
use Rattle.conversion.proofs.Conversion.{converted_infinite, converted_nan_lem, converted_finite}

-- a carry out of the significand is one into the field
shift_out : (k y : ℕ) → k * 2 ^ 10 + y / 0x2000 ≡ (k * 2 ^ 23 + y) / 0x2000
shift_out k y = omega arith

carried : (j M o : ℕ) → 112 ≤ j → (j + 24 + 13 - 149) * 2 ^ 10 + (M + (0x1000 - 1 + o)) / 0x2000 ≡ (j * 2 ^ 23 + M - 0x3800_0000 + (0xfff + o)) / 0x2000
carried j M o h =
    let k : ℕ = j + 24 + 13 - 149 in
    shift_out k (M + (0x1000 - 1 + o)) ∙ ap (λ (n : ℕ). n / 0x2000) (omega arith)

-- from 65,520 on
pub past_end : (a : ℕ) → 0x477f_f000 ≤ a → 0x7c00 ≤ (a - 0x3800_0000 + (0xfff + a / 0x2000 % 2)) / 0x2000
past_end a g = ⊎_elim near far (lt_or_ge a 0x4780_0000)
  where
    -- the last place of the largest half is odd, so the tie goes up
    near : a < 0x4780_0000 → 0x7c00 ≤ (a - 0x3800_0000 + (0xfff + a / 0x2000 % 2)) / 0x2000
    near l =
        let q : a / 0x2000 ≡ 0x23bff = le_antisymm (le_of_suc-le-suc ((div-lt_iff_lt-mul {k = 0x2000} {x = a} {y = 0x23c00} (omega arith)).1 (omega arith))) ((le-div_iff_mul-le {k = 0x2000} {x = 0x23bff} {y = a} (omega arith)).1 (omega arith)) in
        rw q ((le-div_iff_mul-le {k = 0x2000} {x = 0x7c00} {y = a - 0x3800_0000 + (0xfff + 1)} (omega arith)).1 (omega arith))

    far : 0x4780_0000 ≤ a → 0x7c00 ≤ (a - 0x3800_0000 + (0xfff + a / 0x2000 % 2)) / 0x2000
    far h = (le-div_iff_mul-le {k = 0x2000} {x = 0x7c00} {y = a - 0x3800_0000 + (0xfff + a / 0x2000 % 2)} (omega arith)).1 (omega arith)

-- an answer of the code: word and refusal
abbrev pub Answered : ℕ → ℕ → ℕ → Type 0
Answered x word refusal = (word ≡ converted binary32 binary16 x) × (refusal ≡ converted_refusal binary32 binary16 x)

module _ (x a : ℕ) (p : x < 2 * sign_bit binary32) (e : a ≡ x % 0x8000_0000) where
  same_rest : unsigned binary32 x ≡ a
  same_rest = sym e

  s : Bool
  s = negative binary32 x

  pub moved_sign : (x - a) / 0x1_0000 ≡ cond (negative binary32 x) (sign_bit binary16) 0
  moved_sign = ⊎_elim (λ l. low l) (λ g. high g) (lt_or_ge x (sign_bit binary32))
    where
      low : x < sign_bit binary32 → (x - a) / 0x1_0000 ≡ cond (negative binary32 x) (sign_bit binary16) 0
      low l = rw (plus binary32 x p l).0 (omega (arith, (plus binary32 x p l).1))

      high : sign_bit binary32 ≤ x → (x - a) / 0x1_0000 ≡ cond (negative binary32 x) (sign_bit binary16) 0
      high g = rw (minus binary32 x p g).0 (omega (arith, (minus binary32 x p g).1))

  with_sign_lem : (r : ℕ) → (x - a) / 0x1_0000 + r ≡ signed binary16 (negative binary32 x) r
  with_sign_lem r = ap (λ (n : ℕ). n + r) moved_sign

  -- ---- not finite

  pub export_infinite : a ≡ 0x7f80_0000 → Answered x ((x - a) / 0x1_0000 + 0x7c00) 0
  unfolding converted_refusal
  export_infinite l = (
    with_sign_lem 0x7c00 ∙ sym (converted_infinite binary32 binary16 x (same_rest ∙ l)),
    simp (nan_is binary32 x, le-ltb (infinity binary32) (unsigned binary32 x) (omega (arith, same_rest)), infinite_is binary32 x, eq-eqb (unsigned binary32 x) (infinity binary32) (same_rest ∙ l)),
  )

  pub export_nan : 0x7f80_0000 < a → Answered x (bit_or ((x - a) / 0x1_0000 + (0x7c00 + (a - 0x7f80_0000) / 0x2000)) 0x0200) 0
  unfolding converted_refusal quieted
  export_nan l =
      let m : a < 0x8000_0000 = omega arith in
      let t : fraction_field binary32 x ≡ a - 0x7f80_0000 = ap (λ (n : ℕ). n % 0x80_0000) same_rest ∙ omega arith in
      let u : infinity binary16 + fraction_field binary32 x * 2 ^ 10 / 2 ^ 23 ≡ 0x7c00 + (a - 0x7f80_0000) / 0x2000 = ap (λ (n : ℕ). infinity binary16 + n * 2 ^ 10 / 2 ^ 23) t ∙ omega arith in (
        ap (λ (n : ℕ). bit_or n 0x0200) (with_sign_lem (0x7c00 + (a - 0x7f80_0000) / 0x2000) ∙ ap (signed binary16 (negative binary32 x)) (sym u))
            ∙ sym (converted_nan_lem binary32 binary16 x (omega (arith, same_rest))),
        simp (nan_is binary32 x, lt-ltb (infinity binary32) (unsigned binary32 x) (omega (arith, same_rest))),
      )

  -- ---- finite: r is the rounded pattern, before its end

  module _ (f : a < 0x7f80_0000) (r : ℕ) (h : encode 10 (nearest 10 HalfEven (negative binary32 x) (units_of binary32 x * 2 ^ 24) (2 ^ 149)) ≡ r) where
    finite : unsigned binary32 x < infinity binary32
    finite = omega (arith, same_rest)

    answer : converted binary32 binary16 x ≡ signed binary16 (negative binary32 x) (capped binary16 r)
    unfolding rounded
    answer = converted_finite binary32 binary16 x finite ∙ ap (λ (n : ℕ). signed binary16 (negative binary32 x) (capped binary16 n)) h

    refusal_is : converted_refusal binary32 binary16 x ≡ cond (is_infinite binary16 (converted binary32 binary16 x)) 3 0
    unfolding converted_refusal
    refusal_is =
        simp (nan_is binary32 x, le-ltb (infinity binary32) (unsigned binary32 x) (omega (arith, same_rest)), infinite_is binary32 x, ne_eqb (unsigned binary32 x) (infinity binary32) (omega (arith, same_rest)))

    pub export_in : r < 0x7c00 → Answered x ((x - a) / 0x1_0000 + r) 0
    export_in l =
        let w : converted binary32 binary16 x ≡ signed binary16 (negative binary32 x) r = answer ∙ ap (signed binary16 (negative binary32 x)) (capped_in binary16 l) in
        let u : unsigned binary16 (converted binary32 binary16 x) ≡ r = ap (unsigned binary16) w ∙ unsigned_signed binary16 r (omega arith) (negative binary32 x) in (
          with_sign_lem r ∙ sym w,
          sym (refusal_is ∙ ap (λ (t : Bool). cond t 3 0) (infinite_is binary16 (converted binary32 binary16 x) ∙ ne_eqb (unsigned binary16 (converted binary32 binary16 x)) (infinity binary16) (omega arith))),
        )

    pub export_out : 0x7c00 ≤ r → Answered x ((x - a) / 0x1_0000 + 0x7c00) 3
    export_out g =
        let w : converted binary32 binary16 x ≡ signed binary16 (negative binary32 x) 0x7c00 = answer ∙ ap (signed binary16 (negative binary32 x)) (capped_out binary16 g) in
        let u : unsigned binary16 (converted binary32 binary16 x) ≡ 0x7c00 = ap (unsigned binary16) w ∙ unsigned_signed binary16 0x7c00 (omega arith) (negative binary32 x) in (
          with_sign_lem 0x7c00 ∙ sym w,
          sym (refusal_is ∙ ap (λ (t : Bool). cond t 3 0) (infinite_is binary16 (converted binary32 binary16 x) ∙ eq-eqb (unsigned binary16 (converted binary32 binary16 x)) (infinity binary16) u)),
        )

  -- ---- the rounded pattern

  -- a normal f32 of the significand M and the scale j
  units_at : (n : Normal 23 a) → units_of binary32 x * 2 ^ 24 ≡ n.M * 2 ^ (n.j + 24)
  units_at n = ap (λ (k : ℕ). magnitude 23 k * 2 ^ 24) same_rest ∙ ap (λ (k : ℕ). k * 2 ^ 24) n.units ∙ gather n.M n.j 24 (n.j + 24) refl

  pub rounds_normal : 0x3880_0000 ≤ a
      → encode 10 (nearest 10 HalfEven (negative binary32 x) (units_of binary32 x * 2 ^ 24) (2 ^ 149)) ≡ (a - 0x3800_0000 + (0xfff + a / 0x2000 % 2)) / 0x2000
  rounds_normal g = go (normal 23 a (omega arith))
    where
      go : Normal 23 a → encode 10 (nearest 10 HalfEven (negative binary32 x) (units_of binary32 x * 2 ^ 24) (2 ^ 149)) ≡ (a - 0x3800_0000 + (0xfff + a / 0x2000 % 2)) / 0x2000
      go n =
          let far : 112 ≤ n.j = omega (arith, n.is, n.hi) in
          let odd : a / 0x2000 % 2 ≡ n.M / 0x2000 % 2 = omega (arith, n.is) in
          let cut : (n.M + (0x1000 - 1 + n.M / 0x2000 % 2)) / 0x2000 ≡ parts HalfEven false n.M 0x2000 = shifted_is n.M 0x2000 0x1000 refl (omega arith) in
          ap (λ (k : ℕ). encode 10 (nearest 10 HalfEven (negative binary32 x) k (2 ^ 149))) (units_at n)
          ∙ place 10 13 n.M (negative binary32 x) n.lo n.hi (n.j + 24) 149 (omega arith)
          ∙ ap (λ (k : ℕ). (n.j + 24 + 13 - 149) * 2 ^ 10 + k) (even_sign (negative binary32 x) false n.M (2 ^ 13) ∙ sym cut)
          ∙ carried n.j n.M (n.M / 0x2000 % 2) far
          ∙ ap (λ (k : ℕ). (k - 0x3800_0000 + (0xfff + n.M / 0x2000 % 2)) / 0x2000) (sym n.is)
          ∙ ap (λ (k : ℕ). (a - 0x3800_0000 + (0xfff + k)) / 0x2000) (sym odd)

  pub rounds_small : 0x3300_0000 ≤ a → a < 0x3880_0000
      → encode 10 (nearest 10 HalfEven (negative binary32 x) (units_of binary32 x * 2 ^ 24) (2 ^ 149))
      ≡ parts HalfEven false (0x80_0000 + a % 0x80_0000) (2 ^ (126 - a / 0x80_0000))
  rounds_small g l = go (normal 23 a (omega arith))
    where
      go : Normal 23 a → encode 10 (nearest 10 HalfEven (negative binary32 x) (units_of binary32 x * 2 ^ 24) (2 ^ 149))
          ≡ parts HalfEven false (0x80_0000 + a % 0x80_0000) (2 ^ (126 - a / 0x80_0000))
      go n =
          let near : n.j < 112 = omega (arith, n.is, n.lo) in
          let q : a / 0x80_0000 ≡ suc n.j = ap (λ (k : ℕ). k / 0x80_0000) n.is ∙ field_at 23 n.j n.M n.lo n.hi in
          let r : 0x80_0000 + a % 0x80_0000 ≡ n.M = omega (arith, ap (λ (k : ℕ). k % 0x80_0000) n.is ∙ fraction_at 23 n.j n.M n.lo n.hi, n.lo) in
          ap (λ (k : ℕ). encode 10 (nearest 10 HalfEven (negative binary32 x) k (2 ^ 149))) (units_at n)
          ∙ below 10 13 n.M (negative binary32 x) n.lo n.hi (n.j + 24) 149 (omega arith)
          ∙ even_sign (negative binary32 x) false n.M (2 ^ (149 - (n.j + 24)))
          ∙ ap (λ (k : ℕ). parts HalfEven false n.M (2 ^ k)) (omega (arith, q))
          ∙ ap (λ (k : ℕ). parts HalfEven false k (2 ^ (126 - a / 0x80_0000))) (sym r)

  pub rounds_tiny : a < 0x3300_0000 → encode 10 (nearest 10 HalfEven (negative binary32 x) (units_of binary32 x * 2 ^ 24) (2 ^ 149)) ≡ 0
  rounds_tiny l = ⊎_elim low (λ g. high (normal 23 a g)) (lt_or_ge a (2 ^ 23))
    where
      high : Normal 23 a → encode 10 (nearest 10 HalfEven (negative binary32 x) (units_of binary32 x * 2 ^ 24) (2 ^ 149)) ≡ 0
      high n =
          let near : n.j < 101 = omega (arith, n.is, n.lo) in
          ap (λ (k : ℕ). encode 10 (nearest 10 HalfEven (negative binary32 x) k (2 ^ 149))) (units_at n)
          ∙ below 10 13 n.M (negative binary32 x) n.lo n.hi (n.j + 24) 149 (omega arith)
          ∙ even_sign (negative binary32 x) false n.M (2 ^ (149 - (n.j + 24)))
          ∙ sym (shifted_out 23 n.M (149 - (n.j + 24)) n.hi (omega arith))

      low : a < 2 ^ 23 → encode 10 (nearest 10 HalfEven (negative binary32 x) (units_of binary32 x * 2 ^ 24) (2 ^ 149)) ≡ 0
      low k =
          let z : parts HalfEven (negative binary32 x) a (2 ^ 125) ≡ 0 = even_sign (negative binary32 x) false a (2 ^ 125) ∙ sym (shifted_out 23 a 125 (omega arith) (omega arith)) in
          ap (λ (n : ℕ). encode 10 (nearest 10 HalfEven (negative binary32 x) (n * 2 ^ 24) (2 ^ 149))) (ap (magnitude 23) same_rest ∙ magnitude-low 23 a k)
          ∙ ap (encode 10)
          (ap (nearest 10 HalfEven (negative binary32 x) (a * 2 ^ 24)) (sym (powers 125 24 149 refl))
          ∙ nearest_scale 10 HalfEven (negative binary32 x) a (2 ^ 125) (2 ^ 24) (pow_pos 125) (pow_pos 24)
          ∙ nearest-low 10 HalfEven (negative binary32 x) a (2 ^ 125) (none (div-eq_of_lt (lt_of_lt_of_le k (pow_mono {i = 23} {j = 125} (omega arith)))))
          ∙ z)
          ∙ encode_small 10 0 (omega arith)
        where
          none : {q : ℕ} → q ≡ 0 → q < 2 * 2 ^ 10
          none e = omega arith
