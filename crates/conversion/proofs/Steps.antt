-- Import in the code's steps, by class. Assumes nothing.
use mathlib.Core.Path.{◌≡◌, refl, sym, ap, ◌∙◌}
use mathlib.Core.Logic.{⊎_elim}
use Prim.Native.Nat.{ℕ, ◌+◌, ◌-◌, ◌*◌, ◌/◌, ◌%◌, ◌^◌, ◌≤◌, ◌<◌}
use native.Mathlib.Nat.{mul_assoc, le_of_eq, le_trans, lt_of_lt_of_le, not-le_of_lt}
use native.Mathlib.Omega.{arith}
use lib.Bits.{bit_or}
use lib.Pow.{pow-add, pow_mono, shl_lt}
use Rattle.float_format.specs.Format.{binary16, binary32, sign_bit, infinity, negative, unsigned, signed, fraction_field, quieted}
use Rattle.float_format.specs.Number.{magnitude, encode, units_of}
use Rattle.float_format.proofs.Units.{lt_or_ge, encode_at, magnitude-low, magnitude_mono_le, Normal, normal, held_units}
use Rattle.conversion.specs.Conversion.{converted, table_rule}
use Rattle.conversion.proofs.Conversion.{converted_infinite, converted_nan_lem, widened_is}
use Rattle.conversion.proofs.Laws.{valid32, wider, sign_moved}

top_units : magnitude 23 (infinity binary32) ≡ 2 ^ 277
unfolding magnitude
top_units = refl

pub table_lt : (a : ℕ) → a < 0x400 → table_rule a < infinity binary32
table_lt a h = ⊎_elim (λ l. l) (λ g. absurd (never g)) (lt_or_ge (table_rule a) (infinity binary32))
  where
    never : infinity binary32 ≤ table_rule a → ⊥
    never g =
        not-le_of_lt (lt_of_lt_of_le (shl_lt 10 125 h) (pow_mono {i = 135} {j = 277} (omega arith)))
        (le_trans (le_of_eq (sym top_units)) (le_trans (magnitude_mono_le 23 g) (le_of_eq (held_units 23 a 125 (omega arith)))))

module _ (x a : ℕ) (p : x < 2 * sign_bit binary16) (e : a ≡ x % 0x8000) where
  same_rest : unsigned binary16 x ≡ a
  same_rest = sym e

  moved_sign : (b : ℕ) → (x - a) * 0x1_0000 + b ≡ signed binary32 (negative binary16 x) b
  moved_sign b = ap (λ (n : ℕ). n + b) (ap (λ (n : ℕ). (x - n) * 0x1_0000) e ∙ sign_moved x p)

  finite_is : a < 0x7c00 → converted binary16 binary32 x ≡ signed binary32 (negative binary16 x) (encode 23 (units_of binary16 x * 2 ^ 125))
  finite_is l = widened_is binary16 binary32 13 125 x wider valid32 (omega (arith, same_rest))

  pub import_subnormal : a < 0x400 → (x - a) * 0x1_0000 + table_rule a ≡ converted binary16 binary32 x
  import_subnormal l =
      moved_sign (table_rule a)
      ∙ ap (λ (n : ℕ). signed binary32 (negative binary16 x) (encode 23 (n * 2 ^ 125))) (sym (ap (magnitude 10) same_rest ∙ magnitude-low 10 a l))
      ∙ sym (finite_is (omega arith))

  pub import_normal : 0x400 ≤ a → a < 0x7c00 → (x - a) * 0x1_0000 + (a * 0x2000 + 0x3800_0000) ≡ converted binary16 binary32 x
  import_normal g l =
      moved_sign (a * 0x2000 + 0x3800_0000)
      ∙ ap (signed binary32 (negative binary16 x)) (sym (ap (λ (n : ℕ). encode 23 (magnitude 10 n * 2 ^ 125)) same_rest ∙ at (normal 10 a g)))
      ∙ sym (finite_is l)
    where
      at : Normal 10 a → encode 23 (magnitude 10 a * 2 ^ 125) ≡ a * 0x2000 + 0x3800_0000
      at n =
          let k : magnitude 10 a * 2 ^ 125 ≡ n.M * 2 ^ 13 * 2 ^ (n.j + 112) =
          ap (λ (u : ℕ). u * 2 ^ 125) n.units
          ∙ mul_assoc n.M (2 ^ n.j) (2 ^ 125)
          ∙ ap (λ (u : ℕ). n.M * u) (sym (pow-add 2 n.j 125) ∙ ap (λ (u : ℕ). 2 ^ u) (omega arith) ∙ pow-add 2 13 (n.j + 112))
          ∙ sym (mul_assoc n.M (2 ^ 13) (2 ^ (n.j + 112))) in
          ap (encode 23) k ∙ encode_at 23 (n.j + 112) (n.M * 2 ^ 13) (omega (arith, n.lo)) (omega (arith, n.hi)) ∙ omega (arith, n.is)

  pub import_infinite : a ≡ 0x7c00 → (x - a) * 0x1_0000 + 0x7f80_0000 ≡ converted binary16 binary32 x
  import_infinite l = moved_sign 0x7f80_0000 ∙ sym (converted_infinite binary16 binary32 x (same_rest ∙ l))

  pub import_nan : 0x7c00 < a → bit_or ((x - a) * 0x1_0000 + (a * 0x2000 + 0x7000_0000)) 0x0040_0000 ≡ converted binary16 binary32 x
  unfolding quieted
  import_nan l =
      let m : a < 0x8000 = omega arith in
      let t : fraction_field binary16 x ≡ a - 0x7c00 = ap (λ (n : ℕ). n % 0x400) same_rest ∙ omega arith in
      let u : infinity binary32 + fraction_field binary16 x * 2 ^ 23 / 2 ^ 10 ≡ a * 0x2000 + 0x7000_0000 = ap (λ (n : ℕ). infinity binary32 + n * 2 ^ 23 / 2 ^ 10) t ∙ omega arith in
      ap (λ (n : ℕ). bit_or n 0x0040_0000) (moved_sign (a * 0x2000 + 0x7000_0000) ∙ ap (signed binary32 (negative binary16 x)) (sym u))
      ∙ sym (converted_nan_lem binary16 binary32 x (omega (arith, same_rest)))
