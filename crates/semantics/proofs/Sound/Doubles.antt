-- The range rule of a whole number as a double: of a magnitude up to 2^53 it is exact, so it keeps the order. Assumes nothing.
use mathlib.Core.Path.{◌≡◌, refl, sym, ap, ◌∙◌}
use mathlib.Core.Bool.{Bool, true, false, ◌&&◌, cond}
use mathlib.Core.Logic.{⊎_elim}
use Prim.Native.Nat.{ℕ, suc, ◌+◌, ◌-◌, ◌*◌, ◌^◌, ◌≤◌, ◌<◌}
use native.Mathlib.Nat.{eq-or-lt_of_le, eq-zero-or-pos, mul_assoc, mul-le-mul_right}
use native.Mathlib.Omega.{arith}
use lib.Dec.{leb}
use lib.Count.{count_leading_zeros}
use lib.IntN.{ℤ, pos, negsuc, nat_abs}
use lib.Pow.{pow-add}
use lib.Signed.{le_z}
use borrow.Author.Tests.{leb-true, le-leb}
use Rattle.float_format.specs.Format.{binary64, sign_bit, signed, is_nan}
use Rattle.float_format.specs.Number.{magnitude, encode, above, under, AtMost}
use Rattle.float_format.proofs.Units.{encode_at, encode-low, magnitude_at}
use Rattle.float_format.proofs.Lead.{Lead, lead, encode_normal}
use Rattle.float_format.proofs.Patterns.{unsigned_signed}
use Rattle.float_format.proofs.Order.{magnitude_zero, above-signed, under-signed}
use Rattle.semantics.specs.Value.{done, refused, double, of_whole}
use Rattle.semantics.specs.Range.{doubles, wholes, ranged, double_range}
use Rattle.semantics.specs.Range as range
use Rattle.semantics.proofs.Sound.Kept.{both, Held, Kept, Between, Inside, number_of, held_double}
use Rattle.semantics.proofs.Sound.Wholes.{over, short, one_side, le_difference}

-- ---- m times 2 ^ j has a pattern, for m up to 2^53: the leading one is put in its place

record Exact (n a : ℕ) : Type 0 where
  units : magnitude 52 a ≡ n
  small : a ≤ 1076 * 2 ^ 52

module _ (m j : ℕ) (lo : 52 ≤ j) (hi : j ≤ 1074) where
  none : m ≡ 0 → Exact (m * 2 ^ j) (encode 52 (m * 2 ^ j))
  none e =
      let z : m * 2 ^ j ≡ 0 = ap (λ (k : ℕ). k * 2 ^ j) e ∙ omega arith in
      let a : encode 52 (m * 2 ^ j) ≡ 0 = ap (encode 52) z ∙ encode-low 52 0 (omega arith) in
      record { units = ap (magnitude 52) a ∙ magnitude_zero 52 ∙ sym z; small = omega arith }

  placed : (k : ℕ) → k ≤ 52 → 2 ^ 52 ≤ m * 2 ^ k → m * 2 ^ k < 2 * 2 ^ 52 → Exact (m * 2 ^ j) (encode 52 (m * 2 ^ j))
  placed k p from below =
      let whole : 2 ^ k * 2 ^ (j - k) ≡ 2 ^ j = sym (pow-add 2 k (j - k)) ∙ ap (λ (n : ℕ). 2 ^ n) (omega arith) in
      let a : encode 52 (m * 2 ^ j) ≡ (j - k) * 2 ^ 52 + m * 2 ^ k = encode_normal 52 m j k from below (omega arith) in
      record {
        units = ap (magnitude 52) a ∙ magnitude_at 52 (j - k) (m * 2 ^ k) from (omega arith) ∙ mul_assoc m (2 ^ k) (2 ^ (j - k)) ∙ ap (λ (n : ℕ). m * n) whole;
        small = omega arith;
      }

  top : m ≡ 2 ^ 53 → Exact (m * 2 ^ j) (encode 52 (m * 2 ^ j))
  top e =
      let a : encode 52 (m * 2 ^ j) ≡ j * 2 ^ 52 + m = encode_at 52 j m (omega arith) (omega arith) in
      record { units = ap (magnitude 52) a ∙ magnitude_at 52 j m (omega arith) (omega arith); small = omega arith }

  exact : m ≤ 2 ^ 53 → Exact (m * 2 ^ j) (encode 52 (m * 2 ^ j))
  exact h = ⊎_elim top (λ l. ⊎_elim none (λ p. led (lead 52 m (count_leading_zeros 64 m) (omega arith) p (omega arith) refl)) (eq-zero-or-pos m)) (eq-or-lt_of_le h)
    where
      led : Lead 52 m (count_leading_zeros 64 m) → Exact (m * 2 ^ j) (encode 52 (m * 2 ^ j))
      led t = placed (count_leading_zeros 64 m - (63 - 52)) t.short t.from t.below

-- ---- a whole number's double

record Double (z : ℤ) (u : ℕ) : Type 0 where
  number : is_nan binary64 (of_whole z) ≡ false
  above_is : above binary64 (of_whole z) ≡ over z * u
  under_is : under binary64 (of_whole z) ≡ short z * u

-- by its sign s, magnitude m and pattern a, a one being u units
signed_double : (s : Bool) (m u a : ℕ) → Exact (m * u) a
    → (is_nan binary64 (signed binary64 s a) ≡ false) × (above binary64 (signed binary64 s a) ≡ cond s 0 (m * u)) × (under binary64 (signed binary64 s a) ≡ cond s (m * u) 0)
signed_double s m u a t =
    let l : a < sign_bit binary64 = omega (arith, t.small) in (
      number_of (signed binary64 s a) (omega (arith, t.small, unsigned_signed binary64 a l s)),
      above-signed binary64 s a l ∙ ap (λ (n : ℕ). cond s 0 n) t.units,
      under-signed binary64 s a l ∙ ap (λ (n : ℕ). cond s n 0) t.units,
    )

nothing : (u : ℕ) → 0 ≡ 0 * u
nothing u = omega arith

double_of : (z : ℤ) → nat_abs z ≤ 2 ^ 53 → Double z (2 ^ 1074)
double_of (pos n) h =
    let w : (is_nan binary64 (of_whole (pos n)) ≡ false) × (above binary64 (of_whole (pos n)) ≡ n * 2 ^ 1074) × (under binary64 (of_whole (pos n)) ≡ 0) =
    signed_double false n (2 ^ 1074) (encode 52 (n * 2 ^ 1074)) (exact n 1074 (omega arith) (omega arith) h) in
    record { number = w.0; above_is = w.1; under_is = w.2 ∙ nothing (2 ^ 1074) }
double_of (negsuc n) h =
    let w : (is_nan binary64 (of_whole (negsuc n)) ≡ false) × (above binary64 (of_whole (negsuc n)) ≡ 0) × (under binary64 (of_whole (negsuc n)) ≡ suc n * 2 ^ 1074) =
    signed_double true (suc n) (2 ^ 1074) (encode 52 (suc n * 2 ^ 1074)) (exact (suc n) 1074 (omega arith) (omega arith) h) in
    record { number = w.0; above_is = w.1 ∙ nothing (2 ^ 1074); under_is = w.2 }

-- a whole number's double is a number
pub whole_number : (z : ℤ) → nat_abs z ≤ 2 ^ 53 → is_nan binary64 (of_whole z) ≡ false
whole_number z h = (double_of z h).number

-- as many ones, so as many units
ones_mono : (a b c d u A B C D : ℕ) → A ≡ a * u → B ≡ b * u → C ≡ c * u → D ≡ d * u → a + b ≤ c + d → A + B ≤ C + D
ones_mono a b c d u A B C D eA eB eC eD h = omega (arith, mul-le-mul_right u h)

double_mono : (y z : ℤ) (u : ℕ) → Double y u → Double z u → le_z y z ≡ true → AtMost binary64 (of_whole y) (of_whole z)
double_mono y z u p q e =
    ones_mono (over y) (short z) (over z) (short y) u _ _ _ _ p.above_is q.under_is q.above_is p.under_is (le_difference y z e)

-- ---- 32

abs_sides : (z : ℤ) → nat_abs z ≡ over z + short z
abs_sides (pos n) = omega arith
abs_sides (negsuc n) = omega arith

abs_inside : (l h z : ℤ) → Inside l h z → nat_abs l ≤ 2 ^ 53 → nat_abs h ≤ 2 ^ 53 → nat_abs z ≤ 2 ^ 53
abs_inside l h z i p q =
    omega (arith, abs_sides l, abs_sides h, abs_sides z, one_side z, one_side l, one_side h, le_difference l z i.from, le_difference z h i.upto)

pub double_between : {l h z : ℤ} → Inside l h z → nat_abs l ≤ 2 ^ 53 → nat_abs h ≤ 2 ^ 53 → Between (of_whole l) (of_whole h) (of_whole z)
double_between {l} {h} {z} i p q =
    let dl : Double l (2 ^ 1074) = double_of l p in
    let dh : Double h (2 ^ 1074) = double_of h q in
    let dz : Double z (2 ^ 1074) = double_of z (abs_inside l h z i p q) in
    record {
      low-number = dl.number;
      high-number = dh.number;
      number = dz.number;
      from = double_mono l z (2 ^ 1074) dl dz i.from;
      upto = double_mono z h (2 ^ 1074) dz dh i.upto;
    }

pub double_kept : {l h z : ℤ} → Inside l h z
    → Kept (double_range (wholes l h)) (cond (leb (nat_abs z) (2 ^ 53)) (done (double (of_whole z))) (refused 22))
double_kept {l} {h} {z} i = pick (leb (nat_abs l) (2 ^ 53) && leb (nat_abs h) (2 ^ 53)) refl
  where
    fitting : (t : Bool) → t ≡ true → Between (of_whole l) (of_whole h) (of_whole z)
        → Held (doubles (of_whole l) (of_whole h)) (cond t (done (double (of_whole z))) (refused 22))
    fitting t e b = rw e (held_double b)

    pick : (t : Bool) → (leb (nat_abs l) (2 ^ 53) && leb (nat_abs h) (2 ^ 53)) ≡ t
        → Kept (cond t (ranged (doubles (of_whole l) (of_whole h))) (range.refused 22)) (cond (leb (nat_abs z) (2 ^ 53)) (done (double (of_whole z))) (refused 22))
    pick true e =
        let w : (leb (nat_abs l) (2 ^ 53) ≡ true) × (leb (nat_abs h) (2 ^ 53) ≡ true) = both (leb (nat_abs l) (2 ^ 53)) (leb (nat_abs h) (2 ^ 53)) e in
        let p : nat_abs l ≤ 2 ^ 53 = leb-true (nat_abs l) (2 ^ 53) w.0 in
        let q : nat_abs h ≤ 2 ^ 53 = leb-true (nat_abs h) (2 ^ 53) w.1 in
        fitting (leb (nat_abs z) (2 ^ 53)) (le-leb (nat_abs z) (2 ^ 53) (abs_inside l h z i p q)) (double_between i p q)
    pick false e = tt
