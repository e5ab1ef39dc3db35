-- Powers of two, n of 64 bits: the up part and the down part of n, the word that holds it, and a difference of two counts. Assumes
-- nothing.
use Rattle.std.proofs.Common.{◌≡◌, ℕ, zero, suc, ◌+◌, ◌-◌, ◌*◌, ◌%◌, ◌^◌, ◌<◌, ◌≤◌, Bool, true, false, cond, ◌⊎◌, ℤ, pos, negsuc, ◌-ℤ◌, ◌≤ℤ◌, refl, ap, inl, inr, ⊎_elim, mod-eq_of_lt, arith, leb→le, pow_pos, pow_mono, w64, SFits, to_z, of_z, ltb-true, le-ltb, lt-ltb}
use lib.IntN.{sub_ℕ}
use lib.Ieee.{up, down}
use lib.Signed.{lt_z}
use mir.ValLaws.{to_z_pos}
use Rattle.float_format.proofs.Units.{lt_or_ge}
use Rattle.scaling.specs.Position.{raise, lower}
use Rattle.float_format.proofs.Powers.{powers}

-- ---- a power of two as its up part and its down part

pub up_is : (n : ℤ) → up n ≡ 2 ^ raise n
up_is (pos k) = refl
up_is (negsuc k) = refl

pub down_is : (n : ℤ) → down n ≡ 2 ^ lower n
down_is (pos k) = refl
down_is (negsuc k) = refl

pub down_pos : (n : ℤ) → 0 < down n
down_pos n = rw (down_is n) (pow_pos (lower n))

-- the parts compare as the numbers do
parts_order : (n m : ℤ) → n ≤ℤ m → raise n + lower m ≤ raise m + lower n
parts_order (pos a) (pos b) h = omega (arith, leb→le a b h.le)
parts_order (pos a) (negsuc b) h = absurd h.le
parts_order (negsuc a) (pos b) h = omega arith
parts_order (negsuc a) (negsuc b) h = omega (arith, leb→le b a h.le)

pub powers_order : (n m : ℤ) → n ≤ℤ m → up n * down m ≤ up m * down n
powers_order n m h =
    rw (up_is n, down_is m, up_is m, down_is n, powers (raise n) (lower m) (raise n + lower m) refl, powers (raise m) (lower n) (raise m + lower n) refl)
    (pow_mono (parts_order n m h))

-- 2 ^ (a - b)
sub_power : (a b : ℕ) → up (sub_ℕ a b) * 2 ^ b ≡ 2 ^ a * down (sub_ℕ a b)
sub_power a b = ⊎_elim less more (lt_or_ge a b)
  where
    less : a < b → up (sub_ℕ a b) * 2 ^ b ≡ 2 ^ a * down (sub_ℕ a b)
    less l =
        let e : sub_ℕ a b ≡ negsuc (b - suc a) = ap (λ (t : Bool). cond t (negsuc (b - suc a)) (pos (a - b))) (lt-ltb a b l) in
        rw e (omega (arith, powers a (suc (b - suc a)) b (omega arith)))

    more : b ≤ a → up (sub_ℕ a b) * 2 ^ b ≡ 2 ^ a * down (sub_ℕ a b)
    more g =
        let e : sub_ℕ a b ≡ pos (a - b) = ap (λ (t : Bool). cond t (negsuc (b - suc a)) (pos (a - b))) (le-ltb a b g) in
        rw e (omega (arith, powers (a - b) b a (omega arith)))

pub difference_power : (a b : ℕ) → up (pos a -ℤ pos b) * 2 ^ b ≡ 2 ^ a * down (pos a -ℤ pos b)
difference_power a zero = ap (λ (y : ℕ). 2 ^ y * 1) (omega arith)
difference_power a (suc b) = sub_power a (suc b)

-- ---- the word that holds n

pub record Bits (n : ℤ) (w : ℕ) : Type 0 where
  pub raise_lt : raise n < 2 ^ 63
  pub lower_le : lower n ≤ 2 ^ 63
  pub below : w < 2 ^ 64
  pub is : (w + lower n ≡ raise n) ⊎ (w + lower n ≡ 2 ^ 64 + raise n)

pub bits : (n : ℤ) → SFits w64 n → Bits n (of_z w64 n)
bits (pos k) h =
    let l : k < 2 ^ 63 = h.sfits in
    record { raise_lt = l; lower_le = omega arith; below = omega arith; is = inl (omega arith) }
bits (negsuc k) h =
    let l : k < 2 ^ 63 = h.sfits in
    record { raise_lt = omega arith; lower_le = omega arith; below = omega arith; is = inr (omega arith) }

-- the sign of n, as the code asks for it
pub below_zero : (n : ℤ) → lt_z n (pos 0) ≡ true → (raise n ≡ 0) × (0 < lower n)
below_zero (pos k) h = absurd (omega (arith, ltb-true k 0 h))
below_zero (negsuc k) h = (refl, omega arith)

pub from_zero : (n : ℤ) → lt_z n (pos 0) ≡ false → lower n ≡ 0
from_zero (pos k) h = refl
from_zero (negsuc k) h = let z : ◌≡◌ {A = ℕ} 0 1 = cc in absurd (omega arith)

-- the lowest 64 bits of a number of 65
pub wrapped : (a : ℕ) → a < 2 ^ 65 → (a % 2 ^ 64 ≡ a) ⊎ (a ≡ 2 ^ 64 + a % 2 ^ 64)
wrapped a h = ⊎_elim (λ l. inl (mod-eq_of_lt l)) (λ g. inr (omega arith)) (lt_or_ge a (2 ^ 64))

-- ---- a difference

sub_fits : (a b : ℕ) → a < 2 ^ 63 → b ≤ 2 ^ 63 → SFits w64 (sub_ℕ a b)
sub_fits a b h g = ⊎_elim less more (lt_or_ge a b)
  where
    less : a < b → SFits w64 (sub_ℕ a b)
    less l = rw (lt-ltb a b l) record { sfits = omega arith }

    more : b ≤ a → SFits w64 (sub_ℕ a b)
    more l = rw (le-ltb a b l) record { sfits = omega arith }

pub difference_fits : (a b : ℕ) → a < 2 ^ 63 → b < 2 ^ 63 → SFits w64 (pos a -ℤ pos b)
difference_fits a zero h g = record { sfits = omega arith }
difference_fits a (suc b) h g = sub_fits a (suc b) h (omega arith)

-- as the code takes it
pub difference_is : (a b : ℕ) → a < 2 ^ 63 → b < 2 ^ 63 → to_z w64 a -ℤ to_z w64 b ≡ pos a -ℤ pos b
difference_is a b h g = rw (to_z_pos w64 a h, to_z_pos w64 b g)
