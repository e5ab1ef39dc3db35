-- Range rules of whole numbers: sums, differences, and whole numbers as doubles. A whole number is taken as the difference of two
-- naturals, one of them 0, so that each law is one of linear arithmetic. Assumes nothing.
use mathlib.Core.Path.{◌≡◌, refl, sym}
use mathlib.Core.Bool.{Bool, true, false, ◌&&◌, cond}
use Prim.Native.Nat.{ℕ, zero, suc, ◌+◌, ◌-◌, ◌^◌, ◌≤◌, ◌<◌}
use native.Mathlib.Omega.{arith}
use lib.Dec.{ltb}
use lib.IntN.{ℤ, pos, negsuc, neg_ℤ, ◌+ℤ◌, ◌-ℤ◌}
use lib.Signed.{le_z}
use borrow.Author.Tests.{le-leb, leb-true, lt-ltb, ltb-true, ltb-false}
use Rattle.semantics.specs.Value.{fits_word, done, refused, whole}
use Rattle.semantics.specs.Range.{wholes, ranged, whole_range}
use Rattle.semantics.specs.Range as range
use Rattle.semantics.proofs.Sound.Kept.{never, both, Held, Kept, Inside, held_whole}

-- ---- a whole number as a difference

abbrev pub over : ℤ → ℕ
over (pos n) = n
over (negsuc n) = 0

abbrev pub short : ℤ → ℕ
short (pos n) = 0
short (negsuc n) = suc n

pub le_difference : (a b : ℤ) → le_z a b ≡ true → over a + short b ≤ over b + short a
le_difference (pos a) (pos b) e = omega (arith, leb-true a b e)
le_difference (pos a) (negsuc b) e = never (sym e)
le_difference (negsuc a) (pos b) e = omega arith
le_difference (negsuc a) (negsuc b) e = omega (arith, leb-true b a e)

pub difference_le : (a b : ℤ) → over a + short b ≤ over b + short a → le_z a b ≡ true
difference_le (pos a) (pos b) h = le-leb a b (omega arith)
difference_le (pos a) (negsuc b) h = absurd (omega arith)
difference_le (negsuc a) (pos b) h = refl
difference_le (negsuc a) (negsuc b) h = le-leb b a (omega arith)

-- ---- sums

sub_sides : (a b : ℕ) (t : Bool) → ltb a (suc b) ≡ t
    → over (cond t (negsuc (suc b - suc a)) (pos (a - suc b))) + suc b ≡ short (cond t (negsuc (suc b - suc a)) (pos (a - suc b))) + a
sub_sides a b true e = omega (arith, ltb-true a (suc b) e)
sub_sides a b false e = omega (arith, ltb-false a (suc b) e)

pub sum_sides : (a b : ℤ) → over (a +ℤ b) + (short a + short b) ≡ short (a +ℤ b) + (over a + over b)
sum_sides (pos a) (pos b) = omega arith
sum_sides (pos a) (negsuc b) = omega (arith, sub_sides a b (ltb a (suc b)) refl)
sum_sides (negsuc a) (pos b) = omega (arith, sub_sides b a (ltb b (suc a)) refl)
sum_sides (negsuc a) (negsuc b) = omega arith

pub minus_sides : (a : ℤ) → (over (neg_ℤ a) ≡ short a) × (short (neg_ℤ a) ≡ over a)
minus_sides (pos zero) = (refl, refl)
minus_sides (pos (suc n)) = (refl, refl)
minus_sides (negsuc n) = (refl, refl)

pub sum_mono : (a b c d : ℤ) → le_z a b ≡ true → le_z c d ≡ true → le_z (a +ℤ c) (b +ℤ d) ≡ true
sum_mono a b c d h k =
    difference_le (a +ℤ c) (b +ℤ d) (omega (arith, le_difference a b h, le_difference c d k, sum_sides a c, sum_sides b d))

pub minus_mono : (a b : ℤ) → le_z a b ≡ true → le_z (neg_ℤ b) (neg_ℤ a) ≡ true
minus_mono a b h = difference_le (neg_ℤ b) (neg_ℤ a) (omega (arith, le_difference a b h, minus_sides a, minus_sides b))

-- ---- 30, 31

module _ {l h z l' h' z' : ℤ} (i : Inside l h z) (i' : Inside l' h' z') where
  pub sum : Inside (l +ℤ l') (h +ℤ h') (z +ℤ z')
  sum = record { from = sum_mono l z l' z' i.from i'.from; upto = sum_mono z h z' h' i.upto i'.upto }

  pub difference : Inside (l -ℤ h') (h -ℤ l') (z -ℤ z')
  difference =
      record {
        from = sum_mono l z (neg_ℤ h') (neg_ℤ z') i.from (minus_mono z' h' i'.upto);
        upto = sum_mono z h (neg_ℤ z') (neg_ℤ l') i.upto (minus_mono l' z' i'.from);
      }

-- what has 64 bits, by its sides
fits_sides : (z : ℤ) → fits_word z ≡ true → (over z < 2 ^ 63) × (short z ≤ 2 ^ 63)
fits_sides (pos n) e = let h : n < 2 ^ 63 = ltb-true n (2 ^ 63) e in omega arith
fits_sides (negsuc n) e = let h : n < 2 ^ 63 = ltb-true n (2 ^ 63) e in omega arith

sides_fit : (z : ℤ) → over z < 2 ^ 63 → short z ≤ 2 ^ 63 → fits_word z ≡ true
sides_fit (pos n) p q = lt-ltb n (2 ^ 63) p
sides_fit (negsuc n) p q = lt-ltb n (2 ^ 63) (omega arith)

pub one_side : (z : ℤ) → (over z ≡ over z - short z) × (short z ≡ short z - over z)
one_side (pos n) = omega arith
one_side (negsuc n) = omega arith

-- between numbers of 64 bits lies none of more
pub fits_inside : (l h z : ℤ) → Inside l h z → fits_word l ≡ true → fits_word h ≡ true → fits_word z ≡ true
fits_inside l h z i p q =
    let a : over l + short z ≤ over z + short l = le_difference l z i.from in
    let b : over z + short h ≤ over h + short z = le_difference z h i.upto in
    sides_fit z (omega (arith, fits_sides h q, one_side z)) (omega (arith, fits_sides l p, one_side z))

pub whole_kept : {l h z : ℤ} → Inside l h z → Kept (whole_range l h) (cond (fits_word z) (done (whole z)) (refused 21))
whole_kept {l} {h} {z} i = pick (fits_word l && fits_word h) refl
  where
    fitting : (t : Bool) → t ≡ true → Held (wholes l h) (cond t (done (whole z)) (refused 21))
    fitting t e = rw e (held_whole i)

    pick : (t : Bool) → (fits_word l && fits_word h) ≡ t → Kept (cond t (ranged (wholes l h)) (range.refused 21)) (cond (fits_word z) (done (whole z)) (refused 21))
    pick true e =
        let p : (fits_word l ≡ true) × (fits_word h ≡ true) = both (fits_word l) (fits_word h) e in
        fitting (fits_word z) (fits_inside l h z i p.0 p.1)
    pick false e = tt
