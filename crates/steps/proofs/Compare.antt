-- Two tests of order that the reader makes on whole numbers, and what they decide: the order of doubles and of signed numbers. Assumes
-- nothing.
use mathlib.Core.Path.{◌≡◌, refl}
use mathlib.Core.Bool.{Bool, true, false, not, cond}
use Prim.Native.Nat.{ℕ, suc, ◌+◌, ◌-◌, ◌^◌, ◌≤◌, ◌<◌}
use native.Mathlib.Omega.{arith}
use lib.Dec.{ltb, leb}
use lib.IntN.{pos, negsuc}
use lib.Signed.{le_z}
use mir.Val.{sel}
use borrow.Author.Tests.{lt-ltb, le-ltb, ltb-true, ltb-false, leb-true, leb-false}
use Rattle.float_format.specs.Format.{binary64}
use Rattle.float_format.specs.Number.{rank, above, under}
use Rattle.float_format.proofs.Order.{rank_order}
use Rattle.recipe.specs.Text.{double_above, whole_above}
use Rattle.steps.specs.Order.{biased}

-- ---- doubles, by rank

same_test : (a b c d : ℕ) → (a ≤ b → c ≤ d) → (c ≤ d → a ≤ b) → (x y : Bool) → ltb b a ≡ x → ltb d c ≡ y → x ≡ y
same_test a b c d f g true true e h = refl
same_test a b c d f g false false e h = refl
same_test a b c d f g true false e h = let k : a ≤ b = g (ltb-false d c h) in absurd (omega (arith, ltb-true b a e))
same_test a b c d f g false true e h = let k : c ≤ d = f (ltb-false b a e) in absurd (omega (arith, ltb-true d c h))

pub rank_test : (p q : ℕ) → ltb (rank binary64 q) (rank binary64 p) ≡ double_above p q
rank_test p q =
    same_test
    (rank binary64 p)
    (rank binary64 q)
    (above binary64 p + under binary64 q)
    (above binary64 q + under binary64 p)
    (rank_order binary64 p q).0
    (rank_order binary64 p q).1
    (ltb (rank binary64 q) (rank binary64 p))
    (double_above p q)
    refl
    refl

-- ---- whole numbers, by their distance from the smallest

opposite_test : (a b c d : ℕ) → (a < b → d < c) → (d < c → a < b) → (x y : Bool) → ltb a b ≡ x → leb c d ≡ y → x ≡ not y
opposite_test a b c d f g true false e h = refl
opposite_test a b c d f g false true e h = refl
opposite_test a b c d f g true true e h = let k : d < c = f (ltb-true a b e) in absurd (omega (arith, leb-true c d h))
opposite_test a b c d f g false false e h = let k : a < b = g (leb-false c d h) in absurd (omega (arith, ltb-false a b e))

opposite : (a b c d : ℕ) → (a < b → d < c) → (d < c → a < b) → ltb a b ≡ not (leb c d)
opposite a b c d f g = opposite_test a b c d f g (ltb a b) (leb c d) refl refl

by_signs : (p q : ℕ) → p < 2 ^ 64 → q < 2 ^ 64 → (s t : Bool) → ltb p (2 ^ 63) ≡ s → ltb q (2 ^ 63) ≡ t
    → ltb (cond t (q + 2 ^ 63) (q - 2 ^ 63)) (cond s (p + 2 ^ 63) (p - 2 ^ 63))
    ≡ not (le_z (sel s (pos p) (negsuc (2 ^ 64 - suc p))) (sel t (pos q) (negsuc (2 ^ 64 - suc q))))
by_signs p q h k true true e f = opposite (q + 2 ^ 63) (p + 2 ^ 63) p q (λ l. omega arith) (λ l. omega arith)
by_signs p q h k true false e f = lt-ltb (q - 2 ^ 63) (p + 2 ^ 63) (omega (arith, ltb-false q (2 ^ 63) f))
by_signs p q h k false true e f = le-ltb (q + 2 ^ 63) (p - 2 ^ 63) (omega (arith, ltb-true q (2 ^ 63) f))
by_signs p q h k false false e f =
    let m : 2 ^ 63 ≤ p = ltb-false p (2 ^ 63) e in
    let n : 2 ^ 63 ≤ q = ltb-false q (2 ^ 63) f in
    opposite (q - 2 ^ 63) (p - 2 ^ 63) (2 ^ 64 - suc q) (2 ^ 64 - suc p) (λ l. omega arith) (λ l. omega arith)

pub biased_test : (p q : ℕ) → p < 2 ^ 64 → q < 2 ^ 64 → ltb (biased q) (biased p) ≡ whole_above p q
biased_test p q h k = by_signs p q h k (ltb p (2 ^ 63)) (ltb q (2 ^ 63)) refl refl
