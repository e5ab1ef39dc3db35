-- The step rules and the range rules by an opcode: at one that the table has, and at any other. Assumes nothing.
use mathlib.Core.Path.{◌≡◌, refl}
use mathlib.Core.Bool.{Bool, true, false}
use Prim.Native.Nat.{ℕ}
use lib.Dec.{eqb}
use lib.IntN.{ℤ, pos}
use borrow.Author.Tests.{ne_eqb, eqb-true, eqb-false}
use Rattle.recipe.specs.declared.Step.{Step}
use Rattle.semantics.specs.Range.{Range, wholes, ranged, range_rule, step_range}
use Rattle.semantics.specs.Value.{Datum, as_double, as_whole, whole, done, rule_of, step_value}

-- in an arm, the opcode is the arm's number, and the operands are what the code took from a and b
pub ruled : (t : Step) (w : ℕ) (a b : Datum) {x y : ℕ} {m n : ℤ} {k : ℕ} → t.opcode ≡ k → x ≡ as_double a → y ≡ as_double b → m ≡ as_whole a → n ≡ as_whole b
    → rule_of k t.p w x y m n ≡ step_value t w a b
unfolding step_value
ruled t w a b e p q r s = rw (e, p, q, r, s)

-- what the last arm of a match knows
abbrev pub Unlisted : ℕ → Type 0
Unlisted n =
    (((((((((((((((((((((((Unit {0} × (n ≡ 1 → ⊥)) × (n ≡ 2 → ⊥)) × (n ≡ 3 → ⊥)) × (n ≡ 4 → ⊥)) × (n ≡ 16 → ⊥)) × (n ≡ 17 → ⊥)) × (n ≡ 18 → ⊥)) × (n ≡ 19 → ⊥)) × (n ≡ 20 → ⊥)) × (n ≡ 21 → ⊥)) × (n ≡ 22 → ⊥)) × (n ≡ 23 → ⊥)) × (n ≡ 24 → ⊥)) × (n ≡ 32 → ⊥)) × (n ≡ 33 → ⊥)) × (n ≡ 34 → ⊥)) × (n ≡ 35 → ⊥)) × (n ≡ 36 → ⊥)) × (n ≡ 48 → ⊥)) × (n ≡ 49 → ⊥)) × (n ≡ 50 → ⊥)) × (n ≡ 64 → ⊥)) × (n ≡ 65 → ⊥)) × (n ≡ 66 → ⊥)

-- the same by the opcodes, so that only this file counts parts
pub record Absent (k : ℕ) : Type 0 where
  pub no_01 : eqb k 0x01 ≡ false
  pub no_02 : eqb k 0x02 ≡ false
  pub no_03 : eqb k 0x03 ≡ false
  pub no_04 : eqb k 0x04 ≡ false
  pub no_10 : eqb k 0x10 ≡ false
  pub no_11 : eqb k 0x11 ≡ false
  pub no_12 : eqb k 0x12 ≡ false
  pub no_13 : eqb k 0x13 ≡ false
  pub no_14 : eqb k 0x14 ≡ false
  pub no_15 : eqb k 0x15 ≡ false
  pub no_16 : eqb k 0x16 ≡ false
  pub no_17 : eqb k 0x17 ≡ false
  pub no_18 : eqb k 0x18 ≡ false
  pub no_20 : eqb k 0x20 ≡ false
  pub no_21 : eqb k 0x21 ≡ false
  pub no_22 : eqb k 0x22 ≡ false
  pub no_23 : eqb k 0x23 ≡ false
  pub no_24 : eqb k 0x24 ≡ false
  pub no_30 : eqb k 0x30 ≡ false
  pub no_31 : eqb k 0x31 ≡ false
  pub no_32 : eqb k 0x32 ≡ false
  pub no_40 : eqb k 0x40 ≡ false
  pub no_41 : eqb k 0x41 ≡ false
  pub no_42 : eqb k 0x42 ≡ false

pub absent : (k : ℕ) → Unlisted k → Absent k
absent k h =
    record {
      no_01 = ne_eqb k 0x01 h.0.0.0.0.0.0.0.0.0.0.0.0.0.0.0.0.0.0.0.0.0.0.0.1;
      no_02 = ne_eqb k 0x02 h.0.0.0.0.0.0.0.0.0.0.0.0.0.0.0.0.0.0.0.0.0.0.1;
      no_03 = ne_eqb k 0x03 h.0.0.0.0.0.0.0.0.0.0.0.0.0.0.0.0.0.0.0.0.0.1;
      no_04 = ne_eqb k 0x04 h.0.0.0.0.0.0.0.0.0.0.0.0.0.0.0.0.0.0.0.0.1;
      no_10 = ne_eqb k 0x10 h.0.0.0.0.0.0.0.0.0.0.0.0.0.0.0.0.0.0.0.1;
      no_11 = ne_eqb k 0x11 h.0.0.0.0.0.0.0.0.0.0.0.0.0.0.0.0.0.0.1;
      no_12 = ne_eqb k 0x12 h.0.0.0.0.0.0.0.0.0.0.0.0.0.0.0.0.0.1;
      no_13 = ne_eqb k 0x13 h.0.0.0.0.0.0.0.0.0.0.0.0.0.0.0.0.1;
      no_14 = ne_eqb k 0x14 h.0.0.0.0.0.0.0.0.0.0.0.0.0.0.0.1;
      no_15 = ne_eqb k 0x15 h.0.0.0.0.0.0.0.0.0.0.0.0.0.0.1;
      no_16 = ne_eqb k 0x16 h.0.0.0.0.0.0.0.0.0.0.0.0.0.1;
      no_17 = ne_eqb k 0x17 h.0.0.0.0.0.0.0.0.0.0.0.0.1;
      no_18 = ne_eqb k 0x18 h.0.0.0.0.0.0.0.0.0.0.0.1;
      no_20 = ne_eqb k 0x20 h.0.0.0.0.0.0.0.0.0.0.1;
      no_21 = ne_eqb k 0x21 h.0.0.0.0.0.0.0.0.0.1;
      no_22 = ne_eqb k 0x22 h.0.0.0.0.0.0.0.0.1;
      no_23 = ne_eqb k 0x23 h.0.0.0.0.0.0.0.1;
      no_24 = ne_eqb k 0x24 h.0.0.0.0.0.0.1;
      no_30 = ne_eqb k 0x30 h.0.0.0.0.0.1;
      no_31 = ne_eqb k 0x31 h.0.0.0.0.1;
      no_32 = ne_eqb k 0x32 h.0.0.0.1;
      no_40 = ne_eqb k 0x40 h.0.0.1;
      no_41 = ne_eqb k 0x41 h.0.1;
      no_42 = ne_eqb k 0x42 h.1;
    }

-- ---- by the opcode

-- an opcode c, or another
at : (P : ℕ → Type 0) (k c : ℕ) → P c → ((k ≡ c → ⊥) → P k) → P k
at P k c same other = pick (eqb k c) refl
  where
    pick : (t : Bool) → eqb k c ≡ t → P k
    pick true e = rw (eqb-true k c e) same
    pick false e = other (eqb-false k c e)

-- what holds of each opcode of the table, and of all that it has not, holds of every opcode
pub by_opcode : (P : ℕ → Type 0)
    → P 0x01 → P 0x02 → P 0x03 → P 0x04
    → P 0x10 → P 0x11 → P 0x12 → P 0x13 → P 0x14 → P 0x15 → P 0x16 → P 0x17 → P 0x18
    → P 0x20 → P 0x21 → P 0x22 → P 0x23 → P 0x24
    → P 0x30 → P 0x31 → P 0x32
    → P 0x40 → P 0x41 → P 0x42
    → ((k : ℕ) → Unlisted k → P k) → (k : ℕ) → P k
by_opcode P p01 p02 p03 p04 p10 p11 p12 p13 p14 p15 p16 p17 p18 p20 p21 p22 p23 p24 p30 p31 p32 p40 p41 p42 other k =
    at P k 0x01 p01 (λ n01.
    at P k 0x02 p02 (λ n02.
    at P k 0x03 p03 (λ n03.
    at P k 0x04 p04 (λ n04.
    at P k 0x10 p10 (λ n10.
    at P k 0x11 p11 (λ n11.
    at P k 0x12 p12 (λ n12.
    at P k 0x13 p13 (λ n13.
    at P k 0x14 p14 (λ n14.
    at P k 0x15 p15 (λ n15.
    at P k 0x16 p16 (λ n16.
    at P k 0x17 p17 (λ n17.
    at P k 0x18 p18 (λ n18.
    at P k 0x20 p20 (λ n20.
    at P k 0x21 p21 (λ n21.
    at P k 0x22 p22 (λ n22.
    at P k 0x23 p23 (λ n23.
    at P k 0x24 p24 (λ n24.
    at P k 0x30 p30 (λ n30.
    at P k 0x31 p31 (λ n31.
    at P k 0x32 p32 (λ n32.
    at P k 0x40 p40 (λ n40.
    at P k 0x41 p41 (λ n41.
    at P k 0x42 p42 (λ n42.
    other k ((((((((((((((((((((((((tt, n01), n02), n03), n04), n10), n11), n12), n13), n14), n15), n16), n17), n18), n20), n21), n22), n23), n24), n30), n31), n32), n40), n41), n42)))))))))))))))))))))))))

pub unlisted : (k p w x y : ℕ) (m n : ℤ) → Unlisted k → done (whole (pos 0)) ≡ rule_of k p w x y m n
unfolding rule_of
unlisted k p w x y m n h =
    let a = absent k h in
    simp (
      a.no_01,
      a.no_02,
      a.no_03,
      a.no_04,
      a.no_10,
      a.no_11,
      a.no_12,
      a.no_13,
      a.no_14,
      a.no_15,
      a.no_16,
      a.no_17,
      a.no_18,
      a.no_20,
      a.no_21,
      a.no_22,
      a.no_23,
      a.no_24,
      a.no_30,
      a.no_31,
      a.no_32,
      a.no_40,
      a.no_41,
      a.no_42,
    )

-- ---- ranges

pub range_unlisted : (k p q : ℕ) (a b : Range) → Unlisted k → ranged (wholes (pos 0) (pos 0)) ≡ range_rule k p q a b
unfolding range_rule
range_unlisted k p q a b h =
    let g = absent k h in
    simp (
      g.no_01,
      g.no_02,
      g.no_03,
      g.no_04,
      g.no_10,
      g.no_11,
      g.no_12,
      g.no_13,
      g.no_14,
      g.no_15,
      g.no_16,
      g.no_17,
      g.no_18,
      g.no_20,
      g.no_21,
      g.no_22,
      g.no_23,
      g.no_24,
      g.no_30,
      g.no_31,
      g.no_32,
      g.no_40,
      g.no_41,
      g.no_42,
    )

pub unbounded : (t : Step) (a b : Range) → Unlisted t.opcode → ranged (wholes (pos 0) (pos 0)) ≡ step_range t a b
unfolding step_range
unbounded t a b h = range_unlisted t.opcode t.p t.q a b h
