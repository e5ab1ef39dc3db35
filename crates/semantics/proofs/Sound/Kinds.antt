-- A step's range has the step's kind, and so has every value that lies in it. Assumes nothing.
use mathlib.Core.Path.{◌≡◌, refl, sym, ap, ◌∙◌}
use mathlib.Core.Bool.{Bool, true, false, not, ◌&&◌, ◌||◌, cond}
use mathlib.Core.Logic.{⊎_elim}
use Prim.Native.Nat.{ℕ, ◌^◌, ◌<◌, ◌≤◌}
use native.Mathlib.Omega.{arith}
use lib.Dec.{eqb, leb}
use lib.IntN.{ℤ, nat_abs, ◌+ℤ◌, ◌-ℤ◌}
use borrow.Author.Tests.{eqb-false}
use Rattle.float_format.specs.Format.{binary64}
use Rattle.float_format.specs.Rounding.{lround_refusal}
use Rattle.float_format.proofs.Units.{lt_or_ge}
use Rattle.scaling.specs.Scaling.{ldexp_refusal}
use Rattle.recipe.specs.declared.Kind.{Kind}
use Rattle.recipe.specs.declared.Kind.TheVariants.{Double, Whole}
use Rattle.recipe.specs.declared.Row.TheVariants.{Unknown}
use Rattle.recipe.specs.declared.Step.{Step}
use Rattle.recipe.specs.Table.{row_of, answer_kind}
use Rattle.recipe.specs.Text.{is_unknown}
use Rattle.recipe.specs.Text as text
use Rattle.recipe.proofs.Rows.{before_10, before_20, before_30, before_40, after_42}
use Rattle.semantics.specs.Value.{Datum, double, whole, fits_word}
use Rattle.semantics.specs.Value as value
use Rattle.semantics.specs.Range.{Range, doubles, wholes, low, high, least, most, is_negative, is_positive, absolute_range, lround_range, holds_zero, infinite_end, fmod_range, low_power, high_power, ldexp_range, remainder_range, whole_range, double_range, sum_low, sum_high, difference_low, difference_high, product_low, product_high, worked_range, infinite_sum, infinite_difference, infinite_product, Ranged, ranged, range_rule, step_range}
use Rattle.semantics.specs.Range as range
use Rattle.semantics.specs.Promise.{Lies}
use Rattle.semantics.proofs.Rules.{Unlisted, Absent, absent, by_opcode}
use Rattle.semantics.proofs.Sound.Kept.{never}

-- a value that lies in a range has its kind
pub lies_kind : (r : Range) (v : Datum) → Lies r v → value.kind_of v ≡ range.kind_of r
unfolding Lies
lies_kind (doubles l h) (double x) g = refl
lies_kind (doubles l h) (whole z) g = absurd g
lies_kind (wholes l h) (double x) g = absurd g
lies_kind (wholes l h) (whole z) g = refl

-- ---- what the range rules give

abbrev pub HasKind : Kind → Ranged → Type 0
HasKind k (ranged r) = range.kind_of r ≡ k
HasKind k (range.refused number) = Unit {0}

either : (k : Kind) (b : Bool) (x y : Ranged) → HasKind k x → HasKind k y → HasKind k (cond b x y)
either k true x y p q = p
either k false x y p q = q

three : (s t : Bool) (a b c d e f : ℕ) → range.kind_of (cond s (cond t (doubles a b) (doubles c d)) (doubles e f)) ≡ Double
three true true a b c d e f = refl
three true false a b c d e f = refl
three false t a b c d e f = refl

-- an opcode that the table does not have
past : (k c : ℕ) → c ≤ k → eqb k c ≡ false → c < k
past k c l n = let d : k ≡ c → ⊥ = eqb-false k c n in omega arith

pub unlisted_row : (k : ℕ) → Unlisted k → row_of k ≡ Unknown
unlisted_row k h =
    ⊎_elim (λ l. before_10 k l (eqb-false k 0x01 n.no_01) (eqb-false k 0x02 n.no_02) (eqb-false k 0x03 n.no_03) (eqb-false k 0x04 n.no_04))
    (λ g. ⊎_elim (λ l. before_20 k (from_16 g) l) (λ g. ⊎_elim (λ l. before_30 k (from_32 g) l) (λ g. ⊎_elim (λ l. before_40 k (from_48 g) l) (λ g. after_42 k (from_64 g)) (lt_or_ge k 0x40)) (lt_or_ge k 0x30)) (lt_or_ge k 0x20))
    (lt_or_ge k 0x10)
  where
    n : Absent k
    n = absent k h

    from_16 : 0x10 ≤ k → 0x18 < k
    from_16 g = past k 0x18 (past k 0x17 (past k 0x16 (past k 0x15 (past k 0x14 (past k 0x13 (past k 0x12 (past k 0x11 (past k 0x10 g n.no_10) n.no_11) n.no_12) n.no_13) n.no_14) n.no_15) n.no_16) n.no_17) n.no_18

    from_32 : 0x20 ≤ k → 0x24 < k
    from_32 g = past k 0x24 (past k 0x23 (past k 0x22 (past k 0x21 (past k 0x20 g n.no_20) n.no_21) n.no_22) n.no_23) n.no_24

    from_48 : 0x30 ≤ k → 0x32 < k
    from_48 g = past k 0x32 (past k 0x31 (past k 0x30 g n.no_30) n.no_31) n.no_32

    from_64 : 0x40 ≤ k → 0x42 < k
    from_64 g = past k 0x42 (past k 0x41 (past k 0x40 g n.no_40) n.no_41) n.no_42

module _ (p q : ℕ) (a b : Range) where
  abbrev Good : ℕ → Type 0
  Good k = is_unknown (row_of k) ≡ false → HasKind (answer_kind (row_of k)) (range_rule k p q a b)

  lround_kind : HasKind Whole (lround_range a)
  lround_kind = either Whole (eqb (lround_refusal binary64 (low a)) 0 && eqb (lround_refusal binary64 (high a)) 0) _ (range.refused 21) refl tt

  fmod_kind : HasKind Double (fmod_range a b)
  fmod_kind = either Double (infinite_end a || holds_zero b) (range.refused 20) _ tt refl

  ldexp_kind : HasKind Double (ldexp_range a b)
  ldexp_kind =
      either Double (infinite_end a || not (eqb (ldexp_refusal binary64 (low a) (low_power a b)) 0) || not (eqb (ldexp_refusal binary64 (high a) (high_power a b)) 0)) (range.refused 21) _ tt refl

  remainder_kind : HasKind Double (remainder_range a b)
  remainder_kind = either Double (infinite_end a || holds_zero b) (range.refused 20) _ tt refl

  whole_kind : (l h : ℤ) → HasKind Whole (whole_range l h)
  whole_kind l h = either Whole (fits_word l && fits_word h) _ (range.refused 21) refl tt

  double_kind : HasKind Double (double_range a)
  double_kind = either Double (leb (nat_abs (least a)) (2 ^ 53) && leb (nat_abs (most a)) (2 ^ 53)) _ (range.refused 22) refl tt

  worked_kind : (over : Bool) (l h : ℕ) → HasKind Double (worked_range a b over l h)
  worked_kind over l h =
      either Double (infinite_end a || infinite_end b) (range.refused 20) _ tt (either Double over (range.refused 21) (ranged (doubles l h)) tt refl)

  absolute_kind : HasKind Double (ranged (absolute_range a))
  absolute_kind = three (is_negative (low a)) (is_positive (high a)) _ _ _ _ _ _

  good_other : (k : ℕ) → Unlisted k → Good k
  good_other k h e = never (sym (ap is_unknown (unlisted_row k h)) ∙ e)

  pub rule_kind : (k : ℕ) → Good k
  unfolding range_rule row_of
  rule_kind k =
      by_opcode Good
      (λ e. refl)
      (λ e. refl)
      (λ e. refl)
      (λ e. refl)
      (λ e. refl)
      (λ e. refl)
      (λ e. refl)
      (λ e. refl)
      (λ e. refl)
      (λ e. refl)
      (λ e. absolute_kind)
      (λ e. refl)
      (λ e. lround_kind)
      (λ e. refl)
      (λ e. refl)
      (λ e. fmod_kind)
      (λ e. ldexp_kind)
      (λ e. remainder_kind)
      (λ e. whole_kind (least a +ℤ least b) (most a +ℤ most b))
      (λ e. whole_kind (least a -ℤ most b) (most a -ℤ least b))
      (λ e. double_kind)
      (λ e. worked_kind (infinite_sum a b) (sum_low a b) (sum_high a b))
      (λ e. worked_kind (infinite_difference a b) (difference_low a b) (difference_high a b))
      (λ e. worked_kind (infinite_product a b) (product_low a b) (product_high a b))
      good_other
      k

-- a range of a step that the table has, has the step's kind
pub step_kind : (t : Step) (a b : Range) → is_unknown (row_of t.opcode) ≡ false → HasKind (text.kind_of t) (step_range t a b)
unfolding step_range
step_kind t a b e = rule_kind t.p t.q a b t.opcode e
