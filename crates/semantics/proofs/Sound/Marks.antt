-- What the whole mark says of a value (`Integral`), in every run: a step that its rule marks comes to a whole number, where its marked operands
-- did and its value lies in its range. The functions' part of it stands in their crates, over the open width. Assumes nothing.
use mathlib.Core.Path.{◌≡◌, refl, sym, ◌∙◌}
use mathlib.Core.Bool.{Bool, true, false, not, ◌&&◌, ◌||◌, cond}
use mathlib.Core.List.{List}
use Prim.Native.Nat.{ℕ, ◌+◌, ◌^◌, ◌≤◌, ◌<◌}
use native.Mathlib.Omega.{arith}
use lib.Dec.{eqb, leb}
use lib.IntN.{ℤ, pos, nat_abs}
use lib.ListN.{length, get_or, take}
use lib.Signed.{non_neg}
use borrow.Author.Tests.{ltb-false, leb-true, eqb-true, not-true}
use Rattle.float_format.specs.Format.{binary64, infinity, unsigned, is_infinite, absolute, negated}
use Rattle.float_format.specs.Number.{above, under, AtMost, below, is_integral}
use Rattle.float_format.specs.Rounding.{integral}
use Rattle.float_format.specs.declared.Direction.{Direction}
use Rattle.float_format.specs.declared.Direction.TheVariants.{Down, Up, TowardZero, HalfAway, HalfEven}
use Rattle.float_format.proofs.Order.{at_most_trans}
use Rattle.float_format.proofs.Integers.{integer_number, finite_integer, integer_absolute, integer_negated, integer_equal, zero_integer, encoded_integer}
use Rattle.ordering.specs.Ordering.{fmin, fmax}
use Rattle.ordering.proofs.MinMax.{fmin-integral, fmax-integral}
use Rattle.remainder.specs.Remainder.{fmod, fmod_refusal}
use Rattle.remainder.proofs.Laws.{fmod-integral}
use Rattle.nearest_remainder.specs.Nearest.{remainder}
use Rattle.nearest_remainder.proofs.Laws.{remainder-integral}
use Rattle.arithmetic.specs.Arithmetic.{sum, difference, product}
use Rattle.arithmetic.proofs.Laws.{sum-integral, difference-integral, product-integral}
use Rattle.recipe.specs.declared.Step.{Step}
use Rattle.recipe.specs.Text.{no_step, inputs_in, first, second}
use Rattle.semantics.specs.Value.{Datum, double, whole, as_double, as_whole, done, refused, of_whole, worked, rule_of, step_value}
use Rattle.semantics.specs.Range.{Range, doubles, wholes}
use Rattle.semantics.specs.Run.{no_value}
use Rattle.semantics.specs.Sheet.{no_range}
use Rattle.semantics.specs.Mark.{no_mark, mark_rule, marks_of}
use Rattle.semantics.specs.Promise.{Lies, Proper, Integral}
use Rattle.semantics.proofs.Rules.{Unlisted, unlisted, by_opcode}
use Rattle.semantics.proofs.Worked.{Worked}
use Rattle.semantics.proofs.Marks.{by_marks}
use Rattle.semantics.proofs.MarkRows.{fraction_unmarked, ldexp_unmarked}
use Rattle.semantics.proofs.Sound.Kept.{never, no_or, both, Between, valid, between}
use Rattle.semantics.proofs.Sound.Floats.{between_finite}
use Rattle.semantics.proofs.Sound.Fractions.{finite_end, divides}

-- ---- numbers

pub not_below : (x y : ℕ) → below binary64 x y ≡ false → AtMost binary64 y x
not_below x y e = ltb-false (above binary64 x + under binary64 y) (above binary64 y + under binary64 x) e

pub zero_whole : is_integral binary64 0 ≡ true
zero_whole = zero_integer binary64 0 valid refl

-- 32: of a magnitude up to 2^53 a whole number's double is exact
pub of_whole_lem : (z : ℤ) → nat_abs z ≤ 2 ^ 53 → is_integral binary64 (of_whole z) ≡ true
of_whole_lem z h = encoded_integer binary64 (not (non_neg z)) (nat_abs z) valid (omega arith) h

-- 22, 24: where nothing is refused, the divisor is not zero
module _ (x y : ℕ) (hx : is_integral binary64 x ≡ true) (hy : is_integral binary64 y ≡ true) (e : fmod_refusal binary64 x y ≡ 0) where
  some_divisor : 0 < unsigned binary64 y
  some_divisor = (divides x y (integer_number binary64 x hx) (integer_number binary64 y hy) e).nonzero

  pub of_fmod : is_integral binary64 (fmod binary64 x y) ≡ true
  of_fmod = fmod-integral binary64 x y hx hy some_divisor

  pub of_remainder : is_integral binary64 (remainder binary64 x y) ≡ true
  of_remainder = remainder-integral binary64 x y hx hy some_divisor

-- ---- one step, of a double in a range of doubles

-- an operand of the other kind counts as zero
operand : (v : Datum) → Integral v → is_integral binary64 (as_double v) ≡ true
unfolding Integral
operand (double x) h = h
operand (whole z) h = zero_whole

-- a step that may refuse, and does not
accepted : (s : Bool) (v u : Datum) (number : ℕ) → cond s (done v) (refused number) ≡ done u → (s ≡ true) × (v ≡ u)
accepted true v u number e = (refl, cc)
accepted false v u number e = never (cc)

worked_done : (s t : Bool) (r x : ℕ) → cond s (refused 20) (cond t (refused 21) (done (double r))) ≡ done (double x) → (t ≡ false) × (r ≡ x)
worked_done true t r x e = never (cc)
worked_done false true r x e = never (cc)
worked_done false false r x e = (refl, cc)

module _ (t : Step) (w : ℕ) (a b : Datum) (l h x : ℕ) (ma mb : Bool) (i : Between l h x) (wa : ma ≡ true → Integral a) (wb : mb ≡ true → Integral b) where
  abbrev Good : ℕ → Type 0
  Good k = rule_of k t.p w (as_double a) (as_double b) (as_whole a) (as_whole b) ≡ done (double x) → mark_rule k (doubles l h) ma mb ≡ true → is_integral binary64 x ≡ true

  good_other : (k : ℕ) → Unlisted k → Good k
  good_other k u e m =
      let q : done (whole (pos 0)) ≡ rule_of k t.p w (as_double a) (as_double b) (as_whole a) (as_whole b) = unlisted k t.p w (as_double a) (as_double b) (as_whole a) (as_whole b) u in
      never (cc)

  -- 01, 03: between ends that are one number, x is that number
  one_number_lem : (not (below binary64 l h) && is_integral binary64 l) ≡ true → is_integral binary64 x ≡ true
  one_number_lem m =
      let p : (not (below binary64 l h) ≡ true) × (is_integral binary64 l ≡ true) = both (not (below binary64 l h)) (is_integral binary64 l) m in
      integer_equal binary64 x l (at_most_trans binary64 x h l i.upto (not_below l h (not-true (below binary64 l h) p.0))) i.from ∙ p.1

  -- 10 to 14: between finite ends, x is finite, and so a whole number
  rounding : (d : Direction) → done (double (integral binary64 d (as_double a))) ≡ done (double x)
      → not (is_infinite binary64 l || is_infinite binary64 h) ≡ true → is_integral binary64 x ≡ true
  rounding d e m =
      let q : integral binary64 d (as_double a) ≡ x = cc in
      let p : (is_infinite binary64 l ≡ false) × (is_infinite binary64 h ≡ false) = no_or (is_infinite binary64 l) (is_infinite binary64 h) (not-true (is_infinite binary64 l || is_infinite binary64 h) m) in
      let f : unsigned binary64 x < infinity binary64 =
      between_finite l h x (finite_end l i.low-number p.0) (finite_end h i.high-number p.1) i.from i.upto in
      rw q at (finite_integer binary64 d (as_double a) valid (rw (sym q) at f))

  -- 16, 17, 20, 21: what is whole of whole operands
  unary : (f : ℕ → ℕ) → ((y : ℕ) → is_integral binary64 y ≡ true → is_integral binary64 (f y) ≡ true) → done (double (f (as_double a))) ≡ done (double x)
      → ma ≡ true → is_integral binary64 x ≡ true
  unary f keeps e m = let q : f (as_double a) ≡ x = cc in rw q at (keeps (as_double a) (operand a (wa m)))

  binary : (f : ℕ → ℕ → ℕ) → ((y z : ℕ) → is_integral binary64 y ≡ true → is_integral binary64 z ≡ true → is_integral binary64 (f y z) ≡ true)
      → done (double (f (as_double a) (as_double b))) ≡ done (double x) → (ma && mb) ≡ true → is_integral binary64 x ≡ true
  binary f keeps e m =
      let q : f (as_double a) (as_double b) ≡ x = cc in
      let p : (ma ≡ true) × (mb ≡ true) = both ma mb m in
      rw q at (keeps (as_double a) (as_double b) (operand a (wa p.0)) (operand b (wb p.1)))

  -- 22, 24: the same, of answers that may be refused
  divided : (f : ℕ → ℕ → ℕ)
      → ((y z : ℕ) → is_integral binary64 y ≡ true → is_integral binary64 z ≡ true → fmod_refusal binary64 y z ≡ 0 → is_integral binary64 (f y z) ≡ true)
      → cond (eqb (fmod_refusal binary64 (as_double a) (as_double b)) 0) (done (double (f (as_double a) (as_double b)))) (refused 20) ≡ done (double x)
      → (ma && mb) ≡ true → is_integral binary64 x ≡ true
  divided f keeps e m =
      let g = accepted (eqb (fmod_refusal binary64 (as_double a) (as_double b)) 0) _ (double x) 20 e in
      let q : f (as_double a) (as_double b) ≡ x = cc in
      let p : (ma ≡ true) × (mb ≡ true) = both ma mb m in
      rw q at (keeps (as_double a) (as_double b) (operand a (wa p.0)) (operand b (wb p.1)) (eqb-true (fmod_refusal binary64 (as_double a) (as_double b)) 0 g.0))

  -- 40 to 42: the same, of answers that are not infinite
  computed : (f : ℕ → ℕ → ℕ)
      → ((y z : ℕ) → is_integral binary64 y ≡ true → is_integral binary64 z ≡ true → is_infinite binary64 (f y z) ≡ false → is_integral binary64 (f y z) ≡ true)
      → worked (as_double a) (as_double b) (f (as_double a) (as_double b)) ≡ done (double x) → (ma && mb) ≡ true → is_integral binary64 x ≡ true
  computed f keeps e m =
      let g = worked_done (is_infinite binary64 (as_double a) || is_infinite binary64 (as_double b)) (is_infinite binary64 (f (as_double a) (as_double b))) (f (as_double a) (as_double b)) x e in
      let p : (ma ≡ true) × (mb ≡ true) = both ma mb m in
      rw g.1 at (keeps (as_double a) (as_double b) (operand a (wa p.0)) (operand b (wb p.1)) g.0)

  as_double_lem : cond (leb (nat_abs (as_whole a)) (2 ^ 53)) (done (double (of_whole (as_whole a)))) (refused 22) ≡ done (double x) → is_integral binary64 x ≡ true
  as_double_lem e =
      let g = accepted (leb (nat_abs (as_whole a)) (2 ^ 53)) _ (double x) 22 e in
      let q : of_whole (as_whole a) ≡ x = cc in
      rw q at (of_whole_lem (as_whole a) (leb-true (nat_abs (as_whole a)) (2 ^ 53) g.0))

  good : (k : ℕ) → Good k
  unfolding rule_of mark_rule
  good k =
      by_opcode Good
      (λ e m. one_number_lem m)
      (λ e m. never (sym m))
      (λ e m. one_number_lem m)
      (λ e m. never (sym m))
      (rounding Down)
      (rounding Up)
      (rounding TowardZero)
      (rounding HalfAway)
      (rounding HalfEven)
      (λ e m. never (sym m ∙ fraction_unmarked ma mb l h))
      (unary (absolute binary64) (λ y g. integer_absolute binary64 y ∙ g))
      (unary (negated binary64) (λ y g. integer_negated binary64 y ∙ g))
      (λ e m. never (sym m))
      (binary (fmin binary64) (fmin-integral binary64))
      (binary (fmax binary64) (fmax-integral binary64))
      (divided (fmod binary64) of_fmod)
      (λ e m. never (sym m ∙ ldexp_unmarked ma mb l h))
      (divided (remainder binary64) of_remainder)
      (λ e m. never (sym m))
      (λ e m. never (sym m))
      (λ e m. as_double_lem e)
      (computed (sum binary64) (sum-integral binary64 valid))
      (computed (difference binary64) (difference-integral binary64 valid))
      (computed (product binary64) (product-integral binary64 valid))
      good_other
      k

-- A step whose rule marks it, where its operands are whole numbers if they are marked: its value, which lies in its range, is a whole number.
pub mark_kept : (t : Step) (w : ℕ) (a b v : Datum) (r : Range) (ma mb : Bool) → step_value t w a b ≡ done v → Lies r v → Proper r
    → (ma ≡ true → Integral a) → (mb ≡ true → Integral b) → mark_rule t.opcode r ma mb ≡ true → Integral v
unfolding step_value Integral Lies
mark_kept t w a b (whole z) r ma mb e g p wa wb m = tt
mark_kept t w a b (double x) (wholes l h) ma mb e g p wa wb m = absurd g
mark_kept t w a b (double x) (doubles l h) ma mb e g p wa wb m = good t w a b l h x ma mb (between (doubles l h) (double x) g p) wa wb t.opcode e m

-- ---- every step

-- The values vs of a run, each its rule's and each in its range: those of marked steps are whole numbers.
pub marks_kept : (ts : List Step) (ws : List ℕ) (vs : List Datum) (rs : List Range) → Worked ts ws vs → length rs ≡ length vs
    → ((k : ℕ) → Lies (get_or rs k no_range) (get_or vs k no_value)) → ((k : ℕ) → Proper (get_or rs k no_range))
    → (k : ℕ) → k < length ts → get_or (marks_of ts rs) k no_mark ≡ true → Integral (get_or vs k no_value)
unfolding Integral
marks_kept ts ws vs rs w n lie proper k h m =
    by_marks Integral no_value tt ts rs vs (omega (arith, w.count)) w.count
    (λ k h ma mb wa wb m.
    mark_kept (get_or ts k no_step) (get_or ws (inputs_in (take k ts)) 0) (get_or (take k vs) (first (get_or ts k no_step)) no_value) (get_or (take k vs) (second (get_or ts k no_step)) no_value)
    (get_or vs k no_value) (get_or rs k no_range) ma mb (w.each k h) (lie k) (proper k) wa wb m)
    k h m
