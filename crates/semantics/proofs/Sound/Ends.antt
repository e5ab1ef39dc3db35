-- What the whole mark says of a range: a marked range has ends that are whole numbers. A range rule's ends are functions of its operands' ends,
-- so this is the same of the ends as `Marks` says of values. Assumes nothing.
use mathlib.Core.Path.{◌≡◌, refl, sym, ◌∙◌}
use mathlib.Core.Bool.{Bool, true, false, not, ◌&&◌, ◌||◌, cond}
use mathlib.Core.List.{List, []}
use Prim.Native.Nat.{ℕ, ◌^◌, ◌<◌}
use lib.Dec.{leb}
use lib.IntN.{nat_abs, pos}
use lib.ListN.{length, get_or, take}
use borrow.Author.Tests.{leb-true, not-true}
use Rattle.float_format.specs.Format.{binary64, is_nan, is_infinite, absolute, negated}
use Rattle.float_format.specs.Number.{below, AtMost, is_integral}
use Rattle.float_format.specs.Rounding.{integral}
use Rattle.float_format.specs.declared.Direction.{Direction}
use Rattle.float_format.specs.declared.Direction.TheVariants.{Down, Up, TowardZero, HalfAway, HalfEven}
use Rattle.float_format.proofs.Order.{at_most_refl}
use Rattle.float_format.proofs.Integers.{finite_integer, integer_absolute, integer_negated, integer_equal}
use Rattle.ordering.specs.Ordering.{fmin, fmax}
use Rattle.ordering.proofs.MinMax.{fmin-integral, fmax-integral}
use Rattle.arithmetic.specs.Arithmetic.{product}
use Rattle.arithmetic.proofs.Laws.{sum-integral, difference-integral, product-integral}
use Rattle.recipe.specs.declared.Step.{Step}
use Rattle.recipe.specs.Table.{row_of}
use Rattle.recipe.specs.Text.{no_step, most_steps, first, second, bad_range, double_above}
use Rattle.recipe.specs.Answer.{Formed}
use Rattle.semantics.specs.Value.{of_whole}
use Rattle.semantics.specs.Range.{Range, doubles, wholes, low, high, least, most, is_negative, is_positive, infinite_end, holds_zero, both_ends, absolute_range, greatest, fmod_low, fmod_high, remainder_most, double_range, sum_low, sum_high, difference_low, difference_high, product_low, product_high, infinite_sum, infinite_difference, infinite_product, worked_range, ranged, refused, range_rule, step_range}
use Rattle.semantics.specs.Sheet.{passed, no_range, sheet_from}
use Rattle.semantics.specs.Mark.{no_mark, mark_rule, marks_of}
use Rattle.semantics.specs.Promise.{Proper}
use Rattle.semantics.proofs.Rules.{Unlisted, range_unlisted, by_opcode}
use Rattle.semantics.proofs.SheetWorked.{SheetWorked, sheet_worked}
use Rattle.semantics.proofs.Marks.{by_marks}
use Rattle.semantics.proofs.MarkRows.{fraction_unmarked, ldexp_unmarked}
use Rattle.semantics.proofs.Sound.Kept.{never, no_or, both, valid}
use Rattle.semantics.proofs.Sound.Fractions.{finite_end}
use Rattle.semantics.proofs.Sound.Marks.{zero_whole, of_whole_lem, not_below}
use Rattle.semantics.proofs.Sound.Recipes.{declared}
use Rattle.semantics.proofs.Sound.Covered.{Covered, sheet_covered}

abbrev Whole : ℕ → Type 0
Whole x = is_integral binary64 x ≡ true

-- both ends as doubles are whole numbers; a range of whole numbers, which counts as zero, has this
pub record WholeEnds (r : Range) : Type 0 where
  pub low_end : Whole (low r)
  pub high_end : Whole (high r)

whole_ends : (l h : ℕ) → Whole l → Whole h → WholeEnds (doubles l h)
whole_ends l h p q = record { low_end = p; high_end = q }

-- a test's two answers
either : (t : Bool) (x y : ℕ) → Whole x → Whole y → Whole (cond t x y)
either true x y p q = p
either false x y p q = q

-- ---- the rules' ends, of whole ends

module _ (a : Range) (w : WholeEnds a) where
  low-absolute : Whole (absolute binary64 (low a))
  low-absolute = integer_absolute binary64 (low a) ∙ w.low_end

  high-absolute : Whole (absolute binary64 (high a))
  high-absolute = integer_absolute binary64 (high a) ∙ w.high_end

  -- the greatest magnitude, in the rules of fabs, fmod and remainder
  greatest_whole : Whole (greatest a)
  greatest_whole = fmax-integral binary64 (absolute binary64 (low a)) (absolute binary64 (high a)) low-absolute high-absolute

  absolute_ends : WholeEnds (absolute_range a)
  absolute_ends = pick (is_negative (low a)) (is_positive (high a))
    where
      pick : (s t : Bool)
          → WholeEnds (cond s (cond t (doubles 0 (greatest a)) (doubles (absolute binary64 (high a)) (absolute binary64 (low a)))) (doubles (absolute binary64 (low a)) (absolute binary64 (high a))))
      pick true true = whole_ends 0 (greatest a) zero_whole greatest_whole
      pick true false = whole_ends (absolute binary64 (high a)) (absolute binary64 (low a)) high-absolute low-absolute
      pick false t = whole_ends (absolute binary64 (low a)) (absolute binary64 (high a)) low-absolute high-absolute

  negated_ends : WholeEnds (doubles (negated binary64 (high a)) (negated binary64 (low a)))
  negated_ends =
      whole_ends (negated binary64 (high a)) (negated binary64 (low a)) (integer_negated binary64 (high a) ∙ w.high_end) (integer_negated binary64 (low a) ∙ w.low_end)

module _ (a b : Range) (w : WholeEnds a) (v : WholeEnds b) where
  -- fmin and fmax
  chosen_ends : (f : ℕ → ℕ → ℕ) → ((x y : ℕ) → Whole x → Whole y → Whole (f x y)) → WholeEnds (doubles (f (low a) (low b)) (f (high a) (high b)))
  chosen_ends f keeps =
      whole_ends (f (low a) (low b)) (f (high a) (high b)) (keeps (low a) (low b) w.low_end v.low_end) (keeps (high a) (high b) w.high_end v.high_end)

  fmod_ends : WholeEnds (doubles (fmod_low (low a) (greatest b)) (fmod_high (high a) (greatest b)))
  fmod_ends =
      let m : ℕ = greatest b in
      let i : ℕ = fmin binary64 (absolute binary64 (low a)) (greatest b) in
      let g : Whole (greatest b) = greatest_whole b v in
      whole_ends (fmod_low (low a) m) (fmod_high (high a) m)
      (either (is_negative (low a)) (negated binary64 i) 0 (integer_negated binary64 i ∙ fmin-integral binary64 (absolute binary64 (low a)) m (low-absolute a w) g) zero_whole)
      (either (is_positive (high a)) (fmin binary64 (high a) m) 0 (fmin-integral binary64 (high a) m w.high_end g) zero_whole)

  remainder_ends : WholeEnds (doubles (negated binary64 (remainder_most a b)) (remainder_most a b))
  remainder_ends =
      let m : ℕ = remainder_most a b in
      let g : Whole (remainder_most a b) = fmin-integral binary64 (greatest a) (greatest b) (greatest_whole a w) (greatest_whole b v) in
      whole_ends (negated binary64 m) m (integer_negated binary64 m ∙ g) g

  -- add and subtract, where neither end is infinite
  sum_ends : infinite_sum a b ≡ false → WholeEnds (doubles (sum_low a b) (sum_high a b))
  sum_ends e =
      let p = no_or (is_infinite binary64 (sum_low a b)) (is_infinite binary64 (sum_high a b)) e in
      whole_ends (sum_low a b) (sum_high a b)
      (sum-integral binary64 valid (low a) (low b) w.low_end v.low_end p.0)
      (sum-integral binary64 valid (high a) (high b) w.high_end v.high_end p.1)

  difference_ends : infinite_difference a b ≡ false → WholeEnds (doubles (difference_low a b) (difference_high a b))
  difference_ends e =
      let p = no_or (is_infinite binary64 (difference_low a b)) (is_infinite binary64 (difference_high a b)) e in
      whole_ends (difference_low a b) (difference_high a b)
      (difference-integral binary64 valid (low a) (high b) w.low_end v.high_end p.0)
      (difference-integral binary64 valid (high a) (low b) w.high_end v.low_end p.1)

  -- multiply, where no end product is infinite
  product_ends : infinite_product a b ≡ false → WholeEnds (doubles (product_low a b) (product_high a b))
  product_ends e =
      let k : ℕ = product binary64 (low a) (low b) in
      let l : ℕ = product binary64 (low a) (high b) in
      let m : ℕ = product binary64 (high a) (low b) in
      let n : ℕ = product binary64 (high a) (high b) in
      let p = no_or (is_infinite binary64 k || is_infinite binary64 l || is_infinite binary64 m) (is_infinite binary64 n) e in
      let q = no_or (is_infinite binary64 k || is_infinite binary64 l) (is_infinite binary64 m) p.0 in
      let r = no_or (is_infinite binary64 k) (is_infinite binary64 l) q.0 in
      let hk : Whole k = product-integral binary64 valid (low a) (low b) w.low_end v.low_end r.0 in
      let hl : Whole l = product-integral binary64 valid (low a) (high b) w.low_end v.high_end r.1 in
      let hm : Whole m = product-integral binary64 valid (high a) (low b) w.high_end v.low_end q.1 in
      let hn : Whole n = product-integral binary64 valid (high a) (high b) w.high_end v.high_end p.1 in
      whole_ends (product_low a b) (product_high a b)
      (fmin-integral binary64 (fmin binary64 k l) (fmin binary64 m n) (fmin-integral binary64 k l hk hl) (fmin-integral binary64 m n hm hn))
      (fmax-integral binary64 (fmax binary64 k l) (fmax binary64 m n) (fmax-integral binary64 k l hk hl) (fmax-integral binary64 m n hm hn))

-- ---- one step, of a range of doubles

module _ (t : Step) (a b : Range) (l h : ℕ) (ma mb : Bool) (nl : is_nan binary64 l ≡ false) (nh : is_nan binary64 h ≡ false)
    (wa : ma ≡ true → WholeEnds a) (wb : mb ≡ true → WholeEnds b) where
  abbrev Good : ℕ → Type 0
  Good k =
      bad_range (row_of k) t ≡ false → range_rule k t.p t.q a b ≡ ranged (doubles l h) → mark_rule k (doubles l h) ma mb ≡ true → WholeEnds (doubles l h)

  good_other : (k : ℕ) → Unlisted k → Good k
  good_other k u d e m =
      let q : ranged (wholes (pos 0) (pos 0)) ≡ range_rule k t.p t.q a b = range_unlisted k t.p t.q a b u in
      never (cc)

  -- the rule's range, by its ends
  these : (r : Range) → WholeEnds r → ranged r ≡ ranged (doubles l h) → WholeEnds (doubles l h)
  these r w e = let q : r ≡ doubles l h = cc in rw q at w

  -- 01, 03: ends that are one number are both whole where the low one is
  one_number_lem : AtMost binary64 l h → (not (below binary64 l h) && is_integral binary64 l) ≡ true → WholeEnds (doubles l h)
  one_number_lem g m =
      let p : (not (below binary64 l h) ≡ true) × (is_integral binary64 l ≡ true) = both (not (below binary64 l h)) (is_integral binary64 l) m in
      whole_ends l h p.1 (integer_equal binary64 h l (not_below l h (not-true (below binary64 l h) p.0)) g ∙ p.1)

  input : (is_nan binary64 t.p || is_nan binary64 t.q || double_above t.p t.q) ≡ false → ranged (doubles t.p t.q) ≡ ranged (doubles l h)
      → (not (below binary64 l h) && is_integral binary64 l) ≡ true → WholeEnds (doubles l h)
  input d e m =
      let p : t.p ≡ l = cc in
      let q : t.q ≡ h = cc in
      let g = no_or (is_nan binary64 t.p || is_nan binary64 t.q) (double_above t.p t.q) d in
      one_number_lem (not_below h l (rw (p, q) at g.1)) m

  constant : ranged (doubles t.p t.p) ≡ ranged (doubles l h) → (not (below binary64 l h) && is_integral binary64 l) ≡ true → WholeEnds (doubles l h)
  constant e m = let q : l ≡ h = cc in one_number_lem (rw q (at_most_refl binary64 h)) m

  -- 10 to 14: an end is what a rounding gives, and is finite
  rounding : (d : Direction) → both_ends d a ≡ ranged (doubles l h) → not (is_infinite binary64 l || is_infinite binary64 h) ≡ true → WholeEnds (doubles l h)
  rounding d e m =
      let p : integral binary64 d (low a) ≡ l = cc in
      let q : integral binary64 d (high a) ≡ h = cc in
      let f : (is_infinite binary64 l ≡ false) × (is_infinite binary64 h ≡ false) = no_or (is_infinite binary64 l) (is_infinite binary64 h) (not-true (is_infinite binary64 l || is_infinite binary64 h) m) in
      whole_ends l h
      (rw p at (finite_integer binary64 d (low a) valid (rw p (finite_end l nl f.0))))
      (rw q at (finite_integer binary64 d (high a) valid (rw q (finite_end h nh f.1))))

  two : (f : WholeEnds a → WholeEnds b → WholeEnds (doubles l h)) → (ma && mb) ≡ true → WholeEnds (doubles l h)
  two f m = let p : (ma ≡ true) × (mb ≡ true) = both ma mb m in f (wa p.0) (wb p.1)

  -- 22, 24: of a range r that may be refused
  divided : (r : Range) → (WholeEnds a → WholeEnds b → WholeEnds r) → cond (infinite_end a || holds_zero b) (refused 20) (ranged r) ≡ ranged (doubles l h)
      → (ma && mb) ≡ true → WholeEnds (doubles l h)
  divided r f e m = pick (infinite_end a || holds_zero b) e
    where
      pick : (s : Bool) → cond s (refused 20) (ranged r) ≡ ranged (doubles l h) → WholeEnds (doubles l h)
      pick true g = never (cc)
      pick false g = two (λ w v. these r (f w v) g) m

  -- 40 to 42: of a range that may be refused for an infinite end of the answer too
  computed : (over : Bool) (s t : ℕ) → (WholeEnds a → WholeEnds b → over ≡ false → WholeEnds (doubles s t)) → worked_range a b over s t ≡ ranged (doubles l h)
      → (ma && mb) ≡ true → WholeEnds (doubles l h)
  computed over s t f e m = pick (infinite_end a || infinite_end b) over refl e
    where
      pick : (u v : Bool) → over ≡ v → cond u (refused 20) (cond v (refused 21) (ranged (doubles s t))) ≡ ranged (doubles l h) → WholeEnds (doubles l h)
      pick true v k g = never (cc)
      pick false true k g = never (cc)
      pick false false k g = two (λ w v. these (doubles s t) (f w v k) g) m

  as_double_lem : double_range a ≡ ranged (doubles l h) → WholeEnds (doubles l h)
  as_double_lem e = pick (leb (nat_abs (least a)) (2 ^ 53) && leb (nat_abs (most a)) (2 ^ 53)) refl e
    where
      pick : (s : Bool) → (leb (nat_abs (least a)) (2 ^ 53) && leb (nat_abs (most a)) (2 ^ 53)) ≡ s
          → cond s (ranged (doubles (of_whole (least a)) (of_whole (most a)))) (refused 22) ≡ ranged (doubles l h) → WholeEnds (doubles l h)
      pick true q g =
          let p = both (leb (nat_abs (least a)) (2 ^ 53)) (leb (nat_abs (most a)) (2 ^ 53)) q in
          these (doubles (of_whole (least a)) (of_whole (most a)))
          (whole_ends (of_whole (least a)) (of_whole (most a)) (of_whole_lem (least a) (leb-true (nat_abs (least a)) (2 ^ 53) p.0)) (of_whole_lem (most a) (leb-true (nat_abs (most a)) (2 ^ 53) p.1)))
          g
      pick false q g = never (cc)

  good : (k : ℕ) → Good k
  unfolding range_rule row_of mark_rule
  good k =
      by_opcode Good
      input
      (λ d e m. never (sym m))
      (λ d e m. constant e m)
      (λ d e m. never (sym m))
      (λ d e m. rounding Down e m)
      (λ d e m. rounding Up e m)
      (λ d e m. rounding TowardZero e m)
      (λ d e m. rounding HalfAway e m)
      (λ d e m. rounding HalfEven e m)
      (λ d e m. never (sym m ∙ fraction_unmarked ma mb l h))
      (λ d e m. these (absolute_range a) (absolute_ends a (wa m)) e)
      (λ d e m. these (doubles (negated binary64 (high a)) (negated binary64 (low a))) (negated_ends a (wa m)) e)
      (λ d e m. never (sym m))
      (λ d e m. two (λ w v. these (doubles (fmin binary64 (low a) (low b)) (fmin binary64 (high a) (high b))) (chosen_ends a b w v (fmin binary64) (fmin-integral binary64)) e) m)
      (λ d e m. two (λ w v. these (doubles (fmax binary64 (low a) (low b)) (fmax binary64 (high a) (high b))) (chosen_ends a b w v (fmax binary64) (fmax-integral binary64)) e) m)
      (λ d e m. divided (doubles (fmod_low (low a) (greatest b)) (fmod_high (high a) (greatest b))) (fmod_ends a b) e m)
      (λ d e m. never (sym m ∙ ldexp_unmarked ma mb l h))
      (λ d e m. divided (doubles (negated binary64 (remainder_most a b)) (remainder_most a b)) (remainder_ends a b) e m)
      (λ d e m. never (sym m))
      (λ d e m. never (sym m))
      (λ d e m. as_double_lem e)
      (λ d e m. computed (infinite_sum a b) (sum_low a b) (sum_high a b) (sum_ends a b) e m)
      (λ d e m. computed (infinite_difference a b) (difference_low a b) (difference_high a b) (difference_ends a b) e m)
      (λ d e m. computed (infinite_product a b) (product_low a b) (product_high a b) (product_ends a b) e m)
      good_other
      k

-- A step whose rules give it the range r and mark it, where its operands' ranges have whole ends if they are marked: r has whole ends.
pub ends_kept : (t : Step) (a b r : Range) (ma mb : Bool) → bad_range (row_of t.opcode) t ≡ false → step_range t a b ≡ ranged r → Proper r
    → (ma ≡ true → WholeEnds a) → (mb ≡ true → WholeEnds b) → mark_rule t.opcode r ma mb ≡ true → WholeEnds r
unfolding step_range Proper
ends_kept t a b (doubles l h) ma mb d e p wa wb m = good t a b l h ma mb p.0 p.1 wa wb t.opcode d e m
ends_kept t a b (wholes l h) ma mb d e p wa wb m = record { low_end = zero_whole; high_end = zero_whole }

-- ---- every step

-- Where the sheet of formed steps passes, each range that it marks has ends that are whole numbers.
pub marks_ends : (l : List Step) (rs : List Range) → Formed most_steps l → sheet_from l 0 [] ≡ passed rs
    → (k : ℕ) → k < length l → get_or (marks_of l rs) k no_mark ≡ true → WholeEnds (get_or rs k no_range)
marks_ends l rs f e k h m = go (sheet_worked l rs e) (sheet_covered l rs f e)
  where
    go : SheetWorked l rs → Covered rs → WholeEnds (get_or rs k no_range)
    go w c =
        by_marks WholeEnds no_range (record { low_end = zero_whole; high_end = zero_whole }) l rs rs (sym w.count) w.count
        (λ j b ma mb wa wb q.
        ends_kept (get_or l j no_step) (get_or (take j rs) (first (get_or l j no_step)) no_range) (get_or (take j rs) (second (get_or l j no_step)) no_range)
        (get_or rs j no_range) ma mb (declared l f j b) (w.each j b) (c.covers.proper j) wa wb q)
        k h m
