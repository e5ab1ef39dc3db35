-- A step's range from its operands' ranges, and refusals 20 to 22 as stated for the sheet (document 01, "Recipe text": range rules, and
-- "Turning text down"; steps 24 and 40 to 42: document 02, W-204 and W-208). Definitions only; assumes nothing.
use Rattle.std.specs.Prelude.{Bool, not, ◌&&◌, ◌||◌, cond, ℕ, ◌^◌, eqb, leb, ℤ, pos, nat_abs, ◌+ℤ◌, ◌-ℤ◌}
use Rattle.std.specs.Int.{w64}
use Rattle.std.proofs.Common.{to_z, of_z}
use Rattle.float_format.specs.Number.{below}
use Rattle.float_format.specs.Format.{binary64, is_infinite, absolute, negated}
use Rattle.float_format.specs.Rounding.{integral, lround_refusal, lround_value}
use Rattle.float_format.specs.declared.Direction.TheVariants.{Down, Up, TowardZero, HalfAway, HalfEven}
use Rattle.float_format.specs.declared.Direction.{Direction}
use Rattle.ordering.specs.Ordering.{fmin, fmax}
use Rattle.scaling.specs.Scaling.{ldexp, ldexp_refusal}
use Rattle.arithmetic.specs.Arithmetic.{sum, difference, product}
use Rattle.recipe.specs.declared.Kind.{Kind}
use Rattle.recipe.specs.declared.Kind.TheVariants.{Double, Whole}
use Rattle.recipe.specs.declared.Step.{Step}
use Rattle.semantics.specs.Value.{fits_word, of_whole}

-- ---- ranges

-- low to high, both included: patterns of doubles, or whole numbers
pub data Range : Type 0 where
  doubles : ℕ → ℕ → Range
  wholes : ℤ → ℤ → Range

abbrev pub kind_of : Range → Kind
kind_of (doubles low high) = Double
kind_of (wholes low high) = Whole

abbrev pub low_word : Range → ℕ
low_word (doubles low high) = low
low_word (wholes low high) = of_z w64 low

abbrev pub high_word : Range → ℕ
high_word (doubles low high) = high
high_word (wholes low high) = of_z w64 high

-- an operand's ends as doubles and as whole numbers; one of another kind, which no step that was read has, counts as zero
abbrev pub low : Range → ℕ
low (doubles l h) = l
low (wholes l h) = 0

abbrev pub high : Range → ℕ
high (doubles l h) = h
high (wholes l h) = 0

abbrev pub least : Range → ℤ
least (doubles l h) = pos 0
least (wholes l h) = l

abbrev pub most : Range → ℤ
most (doubles l h) = pos 0
most (wholes l h) = h

-- ---- tests of a double against a number, by its pattern

abbrev pub minus_one : ℕ
minus_one = 0xbff0_0000_0000_0000

abbrev pub plus_one : ℕ
plus_one = 0x3ff0_0000_0000_0000

-- 1 - 2^-53, the greatest number below 1, and its negation
abbrev pub under_one : ℕ
under_one = 0x3fef_ffff_ffff_ffff

abbrev pub over_minus_one : ℕ
over_minus_one = 0xbfef_ffff_ffff_ffff

abbrev pub is_negative : ℕ → Bool
is_negative x = below binary64 x 0

abbrev pub is_positive : ℕ → Bool
is_positive x = below binary64 0 x

-- ---- the range rules

-- a range, or a refusal's number
pub data Ranged : Type 0 where
  ranged : Range → Ranged
  refused : ℕ → Ranged

-- 10 to 14: the function of each end
abbrev pub both_ends : Direction → Range → Ranged
both_ends d a = ranged (doubles (integral binary64 d (low a)) (integral binary64 d (high a)))

-- 15
abbrev pub fraction_low : ℕ → ℕ
fraction_low x = cond (is_negative x) (cond (below binary64 minus_one x) x over_minus_one) 0

abbrev pub fraction_high : ℕ → ℕ
fraction_high x = cond (is_positive x) (cond (below binary64 x plus_one) x under_one) 0

abbrev pub fraction_range : Range → Range
fraction_range a = doubles (fraction_low (low a)) (fraction_high (high a))

-- 16
abbrev pub absolute_range : Range → Range
absolute_range a =
    cond (is_negative (low a))
    (cond (is_positive (high a)) (doubles 0 (fmax binary64 (absolute binary64 (low a)) (absolute binary64 (high a))))
    (doubles (absolute binary64 (high a)) (absolute binary64 (low a))))
    (doubles (absolute binary64 (low a)) (absolute binary64 (high a)))

-- 18: lround of each end
abbrev pub lround_range : Range → Ranged
lround_range a =
    cond (eqb (lround_refusal binary64 (low a)) 0 && eqb (lround_refusal binary64 (high a)) 0)
    (ranged (wholes (lround_value binary64 (low a)) (lround_value binary64 (high a)))) (refused 21)

-- 22, 24: refused for an infinite end of a, or where b holds zero
abbrev pub holds_zero : Range → Bool
holds_zero b = not (is_positive (low b)) && not (is_negative (high b))

abbrev pub infinite_end : Range → Bool
infinite_end a = is_infinite binary64 (low a) || is_infinite binary64 (high a)

-- the greatest magnitude among the ends
abbrev pub greatest : Range → ℕ
greatest b = fmax binary64 (absolute binary64 (low b)) (absolute binary64 (high b))

-- 22: m is the divisor's greatest magnitude
abbrev pub fmod_low : ℕ → ℕ → ℕ
fmod_low x m = cond (is_negative x) (negated binary64 (fmin binary64 (absolute binary64 x) m)) 0

abbrev pub fmod_high : ℕ → ℕ → ℕ
fmod_high x m = cond (is_positive x) (fmin binary64 x m) 0

abbrev pub fmod_range : Range → Range → Ranged
fmod_range a b = cond (infinite_end a || holds_zero b) (refused 20) (ranged (doubles (fmod_low (low a) (greatest b)) (fmod_high (high a) (greatest b))))

-- 23: refused for an infinite end of a, or where either end's scaling overflows
abbrev pub low_power : Range → Range → ℤ
low_power a b = cond (is_negative (low a)) (most b) (least b)

abbrev pub high_power : Range → Range → ℤ
high_power a b = cond (is_positive (high a)) (most b) (least b)

abbrev pub ldexp_range : Range → Range → Ranged
ldexp_range a b =
    cond (infinite_end a || not (eqb (ldexp_refusal binary64 (low a) (low_power a b)) 0) || not (eqb (ldexp_refusal binary64 (high a) (high_power a b)) 0)) (refused 21)
    (ranged (doubles (ldexp binary64 (low a) (low_power a b)) (ldexp binary64 (high a) (high_power a b))))

-- 24: -m to m, m being the smaller, by fmin, of the greatest magnitudes among the ends of a and of b
abbrev pub remainder_most : Range → Range → ℕ
remainder_most a b = fmin binary64 (greatest a) (greatest b)

abbrev pub remainder_range : Range → Range → Ranged
remainder_range a b = cond (infinite_end a || holds_zero b) (refused 20) (ranged (doubles (negated binary64 (remainder_most a b)) (remainder_most a b)))

-- 30, 31: refused where an end has not 64 bits
abbrev pub whole_range : ℤ → ℤ → Ranged
whole_range l h = cond (fits_word l && fits_word h) (ranged (wholes l h)) (refused 21)

-- 32: refused where an end's magnitude is over 2^53
abbrev pub double_range : Range → Ranged
double_range a =
    cond (leb (nat_abs (least a)) (2 ^ 53) && leb (nat_abs (most a)) (2 ^ 53)) (ranged (doubles (of_whole (least a)) (of_whole (most a)))) (refused 22)

-- 40 to 42, the answers' ends: low + low to high + high, ..
abbrev pub sum_low : Range → Range → ℕ
sum_low a b = sum binary64 (low a) (low b)

abbrev pub sum_high : Range → Range → ℕ
sum_high a b = sum binary64 (high a) (high b)

-- .. low - high to high - low, ..
abbrev pub difference_low : Range → Range → ℕ
difference_low a b = difference binary64 (low a) (high b)

abbrev pub difference_high : Range → Range → ℕ
difference_high a b = difference binary64 (high a) (low b)

-- .. and the fmin and the fmax of the four end products, whose order does not matter
abbrev pub product_low : Range → Range → ℕ
product_low a b =
    fmin binary64 (fmin binary64 (product binary64 (low a) (low b)) (product binary64 (low a) (high b))) (fmin binary64 (product binary64 (high a) (low b)) (product binary64 (high a) (high b)))

abbrev pub product_high : Range → Range → ℕ
product_high a b =
    fmax binary64 (fmax binary64 (product binary64 (low a) (low b)) (product binary64 (low a) (high b))) (fmax binary64 (product binary64 (high a) (low b)) (product binary64 (high a) (high b)))

-- 40 to 42: refused with 20 for an infinite end of a or of b, then with 21 where an end's answer is infinite (over)
abbrev pub worked_range : Range → Range → Bool → ℕ → ℕ → Ranged
worked_range a b over l h = cond (infinite_end a || infinite_end b) (refused 20) (cond over (refused 21) (ranged (doubles l h)))

-- 40
abbrev pub infinite_sum : Range → Range → Bool
infinite_sum a b = is_infinite binary64 (sum_low a b) || is_infinite binary64 (sum_high a b)

abbrev pub sum_range : Range → Range → Ranged
sum_range a b = worked_range a b (infinite_sum a b) (sum_low a b) (sum_high a b)

-- 41
abbrev pub infinite_difference : Range → Range → Bool
infinite_difference a b = is_infinite binary64 (difference_low a b) || is_infinite binary64 (difference_high a b)

abbrev pub difference_range : Range → Range → Ranged
difference_range a b = worked_range a b (infinite_difference a b) (difference_low a b) (difference_high a b)

-- 42: any of the four end products
abbrev pub infinite_product : Range → Range → Bool
infinite_product a b =
    is_infinite binary64 (product binary64 (low a) (low b))
    || is_infinite binary64 (product binary64 (low a) (high b))
    || is_infinite binary64 (product binary64 (high a) (low b))
    || is_infinite binary64 (product binary64 (high a) (high b))

abbrev pub product_range : Range → Range → Ranged
product_range a b = worked_range a b (infinite_product a b) (product_low a b) (product_high a b)

-- by the opcode: p and q are the step's P and Q, a and b its operands' ranges
unfoldable pub range_rule : ℕ → ℕ → ℕ → Range → Range → Ranged
range_rule opcode p q a b =
    cond (eqb opcode 0x01) (ranged (doubles p q))
    (cond (eqb opcode 0x02) (ranged (wholes (to_z w64 p) (to_z w64 q)))
    (cond (eqb opcode 0x03) (ranged (doubles p p))
    (cond (eqb opcode 0x04) (ranged (wholes (to_z w64 p) (to_z w64 p)))
    (cond (eqb opcode 0x10) (both_ends Down a)
    (cond (eqb opcode 0x11) (both_ends Up a)
    (cond (eqb opcode 0x12) (both_ends TowardZero a)
    (cond (eqb opcode 0x13) (both_ends HalfAway a)
    (cond (eqb opcode 0x14) (both_ends HalfEven a)
    (cond (eqb opcode 0x15) (ranged (fraction_range a))
    (cond (eqb opcode 0x16) (ranged (absolute_range a))
    (cond (eqb opcode 0x17) (ranged (doubles (negated binary64 (high a)) (negated binary64 (low a))))
    (cond (eqb opcode 0x18) (lround_range a)
    (cond (eqb opcode 0x20) (ranged (doubles (fmin binary64 (low a) (low b)) (fmin binary64 (high a) (high b))))
    (cond (eqb opcode 0x21) (ranged (doubles (fmax binary64 (low a) (low b)) (fmax binary64 (high a) (high b))))
    (cond (eqb opcode 0x22) (fmod_range a b)
    (cond (eqb opcode 0x23) (ldexp_range a b)
    (cond (eqb opcode 0x24) (remainder_range a b)
    (cond (eqb opcode 0x30) (whole_range (least a +ℤ least b) (most a +ℤ most b))
    (cond (eqb opcode 0x31) (whole_range (least a -ℤ most b) (most a -ℤ least b))
    (cond (eqb opcode 0x32) (double_range a)
    (cond (eqb opcode 0x40) (sum_range a b)
    (cond (eqb opcode 0x41) (difference_range a b)
    (cond (eqb opcode 0x42) (product_range a b)
    (ranged (wholes (pos 0) (pos 0))))))))))))))))))))))))))

-- a step t's range, a and b being its operands' ranges
unfoldable pub step_range : Step → Range → Range → Ranged
step_range t a b = range_rule t.opcode t.p t.q a b
