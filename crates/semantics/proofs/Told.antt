-- Each code by an example: the ranges of a step's operands, and what is told of it. Where two facts are true, the first code is told.
-- Assumes nothing.
use mathlib.Core.Path.{◌≡◌, refl}
use Prim.Native.Nat.{ℕ}
use lib.Ieee.{size, span, climb}
use lib.IntN.{pos, negsuc}
use Rattle.float_format.specs.Format.{is_nan, is_infinite, is_zero, quieted, negated}
use Rattle.float_format.specs.Number.{magnitude, encode, above, under}
use Rattle.float_format.specs.Rounding.{parts, whole_part, integral, lround_refusal, nearest, rounded}
use Rattle.ordering.specs.Ordering.{fmin, fmax}
use Rattle.scaling.specs.Scaling.{scaled, ldexp, ldexp_refusal}
use Rattle.arithmetic.specs.Arithmetic.{sum, difference, product}
use Rattle.recipe.specs.declared.Step.{Step}
use Rattle.recipe.specs.Text.{step}
use Rattle.semantics.specs.Range.{Range, doubles, wholes}
use Rattle.semantics.specs.Cause.{first_cause, causes_of, cause_of, operand_in, code_in}

-- a step with the opcode k, of which A is step 3 and B step 4
abbrev on : ℕ → Step
on k = step k 3 4 0 0

-- what is told of it: the operand's step and the code
abbrev Told : ℕ → Range → Range → ℕ → ℕ → Type 0
Told k a b o c = (operand_in (on k) (cause_of (on k) a b) ≡ o) × (code_in (cause_of (on k) a b) ≡ c)

-- ---- 22

pub zero_divisor : Told 0x22 (doubles 0x3ff0_0000_0000_0000 0x4000_0000_0000_0000) (doubles 0xbff0_0000_0000_0000 0x3ff0_0000_0000_0000) 4 1
unfolding cause_of causes_of first_cause above under magnitude is_infinite
zero_divisor = (refl, refl)

pub zero_at_an_end : Told 0x22 (doubles 0x3ff0_0000_0000_0000 0x4000_0000_0000_0000) (doubles 0x8000_0000_0000_0000 0x3ff0_0000_0000_0000) 4 1
unfolding cause_of causes_of first_cause above under magnitude is_infinite
zero_at_an_end = (refl, refl)

-- both the divisor and the dividend
pub zero_before_infinite : Told 0x22 (doubles 0xfff0_0000_0000_0000 0x7ff0_0000_0000_0000) (doubles 0 0x3ff0_0000_0000_0000) 4 1
unfolding cause_of causes_of first_cause above under magnitude is_infinite
zero_before_infinite = (refl, refl)

pub dividend_low : Told 0x22 (doubles 0xfff0_0000_0000_0000 0x3ff0_0000_0000_0000) (doubles 0x3ff0_0000_0000_0000 0x4000_0000_0000_0000) 3 2
unfolding cause_of causes_of first_cause above under magnitude is_infinite
dividend_low = (refl, refl)

pub dividend_high : Told 0x22 (doubles 0x3ff0_0000_0000_0000 0x7ff0_0000_0000_0000) (doubles 0x3ff0_0000_0000_0000 0x4000_0000_0000_0000) 3 3
unfolding cause_of causes_of first_cause above under magnitude is_infinite
dividend_high = (refl, refl)

-- ---- 24, which shares them

pub nearest_zero_divisor : Told 0x24 (doubles 0xfff0_0000_0000_0000 0x7ff0_0000_0000_0000) (doubles 0xbff0_0000_0000_0000 0x8000_0000_0000_0000) 4 1
unfolding cause_of causes_of first_cause above under magnitude is_infinite
nearest_zero_divisor = (refl, refl)

pub nearest_dividend_low : Told 0x24 (doubles 0xfff0_0000_0000_0000 0x7ff0_0000_0000_0000) (doubles 0x3ff0_0000_0000_0000 0x4000_0000_0000_0000) 3 2
unfolding cause_of causes_of first_cause above under magnitude is_infinite
nearest_dividend_low = (refl, refl)

pub nearest_dividend_high : Told 0x24 (doubles 0x3ff0_0000_0000_0000 0x7ff0_0000_0000_0000) (doubles 0x3ff0_0000_0000_0000 0x7ff0_0000_0000_0000) 3 3
unfolding cause_of causes_of first_cause above under magnitude is_infinite
nearest_dividend_high = (refl, refl)

-- ---- 18: 2^63 is the first that does not fit, and -2^63 the last that does

pub lround_low : Told 0x18 (doubles 0xc3e0_0000_0000_0001 0x3ff0_0000_0000_0000) (doubles 0 0) 3 4
unfolding cause_of causes_of first_cause above under magnitude lround_refusal is_nan is_infinite is_zero quieted integral parts whole_part encode size span climb
lround_low = (refl, refl)

pub lround_high : Told 0x18 (doubles 0xc3e0_0000_0000_0000 0x43e0_0000_0000_0000) (doubles 0 0) 3 5
unfolding cause_of causes_of first_cause above under magnitude lround_refusal is_nan is_infinite is_zero quieted integral parts whole_part encode size span climb
lround_high = (refl, refl)

-- ---- 30, 31

pub sum_low_lem : Told 0x30 (wholes (negsuc 0x7fff_ffff_ffff_ffff) (pos 0)) (wholes (negsuc 0) (pos 0)) 3 6
unfolding cause_of causes_of first_cause above under magnitude
sum_low_lem = (refl, refl)

pub sum-high : Told 0x30 (wholes (pos 0) (pos 0x7fff_ffff_ffff_ffff)) (wholes (pos 0) (pos 1)) 3 7
unfolding cause_of causes_of first_cause above under magnitude
sum-high = (refl, refl)

pub difference_low_lem : Told 0x31 (wholes (negsuc 0x7fff_ffff_ffff_ffff) (pos 0)) (wholes (pos 0) (pos 1)) 3 6
unfolding cause_of causes_of first_cause above under magnitude
difference_low_lem = (refl, refl)

pub difference-high : Told 0x31 (wholes (pos 0) (pos 0x7fff_ffff_ffff_ffff)) (wholes (negsuc 0) (pos 0)) 3 7
unfolding cause_of causes_of first_cause above under magnitude
difference-high = (refl, refl)

-- ---- 23: the power of an end is the one that takes it away from zero

pub ldexp-low_infinite : Told 0x23 (doubles 0xfff0_0000_0000_0000 0x3ff0_0000_0000_0000) (wholes (pos 0) (pos 1)) 3 8
unfolding cause_of causes_of first_cause above under magnitude ldexp_refusal ldexp scaled rounded nearest is_nan is_infinite is_zero quieted parts encode size span climb
ldexp-low_infinite = (refl, refl)

pub ldexp-high_infinite : Told 0x23 (doubles 0x3ff0_0000_0000_0000 0x7ff0_0000_0000_0000) (wholes (pos 0) (pos 1)) 3 9
unfolding cause_of causes_of first_cause above under magnitude ldexp_refusal ldexp scaled rounded nearest is_nan is_infinite is_zero quieted parts encode size span climb
ldexp-high_infinite = (refl, refl)

pub ldexp-low-overflows : Told 0x23 (doubles 0xbff0_0000_0000_0000 0x3ff0_0000_0000_0000) (wholes (pos 0) (pos 1024)) 3 10
unfolding cause_of causes_of first_cause above under magnitude ldexp_refusal ldexp scaled rounded nearest is_nan is_infinite is_zero quieted parts encode size span climb
ldexp-low-overflows = (refl, refl)

pub ldexp-high-overflows : Told 0x23 (doubles 0x3ff0_0000_0000_0000 0x3ff0_0000_0000_0000) (wholes (pos 0) (pos 1024)) 3 11
unfolding cause_of causes_of first_cause above under magnitude ldexp_refusal ldexp scaled rounded nearest is_nan is_infinite is_zero quieted parts encode size span climb
ldexp-high-overflows = (refl, refl)

-- ---- 32: 2^53 is the last that has a double

pub whole_low : Told 0x32 (wholes (negsuc 9007199254740992) (pos 0)) (wholes (pos 0) (pos 0)) 3 12
unfolding cause_of causes_of first_cause above under magnitude
whole_low = (refl, refl)

pub whole_high : Told 0x32 (wholes (negsuc 9007199254740991) (pos 9007199254740993)) (wholes (pos 0) (pos 0)) 3 13
unfolding cause_of causes_of first_cause above under magnitude
whole_high = (refl, refl)

-- ---- 40 to 42: an infinite end of an operand, then an end of the answer that overflows

pub add_low : Told 0x40 (doubles 0xfff0_0000_0000_0000 0x3ff0_0000_0000_0000) (doubles 0x3ff0_0000_0000_0000 0x4000_0000_0000_0000) 3 14
unfolding cause_of causes_of first_cause is_infinite
add_low = (refl, refl)

pub add_high : Told 0x40 (doubles 0x3ff0_0000_0000_0000 0x7ff0_0000_0000_0000) (doubles 0x3ff0_0000_0000_0000 0x4000_0000_0000_0000) 3 15
unfolding cause_of causes_of first_cause is_infinite
add_high = (refl, refl)

pub add_b_low : Told 0x40 (doubles 0x3ff0_0000_0000_0000 0x4000_0000_0000_0000) (doubles 0xfff0_0000_0000_0000 0x3ff0_0000_0000_0000) 4 16
unfolding cause_of causes_of first_cause is_infinite
add_b_low = (refl, refl)

pub add_b_high : Told 0x40 (doubles 0x3ff0_0000_0000_0000 0x4000_0000_0000_0000) (doubles 0x3ff0_0000_0000_0000 0x7ff0_0000_0000_0000) 4 17
unfolding cause_of causes_of first_cause is_infinite
add_b_high = (refl, refl)

pub add_low-overflows : Told 0x40 (doubles 0xffef_ffff_ffff_ffff 0x3ff0_0000_0000_0000) (doubles 0xffef_ffff_ffff_ffff 0x3ff0_0000_0000_0000) 3 18
unfolding cause_of causes_of first_cause sum rounded nearest parts encode above under magnitude is_infinite size span climb
add_low-overflows = (refl, refl)

pub add_high-overflows : Told 0x40 (doubles 0xffef_ffff_ffff_ffff 0x7fef_ffff_ffff_ffff) (doubles 0x3ff0_0000_0000_0000 0x7fef_ffff_ffff_ffff) 3 19
unfolding cause_of causes_of first_cause sum rounded nearest parts encode above under magnitude is_infinite size span climb
add_high-overflows = (refl, refl)

-- both 11 and 12 are true, of which 11 goes with refusal 20
pub add_infinite_first : Told 0x40 (doubles 0xffef_ffff_ffff_ffff 0x3ff0_0000_0000_0000) (doubles 0xffef_ffff_ffff_ffff 0x7ff0_0000_0000_0000) 4 17
unfolding cause_of causes_of first_cause is_infinite
add_infinite_first = (refl, refl)

pub subtract_b_high : Told 0x41 (doubles 0x3ff0_0000_0000_0000 0x4000_0000_0000_0000) (doubles 0xffef_ffff_ffff_ffff 0x7ff0_0000_0000_0000) 4 17
unfolding cause_of causes_of first_cause is_infinite
subtract_b_high = (refl, refl)

-- low - high, where low - low is finite
pub subtract_low-overflows : Told 0x41 (doubles 0xffef_ffff_ffff_ffff 0x3ff0_0000_0000_0000) (doubles 0x3ff0_0000_0000_0000 0x7fef_ffff_ffff_ffff) 3 18
unfolding cause_of causes_of first_cause sum difference negated rounded nearest parts encode above under magnitude is_infinite size span climb
subtract_low-overflows = (refl, refl)

pub subtract_high-overflows : Told 0x41 (doubles 0x3ff0_0000_0000_0000 0x7fef_ffff_ffff_ffff) (doubles 0xffef_ffff_ffff_ffff 0x3ff0_0000_0000_0000) 3 19
unfolding cause_of causes_of first_cause sum difference negated rounded nearest parts encode above under magnitude is_infinite size span climb
subtract_high-overflows = (refl, refl)

pub multiply_high : Told 0x42 (doubles 0 0x7ff0_0000_0000_0000) (doubles 0 0) 3 15
unfolding cause_of causes_of first_cause is_infinite
multiply_high = (refl, refl)

-- high * low, which is one of the four
pub multiply_low-overflows : Told 0x42 (doubles 0x3ff0_0000_0000_0000 0x7fef_ffff_ffff_ffff) (doubles 0xc000_0000_0000_0000 0x3ff0_0000_0000_0000) 3 18
unfolding cause_of causes_of first_cause product fmin fmax is_nan is_zero rounded nearest parts encode above under magnitude is_infinite size span climb
multiply_low-overflows = (refl, refl)

-- low * low
pub multiply_high-overflows : Told 0x42 (doubles 0xc000_0000_0000_0000 0x3ff0_0000_0000_0000) (doubles 0xffef_ffff_ffff_ffff 0x3ff0_0000_0000_0000) 3 19
unfolding cause_of causes_of first_cause product fmin fmax is_nan is_zero rounded nearest parts encode above under magnitude is_infinite size span climb
multiply_high-overflows = (refl, refl)

pub multiply_none : Told 0x42 (doubles 0xffef_ffff_ffff_ffff 0x7fef_ffff_ffff_ffff) (doubles 0xbff0_0000_0000_0000 0x3ff0_0000_0000_0000) 0 0
unfolding cause_of causes_of first_cause product fmin fmax is_nan is_zero rounded nearest parts encode above under magnitude is_infinite size span climb
multiply_none = (refl, refl)

-- ---- nothing is told of a step that is not turned down

pub whole_none : Told 0x32 (wholes (negsuc 9007199254740991) (pos 9007199254740992)) (wholes (pos 0) (pos 0)) 0 0
unfolding cause_of causes_of first_cause above under magnitude
whole_none = (refl, refl)
