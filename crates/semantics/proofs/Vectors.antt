-- Document 01's recipe with its whole sheet and its two frames, what demand 3 comes to of it, the range rules at their corners, and values of
-- remainder, add, subtract and multiply, by the definitions: claims that antt computes. Assumes nothing.
use mathlib.Core.Path.{◌≡◌, refl, ◌∙◌}
use mathlib.Core.List.{List, [], ◌∷◌, ◌++◌, map}
use Prim.Native.Nat.{ℕ}
use native.Mathlib.Omega.{arith}
use lib.Ieee.{size, span, climb}
use lib.IntN.{pos, negsuc}
use lib.ListN.{length}
use Rattle.float_format.specs.Format.{is_nan, is_infinite, is_zero, quieted, absolute, negated}
use Rattle.float_format.specs.Number.{magnitude, encode, above, under}
use Rattle.float_format.specs.Rounding.{parts, whole_part, integral, lround_refusal, lround_value, nearest, rounded}
use Rattle.ordering.specs.Ordering.{fmin, fmax}
use Rattle.scaling.specs.Scaling.{scaled, ldexp, ldexp_refusal}
use Rattle.remainder.specs.Remainder.{fmod_refusal}
use Rattle.nearest_remainder.specs.Nearest.{remainder}
use Rattle.arithmetic.specs.Arithmetic.{sum, difference, product}
use Rattle.hexadecimal.specs.Hex.{digits, field_of, digit_of}
use Rattle.recipe.specs.declared.Step.{Step}
use Rattle.recipe.specs.Table.{row_of}
use Rattle.recipe.specs.Text.{short, step, steps, read_text, read_from, on_next, next_of, judged, step_refusal, inputs_in, line_at, from_fields}
use Rattle.recipe.proofs.Examples.{bytes, lines}
use Rattle.semantics.specs.Value.{Datum, double, whole, Outcome, done, rule_of, step_value}
use Rattle.semantics.specs.Value as value
use Rattle.semantics.specs.Range.{Range, doubles, wholes, Ranged, ranged, refused, range_rule, step_range}
use Rattle.semantics.specs.Frame.{on_field, on_words, words_from, read_frame}
use Rattle.semantics.specs.Frame as frame
use Rattle.semantics.specs.Run.{completed, on_outcome, run_from, on_frame, call_on, run_steps, run_of, answer_of, words_of}
use Rattle.semantics.specs.Run as run
use Rattle.semantics.specs.Mark.{mark_rule, marks_from}
use Rattle.semantics.specs.Sheet.{on_ranged, sheet_from}
use Rattle.semantics.specs.Shown.{marked, sheet_steps, on_text, sheet_of, lines_from, bytes_of}
use Rattle.semantics.specs.Promise.{Given, Promised, Lies, Integral}
use Rattle.semantics.proofs.Sound.Recipes.{text_sound}

-- ---- document 01's recipe: floor of an input, then lround

pub recipe : List ℕ
recipe = lines ("010000c004000000000000401d000000000000" ∷ "10000000000000000000000000000000000000" ∷ "18010000000000000000000000000000000000" ∷ [])

-- its sheet, and bytes past it that stay as lent
pub sheet_example : bytes_of (sheet_of recipe 121) (recipe ++ bytes "past")
    ≡ lines ("000100c004000000000000401d000000000000" ∷ "010101c008000000000000401c000000000000" ∷ "020201fffffffffffffffd0000000000000007" ∷ []) ++ bytes "past"
unfolding recipe bytes lines read_text read_from on_next next_of judged step_refusal inputs_in line_at from_fields row_of field_of digit_of is_nan above under magnitude sheet_of on_text sheet_steps marked marks_from mark_rule sheet_from on_ranged step_range range_rule lines_from digits integral parts whole_part lround_refusal lround_value encode is_infinite is_zero quieted size span climb
sheet_example = refl

-- its frames: -0.5 gives -1, a whole number; 7.5 is refused 32 at step 0
pub run_example : answer_of (run_of recipe (bytes "bfe0000000000000") 3) ≡ record { refusal = 0; place = 0; kind = 2; word = 0xffff_ffff_ffff_ffff }
unfolding recipe bytes lines read_text read_from on_next next_of judged step_refusal inputs_in line_at from_fields row_of field_of digit_of is_nan above under magnitude run_of run.on_text run_steps call_on on_frame read_frame on_words words_from on_field frame.ranged run_from on_outcome step_value rule_of integral parts whole_part lround_refusal lround_value encode is_infinite is_zero quieted size span climb
run_example = refl

pub refused_example : answer_of (run_of recipe (bytes "401e000000000000") 3) ≡ record { refusal = 32; place = 0; kind = 0; word = 0 }
unfolding recipe bytes lines read_text read_from on_next next_of judged step_refusal inputs_in line_at from_fields row_of field_of digit_of is_nan above under magnitude run_of run.on_text run_steps call_on on_frame read_frame on_words words_from on_field frame.ranged
refused_example = refl

-- ---- demand 3 of it, on the frame of -0.5: what the promise asks for is there, and this is what it gives

-- its steps, and the ranges that its sheet shows
abbrev pub example_steps : List Step
example_steps = step 0x01 0 0 0xc004_0000_0000_0000 0x401d_0000_0000_0000 ∷ step 0x10 0 0 0 0 ∷ step 0x18 1 0 0 0 ∷ []

abbrev pub example_ranges : List Range
example_ranges =
    doubles 0xc004_0000_0000_0000 0x401d_0000_0000_0000 ∷ doubles 0xc008_0000_0000_0000 0x401c_0000_0000_0000 ∷ wholes (negsuc 2) (pos 7) ∷ []

-- the values: -0.5, its floor -1, and that as a whole number
abbrev pub example_values : List Datum
example_values = double 0xbfe0_0000_0000_0000 ∷ double 0xbff0_0000_0000_0000 ∷ whole (negsuc 0) ∷ []

-- the frame's digits; a lent word for each step, and one past them
abbrev pub example_frame : List ℕ
example_frame = bytes "bfe0000000000000"

abbrev pub example_lent : List ℕ
example_lent = 10 ∷ 11 ∷ 12 ∷ 13 ∷ []

pub read_example : read_text short recipe ≡ steps example_steps
unfolding recipe bytes lines read_text read_from on_next next_of judged step_refusal inputs_in line_at from_fields row_of field_of digit_of is_nan above under magnitude
read_example = refl

pub given_example : Given example_steps example_frame (length example_lent) example_ranges (0xbfe0_0000_0000_0000 ∷ [])
unfolding bytes inputs_in row_of field_of digit_of is_nan above under magnitude read_frame on_words words_from on_field frame.ranged sheet_from on_ranged step_range range_rule integral parts whole_part lround_refusal lround_value encode is_infinite is_zero quieted size span climb
given_example = record { passes = refl; admits = refl; fits = omega arith }

pub promised_example : Promised example_steps example_frame example_lent example_ranges
    (answer_of (run_of recipe example_frame 4)) (words_of (run_of recipe example_frame 4) example_lent)
promised_example = text_sound recipe example_steps read_example example_frame example_lent example_ranges (0xbfe0_0000_0000_0000 ∷ []) given_example

run_values : run_steps example_steps example_frame 4 ≡ completed example_values
unfolding bytes inputs_in row_of field_of digit_of is_nan above under magnitude run_steps call_on on_frame read_frame on_words words_from on_field frame.ranged run_from on_outcome step_value rule_of integral parts whole_part lround_refusal lround_value encode is_infinite is_zero quieted size span climb
run_values = refl

-- the values are these
pub values_example : promised_example.values ≡ example_values
values_example = cc (run_values, promised_example.completes)

-- each lies in its range
pub lie_example : Lies (doubles 0xc004_0000_0000_0000 0x401d_0000_0000_0000) (double 0xbfe0_0000_0000_0000)
    × Lies (doubles 0xc008_0000_0000_0000 0x401c_0000_0000_0000) (double 0xbff0_0000_0000_0000)
    × Lies (wholes (negsuc 2) (pos 7)) (whole (negsuc 0))
lie_example = (
  rw values_example at (promised_example.lie 0 (omega arith)),
  rw values_example at (promised_example.lie 1 (omega arith)),
  rw values_example at (promised_example.lie 2 (omega arith)),
)

-- the floor is marked, and a whole number
pub integral_example : Integral (double 0xbff0_0000_0000_0000)
unfolding marks_from mark_rule is_infinite
integral_example = rw values_example at (promised_example.integral 1 (omega arith) refl)

-- and they are what is written, the word past them staying as lent
pub written_example : words_of (run_of recipe example_frame 4) example_lent
    ≡ 0xbfe0_0000_0000_0000 ∷ 0xbff0_0000_0000_0000 ∷ 0xffff_ffff_ffff_ffff ∷ 13 ∷ []
written_example = promised_example.written ∙ rw values_example

-- ---- the range rules at their corners

pub record Case : Type 0 where
  pub given : Ranged
  pub stated : Ranged

infix 5 ◌gives◌
abbrev pub ◌gives◌ : Ranged → Ranged → Case
a gives b = record { given = a; stated = b }

-- a rule of one range, and of two
abbrev of : ℕ → Range → Ranged
of opcode a = range_rule opcode 0 0 a (wholes (pos 0) (pos 0))

abbrev of_two : ℕ → Range → Range → Ranged
of_two opcode a b = range_rule opcode 0 0 a b

-- -2, -1, 1, 2, -0, the infinities, the greatest finite number and its negation, 1 - 2^-53 and its negation
abbrev m2 : ℕ
m2 = 0xc000_0000_0000_0000

abbrev m1 : ℕ
m1 = 0xbff0_0000_0000_0000

abbrev p1 : ℕ
p1 = 0x3ff0_0000_0000_0000

abbrev p2 : ℕ
p2 = 0x4000_0000_0000_0000

abbrev m0 : ℕ
m0 = 0x8000_0000_0000_0000

abbrev m_inf : ℕ
m_inf = 0xfff0_0000_0000_0000

abbrev p_inf : ℕ
p_inf = 0x7ff0_0000_0000_0000

abbrev p_most : ℕ
p_most = 0x7fef_ffff_ffff_ffff

abbrev m_most : ℕ
m_most = 0xffef_ffff_ffff_ffff

abbrev p_under : ℕ
p_under = 0x3fef_ffff_ffff_ffff

abbrev m_under : ℕ
m_under = 0xbfef_ffff_ffff_ffff

pub corners : List Case
corners =
    -- modf's fraction: past one the number next to it; at one too; a zero end is +0
    (of 0x15 (doubles m2 p2) gives ranged (doubles m_under p_under))
    ∷ (of 0x15 (doubles m1 p1) gives ranged (doubles m_under p_under))
    ∷ (of 0x15 (doubles m_under p_under) gives ranged (doubles m_under p_under))
    ∷ (of 0x15 (doubles m0 m0) gives ranged (doubles 0 0))
    ∷ (of 0x15 (doubles m_inf m1) gives ranged (doubles m_under 0))
    -- fabs: both ends, swapped ends, +0 to the larger; -0 is not below zero
    ∷ (of 0x16 (doubles p1 p2) gives ranged (doubles p1 p2))
    ∷ (of 0x16 (doubles m2 m1) gives ranged (doubles p1 p2))
    ∷ (of 0x16 (doubles m2 p1) gives ranged (doubles 0 p2))
    ∷ (of 0x16 (doubles m0 p1) gives ranged (doubles 0 p1))
    ∷ (of 0x16 (doubles m1 m0) gives ranged (doubles 0 p1))
    -- negate
    ∷ (of 0x17 (doubles m2 p1) gives ranged (doubles m1 p2))
    ∷ (of 0x17 (doubles 0 p_inf) gives ranged (doubles m_inf m0))
    -- lround: halves away from zero at both ends; 2^63 has no 64 bits, -2^63 has
    ∷ (of 0x18 (doubles 0xbfe0_0000_0000_0000 0x3fe0_0000_0000_0000) gives ranged (wholes (negsuc 0) (pos 1)))
    ∷ (of 0x18 (doubles 0 0x43e0_0000_0000_0000) gives refused 21)
    ∷ (of 0x18 (doubles 0xc3e0_0000_0000_0000 0) gives ranged (wholes (negsuc 0x7fff_ffff_ffff_ffff) (pos 0)))
    ∷ (of 0x18 (doubles 0 p_inf) gives refused 21)
    -- fmin, fmax: of lows and of highs; of two zeros -0 and +0, on whichever side they stand; a range from +0 to -0 is one
    ∷ (of_two 0x20 (doubles m2 p2) (doubles m1 p1) gives ranged (doubles m2 p1))
    ∷ (of_two 0x20 (doubles 0 0) (doubles m0 m0) gives ranged (doubles m0 m0))
    ∷ (of_two 0x20 (doubles m0 m0) (doubles 0 0) gives ranged (doubles m0 m0))
    ∷ (of_two 0x20 (doubles 0 m0) (doubles 0 p_inf) gives ranged (doubles 0 m0))
    ∷ (of_two 0x21 (doubles m2 p2) (doubles m1 p1) gives ranged (doubles m1 p2))
    ∷ (of_two 0x21 (doubles 0 0) (doubles m0 m0) gives ranged (doubles 0 0))
    ∷ (of_two 0x21 (doubles m0 m0) (doubles 0 0) gives ranged (doubles 0 0))
    ∷ (of_two 0x21 (doubles m_inf m0) (doubles 0 m0) gives ranged (doubles 0 m0))
    -- fmod: by 1 to 2 below 2; what is smaller than the divisor stays; a divisor's range that ends at a zero, or goes across it; an infinite end
    ∷ (of_two 0x22 (doubles m_inf p1) (doubles p1 p2) gives refused 20)
    ∷ (of_two 0x22 (doubles m2 p1) (doubles p1 p2) gives ranged (doubles m2 p1))
    ∷ (of_two 0x22 (doubles 0xc059_0000_0000_0000 0x4059_0000_0000_0000) (doubles m2 m1) gives ranged (doubles m2 p2))
    ∷ (of_two 0x22 (doubles p1 p2) (doubles p1 p_inf) gives ranged (doubles 0 p2))
    ∷ (of_two 0x22 (doubles p1 p2) (doubles m1 p1) gives refused 20)
    ∷ (of_two 0x22 (doubles p1 p2) (doubles 0 p1) gives refused 20)
    ∷ (of_two 0x22 (doubles p1 p2) (doubles m1 m0) gives refused 20)
    -- ldexp: away from zero by the most, towards it by the least; refused where an end overflows or is infinite
    ∷ (of_two 0x23 (doubles m1 p1) (wholes (pos 0) (pos 1)) gives ranged (doubles m2 p2))
    ∷ (of_two 0x23 (doubles p1 p2) (wholes (negsuc 0) (pos 0)) gives ranged (doubles 0x3fe0_0000_0000_0000 p2))
    ∷ (of_two 0x23 (doubles p1 p1) (wholes (pos 0) (pos 1024)) gives refused 21)
    ∷ (of_two 0x23 (doubles p1 p_inf) (wholes (negsuc 0) (pos 0)) gives refused 21)
    -- remainder: -m to m, m being the divisor's greatest magnitude, or the dividend's; an infinite divisor; of zeros -0 to +0; an infinite end of the
    -- dividend; a divisor's range that goes across zero, or ends at one
    ∷ (of_two 0x24 (doubles 0xc059_0000_0000_0000 0x4059_0000_0000_0000) (doubles m2 m1) gives ranged (doubles m2 p2))
    ∷ (of_two 0x24 (doubles 0 p1) (doubles p1 p2) gives ranged (doubles m1 p1))
    ∷ (of_two 0x24 (doubles m2 p1) (doubles p1 p_inf) gives ranged (doubles m2 p2))
    ∷ (of_two 0x24 (doubles 0 m0) (doubles p1 p2) gives ranged (doubles m0 0))
    ∷ (of_two 0x24 (doubles m_inf p1) (doubles p1 p2) gives refused 20)
    ∷ (of_two 0x24 (doubles p1 p_inf) (doubles p1 p2) gives refused 20)
    ∷ (of_two 0x24 (doubles p1 p2) (doubles m1 p1) gives refused 20)
    ∷ (of_two 0x24 (doubles p1 p2) (doubles 0 p1) gives refused 20)
    ∷ (of_two 0x24 (doubles p1 p2) (doubles m1 m0) gives refused 20)
    -- whole sums and differences; 2^53 and one past it as doubles
    ∷ (of_two 0x30 (wholes (negsuc 2) (pos 5)) (wholes (pos 1) (pos 2)) gives ranged (wholes (negsuc 1) (pos 7)))
    ∷ (of_two 0x30 (wholes (pos 0) (pos 0x7fff_ffff_ffff_ffff)) (wholes (pos 0) (pos 1)) gives refused 21)
    ∷ (of_two 0x31 (wholes (pos 0) (pos 5)) (wholes (pos 0) (pos 5)) gives ranged (wholes (negsuc 4) (pos 5)))
    ∷ (of 0x32 (wholes (negsuc 0) (pos 0x20_0000_0000_0000)) gives ranged (doubles m1 0x4340_0000_0000_0000))
    ∷ (of 0x32 (wholes (pos 0) (pos 0x20_0000_0000_0001)) gives refused 22)
    -- add: low + low to high + high; opposites have the sum +0, and two -0 have -0; an infinite end of either operand, before an end that overflows; a low
    -- and a high end that overflow
    ∷ (of_two 0x40 (doubles m1 p1) (doubles p1 p2) gives ranged (doubles 0 0x4008_0000_0000_0000))
    ∷ (of_two 0x40 (doubles m0 m0) (doubles m0 0) gives ranged (doubles m0 0))
    ∷ (of_two 0x40 (doubles m_most p_inf) (doubles m_most p1) gives refused 20)
    ∷ (of_two 0x40 (doubles p1 p2) (doubles m_inf p1) gives refused 20)
    ∷ (of_two 0x40 (doubles m_most p1) (doubles m_most p1) gives refused 21)
    ∷ (of_two 0x40 (doubles p1 p_most) (doubles p1 p_most) gives refused 21)
    -- subtract: low - high to high - low; zeros; an infinite end; low - high overflows, where low - low does not
    ∷ (of_two 0x41 (doubles p1 p2) (doubles p1 p2) gives ranged (doubles m1 p1))
    ∷ (of_two 0x41 (doubles m0 0) (doubles 0 0) gives ranged (doubles m0 0))
    ∷ (of_two 0x41 (doubles p1 p2) (doubles p1 p_inf) gives refused 20)
    ∷ (of_two 0x41 (doubles m_most p1) (doubles m_most p_most) gives refused 21)
    -- multiply: low * high to low * low, and high * low to high * high; zeros of both signs, in whichever order the ends have them; an infinite end, also
    -- by zero; each of the four products overflows
    ∷ (of_two 0x42 (doubles m2 p1) (doubles m1 p2) gives ranged (doubles 0xc010_0000_0000_0000 p2))
    ∷ (of_two 0x42 (doubles p1 p2) (doubles m1 p2) gives ranged (doubles m2 0x4010_0000_0000_0000))
    ∷ (of_two 0x42 (doubles m0 0) (doubles p1 p1) gives ranged (doubles m0 0))
    ∷ (of_two 0x42 (doubles 0 m0) (doubles p1 p1) gives ranged (doubles m0 0))
    ∷ (of_two 0x42 (doubles m1 0) (doubles 0 p1) gives ranged (doubles m1 0))
    ∷ (of_two 0x42 (doubles 0 p_inf) (doubles 0 0) gives refused 20)
    ∷ (of_two 0x42 (doubles 0 0) (doubles m_inf 0) gives refused 20)
    ∷ (of_two 0x42 (doubles m2 p1) (doubles m_most p1) gives refused 21)
    ∷ (of_two 0x42 (doubles m2 p1) (doubles p1 p_most) gives refused 21)
    ∷ (of_two 0x42 (doubles p1 p2) (doubles m_most p1) gives refused 21)
    ∷ (of_two 0x42 (doubles p1 p2) (doubles p1 p_most) gives refused 21)
    ∷ []

pub range_corners : map (λ (c : Case). c.given) corners ≡ map (λ (c : Case). c.stated) corners
unfolding corners range_rule integral parts whole_part lround_refusal lround_value fmin fmax nearest rounded scaled ldexp ldexp_refusal sum difference product is_nan is_infinite is_zero quieted absolute negated magnitude encode above under size span climb
range_corners = refl

-- ---- remainder's values, which are not fmod's

abbrev remainder_of : ℕ → ℕ → Outcome
remainder_of x y = rule_of 0x24 0 0 x y (pos 0) (pos 0)

-- 5 by 3: 6 is nearer than 3; 1 by 2 and 3 by 2: of halves the even multiple is taken; -6 by 3: a zero has the dividend's sign; 1 by infinity; an
-- infinite dividend and a zero divisor are refused
pub remainder_values : remainder_of 0x4014_0000_0000_0000 0x4008_0000_0000_0000
    ∷ remainder_of p1 p2
    ∷ remainder_of 0x4008_0000_0000_0000 p2
    ∷ remainder_of 0xc018_0000_0000_0000 0x4008_0000_0000_0000
    ∷ remainder_of p1 m_inf
    ∷ remainder_of m_inf p1
    ∷ remainder_of p1 m0
    ∷ []
    ≡ done (double m1)
    ∷ done (double p1)
    ∷ done (double m1)
    ∷ done (double m0)
    ∷ done (double p1)
    ∷ value.refused 20
    ∷ value.refused 20
    ∷ []
unfolding rule_of remainder fmod_refusal parts is_nan is_infinite is_zero quieted magnitude encode size span climb
remainder_values = refl

-- ---- values of add, subtract and multiply

abbrev of_values : ℕ → ℕ → ℕ → Outcome
of_values opcode x y = rule_of opcode 0 0 x y (pos 0) (pos 0)

-- 1 + 2; opposites; -0 + -0; 1 + 2^-53, a half of the last place, which goes to the even 1, and the number after 1, which goes up; an infinite operand,
-- also where the other is its opposite; an infinite sum
pub add_values : of_values 0x40 p1 p2
    ∷ of_values 0x40 p1 m1
    ∷ of_values 0x40 m0 m0
    ∷ of_values 0x40 p1 0x3ca0_0000_0000_0000
    ∷ of_values 0x40 0x3ff0_0000_0000_0001 0x3ca0_0000_0000_0000
    ∷ of_values 0x40 p1 m_inf
    ∷ of_values 0x40 p_inf m_inf
    ∷ of_values 0x40 p_most p_most
    ∷ []
    ≡ done (double 0x4008_0000_0000_0000)
    ∷ done (double 0)
    ∷ done (double m0)
    ∷ done (double p1)
    ∷ done (double 0x3ff0_0000_0000_0002)
    ∷ value.refused 20
    ∷ value.refused 20
    ∷ value.refused 21
    ∷ []
unfolding rule_of sum rounded nearest parts encode magnitude above under is_infinite size span climb
add_values = refl

-- 1 - 2; equal numbers; -0 - +0; an infinite operand; an infinite difference
pub subtract_values : of_values 0x41 p1 p2
    ∷ of_values 0x41 p1 p1
    ∷ of_values 0x41 m0 0
    ∷ of_values 0x41 p_inf p_inf
    ∷ of_values 0x41 m_most p_most
    ∷ []
    ≡ done (double m1)
    ∷ done (double 0)
    ∷ done (double m0)
    ∷ value.refused 20
    ∷ value.refused 21
    ∷ []
unfolding rule_of sum difference rounded nearest parts encode magnitude above under negated is_infinite size span climb
subtract_values = refl

-- -2 by 2; -1 by +0; 2^-1074 by 1 / 2, which is half of the smallest number and goes to zero, and three times as much, which goes to the even 2; zero by
-- an infinity; an infinite product
pub multiply_values : of_values 0x42 m2 p2
    ∷ of_values 0x42 m1 0
    ∷ of_values 0x42 1 0x3fe0_0000_0000_0000
    ∷ of_values 0x42 3 0x3fe0_0000_0000_0000
    ∷ of_values 0x42 0 p_inf
    ∷ of_values 0x42 p_most m2
    ∷ []
    ≡ done (double 0xc010_0000_0000_0000)
    ∷ done (double m0)
    ∷ done (double 0)
    ∷ done (double 2)
    ∷ value.refused 20
    ∷ value.refused 21
    ∷ []
unfolding rule_of product rounded nearest parts encode magnitude above under is_infinite size span climb
multiply_values = refl
