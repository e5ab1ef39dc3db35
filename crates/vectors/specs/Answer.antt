-- What a case answers, by the rules that the functions' own contracts cite. Definitions only; assumes nothing.
use Rattle.std.specs.Prelude.{ℕ, ◌%◌, ◌^◌, cond, eqb, ℤ}
use Rattle.std.specs.Int.{w64}
use Rattle.std.proofs.Common.{of_z, to_z}
use Rattle.float_format.specs.Format.{Format, binary16, binary32, binary64, absolute, negated, classify, class_number}
use Rattle.float_format.specs.Rounding.{integral, lround_refusal, lround_value}
use Rattle.float_format.specs.declared.Direction.TheVariants.{Down, Up, TowardZero, HalfAway, HalfEven}
use Rattle.conversion.specs.Conversion.{converted, converted_refusal}
use Rattle.splitting.specs.Splitting.{modf_whole, modf_fraction}
use Rattle.scaling.specs.Scaling.{frexp_fraction, frexp_exponent, ldexp, ldexp_refusal}
use Rattle.remainder.specs.Remainder.{fmod, fmod_refusal}
use Rattle.nearest_remainder.specs.Nearest.{remainder, remquo_quotient}
use Rattle.ordering.specs.Ordering.{nextafter, nextafter_refusal, fmin, fmax}
use Rattle.vectors.specs.declared.case.Case.{Case}
use Rattle.vectors.specs.declared.answer.Answer.{Answer}

-- a refusal's number and two words
abbrev pub words : ℕ → ℕ → ℕ → Answer
words refusal first second = record { refusal = refusal; first = first; second = second }

-- to a line that is malformed, and to a function or a width that is not known
abbrev pub unknown_answer : Answer
unknown_answer = words 255 0 0

-- one word, and no refusal
abbrev pub pattern_answer : ℕ → Answer
pattern_answer x = words 0 x 0

-- a refusal, and the 64 bits of a signed number
abbrev pub whole_answer : ℕ → ℤ → Answer
whole_answer refusal z = words refusal (of_z w64 z) 0

-- A function by its number, at a format. The numbers are decimal here: 16 is a line's 10. First the nearest remainders; then the others that answer
-- with more than a word or take a second operand, which is the pattern y or the number n; then those of one.
unfoldable pub nearest_at : Format → ℕ → ℕ → ℕ → Answer
nearest_at f function x y =
    cond (eqb function 38) (words (fmod_refusal f x y) (remainder f x y) 0)
    (cond (eqb function 39) (words (fmod_refusal f x y) (remainder f x y) (of_z w64 (remquo_quotient f x y))) unknown_answer)

unfoldable pub further_at : Format → ℕ → ℕ → ℕ → ℤ → Answer
further_at f function x y n =
    cond (eqb function 21) (words 0 (modf_whole f x) (modf_fraction f x))
    (cond (eqb function 32) (pattern_answer (fmin f x y))
    (cond (eqb function 33) (pattern_answer (fmax f x y))
    (cond (eqb function 34) (words (fmod_refusal f x y) (fmod f x y) 0)
    (cond (eqb function 35) (words (ldexp_refusal f x n) (ldexp f x n) 0)
    (cond (eqb function 36) (words (nextafter_refusal f x y) (nextafter f x y) 0)
    (cond (eqb function 37) (words 0 (frexp_fraction f x) (of_z w64 (frexp_exponent f x))) (nearest_at f function x y)))))))

unfoldable pub answer_at : Format → ℕ → ℕ → ℕ → ℤ → Answer
answer_at f function x y n =
    cond (eqb function 16) (pattern_answer (integral f Down x))
    (cond (eqb function 17) (pattern_answer (integral f Up x))
    (cond (eqb function 18) (pattern_answer (integral f TowardZero x))
    (cond (eqb function 19) (pattern_answer (integral f HalfAway x))
    (cond (eqb function 20) (pattern_answer (integral f HalfEven x))
    (cond (eqb function 22) (pattern_answer (absolute f x))
    (cond (eqb function 23) (pattern_answer (negated f x))
    (cond (eqb function 24) (whole_answer (lround_refusal f x) (lround_value f x))
    (cond (eqb function 25) (pattern_answer (class_number (classify f x))) (further_at f function x y n)))))))))

-- of an f32 also its export to a half
unfoldable pub single_at : ℕ → ℕ → ℕ → ℤ → Answer
single_at function x y n =
    cond (eqb function 27) (words (converted_refusal binary32 binary16 x) (converted binary32 binary16 x) 0) (answer_at binary32 function x y n)

-- of a half the five roundings, and its import
unfoldable pub half_at : ℕ → ℕ → Answer
half_at function x =
    cond (eqb function 16) (pattern_answer (integral binary16 Down x))
    (cond (eqb function 17) (pattern_answer (integral binary16 Up x))
    (cond (eqb function 18) (pattern_answer (integral binary16 TowardZero x))
    (cond (eqb function 19) (pattern_answer (integral binary16 HalfAway x))
    (cond (eqb function 20) (pattern_answer (integral binary16 HalfEven x))
    (cond (eqb function 26) (pattern_answer (converted binary16 binary32 x)) unknown_answer)))))

-- the patterns of a case of 32 bits are taken modulo 2^32, those of 16 modulo 2^16
unfoldable pub answer_of : Case → Answer
answer_of c =
    cond (eqb c.width 64) (answer_at binary64 c.function c.x c.y (to_z w64 c.y))
    (cond (eqb c.width 32) (single_at c.function (c.x % 2 ^ 32) (c.y % 2 ^ 32) (to_z w64 c.y))
    (cond (eqb c.width 16) (half_at c.function (c.x % 2 ^ 16)) unknown_answer))
