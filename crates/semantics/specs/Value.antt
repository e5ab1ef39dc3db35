-- A step's value from its operands' values, and refusals 20 to 22 (document 01, "Recipe text" and "The terms of demand 3"; steps 24 and 40 to 42:
-- document 02, W-204 and W-208). Definitions only; assumes nothing.
use Rattle.std.specs.Prelude.{Bool, not, ◌||◌, cond, ℕ, ◌*◌, ◌^◌, ltb, leb, eqb, ℤ, pos, nat_abs, ◌+ℤ◌, ◌-ℤ◌}
use Rattle.std.specs.Int.Signed.{mag, non_neg}
use Rattle.std.specs.Int.{w64}
use Rattle.std.proofs.Common.{to_z, of_z}
use Rattle.float_format.specs.Format.{binary64, is_infinite, signed, absolute, negated}
use Rattle.float_format.specs.Number.{encode, one}
use Rattle.float_format.specs.Rounding.{integral, lround_refusal, lround_value}
use Rattle.float_format.specs.declared.Direction.TheVariants.{Down, Up, TowardZero, HalfAway, HalfEven}
use Rattle.splitting.specs.Splitting.{modf_fraction}
use Rattle.ordering.specs.Ordering.{fmin, fmax}
use Rattle.remainder.specs.Remainder.{fmod, fmod_refusal}
use Rattle.nearest_remainder.specs.Nearest.{remainder}
use Rattle.arithmetic.specs.Arithmetic.{sum, difference, product}
use Rattle.scaling.specs.Scaling.{ldexp, ldexp_refusal}
use Rattle.recipe.specs.declared.Kind.{Kind}
use Rattle.recipe.specs.declared.Kind.TheVariants.{Double, Whole}
use Rattle.recipe.specs.declared.Step.{Step}

-- ---- values

-- a double, by its pattern, or a whole number
pub data Datum : Type 0 where
  double : ℕ → Datum
  whole : ℤ → Datum

abbrev pub kind_of : Datum → Kind
kind_of (double x) = Double
kind_of (whole z) = Whole

-- a value's 64 bits
abbrev pub word_of : Datum → ℕ
word_of (double x) = x
word_of (whole z) = of_z w64 z

-- an operand as a double's pattern, and as a whole number; a step that was read has operands of the right kinds, and one of another
-- would count as zero
abbrev pub as_double : Datum → ℕ
as_double (double x) = x
as_double (whole z) = 0

abbrev pub as_whole : Datum → ℤ
as_whole (double x) = pos 0
as_whole (whole z) = z

-- ---- the step rules

-- a value, or a refusal's number
pub data Outcome : Type 0 where
  done : Datum → Outcome
  refused : ℕ → Outcome

-- -2^63 to 2^63 - 1
abbrev pub fits_word : ℤ → Bool
fits_word z = ltb (mag z) (2 ^ 63)

-- the double of a whole number that is small enough to have one
abbrev pub of_whole : ℤ → ℕ
of_whole z = signed binary64 (not (non_neg z)) (encode 52 (nat_abs z * one binary64))

-- 40 to 42, of the operands x and y and the answer r: refused for an infinite operand, then for an infinite answer
abbrev pub worked : ℕ → ℕ → ℕ → Outcome
worked x y r = cond (is_infinite binary64 x || is_infinite binary64 y) (refused 20) (cond (is_infinite binary64 r) (refused 21) (done (double r)))

-- by the opcode: p is the step's P, w the frame's word for it where it is an input, x and y its operands as doubles, m and n as whole
-- numbers
unfoldable pub rule_of : ℕ → ℕ → ℕ → ℕ → ℕ → ℤ → ℤ → Outcome
rule_of opcode p w x y m n =
    cond (eqb opcode 0x01) (done (double w))
    (cond (eqb opcode 0x02) (done (whole (to_z w64 w)))
    (cond (eqb opcode 0x03) (done (double p))
    (cond (eqb opcode 0x04) (done (whole (to_z w64 p)))
    (cond (eqb opcode 0x10) (done (double (integral binary64 Down x)))
    (cond (eqb opcode 0x11) (done (double (integral binary64 Up x)))
    (cond (eqb opcode 0x12) (done (double (integral binary64 TowardZero x)))
    (cond (eqb opcode 0x13) (done (double (integral binary64 HalfAway x)))
    (cond (eqb opcode 0x14) (done (double (integral binary64 HalfEven x)))
    (cond (eqb opcode 0x15) (done (double (modf_fraction binary64 x)))
    (cond (eqb opcode 0x16) (done (double (absolute binary64 x)))
    (cond (eqb opcode 0x17) (done (double (negated binary64 x)))
    (cond (eqb opcode 0x18) (cond (eqb (lround_refusal binary64 x) 0) (done (whole (lround_value binary64 x))) (refused 21))
    (cond (eqb opcode 0x20) (done (double (fmin binary64 x y)))
    (cond (eqb opcode 0x21) (done (double (fmax binary64 x y)))
    (cond (eqb opcode 0x22) (cond (eqb (fmod_refusal binary64 x y) 0) (done (double (fmod binary64 x y))) (refused 20))
    (cond (eqb opcode 0x23) (cond (eqb (ldexp_refusal binary64 x n) 0) (done (double (ldexp binary64 x n))) (refused 21))
    (cond (eqb opcode 0x24) (cond (eqb (fmod_refusal binary64 x y) 0) (done (double (remainder binary64 x y))) (refused 20))
    (cond (eqb opcode 0x30) (cond (fits_word (m +ℤ n)) (done (whole (m +ℤ n))) (refused 21))
    (cond (eqb opcode 0x31) (cond (fits_word (m -ℤ n)) (done (whole (m -ℤ n))) (refused 21))
    (cond (eqb opcode 0x32) (cond (leb (nat_abs m) (2 ^ 53)) (done (double (of_whole m))) (refused 22))
    (cond (eqb opcode 0x40) (worked x y (sum binary64 x y))
    (cond (eqb opcode 0x41) (worked x y (difference binary64 x y))
    (cond (eqb opcode 0x42) (worked x y (product binary64 x y))
    (done (whole (pos 0))))))))))))))))))))))))))

-- a step t's value, a and b being its operands' values
unfoldable pub step_value : Step → ℕ → Datum → Datum → Outcome
step_value t w a b = rule_of t.opcode t.p w (as_double a) (as_double b) (as_whole a) (as_whole b)
