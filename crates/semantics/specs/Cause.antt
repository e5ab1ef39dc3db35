-- Why a step is turned down: for each opcode the facts that the sheet refuses it for, in the order of their codes (document 02, W-205, and W-208 for
-- steps 40 to 42). Definitions only; assumes nothing.
use Rattle.std.specs.Prelude.{Bool, true, false, not, ◌||◌, cond, List, [], ◌∷◌, ℕ, ◌^◌, eqb, leb, ℤ, nat_abs, ◌+ℤ◌, ◌-ℤ◌}
use Rattle.float_format.specs.Format.{binary64, is_infinite}
use Rattle.float_format.specs.Rounding.{lround_refusal}
use Rattle.scaling.specs.Scaling.{ldexp_refusal}
use Rattle.recipe.specs.declared.Step.{Step}
use Rattle.recipe.specs.Text.{first, second}
use Rattle.semantics.specs.Value.{fits_word}
use Rattle.semantics.specs.Range.{Range, low, high, least, most, holds_zero, low_power, high_power, sum_low, sum_high, difference_low, difference_high, product_low, product_high}

-- which operand a code names
pub data Named : Type 0 where
  of_a : Named
  of_b : Named

-- a code, the operand that it names, the refusal's number, and whether its fact is true of the operands' ranges
pub record Cause : Type 0 where
  pub code : ℕ
  pub names : Named
  pub number : ℕ
  pub holds : Bool

abbrev pub cause : ℕ → Named → ℕ → Bool → Cause
cause code names number fact = record { code = code; names = names; number = number; holds = fact }

-- ---- the facts

abbrev pub no_lround : ℕ → Bool
no_lround x = not (eqb (lround_refusal binary64 x) 0)

abbrev pub overflows : ℕ → ℤ → Bool
overflows x n = not (eqb (ldexp_refusal binary64 x n) 0)

abbrev pub too_wide : ℤ → Bool
too_wide z = not (fits_word z)

abbrev pub too_big : ℤ → Bool
too_big z = not (leb (nat_abs z) (2 ^ 53))

-- ---- by the opcode, a and b being the operands' ranges

-- 22; step 24 shares them
abbrev pub remainder_causes : Range → Range → List Cause
remainder_causes a b =
    cause 0x01 of_b 20 (holds_zero b)
    ∷ cause 0x02 of_a 20 (is_infinite binary64 (low a))
    ∷ cause 0x03 of_a 20 (is_infinite binary64 (high a))
    ∷ []

-- 18
abbrev pub lround_causes : Range → List Cause
lround_causes a = cause 0x04 of_a 21 (no_lround (low a)) ∷ cause 0x05 of_a 21 (no_lround (high a)) ∷ []

-- 30, 31: the answer's ends
abbrev pub whole_causes : ℤ → ℤ → List Cause
whole_causes l h = cause 0x06 of_a 21 (too_wide l) ∷ cause 0x07 of_a 21 (too_wide h) ∷ []

-- 23
abbrev pub ldexp_causes : Range → Range → List Cause
ldexp_causes a b =
    cause 0x08 of_a 21 (is_infinite binary64 (low a))
    ∷ cause 0x09 of_a 21 (is_infinite binary64 (high a))
    ∷ cause 0x0a of_a 21 (overflows (low a) (low_power a b))
    ∷ cause 0x0b of_a 21 (overflows (high a) (high_power a b))
    ∷ []

-- 32
abbrev pub double_causes : Range → List Cause
double_causes a = cause 0x0c of_a 22 (too_big (least a)) ∷ cause 0x0d of_a 22 (too_big (most a)) ∷ []

-- 40 to 42, the answer's ends being l and h
abbrev pub arithmetic_causes : Range → Range → ℕ → ℕ → List Cause
arithmetic_causes a b l h =
    cause 0x0e of_a 20 (is_infinite binary64 (low a))
    ∷ cause 0x0f of_a 20 (is_infinite binary64 (high a))
    ∷ cause 0x10 of_b 20 (is_infinite binary64 (low b))
    ∷ cause 0x11 of_b 20 (is_infinite binary64 (high b))
    ∷ cause 0x12 of_a 21 (is_infinite binary64 l)
    ∷ cause 0x13 of_a 21 (is_infinite binary64 h)
    ∷ []

-- every other opcode is turned down for nothing
unfoldable pub causes_of : ℕ → Range → Range → List Cause
causes_of opcode a b =
    cond (eqb opcode 0x18) (lround_causes a)
    (cond (eqb opcode 0x22 || eqb opcode 0x24) (remainder_causes a b)
    (cond (eqb opcode 0x23) (ldexp_causes a b)
    (cond (eqb opcode 0x30) (whole_causes (least a +ℤ least b) (most a +ℤ most b))
    (cond (eqb opcode 0x31) (whole_causes (least a -ℤ most b) (most a -ℤ least b))
    (cond (eqb opcode 0x32) (double_causes a)
    (cond (eqb opcode 0x40) (arithmetic_causes a b (sum_low a b) (sum_high a b))
    (cond (eqb opcode 0x41) (arithmetic_causes a b (difference_low a b) (difference_high a b))
    (cond (eqb opcode 0x42) (arithmetic_causes a b (product_low a b) (product_high a b))
    []))))))))

-- ---- the first that holds

pub data Found : Type 0 where
  none : Found
  found : Cause → Found

unfoldable pub first_cause : List Cause → Found
first_cause [] = none
first_cause (c ∷ l) = elim c.holds [ true ↦ found c | false ↦ first_cause l ]

-- of a step t, a and b being its operands' ranges
unfoldable pub cause_of : Step → Range → Range → Found
cause_of t a b = first_cause (causes_of t.opcode a b)

-- the step that an operand of t is
abbrev pub operand_of : Step → Named → ℕ
operand_of t of_a = first t
operand_of t of_b = second t

-- what is told of it: the operand's step and the code, 0 where there is none
abbrev pub operand_in : Step → Found → ℕ
operand_in t none = 0
operand_in t (found c) = operand_of t c.names

abbrev pub code_in : Found → ℕ
code_in none = 0
code_in (found c) = c.code
