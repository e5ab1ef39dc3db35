-- A recipe's text read to its steps, or turned down by the first fault: refusal 10, then line by line 11 to 17 (document 01, "Recipe
-- text" and "Turning text down"). Definitions only; assumes nothing.
use Rattle.std.specs.Prelude.{Bool, true, false, not, ◌&&◌, ◌||◌, cond, List, [], ◌∷◌, ◌++◌, ℕ, zero, suc, ◌+◌, ◌*◌, ◌/◌, ◌%◌, ltb, leb, eqb, length, get_or, Option, Some, None}
use Rattle.std.specs.Int.Signed.{le_z}
use Rattle.std.specs.Int.{w64}
use Rattle.std.proofs.Common.{to_z}
use Rattle.float_format.specs.Format.{binary64, is_nan}
use Rattle.float_format.specs.Number.{below}
use Rattle.hexadecimal.specs.Hex.{field_of}
use Rattle.recipe.specs.declared.Kind.{Kind}
use Rattle.recipe.specs.declared.Kind.TheVariants.{Double, Whole}
use Rattle.recipe.specs.declared.Row.{Row}
use Rattle.recipe.specs.declared.Row.TheVariants.{Unknown, Input, Constant, Unary, Binary}
use Rattle.recipe.specs.declared.Step.{Step}
use Rattle.recipe.specs.Table.{row_of, answer_kind, is_input, same_kind}

-- ---- the form of a text: how many digits name an operand, and how many lines it may have

pub record Form : Type 0 where
  pub operand : ℕ
  pub most : ℕ

-- the most steps that any form has
abbrev pub most_steps : ℕ
most_steps = 128

abbrev pub short : Form
short = record { operand = 2; most = most_steps }

-- opcode 2 digits, A, B, P 16, Q 16, a line feed: 39 bytes
abbrev pub line_length : Form → ℕ
line_length f = 35 + 2 * f.operand

-- the bytes of the longest text: 4,992
abbrev pub longest : Form → ℕ
longest f = f.most * line_length f

-- ---- a line's fields

pub data Line : Type 0 where
  good : Step → Line
  malformed : Line

abbrev pub step : ℕ → ℕ → ℕ → ℕ → ℕ → Step
step opcode a b p q = record { opcode = opcode; a = record { 0 = a }; b = record { 0 = b }; p = p; q = q }

unfoldable pub from_fields : Option ℕ → Option ℕ → Option ℕ → Option ℕ → Option ℕ → Bool → Line
from_fields (Some opcode) (Some a) (Some b) (Some p) (Some q) ended = cond ended (good (step opcode a b p q)) malformed
from_fields (Some opcode) (Some a) (Some b) (Some p) None ended = malformed
from_fields (Some opcode) (Some a) (Some b) None q ended = malformed
from_fields (Some opcode) (Some a) None p q ended = malformed
from_fields (Some opcode) None b p q ended = malformed
from_fields None a b p q ended = malformed

-- the line of the text s that starts at a byte; malformed is refusal 11
unfoldable pub line_at : Form → List ℕ → ℕ → Line
line_at f s at =
    let o = f.operand in
    from_fields
    (field_of s at 2 0)
    (field_of s (at + 2) o 0)
    (field_of s (at + 2 + o) o 0)
    (field_of s (at + 2 + 2 * o) 16 0)
    (field_of s (at + 18 + 2 * o) 16 0)
    (eqb (get_or s (at + 34 + 2 * o) 0) 10)

-- ---- what a step is refused for, after the steps l

abbrev pub first : Step → ℕ
first t = t.a.0

abbrev pub second : Step → ℕ
second t = t.b.0

-- the start element: what a place past the steps holds
abbrev pub no_step : Step
no_step = step 0 0 0 0 0

abbrev pub kind_of : Step → Kind
kind_of t = answer_kind (row_of t.opcode)

abbrev pub kind_at : List Step → ℕ → Kind
kind_at l k = kind_of (get_or l k no_step)

-- refusal 13: an unused field not zero
abbrev pub unused_set : Row → Step → Bool
unused_set Unknown t = false
unused_set (Input k) t = not (eqb (first t) 0) || not (eqb (second t) 0)
unused_set (Constant k) t = not (eqb (first t) 0) || not (eqb (second t) 0) || not (eqb t.q 0)
unused_set (Unary a k) t = not (eqb (second t) 0) || not (eqb t.p 0) || not (eqb t.q 0)
unused_set (Binary a b k) t = not (eqb t.p 0) || not (eqb t.q 0)

-- refusal 14: an operand, where used, not below the step's own number n
abbrev pub operand_ahead : Row → ℕ → Step → Bool
operand_ahead Unknown n t = false
operand_ahead (Input k) n t = false
operand_ahead (Constant k) n t = false
operand_ahead (Unary a k) n t = leb n (first t)
operand_ahead (Binary a b k) n t = leb n (first t) || leb n (second t)

-- refusal 15: an operand of the wrong kind
abbrev pub wrong_kind : Row → List Step → Step → Bool
wrong_kind Unknown l t = false
wrong_kind (Input k) l t = false
wrong_kind (Constant k) l t = false
wrong_kind (Unary a k) l t = not (same_kind (kind_at l (first t)) a)
wrong_kind (Binary a b k) l t = not (same_kind (kind_at l (first t)) a) || not (same_kind (kind_at l (second t)) b)

-- p's number is above q's
abbrev pub double_above : ℕ → ℕ → Bool
double_above p q = below binary64 q p

abbrev pub whole_above : ℕ → ℕ → Bool
whole_above p q = not (le_z (to_z w64 p) (to_z w64 q))

-- refusal 16: P or Q a NaN in a double input or constant, or an input with P above Q
abbrev pub bad_range : Row → Step → Bool
bad_range Unknown t = false
bad_range (Input Double) t = is_nan binary64 t.p || is_nan binary64 t.q || double_above t.p t.q
bad_range (Input Whole) t = whole_above t.p t.q
bad_range (Constant Double) t = is_nan binary64 t.p
bad_range (Constant Whole) t = false
bad_range (Unary a k) t = false
bad_range (Binary a b k) t = false

-- how many of the steps are inputs
unfoldable pub inputs_in : List Step → ℕ
inputs_in [] = 0
inputs_in (t ∷ l) = cond (is_input (row_of t.opcode)) 1 0 + inputs_in l

abbrev pub is_unknown : Row → Bool
is_unknown Unknown = true
is_unknown (Input k) = false
is_unknown (Constant k) = false
is_unknown (Unary a k) = false
is_unknown (Binary a b k) = false

-- the refusal's number, 0 where there is none: 12 opcode not in the table, 13 to 16 as above, 17 a seventeenth input
unfoldable pub step_refusal : List Step → Step → ℕ
step_refusal l t =
    let row = row_of t.opcode in
    cond (is_unknown row) 12
    (cond (unused_set row t) 13
    (cond (operand_ahead row (length l) t) 14
    (cond (wrong_kind row l t) 15
    (cond (bad_range row t) 16
    (cond (is_input row && leb 16 (inputs_in l)) 17 0)))))

-- ---- the text

-- the steps, or a refusal's number and place
pub data Text : Type 0 where
  steps : List Step → Text
  refused : ℕ → ℕ → Text

-- what a line comes to after the steps l
pub data Next : Type 0 where
  added : Step → Next
  stopped : ℕ → Next

unfoldable pub judged : List Step → Step → ℕ → Next
judged l t zero = added t
judged l t (suc n) = stopped (suc n)

unfoldable pub next_of : List Step → Line → Next
next_of l (good t) = judged l t (step_refusal l t)
next_of l malformed = stopped 11

unfoldable pub on_next : Next → ℕ → (Step → Text) → Text
on_next (added t) k more = more t
on_next (stopped number) k more = refused number k

-- n more lines, from line k, after the steps l
unfoldable pub read_from : Form → List ℕ → ℕ → ℕ → List Step → Text
read_from f s zero k l = steps l
read_from f s (suc n) k l = on_next (next_of l (line_at f s (k * line_length f))) k (λ t. read_from f s n (suc k) (l ++ (t ∷ [])))

-- refusal 10: no line, not whole lines, or too many
abbrev pub bad_length : Form → ℕ → Bool
bad_length f n = eqb n 0 || not (eqb (n % line_length f) 0) || ltb (longest f) n

unfoldable pub read_text : Form → List ℕ → Text
read_text f s = cond (bad_length f (length s)) (refused 10 0) (read_from f s (length s / line_length f) 0 [])
