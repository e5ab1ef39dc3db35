-- What the reader's own functions answer: a line as they tell it, the checks of a step over its operands' kinds, and what they keep of the steps
-- before. `proofs/Known.antt` shows that the checks come to `step_refusal`. Definitions only; assumes nothing.
use Rattle.std.specs.Prelude.{Bool, false, not, ◌&&◌, ◌||◌, cond, ◌≡◌, List, ℕ, ◌≤◌, ◌<◌, leb, length, get_or}
use Rattle.recipe.specs.declared.Kind.{Kind}
use Rattle.recipe.specs.declared.Kind.TheVariants.{Double}
use Rattle.recipe.specs.declared.Row.{Row}
use Rattle.recipe.specs.declared.Row.TheVariants.{Unknown, Input, Constant, Unary, Binary}
use Rattle.recipe.specs.declared.Step.{Step}
use Rattle.recipe.specs.declared.Fault.{Fault}
use Rattle.recipe.specs.declared.Refusal.{Refusal}
use Rattle.recipe.specs.declared.Reading.{Reading}
use Rattle.recipe.specs.Fault.{number_of}
use Rattle.recipe.specs.Table.{is_input, same_kind}
use Rattle.recipe.specs.Text.{most_steps, Line, good, malformed, kind_at, inputs_in, is_unknown, unused_set, operand_ahead, bad_range}
use Rattle.std.specs.Prelude.{Option, Some, None, Result, Ok, Err}

-- a line, as the code's own type
abbrev pub told : Line → Option Step
told (good t) = Some t
told malformed = None

-- a refusal's number, 0 where there is none
abbrev pub refusal_number : Option Fault → ℕ
refusal_number None = 0
refusal_number (Some fault) = number_of fault

-- what is read, as the reader's answer
abbrev pub reading_of : Result ℕ Refusal → Reading
reading_of (Ok n) = record { count = n; refusal = 0; place = record { 0 = 0 } }
reading_of (Err r) = record { count = 0; refusal = number_of r.fault; place = r.place }

-- `wrong_kind` of the operands' kinds
abbrev pub wrong_kinds : Row → Kind → Kind → Bool
wrong_kinds Unknown a b = false
wrong_kinds (Input k) a b = false
wrong_kinds (Constant k) a b = false
wrong_kinds (Unary x k) a b = not (same_kind a x)
wrong_kinds (Binary x y k) a b = not (same_kind a x) || not (same_kind b y)

-- `step_refusal` of step n, after so many inputs, with the operands' kinds
unfoldable pub refusal_by : Row → Step → ℕ → ℕ → Kind → Kind → ℕ
refusal_by row t n inputs a b =
    cond (is_unknown row) 12
    (cond (unused_set row t) 13
    (cond (operand_ahead row n t) 14
    (cond (wrong_kinds row a b) 15
    (cond (bad_range row t) 16
    (cond (is_input row && leb 16 inputs) 17 0)))))

-- what is kept beside the n steps l read so far: how many are inputs, and each one's kind; past them, that of no step
pub record Known (l : List Step) (n inputs : ℕ) (kinds : List Kind) : Type 0 where
  pub counted : length l ≡ n
  pub room : n ≤ most_steps
  pub sized : length kinds ≡ most_steps
  pub inputs_so_far : inputs ≡ inputs_in l
  pub kinds_so_far : (k : ℕ) → k < most_steps → get_or kinds k Double ≡ kind_at l k
