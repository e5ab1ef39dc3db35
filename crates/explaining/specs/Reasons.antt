-- What the pieces of a step's reason cite. Definitions only; assumes nothing.
use Rattle.std.specs.Prelude.{◌≡◌, Bool, true, false, List, ℕ, Option, Some, None}
use Rattle.explaining.specs.declared.causes.Reason.{Reason}
use Rattle.recipe.specs.declared.Step.{Step}
use Rattle.semantics.specs.Value.{Outcome, done, refused}
use Rattle.semantics.specs.Cause.{Cause, first_cause, operand_in, code_in}

-- o and c are the operand and the code of the first of the causes l of the step t that holds, 0 where none does
abbrev pub Tells : Step → List Cause → ℕ → ℕ → Type 0
Tells t l o c = (o ≡ operand_in t (first_cause l)) × (c ≡ code_in (first_cause l))

abbrev pub is_refused : Outcome → Bool
is_refused (done v) = false
is_refused (refused number) = true

-- the operand and the code of a reason, 0 where there is none
abbrev pub operand_told : Option Reason → ℕ
operand_told (Some r) = r.operand.0
operand_told None = 0

abbrev pub code_told : Option Reason → ℕ
code_told (Some r) = r.code
code_told None = 0
