-- The numbers of the refusals of functions (document 01, "Function rules"). Definitions only; assumes nothing.
use Rattle.std.specs.Prelude.{ℕ, Option, None, Some}
use Rattle.float_format.specs.declared.Refusal.{Refusal}
use Rattle.float_format.specs.declared.Refusal.TheVariants.{NotANumber, Undefined, OutOfRange}

abbrev pub number_of : Refusal → ℕ
number_of NotANumber = 1
number_of Undefined = 2
number_of OutOfRange = 3

-- 0 where there is none
abbrev pub refusal_number : Option Refusal → ℕ
refusal_number (Some refusal) = number_of refusal
refusal_number None = 0
