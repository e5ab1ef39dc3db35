-- The numbers of what a text is turned down for (document 01, "Turning text down"). Definitions only; assumes nothing.
use Rattle.std.specs.Prelude.{ℕ}
use Rattle.recipe.specs.declared.Fault.{Fault}
use Rattle.recipe.specs.declared.Fault.TheVariants.{Length, Malformed, UnknownOpcode, UnusedField, OperandAhead, WrongKind, BadRange, TooManyInputs}

abbrev pub number_of : Fault → ℕ
number_of Length = 10
number_of Malformed = 11
number_of UnknownOpcode = 12
number_of UnusedField = 13
number_of OperandAhead = 14
number_of WrongKind = 15
number_of BadRange = 16
number_of TooManyInputs = 17
