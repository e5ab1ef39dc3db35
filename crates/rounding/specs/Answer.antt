-- What an answer of lround stands for: document 01's refusal number, 0 where there is none, and the number returned. Definitions only;
-- assumes nothing.
use Rattle.std.specs.Prelude.{ℕ, ℤ, pos, Result, Ok, Err}
use Rattle.float_format.specs.declared.Refusal.{Refusal}
use Rattle.float_format.specs.Refusals.{number_of}

abbrev pub refusal_of : Result ℤ Refusal → ℕ
refusal_of (Ok z) = 0
refusal_of (Err refusal) = number_of refusal

abbrev pub value_of : Result ℤ Refusal → ℤ
value_of (Ok z) = z
value_of (Err refusal) = pos 0
