-- What the code's values, and what a step comes to, stand for. Definitions only; assumes nothing.
use Rattle.std.specs.Prelude.{ℕ, Result, Ok, Err}
use Rattle.std.specs.Float.{binary64}
use Rattle.std.specs.Float.Ieee.{to_bits}
use Rattle.values.specs.declared.Value.{Value}
use Rattle.values.specs.declared.Value.TheVariants.{Double, Whole}
use Rattle.values.specs.declared.Refusal.{Refusal}
use Rattle.values.specs.declared.Refusal.TheVariants.{Undefined, Overflow, Inexact}
use Rattle.semantics.specs.Value.{Datum, double, whole}
use Rattle.semantics.specs.Value as value

abbrev pub seen : Value → Datum
seen (Double x) = double (to_bits binary64 x.value)
seen (Whole z) = whole z

abbrev pub number_of : Refusal → ℕ
number_of Undefined = 20
number_of Overflow = 21
number_of Inexact = 22

abbrev pub outcome_of : Result Value Refusal → value.Outcome
outcome_of (Ok v) = value.done (seen v)
outcome_of (Err why) = value.refused (number_of why)
