-- A step's value as a float carries it. The logic of the language has one NaN and no payloads, so that a float carries the pattern of a number
-- unchanged, and of a NaN none. Definitions only; assumes nothing.
use Rattle.std.specs.Prelude.{cond, ℕ}
use Rattle.float_format.specs.Format.{binary64, is_nan}
use Rattle.semantics.specs.Value.{Datum, double, whole, Outcome, done, refused}

-- +0 would stand for a NaN, and does for none: of steps that were read, on a frame that was, no value is one (`run_real`)
abbrev pub real : ℕ → Datum
real x = double (cond (is_nan binary64 x) 0 x)

abbrev pub carried_value : Datum → Datum
carried_value (double x) = real x
carried_value (whole z) = whole z

abbrev pub carried : Outcome → Outcome
carried (done v) = done (carried_value v)
carried (refused number) = refused number
