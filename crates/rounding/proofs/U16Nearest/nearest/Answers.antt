-- `round` of u16 meets its contract. Assumes nothing.
use native.Mathlib.Omega.{arith}
use Rattle.float_format.specs.Format.{binary16}
use Rattle.float_format.specs.declared.Direction.TheVariants.{HalfAway}
use Rattle.rounding.proofs.Directions.{not_finite_is}
use Rattle.rounding.proofs.U16Nearest.nearest.Goals as goal

pub returns : goal.returns
returns c = not_finite_is binary16 HalfAway c.args.self c.not_finite.result (omega arith) c.not_finite.ensures.0
