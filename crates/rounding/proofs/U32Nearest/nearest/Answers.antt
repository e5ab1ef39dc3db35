-- `round` of u32 meets its contract. Assumes nothing.
use native.Mathlib.Omega.{arith}
use Rattle.float_format.specs.Format.{binary32}
use Rattle.float_format.specs.declared.Direction.TheVariants.{HalfAway}
use Rattle.rounding.proofs.Directions.{not_finite_is}
use Rattle.rounding.proofs.U32Nearest.nearest.Goals as goal

pub returns : goal.returns
returns c = not_finite_is binary32 HalfAway c.args.self c.not_finite.result (omega arith) c.not_finite.ensures.0
