-- `one` meets its contract. Assumes nothing.
use mathlib.Core.Path.{◌≡◌}
use Prim.Native.Nat.{◌*◌, ◌^◌}
use Rattle.float_format.specs.Number.{bias}
use native.Mathlib.Omega.{arith}
use Rattle.float_format.specs.Width.{format}
use Rattle.float_format.proofs.Sizes.{sizes}
use Rattle.float_format.proofs.field_sizes.one.Goals.{After-power}
use Rattle.float_format.proofs.field_sizes.one.Goals as goal

product : (c : After-power) → c.bias_of.result * c.power.result ≡ bias (format c.args.fraction c.args.exponent) * 2 ^ c.args.fraction
product c = rw (c.bias_of.ensures, c.power.ensures)

pub overflow_mul-result : goal.overflow_mul-result
overflow_mul-result c = rw (product (goal.at.overflow_mul-result c).After-power) (omega (arith, sizes (format c.args.fraction c.args.exponent) c.requires))

pub returns : goal.returns
returns c = product (goal.at.returns c).After-power
