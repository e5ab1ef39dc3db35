-- `infinity_of` meets its contract. Assumes nothing.
use mathlib.Core.Path.{◌≡◌}
use Prim.Native.Nat.{◌*◌}
use native.Mathlib.Omega.{arith}
use Rattle.float_format.specs.Format.{infinity}
use Rattle.float_format.specs.Width.{format}
use Rattle.float_format.proofs.Sizes.{sizes}
use Rattle.float_format.proofs.field_sizes.infinity_of.Goals.{After-power}
use Rattle.float_format.proofs.field_sizes.infinity_of.Goals as goal

product : (c : After-power) → c.top_field.result * c.power.result ≡ infinity (format c.args.fraction c.args.exponent)
product c = rw (c.top_field.ensures, c.power.ensures)

pub overflow_mul-result : goal.overflow_mul-result
overflow_mul-result c = rw (product (goal.at.overflow_mul-result c).After-power) (omega (arith, sizes (format c.args.fraction c.args.exponent) c.requires))

pub returns : goal.returns
returns c = product (goal.at.returns c).After-power
