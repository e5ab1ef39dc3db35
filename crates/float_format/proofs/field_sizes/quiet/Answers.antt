-- `quiet` meets its contract. Assumes nothing.
use mathlib.Core.Path.{◌≡◌, ap}
use lib.Bits.{bit_or}
use Rattle.float_format.specs.Format.{quieted}
use Rattle.float_format.specs.Width.{format}
use Rattle.float_format.proofs.Integral.{quieted_lt}
use Rattle.float_format.proofs.field_sizes.quiet.Goals.{After-power}
use Rattle.float_format.proofs.field_sizes.quiet.Goals as goal

is : (c : After-power) → bit_or c.args.x c.power.result ≡ quieted (format c.args.fraction c.args.exponent) c.args.x
unfolding quieted
is c = ap (bit_or c.args.x) c.power.ensures

pub returns : goal.returns
returns c = (is (goal.at.returns c).After-power, rw (is (goal.at.returns c).After-power) (quieted_lt (format c.args.fraction c.args.exponent) c.args.x c.requires.0.valid c.requires.1))
