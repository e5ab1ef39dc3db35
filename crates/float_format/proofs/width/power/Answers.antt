-- `power` meets its contract. Assumes nothing.
use native.Mathlib.Omega.{arith}
use lib.Pow.{pow-lt}
use Rattle.float_format.proofs.width.power.Goals as goal

pub returns : goal.returns
returns c = omega (arith, pow-lt {j = 64} c.requires)
