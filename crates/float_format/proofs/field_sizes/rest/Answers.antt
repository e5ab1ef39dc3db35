-- `rest` meets its contract. Assumes nothing.
use Prim.Native.Nat.{◌+◌}
use native.Mathlib.Omega.{arith}
use lib.Bits.{and_mask}
use lib.Pow.{pow_pos}
use Rattle.float_format.proofs.field_sizes.rest.Goals as goal

pub overflow_sub-result : goal.overflow_sub-result
overflow_sub-result c = omega (arith, c.sign_bit.ensures, pow_pos (c.args.exponent + c.args.fraction))

pub returns : goal.returns
returns c = rw c.sign_bit.ensures (and_mask c.args.x (c.args.exponent + c.args.fraction))
