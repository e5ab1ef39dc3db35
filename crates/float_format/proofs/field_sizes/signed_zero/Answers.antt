-- `signed_zero` meets its contract. Assumes nothing.
use native.Mathlib.Nat.{mod-le}
use Rattle.float_format.specs.Format.{sign_bit}
use Rattle.float_format.specs.Width.{format}
use Rattle.float_format.proofs.field_sizes.signed_zero.Goals as goal

pub overflow_sub-result : goal.overflow_sub-result
overflow_sub-result c = rw c.rest.ensures (mod-le c.args.x (sign_bit (format c.args.fraction c.args.exponent)))
