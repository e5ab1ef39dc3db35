-- `cut` meets its contract. Assumes nothing.
use native.Mathlib.Nat.{mod-le}
use Rattle.rounding.proofs.cut.Goals as goal

pub overflow_sub-result : goal.overflow_sub-result
overflow_sub-result c = mod-le c.args.y c.args.unit
