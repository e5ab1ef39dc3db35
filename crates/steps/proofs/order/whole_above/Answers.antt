-- `whole_above` meets its contract: the distances from the smallest compare as the numbers do. Assumes nothing.
use native.Mathlib.Omega.{arith}
use Rattle.steps.proofs.Compare.{biased_test}
use Rattle.steps.proofs.order.whole_above.Goals as goal

pub returns : goal.returns
returns c =
    let a = c.args in
    rw (c.above_least.ensures, c.above_least-2.ensures) (biased_test a.p a.q (omega arith) (omega arith))
