-- `double_above` meets its contract: ranks compare as the numbers do. Assumes nothing.
use Rattle.steps.proofs.Compare.{rank_test}
use Rattle.steps.proofs.order.double_above.Goals as goal

pub returns : goal.returns
returns c = rw (c.rank.ensures, c.rank-2.ensures) (rank_test _ _)
