-- `sum` meets its contract. Assumes nothing.
use Rattle.arithmetic.proofs.Laws.{sum_lt}
use Rattle.integer_arithmetic.proofs.sum.Goals as goal

pub sum_of-requires : goal.sum_of-requires
sum_of-requires g c = (c.to_word.ensures.1, c.to_word-2.ensures.1)

pub from_word-requires : goal.from_word-requires
from_word-requires g c = rw c.sum_of.ensures (sum_lt g.P.Pattern.format c.to_word.result c.to_word-2.result)

pub returns : goal.returns
returns g c = rw (c.from_word.ensures, c.sum_of.ensures, c.to_word.ensures.0, c.to_word-2.ensures.0)
