-- `product` meets its contract. Asproductes nothing.
use Rattle.arithmetic.proofs.Laws.{product_lt}
use Rattle.integer_arithmetic.proofs.product.Goals as goal

pub product_of-requires : goal.product_of-requires
product_of-requires g c = (c.to_word.ensures.1, c.to_word-2.ensures.1)

pub from_word-requires : goal.from_word-requires
from_word-requires g c = rw c.product_of.ensures (product_lt g.P.Pattern.format c.to_word.result c.to_word-2.result)

pub returns : goal.returns
returns g c = rw (c.from_word.ensures, c.product_of.ensures, c.to_word.ensures.0, c.to_word-2.ensures.0)
