-- `floats::product` meets its contract: the language's own operation is ours. Assumes nothing.
use lib.Ieee as Ieee
use Rattle.arithmetic.proofs.Language.{readable, product_no_nan, product_bits}
use Rattle.cross_check.proofs.floats.product.Goals as goal

pub float_from_bits-result : goal.float_from_bits-result
float_from_bits-result c = readable Ieee.binary64 c.args.x c.args.y c.requires.0 c.requires.1

pub float_from_bits-result-2 : goal.float_from_bits-result-2
float_from_bits-result-2 c = readable Ieee.binary64 c.args.y c.args.x c.requires.1 c.requires.0

pub float_to_bits-result : goal.float_to_bits-result
float_to_bits-result c = product_no_nan Ieee.binary64 c.args.x c.args.y c.requires.0 c.requires.1

pub returns : goal.returns
returns c = product_bits Ieee.binary64 c.args.x c.args.y c.requires.0 c.requires.1
