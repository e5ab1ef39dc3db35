-- `earlier` meets its contract: the lesser pattern comes first, unless the greater has a minus sign. Assumes nothing.
use native.Mathlib.Omega.{arith}
use Rattle.ordering.proofs.Firsts.{earlier_plus, earlier_minus}
use Rattle.ordering.proofs.earlier.Goals as goal

pub returns-then-high-sign : goal.returns-then-high-sign
returns-then-high-sign g c =
    earlier_plus g.P.Pattern.format c.args.x c.args.y c.requires.first c.requires.second _ _ c.min-low.ensures c.max-high.ensures
    (omega (arith, c.if-high-sign.true, c.sign_bit-sign.ensures))

pub returns-else-high-sign : goal.returns-else-high-sign
returns-else-high-sign g c =
    earlier_minus g.P.Pattern.format c.args.x c.args.y c.requires.first c.requires.second _ _ c.min-low.ensures c.max-high.ensures
    (omega (arith, c.if-high-sign.false, c.sign_bit-sign.ensures))
