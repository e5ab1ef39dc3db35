-- `difference` meets its contract: the sum with the second negated. Assumes nothing.
use mathlib.Core.Path.{ap, ◌∙◌}
use Rattle.arithmetic.specs.Arithmetic.{sum}
use Rattle.integer_arithmetic.proofs.Sums.{difference_is}
use Rattle.integer_arithmetic.proofs.difference.Goals as goal

pub returns : goal.returns
returns g c = c.sum.ensures ∙ ap (sum g.P.Pattern.format (g.P.Pattern.bits c.args.x)) c.negate.ensures ∙ difference_is g.P.Pattern.format (g.P.Pattern.bits c.args.x) (g.P.Pattern.bits c.args.y)
