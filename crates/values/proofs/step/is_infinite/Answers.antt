-- `is_infinite` meets its contract. Assumes nothing.
use mathlib.Core.Path.{sym}
use Rattle.float_format.specs.Format.{binary64}
use Rattle.float_format.proofs.Patterns.{infinite_is}
use Rattle.values.proofs.step.is_infinite.Goals as goal

pub returns : goal.returns
returns c = rw (c.rest.ensures, c.infinity_of.ensures) (sym (infinite_is binary64 c.args.x))
