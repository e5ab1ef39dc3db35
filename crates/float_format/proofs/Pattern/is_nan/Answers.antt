-- `is_nan` meets its contract. Assumes nothing.
use mathlib.Core.Path.{sym}
use Rattle.float_format.proofs.Patterns.{nan_is}
use Rattle.float_format.proofs.Pattern.is_nan.Goals as goal

pub returns : goal.returns
returns g c = rw (c.rest.ensures, c.infinity_of.ensures, c.to_word.ensures.0) (sym (nan_is g.Self.Pattern.format (g.Self.Pattern.bits c.args.self)))
