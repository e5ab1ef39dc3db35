-- `fabs` meets its contract. Assumes nothing.
use Rattle.float_format.specs.Format.{absolute}
use Rattle.float_format.proofs.Pattern.fabs.Goals as goal

pub returns : goal.returns
unfolding absolute
returns g c = rw (c.from_word.ensures, c.rest.ensures, c.to_word.ensures.0)
