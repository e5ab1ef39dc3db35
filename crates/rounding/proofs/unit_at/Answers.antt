-- `unit_at` meets its contract: the two arms are the two cases of `fraction_shift`. Assumes nothing.
use native.Mathlib.Omega.{arith}
use borrow.Author.Tests.{lt-ltb, le-ltb}
use Rattle.float_format.proofs.Sizes.{sizes}
use Rattle.rounding.proofs.unit_at.Goals as goal

pub overflow_add-whole : goal.overflow_add-whole
overflow_add-whole g c = omega (arith, sizes g.P.Pattern.format g.met.P.Pattern.fits, c.fraction_bits.ensures, c.bias_of.ensures)

pub returns-then-e-whole : goal.returns-then-e-whole
returns-then-e-whole g c = rw (c.power.ensures, c.bias_of.ensures, c.fraction_bits.ensures, lt-ltb _ _ (rw (c.bias_of.ensures, c.fraction_bits.ensures) at c.if-e-whole.true))

pub returns-else-e-whole : goal.returns-else-e-whole
returns-else-e-whole g c = rw (c.power-else-e-whole.ensures, le-ltb _ _ (rw (c.bias_of.ensures, c.fraction_bits.ensures) at c.if-e-whole.false))
