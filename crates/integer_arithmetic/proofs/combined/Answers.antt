-- `combined` meets its contract. Assumes nothing.
use mathlib.Core.Path.{refl}
use mathlib.Core.Logic.{inl, inr}
use Rattle.integer_arithmetic.proofs.combined.Goals as goal

pub returns-then-zero-other : goal.returns-then-zero-other
returns-then-zero-other c = inl (c.if-zero-other.true, refl)

pub returns : goal.returns
returns c = inr (c.if-zero-other.false, refl)
