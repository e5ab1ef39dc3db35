-- `picked` meets its contract. Assumes nothing.
use mathlib.Core.Path.{refl}
use mathlib.Core.Logic.{inl, inr}
use native.Mathlib.Omega.{arith}
use Rattle.integer_arithmetic.proofs.picked.Goals as goal

pub returns-then-a-b : goal.returns-then-a-b
returns-then-a-b c = inl (c.if-a-b.true, refl)

pub returns : goal.returns
returns c = inr (omega (arith, c.if-a-b.false), refl)
