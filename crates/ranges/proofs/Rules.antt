-- A range rule at an arm's opcode, as floats carry it. Assumes nothing.
use mathlib.Core.Path.{◌≡◌}
use Prim.Native.Nat.{ℕ}
use Rattle.recipe.specs.declared.Step.{Step}
use Rattle.semantics.specs.Range.{Range, range_rule, step_range}
use Rattle.ranges.specs.Carried.{carried}

-- in an arm, the opcode is the arm's number
pub bounded : (t : Step) (a b : Range) {k : ℕ} → t.opcode ≡ k → carried (range_rule k t.p t.q a b) ≡ carried (step_range t a b)
unfolding step_range
bounded t a b e = rw e
