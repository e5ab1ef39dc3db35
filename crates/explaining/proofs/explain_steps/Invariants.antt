-- `explain_steps` meets its contract. The loop's invariant is `Folding.Walked`: the explanation comes to what is left of it after the ranges so
-- far. Assumes nothing.
use Prim.Native.Nat.{◌/◌}
use lib.ListN.{length}
use Rattle.ranges.proofs.Folding.{Walked}
use Rattle.explaining.specs.Packed.{all, stopped}
use Rattle.explaining.proofs.explain_steps.Given as goal

abbrev pub invariant-loop-i : goal.invariant-loop-i
invariant-loop-i l = Walked all stopped l.steps.words.now (length l.steps.words.now / 3) l.ranges l.i
