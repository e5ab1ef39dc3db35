-- `input_total` meets its contract. The invariant is `Reading.Counting`. Assumes nothing.
use Prim.Native.Nat.{◌/◌}
use lib.ListN.{length}
use Rattle.frame.proofs.Reading.{Counting}
use Rattle.frame.proofs.input_total.Given as goal

abbrev pub invariant-loop-i : goal.invariant-loop-i
invariant-loop-i l = Counting l.steps.words.now (length l.steps.words.now / 3) l.next.0 l.i
