-- `check_ranges` meets its contract. The invariant is `Reading.Checking`. Assumes nothing.
use Prim.Native.Nat.{◌/◌}
use lib.ListN.{length}
use Rattle.frame.proofs.Reading.{Checking}
use Rattle.frame.proofs.check_ranges.Given as goal

abbrev pub invariant-loop-i : goal.invariant-loop-i
invariant-loop-i l = Checking l.steps.words.now (length l.steps.words.now / 3) l.inputs l.next.0 l.i
