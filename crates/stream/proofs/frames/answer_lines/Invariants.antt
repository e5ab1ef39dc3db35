-- `answer_lines` meets its contract. The invariant is `Going`: the lines from the start up to a place are answered in the first bytes of the
-- output. The measure is what is left of the bytes. Assumes nothing.
use Prim.Native.Nat.{◌-◌}
use lib.ListN.{length}
use Rattle.stream.proofs.Answering.{Going}
use Rattle.stream.proofs.frames.answer_lines.Given as goal

abbrev pub invariant-loop-out : goal.invariant-loop-out
invariant-loop-out l = Going l.steps l.s 0 l.initial.out l.out l.at l.put

abbrev pub decreases-loop-out : goal.decreases-loop-out
decreases-loop-out l = length l.s - l.at
