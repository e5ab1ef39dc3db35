-- The invariant of `read` is `Reading.Going`: the text comes to what is left of it after the steps so far, which stand in the first words.
use Rattle.reader.proofs.Reading.{Going}
use Rattle.reader.proofs.read.Given as goal

abbrev pub invariant-loop-i : goal.invariant-loop-i
invariant-loop-i l = Going l.text l.n l.initial.steps l.steps l.kinds l.inputs l.i
