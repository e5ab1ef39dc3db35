-- What stands in the buffer is the recipe's text so far, and what stood after it still does. Assumes nothing.
use lib.ListN.{take}
use Rattle.stream.proofs.Taking.{Taken}
use Rattle.stream.proofs.head.take_recipe.Given as goal

abbrev pub invariant-loop-i : goal.invariant-loop-i
invariant-loop-i l = Taken l.initial.buffer (take l.count l.initial.buffer) l.chunk l.buffer l.n l.last l.i
