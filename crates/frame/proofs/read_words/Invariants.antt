-- `read_words` meets its contract. The invariant is `Reading.Collecting`: the words so far are the array's first i, with zeros after them. Assumes nothing.
use Rattle.frame.proofs.Reading.{Collecting}
use Rattle.frame.proofs.read_words.Given as goal

abbrev pub invariant-loop-i : goal.invariant-loop-i
invariant-loop-i l = Collecting l.frame l.n l.words l.i
