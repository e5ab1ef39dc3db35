-- `evaluate` meets its contract. The first loop's invariant is `Running.Going`: the run comes to what is left of it after the values so far. The
-- second loop's: the words so far are those of the first j values, and the rest as lent. Assumes nothing.
use mathlib.Core.Path.{◌≡◌}
use mathlib.Core.List.{◌++◌, map}
use Prim.Native.Nat.{◌/◌, ◌≤◌}
use lib.ListN.{length, take, drop}
use Rattle.running.proofs.Running.{word, Going}
use Rattle.running.proofs.evaluate.Given as goal

abbrev pub invariant-loop-i : goal.invariant-loop-i
invariant-loop-i l = Going l.steps.words.now (length l.steps.words.now / 3) l.inputs l.values l.next.0 l.i

abbrev pub invariant-loop-j : goal.invariant-loop-j
invariant-loop-j l = (l.j ≤ l.n) × (l.words ≡ map word (take l.j l.values) ++ drop l.j l.initial.words)
