-- `write_sheet` meets its contract. The first loop's invariant is `Folding.Walked`, the sheet comes to what is left of it after the ranges so far,
-- and `Marking.Marked`, the marks so far are the definition's. The second loop's: the bytes so far are the lines of the first j ranges, and the
-- rest as lent. Assumes nothing.
use mathlib.Core.Path.{◌≡◌}
use Prim.Native.Nat.{◌/◌, ◌≤◌}
use lib.ListN.{length, take}
use Rattle.semantics.specs.Sheet.{passed}
use Rattle.ranges.specs.Carried.{stopped}
use Rattle.ranges.proofs.Folding.{Walked}
use Rattle.sheets.proofs.Showing.{lines}
use Rattle.sheets.proofs.Marking.{Marked}
use Rattle.sheets.proofs.write_sheet.Given as goal

abbrev pub invariant-loop-i : goal.invariant-loop-i
invariant-loop-i l = Walked passed stopped l.steps.words.now (length l.steps.words.now / 3) l.ranges l.i × Marked l.steps.words.now l.ranges l.marks l.i

abbrev pub invariant-loop-j : goal.invariant-loop-j
invariant-loop-j l = (l.j ≤ l.n) × (l.bytes ≡ lines l.ranges (take (length l.steps.words.now / 3) l.marks) l.j l.initial.bytes)
