-- `write` meets its contract. The invariant: the first i digits are those of `rest`, still to be written, and the others stand. Assumes
-- nothing.
use mathlib.Core.Path.{◌≡◌}
use mathlib.Core.List.{◌++◌}
use lib.ListN.{length, drop}
use Rattle.hexadecimal.specs.Hex.{digits}
use Rattle.hexadecimal.proofs.write.Given as goal

abbrev pub invariant-loop-i : goal.invariant-loop-i
invariant-loop-i l = digits (length l.initial.out) l.n ≡ digits l.i l.rest ++ drop l.i l.out
