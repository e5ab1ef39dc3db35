-- `respond_all` meets its contract. The invariant: the first i lines of output are the answers to the first i of input. The measure is the
-- lines left. Assumes nothing.
use mathlib.Core.Path.{◌≡◌}
use Prim.Native.Nat.{◌-◌, ◌*◌, ◌≤◌}
use lib.ListN.{length, take}
use Rattle.vectors.specs.Line.{responses}
use Rattle.vectors.proofs.respond_all.Given as goal

abbrev pub invariant-loop-i : goal.invariant-loop-i
invariant-loop-i l = (l.i ≤ l.n) × (length l.output ≡ length l.initial.output) × (take (l.i * 37) l.output ≡ responses l.input l.i)

abbrev pub decreases-loop-i : goal.decreases-loop-i
decreases-loop-i l = l.n - l.i
