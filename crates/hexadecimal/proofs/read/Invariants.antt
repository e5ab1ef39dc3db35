-- `read` meets its contract. The invariant: `value`, of the digits so far, and those that are left make the whole field; it is below
-- 16 ^ i after i digits, so that one digit more fits. Assumes nothing.
use mathlib.Core.Path.{◌≡◌}
use Prim.Native.Nat.{◌-◌, ◌<◌, ◌^◌}
use lib.ListN.{length}
use Rattle.hexadecimal.specs.Hex.{field_of, word_field}
use Rattle.hexadecimal.proofs.read.Given as goal

abbrev pub invariant-loop-b : goal.invariant-loop-b
invariant-loop-b l = (l.value < 16 ^ l.b-index) × (word_field l.s ≡ field_of l.s l.b-index (length l.s - l.b-index) l.value)
