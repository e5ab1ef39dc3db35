-- `input_total` meets its contract. The invariant is `Reading.Counting`. Assumes nothing.
use mathlib.Core.Path.{◌≡◌}
use native.Mathlib.Omega.{arith}
use Prim.Native.Nat.{◌/◌}
use lib.ListN.{length}
use Rattle.recipe.specs.Table.{row_of, is_input}
use Rattle.frame.proofs.Reading.{next_is, counting_start, counting_more}
use Rattle.frame.proofs.input_total.Goals as goal

pub loop-i-init : goal.loop-i-init
loop-i-init c = let a = c.args in counting_start a.steps.words.now (length a.steps.words.now / 3)

pub loop-i-preserved : goal.loop-i-preserved
loop-i-preserved c =
    let a = c.args in
    let l = c.loop-i in
    let next = next_is (is_input (row_of c.at.result.opcode)) l.next.0 _ (omega arith) c.next_input-next.ensures in
    counting_more a.steps.words.now (length a.steps.words.now / 3) l.next.0 l.i l.invariant (omega arith) _ c.at.ensures _ next.0 next.1

pub returns : goal.returns
returns c =
    let a = c.args in
    let l = c.loop-i in
    let q : l.i ≡ length a.steps.words.now / 3 = omega arith in
    (rw q at l.invariant.counted, omega (arith, l.invariant.few))
