-- `check_ranges` meets its contract. The invariant is `Reading.Checking`. Assumes nothing.
use mathlib.Core.Path.{sym, ◌∙◌}
use native.Mathlib.Omega.{arith}
use Prim.Native.Nat.{◌/◌}
use lib.ListN.{length}
use Rattle.recipe.specs.Table.{row_of, is_input}
use Rattle.frame.proofs.Reading.{next_is, checking_start, checking_more, checking_bad, checking_done}
use Rattle.frame.proofs.check_ranges.Goals as goal

pub loop-i-init : goal.loop-i-init
loop-i-init c = let a = c.args in checking_start a.steps.words.now (length a.steps.words.now / 3) a.inputs.now

pub returns-then-is_refused : goal.returns-then-is_refused
returns-then-is_refused c =
    let a = c.args in
    let l = c.loop-i in
    checking_bad a.steps.words.now (length a.steps.words.now / 3) a.inputs.now l.next.0 l.i l.invariant (omega arith) _ c.at-t.ensures _ c.input_word.ensures (sym c.is_refused.ensures ∙ c.if-is_refused.true)

pub loop-i-preserved : goal.loop-i-preserved
loop-i-preserved c =
    let a = c.args in
    let l = c.loop-i in
    let next = next_is (is_input (row_of c.at-t.result.opcode)) l.next.0 _ (omega arith) c.next_input-next.ensures in
    checking_more a.steps.words.now (length a.steps.words.now / 3) a.inputs.now l.next.0 l.i l.invariant (omega arith) _ c.at-t.ensures _ c.input_word.ensures (sym c.is_refused.ensures ∙ c.if-is_refused.false) _ next.0 next.1

pub returns : goal.returns
returns c =
    let a = c.args in
    let l = c.loop-i in
    checking_done a.steps.words.now (length a.steps.words.now / 3) a.inputs.now l.next.0 l.i l.invariant (omega arith)
