-- `evaluate` meets its contract. The first loop's invariant is `Running.Going`: the run comes to what is left of it after the values so far. The
-- second loop's: the words so far are those of the first j values, and the rest as lent. Assumes nothing.
use mathlib.Core.Path.{◌≡◌, refl}
use Prim.Native.Nat.{◌-◌, ◌/◌}
use native.Mathlib.Omega.{arith}
use lib.ListN.{length}
use Rattle.semantics.proofs.Lists.{copy_more, copied_length}
use Rattle.recipe.specs.Table.{row_of, is_input}
use Rattle.frame.proofs.Reading.{next_is}
use Rattle.running.proofs.Running.{word, going_start, going_more, going_refused, going_done, fetch_end, written}
use Rattle.running.proofs.evaluate.Goals as goal

pub loop-i-init : goal.loop-i-init
loop-i-init c = let a = c.args in let n = length a.steps.words.now / 3 in going_start a.steps.words.now n a.inputs

pub returns-in-Err : goal.returns-in-Err
returns-in-Err c =
    let a = c.args in
    let n = length a.steps.words.now / 3 in
    let l = c.loop-i in
    λ ws q. rw (
    going_refused a.steps.words.now n a.inputs l.values l.next.0 l.i l.invariant (omega arith) (omega arith) _ c.at-t.ensures _ c.input_word.ensures _ _ c.index-values-place_of.result c.index-values-place_of-in-loop-i.result
    c.place_of.ensures.0 c.place_of-in-loop-i.ensures.0 _ c.step_value.ensures _ c.in-Err.is ws q) (refl, refl)

pub loop-i-preserved : goal.loop-i-preserved
loop-i-preserved c =
    let a = c.args in
    let n = length a.steps.words.now / 3 in
    let l = c.loop-i in
    let next = next_is (is_input (row_of c.at-t.result.opcode)) l.next.0 _ (omega arith) c.next_input-next.ensures in
    going_more a.steps.words.now n a.inputs l.values l.next.0 l.i l.invariant (omega arith) (omega arith) _ c.at-t.ensures _ c.input_word.ensures _ _ c.index-values-place_of.result c.index-values-place_of-in-loop-i.result
    c.place_of.ensures.0 c.place_of-in-loop-i.ensures.0 _ c.step_value.ensures _ c.in-Ok.is _ next.0 next.1

pub loop-j-init : goal.loop-j-init
loop-j-init c = (omega arith, refl)

pub bounds-words-j : goal.bounds-words-j
bounds-words-j c =
    let a = c.args in
    let n = length a.steps.words.now / 3 in
    let l = c.loop-i in
    let k = c.loop-j in
    let w = l.invariant.filled.long in
    let h : length k.words ≡ length a.words.now = rw k.invariant.1 (copied_length word l.values a.words.now k.j (omega arith) (omega arith)) in
    omega arith

pub loop-j-preserved : goal.loop-j-preserved
loop-j-preserved c =
    let a = c.args in
    let n = length a.steps.words.now / 3 in
    let l = c.loop-i in
    let k = c.loop-j in
    let w = l.invariant.filled.long in
    (omega arith, rw (k.invariant.1, c.word.ensures) (copy_more word l.values a.words.now k.j _ (omega arith) (omega arith)))

pub returns : goal.returns
returns c =
    let a = c.args in
    let n = length a.steps.words.now / 3 in
    let l = c.loop-i in
    let k = c.loop-j in
    let w = l.invariant.filled.long in
    let e : k.j ≡ n = omega arith in
    let p : c.saturating_sub-end.result ≡ n - 1 = omega (arith, c.saturating_sub-end.ensures) in
    let z = fetch_end a.steps.words.now n a.inputs l.values l.next.0 l.i l.invariant _ c.index-values-end.result (omega arith) (omega arith) p in
    λ ws q.
    rw (going_done a.steps.words.now n a.inputs l.values l.next.0 l.i l.invariant (omega arith) ws q)
    (rw (c.kind.ensures, c.word-2.ensures, z), rw (k.invariant.1, e) (written l.values n a.words.now (omega arith)))
