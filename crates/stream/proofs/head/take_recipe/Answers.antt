-- `take_recipe` meets its contract: at each byte, what stands in the buffer is the recipe's text so far. Assumes nothing.
use mathlib.Core.Path.{◌∙◌}
use native.Mathlib.Omega.{arith}
use lib.ListN.{get_or, take}
use Rattle.stream.proofs.Taking.{taken_none, taken_endless, taken_empty, taken_more, last_none, last_at, not_feed, not_after_feed}
use Rattle.stream.proofs.head.take_recipe.Goals.{else-b-eq10, else-n-gt0, then-b-eq10+else-last-eq10, then-n-gt0}
use Rattle.stream.proofs.head.take_recipe.Goals as goal

pub loop-i-init : goal.loop-i-init
loop-i-init c =
    let a = c.args in
    taken_none a.chunk.now a.buffer.now a.count c.if-n-gt0.last c.requires.0 c.requires.1
    (elim c.if-n-gt0.branch [ then-n-gt0 w ↦ w.last-is ∙ last_at a.buffer.now a.count w.if-n-gt0.true (omega arith) | else-n-gt0 w ↦ w.last-is ∙ last_none a.buffer.now a.count (omega arith) ])

pub returns-then-n-eq-LOOKED_AT : goal.returns-then-n-eq-LOOKED_AT
returns-then-n-eq-LOOKED_AT c =
    let a = c.args in
    let l = c.loop-i in
    (omega arith, omega arith, l.invariant.few, taken_endless a.buffer.now (take a.count a.buffer.now) a.chunk.now l.buffer l.n l.last l.i l.invariant (omega arith) c.if-n-eq-LOOKED_AT.true, l.invariant.rest)

pub returns-then-last-eq10 : goal.returns-then-last-eq10
returns-then-last-eq10 c =
    let a = c.args in
    let l = c.loop-i in
    (omega arith, omega arith, l.invariant.few, taken_empty a.buffer.now (take a.count a.buffer.now) a.chunk.now l.buffer l.n l.last l.i l.invariant (omega arith) c.if-n-eq-LOOKED_AT.false c.if-b-eq10.true c.if-last-eq10.true, l.invariant.rest)

pub loop-i-preserved : goal.loop-i-preserved
loop-i-preserved c =
    let a = c.args in
    let l = c.loop-i in
    let b = get_or a.chunk.now l.i 0 in
    taken_more a.buffer.now (take a.count a.buffer.now) a.chunk.now l.buffer l.n l.last l.i l.invariant (omega arith) c.if-n-eq-LOOKED_AT.false
    (elim c.if-b-eq10.branch [ then-b-eq10+else-last-eq10 w ↦ not_after_feed b l.last w.if-b-eq10.true w.if-last-eq10.false | else-b-eq10 w ↦ not_feed b l.last w.if-b-eq10.false ])
