-- `explain_steps` meets its contract. The loop's invariant is `Folding.Walked`: the explanation comes to what is left of it after the ranges so
-- far. Assumes nothing.
use mathlib.Core.Path.{sym, ◌∙◌}
use mathlib.Core.List.{map}
use Prim.Native.Nat.{◌/◌}
use native.Mathlib.Omega.{arith}
use lib.ListN.{length, take}
use Rattle.ranges.specs.Seen.{seen_range}
use Rattle.ranges.proofs.Folding.{walked_start, walked_more, walked_refused, walked_done, fetched_first, fetched_second}
use Rattle.explaining.specs.Packed.{all, stopped}
use Rattle.explaining.proofs.Reasons.{told}
use Rattle.explaining.proofs.explain_steps.Goals as goal

pub loop-i-init : goal.loop-i-init
loop-i-init c = let a = c.args in let n = length a.steps.words.now / 3 in walked_start all stopped a.steps.words.now n

pub returns-in-Err : goal.returns-in-Err
returns-in-Err c =
    let e = c in
    let a = e.args in
    let n = length a.steps.words.now / 3 in
    let l = e.loop-i in
    let t = e.at-t.ensures in
    let f = e.place_of-f.ensures.0 in
    let g = e.place_of-g.ensures.0 in
    let x = e.index-ranges-f.result in
    let y = e.index-ranges-g.result in
    let i = fetched_first all stopped a.steps.words.now n l.ranges l.i l.invariant (omega arith) (omega arith) _ t _ _ x y f g in
    let j = fetched_second all stopped a.steps.words.now n l.ranges l.i l.invariant (omega arith) (omega arith) _ t _ _ x y f g in
    told l.i e.at-t.result (map seen_range (take l.i l.ranges)) _ _ _ _ i j c.reason_of-why.ensures
    ∙ sym (walked_refused all stopped a.steps.words.now n l.ranges l.i l.invariant (omega arith) (omega arith) _ t _ _ x y f g _ c.step_range.ensures _ c.in-Err.is)

pub loop-i-preserved : goal.loop-i-preserved
loop-i-preserved c =
    let e = c in
    let a = e.args in
    let n = length a.steps.words.now / 3 in
    let l = e.loop-i in
    let r = c.step_range.ensures in
    walked_more all stopped a.steps.words.now n l.ranges l.i l.invariant (omega arith) (omega arith) _ e.at-t.ensures _ _ _ _ e.place_of-f.ensures.0 e.place_of-g.ensures.0 _ r _ c.in-Ok.is

pub returns : goal.returns
returns c =
    let a = c.args in
    let n = length a.steps.words.now / 3 in
    let l = c.loop-i in
    sym (walked_done all stopped a.steps.words.now n l.ranges l.i l.invariant (omega arith))
