-- `write_sheet` meets its contract. The first loop's invariant is `Folding.Walked`, the sheet comes to what is left of it after the ranges so far,
-- and `Marking.Marked`, the marks so far are the definition's. The second loop's: the bytes so far are the lines of the first j ranges, and the
-- rest as lent. Assumes nothing.
use mathlib.Core.Path.{◌≡◌, refl, ◌∙◌}
use mathlib.Core.List.{map}
use Prim.Native.Nat.{◌+◌, ◌-◌, ◌*◌, ◌/◌}
use native.Mathlib.Omega.{arith}
use lib.ListN.{length, take, length-map}
use lib.Seq.{length-take-le}
use Rattle.semantics.specs.Sheet.{passed}
use Rattle.semantics.specs.Shown.{marked, sheet_line}
use Rattle.ranges.specs.Seen.{seen_range}
use Rattle.ranges.specs.Carried.{stopped}
use Rattle.ranges.proofs.Folding.{walked_start, walked_more, walked_refused, walked_done}
use Rattle.sheets.proofs.Showing.{lines_none, lines_length, lines_next, all_lines}
use Rattle.sheets.proofs.Marking.{marked_start, marked_more, mark_at, marks_done}
use Rattle.sheets.proofs.write_sheet.Goals as goal

pub loop-i-init : goal.loop-i-init
loop-i-init c = let a = c.args in let n = length a.steps.words.now / 3 in (walked_start passed stopped a.steps.words.now n, marked_start a.steps.words.now _)

pub returns-in-Err : goal.returns-in-Err
unfolding marked
returns-in-Err c =
    let a = c.args in
    let n = length a.steps.words.now / 3 in
    let l = c.loop-i in
    rw (
    walked_refused passed stopped a.steps.words.now n l.ranges l.i l.invariant.0 (omega arith) (omega arith) _ c.at-t.ensures _ _ c.index-ranges-f.result c.index-ranges-g.result
    c.place_of-f.ensures.0 c.place_of-g.ensures.0 _ c.step_range.ensures _ c.in-Err.is) (refl, refl)

pub loop-i-preserved : goal.loop-i-preserved
loop-i-preserved c =
    let a = c.args in
    let n = length a.steps.words.now / 3 in
    let l = c.loop-i in
    let f = c.place_of-f.ensures.0 in
    let g = c.place_of-g.ensures.0 in
    let t = c.at-t.ensures in
    let s = c.step_range in (
      walked_more passed stopped a.steps.words.now n l.ranges l.i l.invariant.0 (omega arith) (omega arith) _ t _ _ c.index-ranges-f.result c.index-ranges-g.result f g _ s.ensures _ c.in-Ok.is,
      marked_more a.steps.words.now l.ranges l.marks l.i l.invariant.1 (omega arith) l.invariant.0.filled.long _ t _ _ _ _ f g _ _ c.step_mark-m.ensures,
    )

pub loop-j-init : goal.loop-j-init
loop-j-init c = (omega arith, lines_none c.loop-i.ranges _ c.args.bytes.now)

pub slice_bounds-write_line-end : goal.slice_bounds-write_line-end
slice_bounds-write_line-end c =
    let a = c.args in
    let n = length a.steps.words.now / 3 in
    let l = c.loop-i in
    let k = c.loop-j in
    let w = l.invariant.0.filled.long in
    let h : length k.bytes ≡ length a.bytes.now = rw k.invariant.1 (lines_length l.ranges _ a.bytes.now k.j (omega arith) (omega arith)) in
    omega arith

pub loop-j-preserved : goal.loop-j-preserved
loop-j-preserved c =
    let a = c.args in
    let n = length a.steps.words.now / 3 in
    let l = c.loop-i in
    let k = c.loop-j in
    let w = l.invariant.0.filled.long in
    (omega arith, rw (k.invariant.1, c.write_line.ensures) (lines_next l.ranges _ a.bytes.now k.j c.index-ranges-j.result (k.j * sheet_line + sheet_line - k.j * sheet_line) _ (omega arith) (omega arith) (mark_at a.steps.words.now l.ranges l.marks l.i l.invariant.1 k.j n _ (omega arith) (omega arith))))

pub returns : goal.returns
unfolding marked
returns c =
    let a = c.args in
    let n = length a.steps.words.now / 3 in
    let l = c.loop-i in
    let k = c.loop-j in
    let w = l.invariant.0.filled.long in
    let e : k.j ≡ n = omega arith in
    let m : length (map seen_range (take n l.ranges)) ≡ n = length-map (take n l.ranges) seen_range ∙ length-take-le n l.ranges (omega arith) in
    let s = marks_done a.steps.words.now l.ranges l.marks l.i l.invariant.1 n (omega arith) in
    rw (walked_done passed stopped a.steps.words.now n l.ranges l.i l.invariant.0 (omega arith), s) (rw (m, c.len-n.ensures.count), rw (k.invariant.1, e) (all_lines l.ranges _ n a.bytes.now (omega arith)))
