-- `write_line` meets its contract: each part written keeps the length, and `line_written` says what they make. Assumes nothing.
use mathlib.Core.Path.{sym}
use native.Mathlib.Omega.{arith}
use lib.Seq.{length-take-le}
use Rattle.ranges.specs.Seen.{seen_range}
use Rattle.sheet_line.proofs.Line.{line_written}
use Rattle.sheet_line.proofs.write_line.Goals as goal

pub slice_bounds-write-end-2 : goal.slice_bounds-write-end-2
slice_bounds-write-end-2 c = let s = c in sym (length-take-le 6 s.args.line.now (omega (arith, s.requires.0)))

pub returns : goal.returns
returns c =
    let n = length-take-le 6 c.args.line.now (omega (arith, c.requires.0)) in
    line_written c.args.step c.args.mark (seen_range c.args.r) c.args.line.now c.write.new.out c.write-2.new.out c.write-3.new.out c.requires.0
    (cc n)
    (cc)
    (cc)
