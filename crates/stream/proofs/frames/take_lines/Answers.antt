-- `take_lines` meets its contract: whole lines, and then what the chunk has of the next. Assumes nothing.
use mathlib.Core.Path.{◌≡◌, sym}
use mathlib.Core.List.{[]}
use native.Mathlib.Omega.{arith}
use lib.ListN.{length}
use borrow.Author.Rules.{rules}
use Rattle.std.specs.Prelude.{Some}
use Rattle.programs.proofs.Pieces.{between_front}
use Rattle.programs.proofs.FrameLines.{kept_none, kept_nothing, handled_rest}
use Rattle.stream.proofs.frames.take_lines.Goals.{in-Some-eq0, in_default, in_default-2}
use Rattle.stream.proofs.frames.take_lines.Goals as goal

pub returns : goal.returns
returns c =
    let a = c.args in
    let s = a.chunk.now in
    let r = c.answer_lines-lines.result in
    let o = c.answer_lines-lines.ensures in
    let z : a.kept ≡ Some 0 = elim c.match-matches.branch [ in-Some-eq0 w ↦ search rules | in_default w ↦ search rules | in_default-2 w ↦ search rules ] in
    let p = between_front s (length s) in (
      c.requires.2,
      omega arith,
      o.0,
      c.keep.ensures.0,
      λ l line g k f.
          rw (kept_none line a.buffer.now a.kept k z, sym p)
          (handled_rest l a.steps.now s 0 r c.answer_lines-lines.new.out o.1 g c.keep.result c.keep.new.buffer (omega (arith, c.if-out-lines-lt-LINE.false)) (c.keep.ensures.1 [] (kept_nothing a.buffer.now))),
      o.2,
      c.keep.ensures.2,
    )
