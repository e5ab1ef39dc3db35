-- `take_rest` meets its contract: the line is what was kept and the chunk's bytes up to its end. Assumes nothing.
use mathlib.Core.Path.{refl, sym, ◌∙◌}
use mathlib.Core.List.{◌++◌}
use Prim.Native.Nat.{◌+◌}
use native.Mathlib.Omega.{arith}
use lib.ListN.{length, take}
use Rattle.programs.proofs.Pieces.{between_front, between_whole}
use Rattle.programs.proofs.FrameLines.{handled_part, handled_line}
use Rattle.stream.proofs.Answering.{first_found, line_missing}
use Rattle.stream.proofs.frames.take_rest.Goals as goal

pub returns-in-None : goal.returns-in-None
returns-in-None c =
    let a = c.args in
    let s = a.chunk.now in
    let e = length s in
    let d = line_missing s s 0 (omega arith) refl (sym c.line_end.ensures ∙ c.in-None.is) in
    let p = between_front s e in
    let w = between_whole s in (
      c.requires.2,
      omega arith,
      omega arith,
      c.keep.ensures.0,
      λ l line g k f.
          rw (sym p)
          (handled_part l line s 0 e d c.keep.result c.keep.new.buffer (rw w (c.keep.ensures.1 line k)) f),
      refl,
      c.keep.ensures.2,
    )

pub returns : goal.returns
returns c =
    let a = c.args in
    let s = a.chunk.now in
    let e = c.in-Some.end in
    let d = first_found s e (sym c.line_end.ensures ∙ c.in-Some.is) in
    let p = between_front s e in
    let q = between_front s (e + 1) in (
      omega arith,
      omega (arith, d.1),
      omega (arith, c.kept_line-put.ensures.0, c.requires.3),
      omega arith,
      λ l line g k f.
          rw (sym q)
          (handled_line l line s 0 e d.0 c.keep-whole.new.buffer _ d.1
          (rw p (c.kept_line-put.ensures.1 l (line ++ take e s) g (c.keep-whole.ensures.1 line k)))),
      c.kept_line-put.ensures.2,
      c.keep-whole.ensures.2,
    )
