-- `Answer::format` meets its contract: each store keeps the length, and `formatted` says what the six of them make. Assumes nothing.
use mathlib.Core.Path.{◌∙◌, sym, ap}
use Prim.Native.Nat.{ℕ}
use native.Mathlib.Omega.{arith}
use lib.ListN.{length-set}
use lib.Seq.{length-take-le}
use Rattle.hexadecimal.specs.Hex.{digits}
use Rattle.vectors.proofs.Lines.{formatted}
use Rattle.vectors.proofs.answer.Answer.format.Goals as goal

pub slice_bounds-write-end-2 : goal.slice_bounds-write-end-2
slice_bounds-write-end-2 c = sym (length-take-le 2 c.args.line.now (omega arith))

pub slice_bounds-write-end-3 : goal.slice_bounds-write-end-3
slice_bounds-write-end-3 c = simp length-set (omega arith)

pub bounds-line-19 : goal.bounds-line-19
bounds-line-19 c =
    omega (arith, simp length-set at c.line-2-1.given.1, c.line-1.given.1, c.requires)

pub slice_bounds-write-end-4 : goal.slice_bounds-write-end-4
slice_bounds-write-end-4 c =
    simp length-set (omega (arith, simp length-set at c.line-2-1.given.1, c.line-1.given.1, c.requires))

pub bounds-line-36 : goal.bounds-line-36
bounds-line-36 c =
    omega (arith, simp length-set at c.line-3-1.given.1, simp length-set at c.line-2-1.given.1, c.line-1.given.1, c.requires)

pub returns : goal.returns
returns c =
    let self = c.args.self in
    let line = c.args.line.now in
    formatted self line c.write.new.out c.write-2.new.out c.write-3.new.out c.requires
    (c.write.ensures ∙ ap (λ (k : ℕ). digits k self.refusal) (length-take-le 2 line (omega (arith, c.requires))))
    (c.write-2.ensures ∙ ap (λ (k : ℕ). digits k self.first) c.write-arg-2-1.given.2)
    (c.write-3.ensures ∙ ap (λ (k : ℕ). digits k self.second) c.write-arg-3-1.given.2)
