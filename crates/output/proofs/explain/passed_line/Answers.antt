-- `passed_line` meets its contract. Assumes nothing.
use mathlib.Core.Path.{◌∙◌, ap}
use Prim.Native.Nat.{ℕ}
use native.Mathlib.Omega.{arith}
use lib.ListN.{length}
use lib.Seq.{length-take-le}
use Rattle.hexadecimal.specs.Hex.{digits}
use Rattle.hexadecimal.proofs.Digits.{length_digits}
use Rattle.output.proofs.Written.{passed_written, passed_rest}
use Rattle.output.proofs.explain.passed_line.Goals as goal

pub returns : goal.returns
returns c =
    let s = c in
    let line = s.args.out.now in
    let w = c.write in
    let n = ap length w.ensures ∙ length_digits _ _ ∙ length-take-le 2 line (omega (arith, s.requires)) in (
      omega arith,
      passed_written line w.new.out s.requires n (w.ensures ∙ ap (λ (k : ℕ). digits k 0) (length-take-le 2 line (omega (arith, s.requires)))),
      passed_rest line w.new.out s.requires n,
    )
