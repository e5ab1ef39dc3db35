-- `write` meets its contract. The invariant: the first i digits are those of `rest`, still to be written, and the others stand. Assumes
-- nothing.
use mathlib.Core.Path.{◌≡◌, ap, ◌∙◌, sym}
use mathlib.Core.List.{◌++◌, append-nil}
use native.Mathlib.Omega.{arith}
use lib.ListN.{length, drop}
use lib.Seq.{drop-length}
use Rattle.hexadecimal.specs.Hex.{digits}
use Rattle.hexadecimal.proofs.Digits.{put}
use Rattle.hexadecimal.proofs.write.Goals as goal

pub loop-i-init : goal.loop-i-init
loop-i-init c =
    let out = c.args.out.now in
    let all = digits (length out) c.args.n in
    sym (ap (λ l. all ++ l) (drop-length out) ∙ append-nil all)

pub loop-i-preserved : goal.loop-i-preserved
loop-i-preserved c =
    let l = c.loop-i in
    l.invariant ∙ put l.rest l.i c.glyph.result l.out (omega arith) (omega arith) c.glyph.ensures

pub returns : goal.returns
unfolding digits
returns c =
    let l = c.loop-i in
    let z : l.i ≡ 0 = omega arith in
    sym (l.invariant ∙ ap (λ k. digits k l.rest ++ drop k l.out) z)
