-- `rank` meets its contract: one comparison tells the sign, and the rest is what stands past its weight. Assumes nothing.
use mathlib.Core.Bool.{true, false}
use Prim.Native.Nat.{◌<◌, ◌≤◌}
use native.Mathlib.Omega.{arith}
use Rattle.float_format.specs.Format.{sign_bit}
use Rattle.float_format.specs.Width.{format}
use Rattle.float_format.proofs.Order.{rank_at}
use Rattle.float_format.proofs.Sizes.{sizes, plus, minus}
use Rattle.float_format.proofs.field_sizes.rank.Goals.{then-x-sign, else-x-sign}
use Rattle.float_format.proofs.field_sizes.rank.Goals as goal

pub returns : goal.returns
returns c =
    let f = format c.args.fraction c.args.exponent in
    let x = c.args.x in
    let e = c.sign_bit-sign.ensures in
    let n = (sizes f c.requires.0).sign_le in
    elim c.if-x-sign.branch [
      | then-x-sign w ↦
          let l : x < sign_bit f = omega (arith, e, w.if-x-sign.true) in
          let s = plus f x c.requires.1 l in
          omega (arith, e, n, w.number-is, s.1, rank_at f x false s.0)
      | else-x-sign w ↦
          let l : sign_bit f ≤ x = omega (arith, e, w.if-x-sign.false) in
          let s = minus f x c.requires.1 l in
          omega (arith, e, n, w.number-is, s.1, rank_at f x true s.0, c.requires.1)
    ]
