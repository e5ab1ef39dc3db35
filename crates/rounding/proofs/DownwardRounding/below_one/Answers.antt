-- `DownwardRounding::below_one` meets its contract. Assumes nothing.
use mathlib.Core.Path.{ap, ◌∙◌}
use Prim.Native.Nat.{ℕ, ◌+◌}
use native.Mathlib.Omega.{arith}
use Rattle.rounding.proofs.Directions.{floor_minus_one, floor_zero}
use Rattle.float_format.proofs.Sizes.{sizes}
use Rattle.rounding.proofs.DownwardRounding.below_one.Goals.{Start}
use Rattle.rounding.proofs.DownwardRounding.below_one.Goals as goal

pub overflow_add-minus_one : goal.overflow_add-minus_one
overflow_add-minus_one g c = omega (arith, c.sign_bit-sign.ensures, c.one.ensures, sizes g.P.Pattern.format c.requires.word)

pub returns-then-x-sign : goal.returns-then-x-sign
returns-then-x-sign g c =
    λ h. ap (λ (n : ℕ). n + c.one.result) c.sign_bit-sign.ensures
    ∙ floor_minus_one g.P.Pattern.format c.args.x c.args.e c.one.result c.requires c.one.ensures (rw c.sign_bit-sign.ensures at c.if-x-sign.true) h

pub returns-else-x-sign : goal.returns-else-x-sign
returns-else-x-sign g c = λ h. c.signed_zero-zero.ensures ∙ floor_zero g.P.Pattern.format c.args.x c.args.e c.one.result c.requires c.one.ensures (rw c.sign_bit-sign.ensures at c.if-x-sign.false) h
