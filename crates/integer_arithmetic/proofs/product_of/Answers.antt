-- `product_of` meets its contract. Assumes nothing.
use mathlib.Core.Path.{sym, ap, ◌∙◌}
use Prim.Native.Nat.{ℕ, ◌+◌}
use native.Mathlib.Omega.{arith}
use lib.Ieee.{unlike}
use Rattle.float_format.specs.Format.{negative}
use Rattle.float_format.proofs.Patterns.{below_sign}
use Rattle.integer_arithmetic.proofs.Products.{product_answer, product_left, product_right}
use Rattle.integer_arithmetic.proofs.Words.{wide_fits, sum_fits}
use Rattle.integer_arithmetic.proofs.product_of.Goals.{Start}
use Rattle.integer_arithmetic.proofs.product_of.Goals as goal

pub returns-then-a-eq0 : goal.returns-then-a-eq0
returns-then-a-eq0 g c =
    let s = c in
    c.product_zero-zero.ensures
    ∙ product_left g.P.Pattern.format s.args.x s.args.y g.met.P.Pattern.fits.valid (sym c.rest-a.ensures ∙ c.if-a-eq0.true)

pub returns-then-b-eq0 : goal.returns-then-b-eq0
returns-then-b-eq0 g c =
    let s = c in
    c.product_zero-zero.ensures
    ∙ product_right g.P.Pattern.format s.args.x s.args.y g.met.P.Pattern.fits.valid (sym c.rest-b.ensures ∙ c.if-b-eq0.true)

pub multiplied-requires : goal.multiplied-requires
multiplied-requires g c =
    let s = c in (
      omega (arith, c.if-a-eq0.false),
      rw c.rest-a.ensures (below_sign g.P.Pattern.format s.args.x),
      omega (arith, c.if-b-eq0.false),
      rw c.rest-b.ensures (below_sign g.P.Pattern.format s.args.y),
    )

pub overflow_add-result : goal.overflow_add-result
overflow_add-result g c =
    let s = c in
    let zero = c.product_zero-zero.ensures in
    omega (arith, zero, sum_fits g.P.Pattern.format (unlike (negative g.P.Pattern.format s.args.x) (negative g.P.Pattern.format s.args.y)) c.multiplied.result (wide_fits g.P.Pattern.format g.met.P.Pattern.fits g.met.P.Wide.wide) c.multiplied.ensures.1)

pub returns : goal.returns
returns g c =
    let s = c in
    let zero = c.product_zero-zero.ensures in
    let t = unlike (negative g.P.Pattern.format s.args.x) (negative g.P.Pattern.format s.args.y) in
    ap (λ (z : ℕ). z + c.multiplied.result) zero
    ∙ product_answer g.P.Pattern.format s.args.x s.args.y c.multiplied.result
    (rw (sym c.rest-a.ensures, sym c.rest-b.ensures) (c.multiplied.ensures.0 t))
