-- `turned_by` meets its contract: so is the product with the reciprocal, cut. Assumes nothing.
use mathlib.Core.Path.{ap, ◌∙◌}
use Prim.Native.Nat.{ℕ, ◌*◌, ◌/◌, ◌%◌, ◌^◌, ◌<◌}
use native.Mathlib.Omega.{arith}
use Rattle.remainder.proofs.Estimate.{Near}
use Rattle.remainder.proofs.Turn.{whole, product_lt, multiplied}
use Rattle.remainder.proofs.turned_by.Goals as goal

pub overflow_mul-high : goal.overflow_mul-high
overflow_mul-high g c =
    let a = c.args in
    let l : c.leading-high.result * a.inverse < 2 ^ 64 = rw c.leading-high.ensures (product_lt g.P.Pattern.format.fraction a.r a.c a.d c.requires.0 a.inverse c.requires.1) in
    omega (arith, l)

pub corrected-requires : goal.corrected-requires
corrected-requires g c =
    let a = c.args in
    let w : Near (a.r * 2 ^ a.c % 2 ^ 64) a.d (c.leading-high.result * a.inverse / 2251799813685248) =
    multiplied g.P.Pattern.format.fraction a.r a.c a.d c.requires.0 _ a.inverse c.requires.1 (ap (λ (n : ℕ). n * a.inverse / 2251799813685248) c.leading-high.ensures) in
    (w.under, w.over)

pub returns : goal.returns
returns g c =
    let a = c.args in
    c.corrected.ensures ∙ ap (λ (n : ℕ). n % a.d) (whole g.P.Pattern.format.fraction a.r a.c a.d c.requires.0)
