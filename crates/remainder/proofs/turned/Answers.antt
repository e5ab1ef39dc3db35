-- `turned` meets its contract: the quotient of the leading bits is an estimate that `corrected` puts right. Assumes nothing.
use mathlib.Core.Path.{ap, ◌∙◌}
use Prim.Native.Nat.{ℕ, ◌*◌, ◌/◌, ◌%◌, ◌^◌}
use native.Mathlib.Omega.{arith}
use Rattle.remainder.proofs.Estimate.{Near}
use Rattle.remainder.proofs.Turn.{whole, high_lt, divided}
use Rattle.remainder.proofs.turned.Goals as goal

pub overflow_cast-high : goal.overflow_cast-high
overflow_cast-high g c =
    let a = c.args in
    omega (arith, c.leading-high.ensures, high_lt g.P.Pattern.format.fraction a.r a.c a.d c.requires)

pub corrected-requires : goal.corrected-requires
corrected-requires g c =
    let a = c.args in
    let w : Near (a.r * 2 ^ a.c % 2 ^ 64) a.d (c.leading-high.result / c.top_of-top.result) =
    divided g.P.Pattern.format.fraction a.r a.c a.d c.requires _ c.top_of-top.result c.top_of-top.ensures.0 (ap (λ (n : ℕ). n / c.top_of-top.result) c.leading-high.ensures) in
    (w.under, w.over)

pub returns : goal.returns
returns g c =
    let a = c.args in
    c.corrected.ensures ∙ ap (λ (n : ℕ). n % a.d) (whole g.P.Pattern.format.fraction a.r a.c a.d c.requires)
