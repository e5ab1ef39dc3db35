-- `top_of` meets its contract. Assumes nothing.
use mathlib.Core.Path.{ap}
use Prim.Native.Nat.{ℕ, ◌+◌}
use native.Mathlib.Omega.{arith}
use Rattle.remainder.proofs.Turn.{top_le}
use Rattle.remainder.proofs.top_of.Goals as goal

pub overflow_add-result : goal.overflow_add-result
overflow_add-result g c = omega (arith, c.leading.ensures, top_le g.P.Pattern.format.fraction c.args.d g.met.P.Wide.wide.twenty_digits c.requires)

pub returns : goal.returns
returns g c =
    let F = g.P.Pattern.format.fraction in
    (ap (λ (n : ℕ). n + 1) c.leading.ensures, omega (arith, c.leading.ensures, top_le F c.args.d g.met.P.Wide.wide.twenty_digits c.requires))
