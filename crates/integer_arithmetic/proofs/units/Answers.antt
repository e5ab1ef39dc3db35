-- `units` meets its contract. Assumes nothing.
use mathlib.Core.Path.{◌≡◌, refl, ap}
use Prim.Native.Nat.{ℕ, ◌/◌, ◌^◌, ◌≤◌, ◌<◌}
use native.Mathlib.Nat.{mod-lt}
use native.Mathlib.Omega.{arith}
use lib.Pow.{pow_pos, pow_mono}
use Rattle.integer_arithmetic.proofs.Words.{wide_fits, scaled-low, scaled-high}
use Rattle.integer_arithmetic.proofs.units.Goals.{After-unit-unit, Start}
use Rattle.integer_arithmetic.proofs.units.Goals as goal

some : (g : _) (c : After-unit-unit g) → 0 < c.unit-unit.result
some g c = omega (arith, c.unit-unit.ensures, pow_pos g.P.Pattern.format.fraction)

weight : (g : _) (s : Start g) → 2 ^ g.P.Pattern.format.fraction ≤ 2 ^ 52
weight g s = pow_mono {i = g.P.Pattern.format.fraction} {j = 52} g.met.P.Wide.wide.spare

field : (g : _) (c : After-unit-unit g) → c.args.a / c.unit-unit.result ≡ c.args.a / 2 ^ g.P.Pattern.format.fraction
field g c = ap (λ (y : ℕ). c.args.a / y) c.unit-unit.ensures

pub nonzero_div-e : goal.nonzero_div-e
nonzero_div-e g c = some g (goal.at.nonzero_div-e g c).After-unit-unit

pub returns-then-e-eq0 : goal.returns-then-e-eq0
returns-then-e-eq0 g c =
    let s = c in
    scaled-low g.P.Pattern.format (wide_fits g.P.Pattern.format g.met.P.Pattern.fits g.met.P.Wide.wide) s.args.a (s.args.a / c.unit-unit.result) s.requires (field g (goal.at.returns-then-e-eq0 g c).After-unit-unit) c.if-e-eq0.true

pub nonzero_rem-result : goal.nonzero_rem-result
nonzero_rem-result g c = some g (goal.at.nonzero_rem-result g c).After-unit-unit

pub overflow_add-result : goal.overflow_add-result
overflow_add-result g c = omega (arith, mod-lt c.args.a (some g (goal.at.overflow_add-result g c).After-unit-unit), c.unit-unit.ensures, weight g (goal.at.overflow_add-result g c).Start)

pub returns : goal.returns
returns g c =
    let s = c in
    let e : 0 < s.args.a / c.unit-unit.result = omega (arith, c.if-e-eq0.false) in
    rw c.unit-unit.ensures (scaled-high g.P.Pattern.format (wide_fits g.P.Pattern.format g.met.P.Pattern.fits g.met.P.Wide.wide) s.args.a (s.args.a / 2 ^ g.P.Pattern.format.fraction) s.requires refl (omega (arith, field g (goal.at.returns g c).After-unit-unit, e)))
