-- `sticky` meets its contract. Assumes nothing.
use mathlib.Core.Path.{◌≡◌}
use mathlib.Core.Logic.{◌⊎◌, inl, inr, ⊎_elim}
use Prim.Native.Nat.{◌/◌, ◌≤◌, ◌<◌}
use native.Mathlib.Nat.{div-add-mod', mul-le-mul_left}
use native.Mathlib.Omega.{arith}
use lib.Pow.{pow_pos}
use Rattle.integer_arithmetic.proofs.Words.{sticky_exact, sticky_odd}
use Rattle.float_format.proofs.Units.{lt_or_ge}
use Rattle.integer_arithmetic.proofs.sticky.Goals.{After-min, After-power-unit}
use Rattle.integer_arithmetic.proofs.sticky.Goals as goal

which : (c : After-min) → ((c.args.d ≤ 62) × (c.min.result ≡ c.args.d)) ⊎ ((62 < c.args.d) × (c.min.result ≡ 62))
which c = ⊎_elim (λ l. inr (l, omega (arith, c.min.ensures))) (λ l. inl (l, omega (arith, c.min.ensures))) (lt_or_ge 62 c.args.d)

some : (c : After-power-unit) → 0 < c.power-unit.result
some c = omega (arith, c.power-unit.ensures, pow_pos c.min.result)

pub power-unit-requires : goal.power-unit-requires
power-unit-requires c = omega (arith, c.min.ensures)

pub nonzero_div-q : goal.nonzero_div-q
nonzero_div-q c = some (goal.at.nonzero_div-q c).After-power-unit

pub nonzero_rem-m : goal.nonzero_rem-m
nonzero_rem-m c = some (goal.at.nonzero_rem-m c).After-power-unit

pub returns-then-m-unit-eq0 : goal.returns-then-m-unit-eq0
returns-then-m-unit-eq0 c =
    let s = c in
    sticky_exact s.args.m s.args.d c.min.result c.power-unit.result s.requires (which (goal.at.returns-then-m-unit-eq0 c).After-min) c.power-unit.ensures c.if-m-unit-eq0.true

pub overflow_add-result : goal.overflow_add-result
overflow_add-result c =
    let m = c.args.m in
    let u = c.power-unit.result in
    omega (arith, div-add-mod' m u, mul-le-mul_left {m = 1} {n = u} (m / u) (some (goal.at.overflow_add-result c).After-power-unit), c.requires)

pub returns : goal.returns
returns c =
    let s = c in
    sticky_odd s.args.m s.args.d c.min.result c.power-unit.result s.requires (which (goal.at.returns c).After-min) c.power-unit.ensures c.if-m-unit-eq0.false
