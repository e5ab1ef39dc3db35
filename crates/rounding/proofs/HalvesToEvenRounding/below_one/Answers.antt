-- `HalvesToEvenRounding::below_one` meets its contract. Assumes nothing.
use mathlib.Core.Path.{◌≡◌, ap, ◌∙◌}
use Prim.Native.Nat.{ℕ, ◌+◌, ◌-◌, ◌%◌, ◌^◌}
use native.Mathlib.Omega.{arith}
use Rattle.float_format.specs.Format.{sign_bit}
use Rattle.float_format.proofs.Sizes.{zero_le, sizes}
use Rattle.rounding.proofs.Directions.{nearbyint_one, nearbyint_zero}
use native.Mathlib.Nat.{mod-le}
use Rattle.rounding.proofs.HalvesToEvenRounding.below_one.Goals.{After-unit, Start}
use Rattle.rounding.proofs.HalvesToEvenRounding.below_one.Goals as goal

half : (g : _) (c : After-unit g) → c.one-one.result - c.unit.result ≡ c.one-one.result - 2 ^ g.P.Pattern.format.fraction
half g c = ap (λ (n : ℕ). c.one-one.result - n) c.unit.ensures

-- what is left of x without the zero of its sign
rest : (g : _) (c : After-unit g) → c.args.x - c.signed_zero-zero.result ≡ c.args.x % sign_bit g.P.Pattern.format
rest g c = omega (arith, c.signed_zero-zero.ensures, mod-le c.args.x (sign_bit g.P.Pattern.format))

pub overflow_sub-half : goal.overflow_sub-half
overflow_sub-half g c = omega (arith, c.unit.ensures, c.one-one.ensures, (sizes g.P.Pattern.format c.requires.word).room.half_one)

pub overflow_add-away : goal.overflow_add-away
overflow_add-away g c = omega (arith, c.signed_zero-zero.ensures, c.one-one.ensures, sizes g.P.Pattern.format c.requires.word, zero_le g.P.Pattern.format c.args.x c.requires.pattern)

pub returns-then-half-x : goal.returns-then-half-x
returns-then-half-x g c =
    λ h. ap (λ (n : ℕ). n + c.one-one.result) c.signed_zero-zero.ensures
    ∙ nearbyint_one g.P.Pattern.format c.args.x c.args.e c.one-one.result c.requires c.one-one.ensures _ (half g (goal.at.returns-then-half-x g c).After-unit) (omega (arith, rest g (goal.at.returns-then-half-x g c).After-unit, c.if-half-x.true)) h

pub returns-else-half-x : goal.returns-else-half-x
returns-else-half-x g c = λ h. c.signed_zero-zero.ensures ∙ nearbyint_zero g.P.Pattern.format c.args.x c.args.e c.one-one.result c.requires c.one-one.ensures _ (half g (goal.at.returns-else-half-x g c).After-unit) (omega (arith, rest g (goal.at.returns-else-half-x g c).After-unit, c.if-half-x.false)) h
