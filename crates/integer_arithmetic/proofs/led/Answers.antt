-- `led` meets its contract. Assumes nothing.
use Prim.Native.Nat.{◌^◌, ◌≤◌}
use native.Mathlib.Omega.{arith}
use lib.Pow.{pow_mono}
use Rattle.integer_arithmetic.proofs.Words.{wide_fits, led_subnormal, led_normal}
use Rattle.integer_arithmetic.proofs.led.Goals.{Start}
use Rattle.integer_arithmetic.proofs.led.Goals as goal

weight : (g : _) (s : Start g) → 2 ^ g.P.Pattern.format.fraction ≤ 2 ^ 52
weight g s = pow_mono {i = g.P.Pattern.format.fraction} {j = 52} g.met.P.Wide.wide.spare

pub overflow_mul-result : goal.overflow_mul-result
overflow_mul-result g c = rw c.power.ensures (omega (arith, c.normal_shift-k.ensures.2, weight g (goal.at.overflow_mul-result g c).Start))

pub returns-then-a-unit : goal.returns-then-a-unit
returns-then-a-unit g c =
    let s = c in
    let k = c.normal_shift-k in
    rw (c.power.ensures, c.fraction_bits.ensures)
    (led_subnormal g.P.Pattern.format s.args.a k.result (wide_fits g.P.Pattern.format g.met.P.Pattern.fits g.met.P.Wide.wide) (omega (arith, c.if-a-unit.true, c.unit.ensures)) k.ensures.0 k.ensures.1 k.ensures.2)

pub returns : goal.returns
returns g c =
    let s = c in
    let p = c.units-p in
    rw c.fraction_bits-2.ensures
    (led_normal g.P.Pattern.format s.args.a p.result.digits p.result.scale (wide_fits g.P.Pattern.format g.met.P.Pattern.fits g.met.P.Wide.wide) (omega (arith, c.if-a-unit.false, c.unit.ensures)) p.ensures)
