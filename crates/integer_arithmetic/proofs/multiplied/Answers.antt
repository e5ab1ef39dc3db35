-- `multiplied` meets its contract. Assumes nothing.
use mathlib.Core.Path.{◌≡◌, ◌∙◌}
use Prim.Native.Nat.{◌+◌, ◌-◌, ◌*◌, ◌^◌, ◌≤◌, ◌<◌}
use native.Mathlib.Omega.{arith}
use lib.Pow.{pow_pos, pow_mono}
use Rattle.float_format.specs.Number.{magnitude, bias, one}
use Rattle.integer_arithmetic.specs.Stands.{Stands}
use Rattle.integer_arithmetic.proofs.Products.{left_lt, right_lt, long, multiplied, unscaled}
use Rattle.integer_arithmetic.proofs.Words.{wide_fits}
use Rattle.integer_arithmetic.proofs.multiplied.Goals.{After-high, After-power-lift, Start}
use Rattle.integer_arithmetic.proofs.multiplied.Goals as goal

-- by what the significands come to 53 digits
lift-is : (g : _) (c : After-power-lift g) → c.power-lift.result ≡ 2 ^ (52 - g.P.Pattern.format.fraction)
lift-is g c = rw (c.power-lift.ensures, c.fraction_bits.ensures)

-- the significands in their places
lefts : (g : _) (c : After-power-lift g) → c.led-p.result.digits * c.power-lift.result < 2 ^ 53
lefts g c =
    let s = c in
    let p = c.led-p in
    let q = c.led-q in
    left_lt g.P.Pattern.format (wide_fits g.P.Pattern.format g.met.P.Pattern.fits g.met.P.Wide.wide) s.args.a s.args.b p.result.digits p.result.scale q.result.digits q.result.scale c.power-lift.result p.ensures q.ensures (lift-is g c)

rights : (g : _) (c : After-power-lift g) → c.led-q.result.digits * c.power-lift.result < 2 ^ 53
rights g c =
    let s = c in
    let p = c.led-p in
    let q = c.led-q in
    right_lt g.P.Pattern.format (wide_fits g.P.Pattern.format g.met.P.Pattern.fits g.met.P.Wide.wide) s.args.a s.args.b p.result.digits p.result.scale q.result.digits q.result.scale c.power-lift.result p.ensures q.ensures (lift-is g c)

-- the product's word
enough : (g : _) (c : After-high g) → 2 ^ 54 ≤ c.high.result
enough g c =
    let d = (goal.at.After-high g c).After-power-lift in
    let s = d in
    let p = d.led-p in
    let q = d.led-q in
    long g.P.Pattern.format (wide_fits g.P.Pattern.format g.met.P.Pattern.fits g.met.P.Wide.wide) s.args.a s.args.b p.result.digits p.result.scale q.result.digits q.result.scale d.power-lift.result p.ensures q.ensures (lift-is g d) c.high.result c.high.ensures.0

stands : (g : _) (c : After-high g) → Stands c.high.result (c.led-p.result.scale + c.led-q.result.scale + 61)
    (bias g.P.Pattern.format + g.P.Pattern.format.fraction + 120)
    (magnitude g.P.Pattern.format.fraction c.args.a * magnitude g.P.Pattern.format.fraction c.args.b * 2 ^ 104)
    (one g.P.Pattern.format * 2 ^ 104)
stands g c =
    let d = (goal.at.After-high g c).After-power-lift in
    let s = d in
    let p = d.led-p in
    let q = d.led-q in
    multiplied g.P.Pattern.format (wide_fits g.P.Pattern.format g.met.P.Pattern.fits g.met.P.Wide.wide) s.args.a s.args.b p.result.digits p.result.scale q.result.digits q.result.scale d.power-lift.result p.ensures q.ensures (lift-is g d) c.high.result c.high.ensures.0

bias-lt : (g : _) (s : Start g) → bias g.P.Pattern.format < 2 ^ 32
bias-lt g s = omega (arith, pow_mono {i = g.P.Pattern.format.exponent - 1} {j = 32} (omega (arith, g.met.P.Wide.wide.few)), pow_pos (g.P.Pattern.format.exponent - 1))

pub overflow_mul-p : goal.overflow_mul-p
overflow_mul-p g c = omega (arith, lefts g (goal.at.overflow_mul-p g c).After-power-lift)

pub overflow_mul-q : goal.overflow_mul-q
overflow_mul-q g c = omega (arith, rights g (goal.at.overflow_mul-q g c).After-power-lift)

pub high-requires : goal.high-requires
high-requires g c = (lefts g (goal.at.high-requires g c).After-power-lift, rights g (goal.at.high-requires g c).After-power-lift)

pub overflow_add-bias_of : goal.overflow_add-bias_of
overflow_add-bias_of g c =
    let s = (goal.at.overflow_add-bias_of g c).Start in
    omega (arith, c.bias_of.ensures, c.fraction_bits-2.ensures, bias-lt g s, g.met.P.Wide.wide.spare)

pub overflow_add-bias_of-2 : goal.overflow_add-bias_of-2
overflow_add-bias_of-2 g c =
    let s = (goal.at.overflow_add-bias_of-2 g c).Start in
    omega (arith, c.bias_of.ensures, c.fraction_bits-2.ensures, bias-lt g s, g.met.P.Wide.wide.spare)

pub packed-requires : goal.packed-requires
packed-requires g c =
    let h = c in
    let d = c in
    let s = (goal.at.packed-requires g c).Start in (
      omega (arith, enough g (goal.at.packed-requires g c).After-high),
      h.high.ensures.1,
      omega arith,
      omega (arith, d.led-p.ensures.upto, d.led-q.ensures.upto),
      omega (arith, c.bias_of.ensures, c.fraction_bits-2.ensures, bias-lt g s, g.met.P.Wide.wide.spare),
    )

pub returns : goal.returns
returns g c =
    let h = c in
    let s = (goal.at.returns g c).Start in
    let m = magnitude g.P.Pattern.format.fraction s.args.a in
    let n = magnitude g.P.Pattern.format.fraction s.args.b in
    (λ t. c.packed.ensures.0 t (m * n * 2 ^ 104) (one g.P.Pattern.format * 2 ^ 104) (rw (c.bias_of.ensures, c.fraction_bits-2.ensures) (stands g (goal.at.returns g c).After-high)) ∙ unscaled g.P.Pattern.format t m n, c.packed.ensures.1)
