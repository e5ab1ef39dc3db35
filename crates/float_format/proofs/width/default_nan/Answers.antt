-- `default_nan` meets its contract, as the constant that a type has and as it is worked out where it has none. Assumes nothing.
use mathlib.Core.Path.{◌≡◌}
use Prim.Native.Nat.{◌-◌, ◌^◌}
use native.Mathlib.Omega.{arith}
use Rattle.float_format.proofs.Integral.{default_nan_lt}
use Rattle.float_format.proofs.Sizes.{sizes}
use Rattle.float_format.proofs.width.default_nan.Goals.{After-power}
use Rattle.float_format.proofs.width.default_nan.Goals as goal

-- the weight of the top fraction bit
top_bit : (g : _) (c : After-power g) → c.power.result ≡ 2 ^ (g.P.Pattern.format.fraction - 1)
top_bit g c = rw c.fraction_bits.ensures at c.power.ensures

pub overflow_add-result : goal.overflow_add-result
overflow_add-result g c =
    let f = g.P.Pattern.format in
    omega (arith, c.infinity_of.ensures, top_bit g (goal.at.overflow_add-result g c).After-power, default_nan_lt f g.met.P.Pattern.fits.valid, (sizes f g.met.P.Pattern.fits).sign_le)

pub returns-in-None : goal.returns-in-None
returns-in-None g c =
    let f = g.P.Pattern.format in
    omega (arith, c.infinity_of.ensures, top_bit g (goal.at.returns-in-None g c).After-power, default_nan_lt f g.met.P.Pattern.fits.valid)

pub returns-in-Some : goal.returns-in-Some
returns-in-Some g c =
    let f = g.P.Pattern.format in
    (c.in-Some.ensures, omega (arith, c.in-Some.ensures, default_nan_lt f g.met.P.Pattern.fits.valid))
