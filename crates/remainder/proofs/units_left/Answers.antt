-- `units_left` meets its contract. Assumes nothing.
use mathlib.Core.Path.{◌≡◌}
use Prim.Native.Nat.{◌+◌, ◌*◌, ◌%◌, ◌<◌}
use Rattle.float_format.specs.Format.{sign_bit}
use Rattle.remainder.specs.Remainder.{fmod}
use Rattle.remainder.proofs.Cases.{units_left}
use Rattle.remainder.proofs.units_left.Goals.{After-signed_zero, Start}
use Rattle.remainder.proofs.units_left.Goals as goal

-- the sum that is returned
sum_is : (g : _) (c : After-signed_zero g)
    → (c.signed_zero.result + c.rest.result % c.rest-2.result
    ≡ fmod g.P.Pattern.format c.args.x c.args.y)
    × (c.signed_zero.result + c.rest.result % c.rest-2.result < 2 * sign_bit g.P.Pattern.format)
sum_is g c =
    let s = c in
    rw (c.signed_zero.ensures, c.rest.ensures, c.rest-2.ensures)
    (units_left g.P.Pattern.format s.args.x s.args.y s.requires.0 s.requires.1)

pub returns : goal.returns
returns g c = sum_is g (goal.at.returns g c).After-signed_zero
