-- `last_digits` meets its contract: the digits counted make the quotient, and less than w is left. Assumes nothing.
use native.Mathlib.Omega.{arith}
use Rattle.nearest_remainder.proofs.Divisions.{counted}
use Rattle.nearest_remainder.proofs.last_digits.Goals as goal

pub returns : goal.returns
returns c =
    let a = c.args in
    counted a.r a.w c.digit-3.result.quotient c.digit-3.result.rest (omega (arith, c.digit-3.ensures.0, c.digit-2.ensures.0, c.digit.ensures.0)) (omega (arith, c.digit-3.ensures.1))
