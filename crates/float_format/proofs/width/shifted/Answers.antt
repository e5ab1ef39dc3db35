-- `shifted` meets its contract: the sum carries into the quotient exactly where the rounding goes on. Assumes nothing.
use native.Mathlib.Omega.{arith}
use Rattle.float_format.proofs.Shifting.{Shifted, shifted, shifted_out}
use Rattle.float_format.proofs.width.shifted.Goals.{After-power-unit}
use Rattle.float_format.proofs.width.shifted.Goals as goal

at : (c : After-power-unit) → Shifted c.args.fraction c.args.m c.power-unit.result c.args.d
at c =
    let a = c.args in
    let p = c.requires in
    shifted a.fraction a.m c.power-unit.result a.d p.0 p.1 p.2 c.if-d-fraction.false c.power-unit.ensures

pub returns-then-d-fraction : goal.returns-then-d-fraction
returns-then-d-fraction c = (shifted_out c.args.fraction c.args.m c.args.d c.requires.1 c.if-d-fraction.true, omega arith)

pub nonzero_div-odd : goal.nonzero_div-odd
nonzero_div-odd c = (at (goal.at.nonzero_div-odd c).After-power-unit).some

pub overflow_sub-result : goal.overflow_sub-result
overflow_sub-result c = (at (goal.at.overflow_sub-result c).After-power-unit).half

pub overflow_add-result-2 : goal.overflow_add-result-2
overflow_add-result-2 c = omega (arith, (at (goal.at.overflow_add-result-2 c).After-power-unit).fits)

pub nonzero_div-result-2 : goal.nonzero_div-result-2
nonzero_div-result-2 c = (at (goal.at.nonzero_div-result-2 c).After-power-unit).some

pub returns : goal.returns
returns c = ((at (goal.at.returns c).After-power-unit).is, (at (goal.at.returns c).After-power-unit).most)
