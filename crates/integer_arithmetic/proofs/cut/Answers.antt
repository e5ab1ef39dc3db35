-- `cut` meets its contract. Assumes nothing.
use mathlib.Core.Path.{◌≡◌, refl, sym, ◌∙◌}
use Prim.Native.Nat.{◌+◌, ◌*◌, ◌^◌, ◌≤◌}
use native.Mathlib.Omega.{arith}
use Rattle.float_format.proofs.Sizes.{sizes}
use Rattle.float_format.proofs.Rounded.{capped_in, capped_out}
use Rattle.integer_arithmetic.proofs.Packing.{cut_beyond, cut_fits}
use Rattle.integer_arithmetic.proofs.Words.{wide_fits}
use Rattle.integer_arithmetic.proofs.cut.Goals.{After-unit, Start}
use Rattle.integer_arithmetic.proofs.cut.Goals as goal

is : (g : _) (c : After-unit g) → c.args.field * c.unit.result + c.args.digits
    ≡ c.args.field * 2 ^ g.P.Pattern.format.fraction + c.args.digits
is g c = rw c.unit.ensures refl

fits : (g : _) (c : After-unit g) → c.args.field * 2 ^ g.P.Pattern.format.fraction + c.args.digits ≤ 2 ^ 63
fits g c =
    let s = c in
    omega (arith, cut_fits g.P.Pattern.format s.args.field s.args.digits (wide_fits g.P.Pattern.format g.met.P.Pattern.fits g.met.P.Wide.wide) (omega (arith, c.if-field-top_field.false, c.top_field.ensures)) s.requires, (sizes g.P.Pattern.format g.met.P.Pattern.fits).sign_le)

pub returns-then-field-top_field : goal.returns-then-field-top_field
returns-then-field-top_field g c =
    let s = c in
    let top = c.infinity_of-top.ensures in
    (top ∙ cut_beyond g.P.Pattern.format s.args.field s.args.digits (omega (arith, c.if-field-top_field.true, c.top_field.ensures)), omega (arith, top))

pub overflow_mul-a : goal.overflow_mul-a
overflow_mul-a g c = omega (arith, is g (goal.at.overflow_mul-a g c).After-unit, fits g (goal.at.overflow_mul-a g c).After-unit)

pub overflow_add-a : goal.overflow_add-a
overflow_add-a g c = omega (arith, is g (goal.at.overflow_add-a g c).After-unit, fits g (goal.at.overflow_add-a g c).After-unit)

pub returns-then-a-top : goal.returns-then-a-top
returns-then-a-top g c =
    let s = c in
    let top = c.infinity_of-top.ensures in
    (is g (goal.at.returns-then-a-top g c).After-unit ∙ sym (capped_in g.P.Pattern.format (omega (arith, is g (goal.at.returns-then-a-top g c).After-unit, c.if-a-top.true, top))), omega (arith, c.if-a-top.true, top))

pub returns : goal.returns
returns g c =
    let s = c in
    let top = c.infinity_of-top.ensures in
    (top ∙ sym (capped_out g.P.Pattern.format (omega (arith, is g (goal.at.returns g c).After-unit, c.if-a-top.false, top))), omega (arith, top))
