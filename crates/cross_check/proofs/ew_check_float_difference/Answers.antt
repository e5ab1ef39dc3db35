-- `ew_check_float_difference` meets its contract. Assumes nothing.
use mathlib.Core.Path.{sym, ◌∙◌}
use Rattle.float_format.specs.Format.{binary64}
use Rattle.arithmetic.specs.Arithmetic.{difference}
use Rattle.cross_check.proofs.Finite.{finite, taken, left}
use Rattle.cross_check.proofs.ew_check_float_difference.Goals as goal

pub difference-requires : goal.difference-requires
difference-requires c =
    let a = c.args in
    finite a.x a.y (sym c.both_finite.ensures ∙ c.if-both_finite.true)

pub returns-then-both_finite : goal.returns-then-both_finite
returns-then-both_finite c =
    let a = c.args in
    c.difference.ensures ∙ taken a.x a.y (difference binary64 a.x a.y) (sym c.both_finite.ensures ∙ c.if-both_finite.true)

pub returns : goal.returns
returns c =
    let a = c.args in
    c.default_nan.ensures.0 ∙ left a.x a.y (difference binary64 a.x a.y) (sym c.both_finite.ensures ∙ c.if-both_finite.false)
