-- `of_pattern` meets its contract. Assumes nothing.
use mathlib.Core.Path.{◌∙◌, ap}
use mathlib.Core.Logic.{inl, inr}
use lib.Ieee as Ieee
use Rattle.semantics.specs.Value.{double}
use Rattle.values.proofs.Floats.{Picked, picked, carried, float_number, same_bits}
use Rattle.values.proofs.numbers.Number.of_pattern.Goals.{Joined-is_nan, else-is_nan, then-is_nan}
use Rattle.values.proofs.numbers.Number.of_pattern.Goals as goal

at : (c : Joined-is_nan) → Picked c.args.x c.if-is_nan.y
at c =
    picked c.args.x c.if-is_nan.y c.is_nan.result c.ranges.x.fits c.is_nan.ensures
    (elim c.if-is_nan.branch [ then-is_nan w ↦ inl (w.if-is_nan.true, w.y-is) | else-is_nan w ↦ inr (w.if-is_nan.false, w.y-is) ])

pub float_from_bits-y : goal.float_from_bits-y
float_from_bits-y c = carried c.if-is_nan.y (at (goal.at.float_from_bits-y c).Joined-is_nan).number

pub of_float-requires : goal.of_float-requires
of_float-requires c = float_number c.if-is_nan.y (at (goal.at.of_float-requires c).Joined-is_nan).number

pub returns : goal.returns
returns c =
    let p = at (goal.at.returns c).Joined-is_nan in
    ap (λ (v : Ieee.Float). double (Ieee.to_bits Ieee.binary64 v)) c.of_float.ensures ∙ ap double (same_bits c.if-is_nan.y p.number p.fits) ∙ p.is
