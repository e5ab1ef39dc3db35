-- `HalvesToEvenRounding::from_one` meets its contract. Assumes nothing.
use mathlib.Core.Path.{refl, ◌∙◌}
use Prim.Native.Nat.{◌+◌, ◌-◌, ◌/◌, ◌%◌, ◌<◌}
use Rattle.float_format.specs.declared.Direction.TheVariants.{HalfEven}
use Rattle.rounding.proofs.Directions.{Sum, unit_pos, nearbyint_sum}
use Rattle.rounding.proofs.HalvesToEvenRounding.from_one.Goals.{After-unit_at-unit, Start}
use Rattle.rounding.proofs.HalvesToEvenRounding.from_one.Goals as goal

positive : (g : _) (c : After-unit_at-unit g) → 0 < c.unit_at-unit.result
positive g c = unit_pos g.P.Pattern.format c.args.x c.args.e c.unit_at-unit.result c.requires c.unit_at-unit.ensures

sum : (g : _) (c : After-unit_at-unit g)
    → Sum g.P.Pattern.format HalfEven c.args.x c.args.e c.unit_at-unit.result ((c.unit_at-unit.result - 1 + c.args.x / c.unit_at-unit.result % 2) / 2)
sum g c = nearbyint_sum g.P.Pattern.format c.args.x c.args.e c.unit_at-unit.result c.requires c.unit_at-unit.ensures _ refl

pub nonzero_div-odd : goal.nonzero_div-odd
nonzero_div-odd g c = positive g (goal.at.nonzero_div-odd g c).After-unit_at-unit

pub overflow_sub-unit : goal.overflow_sub-unit
overflow_sub-unit g c = positive g (goal.at.overflow_sub-unit g c).After-unit_at-unit

pub overflow_add-x : goal.overflow_add-x
overflow_add-x g c = record { fits = (sum g (goal.at.overflow_add-x g c).After-unit_at-unit).fits }

pub cut-requires : goal.cut-requires
cut-requires g c = positive g (goal.at.cut-requires g c).After-unit_at-unit

pub returns : goal.returns
returns g c = λ h. c.cut.ensures ∙ (sum g (goal.at.returns g c).After-unit_at-unit).is h
