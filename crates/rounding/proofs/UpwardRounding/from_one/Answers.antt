-- `UpwardRounding::from_one` meets its contract: the sum that is cut is `ceil_away` or `ceil_stays`, by the arm that made it. Assumes nothing.
use mathlib.Core.Path.{◌∙◌}
use native.Mathlib.Omega.{arith}
use Rattle.float_format.specs.declared.Direction.TheVariants.{Up}
use Rattle.rounding.proofs.Directions.{Sum, unit_pos, ceil_away, ceil_stays}
use Rattle.rounding.proofs.UpwardRounding.from_one.Goals.{Joined-x-sign_bit, Start, else-x-sign_bit, then-x-sign_bit}
use Rattle.rounding.proofs.UpwardRounding.from_one.Goals as goal

-- the sum, where the two arms meet
sum : (g : _) (c : Joined-x-sign_bit g) → Sum g.P.Pattern.format Up c.args.x c.args.e c.unit_at-unit.result c.if-x-sign_bit.add
sum g c =
    elim c.if-x-sign_bit.branch [ then-x-sign_bit w ↦ ceil_away g.P.Pattern.format c.args.x c.args.e c.unit_at-unit.result c.requires c.unit_at-unit.ensures c.if-x-sign_bit.add (rw c.sign_bit.ensures at w.if-x-sign_bit.true) w.add-is | else-x-sign_bit w ↦ ceil_stays g.P.Pattern.format c.args.x c.args.e c.unit_at-unit.result c.requires c.unit_at-unit.ensures c.if-x-sign_bit.add (rw c.sign_bit.ensures at w.if-x-sign_bit.false) w.add-is ]

pub overflow_sub-add : goal.overflow_sub-add
overflow_sub-add g c = omega (arith, unit_pos g.P.Pattern.format c.args.x c.args.e c.unit_at-unit.result c.requires c.unit_at-unit.ensures)

pub overflow_add-x : goal.overflow_add-x
overflow_add-x g c = record { fits = (sum g (goal.at.overflow_add-x g c).Joined-x-sign_bit).fits }

pub cut-requires : goal.cut-requires
cut-requires g c = omega (arith, unit_pos g.P.Pattern.format c.args.x c.args.e c.unit_at-unit.result c.requires c.unit_at-unit.ensures)

pub returns : goal.returns
returns g c = λ h. c.cut.ensures ∙ (sum g (goal.at.returns g c).Joined-x-sign_bit).is h
