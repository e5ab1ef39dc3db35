-- `DownwardRounding::from_one` meets its contract: the sum that is cut is `floor_away` or `floor_stays`, by the arm that made it. Assumes nothing.
use mathlib.Core.Path.{◌≡◌, ◌∙◌}
use Prim.Native.Nat.{◌+◌, ◌*◌, ◌^◌}
use native.Mathlib.Omega.{arith}
use Rattle.float_format.specs.Format.{sign_bit}
use Rattle.float_format.specs.declared.Direction.TheVariants.{Down}
use Rattle.rounding.proofs.Directions.{Sum, unit_pos, floor_away, floor_stays}
use Rattle.float_format.proofs.Sizes.{sizes}
use Rattle.float_format.specs.Number.{bias}
use Rattle.rounding.proofs.DownwardRounding.from_one.Goals.{After-one, Joined-x-least, Start, else-x-least, then-x-least}
use Rattle.rounding.proofs.DownwardRounding.from_one.Goals as goal

least : (g : _) (c : After-one g) → c.sign_bit.result + c.one.result ≡ sign_bit g.P.Pattern.format + bias g.P.Pattern.format * 2 ^ g.P.Pattern.format.fraction
least g c = rw (c.sign_bit.ensures, c.one.ensures)

-- the sum, where the two arms meet
sum : (g : _) (c : Joined-x-least g) → Sum g.P.Pattern.format Down c.args.x c.args.e c.unit_at-unit.result c.if-x-least.add
sum g c =
    elim c.if-x-least.branch [ then-x-least w ↦ floor_away g.P.Pattern.format c.args.x c.args.e c.unit_at-unit.result c.requires c.unit_at-unit.ensures c.if-x-least.add (c.sign_bit.result + c.one.result) (least g (goal.at.Joined-x-least g c).After-one) w.if-x-least.true w.add-is | else-x-least w ↦ floor_stays g.P.Pattern.format c.args.x c.args.e c.unit_at-unit.result c.requires c.unit_at-unit.ensures c.if-x-least.add (c.sign_bit.result + c.one.result) (least g (goal.at.Joined-x-least g c).After-one) w.if-x-least.false w.add-is ]

pub overflow_add-least : goal.overflow_add-least
overflow_add-least g c = rw (least g (goal.at.overflow_add-least g c).After-one) (omega (arith, sizes g.P.Pattern.format c.requires.word))

pub overflow_sub-add : goal.overflow_sub-add
overflow_sub-add g c = omega (arith, unit_pos g.P.Pattern.format c.args.x c.args.e c.unit_at-unit.result c.requires c.unit_at-unit.ensures)

pub overflow_add-x : goal.overflow_add-x
overflow_add-x g c = record { fits = (sum g (goal.at.overflow_add-x g c).Joined-x-least).fits }

pub cut-requires : goal.cut-requires
cut-requires g c = omega (arith, unit_pos g.P.Pattern.format c.args.x c.args.e c.unit_at-unit.result c.requires c.unit_at-unit.ensures)

pub returns : goal.returns
returns g c = λ h. c.cut.ensures ∙ (sum g (goal.at.returns g c).Joined-x-least).is h
