-- `InwardRounding::from_one` meets its contract. Assumes nothing.
use mathlib.Core.Path.{◌∙◌}
use Rattle.rounding.proofs.Directions.{unit_pos, trunc_sum}
use Rattle.rounding.proofs.InwardRounding.from_one.Goals.{Start}
use Rattle.rounding.proofs.InwardRounding.from_one.Goals as goal

pub cut-requires : goal.cut-requires
cut-requires g c = unit_pos g.P.Pattern.format c.args.x c.args.e c.unit_at.result c.requires c.unit_at.ensures

pub returns : goal.returns
returns g c = λ h. c.cut.ensures ∙ trunc_sum g.P.Pattern.format c.args.x c.args.e c.unit_at.result c.requires c.unit_at.ensures h
