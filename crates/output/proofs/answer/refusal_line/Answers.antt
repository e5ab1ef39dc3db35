-- `refusal_line` meets its contract. Assumes nothing.
use mathlib.Core.Path.{◌∙◌}
use Rattle.output.proofs.Written.{refusal_is}
use Rattle.output.proofs.answer.refusal_line.Goals as goal

pub returns : goal.returns
returns c = let o = c.fields_line.ensures in let a = c.args in (o.0, o.1 ∙ refusal_is a.number a.place, o.2)
