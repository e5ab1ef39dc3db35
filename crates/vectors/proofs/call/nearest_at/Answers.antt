-- `call::nearest_at` meets its contract, an arm at a time: what the function ensures, at the arm's number. Assumes nothing.
use mathlib.Core.Path.{refl, ap, ◌∙◌}
use mir.Syntax.{w64}
use mir.Val.{of_z}
use Rattle.vectors.specs.Answer.{nearest_at}
use Rattle.vectors.proofs.Answers.{three, nearest, unknown}
use Rattle.vectors.proofs.call.nearest_at.Goals as goal

pub returns-in-38 : goal.returns-in-38
unfolding nearest_at
returns-in-38 g c = c.from.ensures ∙ three c.remainder.ensures.1 c.remainder.ensures.0 refl ∙ nearest g.P.Pattern.format _ _ c.in-38.is

pub returns-in-39 : goal.returns-in-39
unfolding nearest_at
returns-in-39 g c = let e = c.remquo.ensures in c.from-in-39.ensures ∙ three e.2 e.0 (ap (of_z w64) e.1) ∙ nearest g.P.Pattern.format _ _ c.in-39.is

pub returns-in_default : goal.returns-in_default
returns-in_default g c = c.unknown.ensures ∙ unknown g.P.Pattern.format _ _ _ c.in_default.in_default-own.rest
