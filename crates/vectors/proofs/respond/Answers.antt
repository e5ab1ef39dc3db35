-- `respond` meets its contract, by what was parsed. Assumes nothing.
use mathlib.Core.Path.{◌∙◌, sym, ap}
use Rattle.vectors.specs.Line.{line_of, response_to}
use Rattle.vectors.proofs.respond.Goals as goal

pub returns-in-Some : goal.returns-in-Some
unfolding response_to
returns-in-Some c = c.format.ensures ∙ ap line_of c.answer.ensures ∙ ap response_to (sym c.in-Some.is ∙ c.parse.ensures)

pub returns-in-None : goal.returns-in-None
unfolding response_to
returns-in-None c = c.format-in-None.ensures ∙ ap line_of c.unknown.ensures ∙ ap response_to (sym c.in-None.is ∙ c.parse.ensures)
