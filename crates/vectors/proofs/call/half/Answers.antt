-- `call::half` meets its contract, an arm at a time: what the function ensures, at the arm's number. Assumes nothing.
use mathlib.Core.Path.{◌∙◌, ap}
use Rattle.vectors.specs.Answer.{pattern_answer, half_at}
use Rattle.vectors.proofs.Answers.{half, no_half}
use Rattle.vectors.proofs.call.half.Goals as goal

pub returns-in-16 : goal.returns-in-16
unfolding half_at
returns-in-16 c = c.pattern.ensures ∙ ap pattern_answer c.floor.ensures ∙ half _ c.in-16.is

pub returns-in-17 : goal.returns-in-17
unfolding half_at
returns-in-17 c = c.pattern-in-17.ensures ∙ ap pattern_answer c.ceil.ensures ∙ half _ c.in-17.is

pub returns-in-18 : goal.returns-in-18
unfolding half_at
returns-in-18 c = c.pattern-in-18.ensures ∙ ap pattern_answer c.trunc.ensures ∙ half _ c.in-18.is

pub returns-in-19 : goal.returns-in-19
unfolding half_at
returns-in-19 c = c.pattern-in-19.ensures ∙ ap pattern_answer c.round.ensures ∙ half _ c.in-19.is

pub returns-in-20 : goal.returns-in-20
unfolding half_at
returns-in-20 c = c.pattern-in-20.ensures ∙ ap pattern_answer c.nearbyint.ensures ∙ half _ c.in-20.is

pub returns-in-26 : goal.returns-in-26
unfolding half_at
returns-in-26 c = c.pattern-in-26.ensures ∙ ap pattern_answer c.import.ensures ∙ half _ c.in-26.is

pub returns-in_default : goal.returns-in_default
returns-in_default c = c.unknown.ensures ∙ no_half _ _ c.in_default.in_default-own.rest
