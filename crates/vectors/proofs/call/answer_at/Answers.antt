-- `call::answer_at` meets its contract, an arm at a time: what the function ensures, at the arm's number. Assumes nothing.
use mathlib.Core.Path.{◌≡◌, ◌∙◌, ap}
use mir.Syntax.{w64}
use mir.Val.{of_z, to_z}
use borrow.Author.Rules.{rules}
use Rattle.float_format.specs.declared.Class.{Class}
use Rattle.float_format.specs.Format.{class_number}
use Rattle.vectors.specs.Answer.{pattern_answer, further_at, answer_at}
use Rattle.vectors.proofs.Answers.{whole, listed, unlisted}
use Rattle.vectors.proofs.call.answer_at.Goals as goal

pub returns-in-16 : goal.returns-in-16
unfolding answer_at
returns-in-16 g c = c.pattern.ensures ∙ ap pattern_answer c.floor.ensures ∙ listed g.P.Pattern.format _ (g.P.Pattern.bits c.args.y) c.args.n c.in-16.is

pub returns-in-17 : goal.returns-in-17
unfolding answer_at
returns-in-17 g c = c.pattern-in-17.ensures ∙ ap pattern_answer c.ceil.ensures ∙ listed g.P.Pattern.format _ (g.P.Pattern.bits c.args.y) c.args.n c.in-17.is

pub returns-in-18 : goal.returns-in-18
unfolding answer_at
returns-in-18 g c = c.pattern-in-18.ensures ∙ ap pattern_answer c.trunc.ensures ∙ listed g.P.Pattern.format _ (g.P.Pattern.bits c.args.y) c.args.n c.in-18.is

pub returns-in-19 : goal.returns-in-19
unfolding answer_at
returns-in-19 g c = c.pattern-in-19.ensures ∙ ap pattern_answer c.round.ensures ∙ listed g.P.Pattern.format _ (g.P.Pattern.bits c.args.y) c.args.n c.in-19.is

pub returns-in-20 : goal.returns-in-20
unfolding answer_at
returns-in-20 g c = c.pattern-in-20.ensures ∙ ap pattern_answer c.nearbyint.ensures ∙ listed g.P.Pattern.format _ (g.P.Pattern.bits c.args.y) c.args.n c.in-20.is

pub returns-in-22 : goal.returns-in-22
unfolding answer_at
returns-in-22 g c = c.pattern-in-22.ensures ∙ ap pattern_answer c.fabs.ensures ∙ listed g.P.Pattern.format _ (g.P.Pattern.bits c.args.y) c.args.n c.in-22.is

pub returns-in-23 : goal.returns-in-23
unfolding answer_at
returns-in-23 g c = c.pattern-in-23.ensures ∙ ap pattern_answer c.negate.ensures ∙ listed g.P.Pattern.format _ (g.P.Pattern.bits c.args.y) c.args.n c.in-23.is

pub returns-in-24 : goal.returns-in-24
unfolding answer_at
returns-in-24 g c = c.from.ensures ∙ whole c.lround.ensures.0 c.lround.ensures.1 ∙ listed g.P.Pattern.format _ (g.P.Pattern.bits c.args.y) c.args.n c.in-24.is

pub returns-in-25 : goal.returns-in-25
unfolding answer_at
returns-in-25 g c = c.from-in-25.ensures ∙ ap (λ (k : Class). pattern_answer (class_number k)) c.classify.ensures ∙ listed g.P.Pattern.format _ (g.P.Pattern.bits c.args.y) c.args.n c.in-25.is

pub returns-in_default : goal.returns-in_default
returns-in_default g c =
    let i : to_z w64 (of_z w64 c.args.n) ≡ c.args.n = search rules in
    c.further_at.ensures ∙ ap (further_at g.P.Pattern.format c.args.function (g.P.Pattern.bits c.args.x) (g.P.Pattern.bits c.args.y)) i ∙ unlisted g.P.Pattern.format _ _ _ _ c.in_default.in_default-own.rest
