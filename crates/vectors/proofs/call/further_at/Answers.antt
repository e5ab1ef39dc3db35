-- `call::further_at` meets its contract, an arm at a time: what the function ensures, at the arm's number. Assumes nothing.
use mathlib.Core.Path.{◌≡◌, refl, ap, ◌∙◌}
use mir.Syntax.{w64}
use mir.Val.{of_z, to_z}
use borrow.Author.Rules.{rules}
use Rattle.scaling.specs.Scaling.{ldexp, ldexp_refusal}
use Rattle.vectors.specs.Answer.{pattern_answer, further_at}
use Rattle.vectors.proofs.Answers.{three, further, not_further}
use Rattle.vectors.proofs.call.further_at.Goals as goal

pub returns-in-21 : goal.returns-in-21
unfolding further_at
returns-in-21 g c = c.from.ensures ∙ three refl c.modf_patterns.ensures.0 c.modf_patterns.ensures.1 ∙ further g.P.Pattern.format _ (g.P.Pattern.bits c.args.y) c.args.n c.in-21.is

pub returns-in-32 : goal.returns-in-32
unfolding further_at
returns-in-32 g c = c.pattern.ensures ∙ ap pattern_answer c.fmin.ensures ∙ further g.P.Pattern.format _ (g.P.Pattern.bits c.args.y) c.args.n c.in-32.is

pub returns-in-33 : goal.returns-in-33
unfolding further_at
returns-in-33 g c = c.pattern-in-33.ensures ∙ ap pattern_answer c.fmax.ensures ∙ further g.P.Pattern.format _ (g.P.Pattern.bits c.args.y) c.args.n c.in-33.is

pub returns-in-34 : goal.returns-in-34
unfolding further_at
returns-in-34 g c = c.from-in-34.ensures ∙ three c.fmod.ensures.1 c.fmod.ensures.0 refl ∙ further g.P.Pattern.format _ (g.P.Pattern.bits c.args.y) c.args.n c.in-34.is

pub returns-in-35 : goal.returns-in-35
unfolding further_at
returns-in-35 g c =
    let i : to_z w64 (of_z w64 c.args.n) ≡ c.args.n = search rules in
    c.from-in-35.ensures ∙ three (c.ldexp.ensures.1 ∙ ap (ldexp_refusal g.P.Pattern.format (g.P.Pattern.bits c.args.x)) i) (c.ldexp.ensures.0 ∙ ap (ldexp g.P.Pattern.format (g.P.Pattern.bits c.args.x)) i) refl ∙ further g.P.Pattern.format _ (g.P.Pattern.bits c.args.y) c.args.n c.in-35.is

pub returns-in-36 : goal.returns-in-36
unfolding further_at
returns-in-36 g c = c.from-in-36.ensures ∙ three c.nextafter.ensures.1 c.nextafter.ensures.0 refl ∙ further g.P.Pattern.format _ (g.P.Pattern.bits c.args.y) c.args.n c.in-36.is

pub returns-in-37 : goal.returns-in-37
unfolding further_at
returns-in-37 g c = c.from-in-37.ensures ∙ three refl c.frexp.ensures.0 (ap (of_z w64) c.frexp.ensures.1) ∙ further g.P.Pattern.format _ (g.P.Pattern.bits c.args.y) c.args.n c.in-37.is

pub returns-in_default : goal.returns-in_default
returns-in_default g c = c.nearest_at.ensures ∙ not_further g.P.Pattern.format _ _ _ _ c.in_default.in_default-own.rest
