-- `call::single` meets its contract: export at its number, and what both widths have at any other. Assumes nothing.
use mathlib.Core.Path.{◌≡◌, ◌∙◌, ap, refl}
use mir.Syntax.{w64}
use mir.Val.{of_z, to_z}
use borrow.Author.Rules.{rules}
use Rattle.float_format.specs.Format.{binary32}
use Rattle.vectors.specs.Answer.{answer_at}
use Rattle.vectors.proofs.Answers.{three, exported, not_exported}
use Rattle.vectors.proofs.call.single.Goals as goal

pub returns-in-27 : goal.returns-in-27
returns-in-27 c = let a = c.args in c.from.ensures ∙ three c.export.ensures.1 c.export.ensures.0 refl ∙ exported a.function a.x a.y a.n c.in-27.is

pub returns-in_default : goal.returns-in_default
returns-in_default c =
    let a = c.args in
    let i : to_z w64 (of_z w64 c.args.n) ≡ c.args.n = search rules in
    c.answer_at.ensures ∙ ap (answer_at binary32 a.function a.x a.y) i ∙ not_exported a.function a.x a.y a.n c.in_default.in_default-own.rest.1
