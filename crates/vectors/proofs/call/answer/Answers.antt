-- `call::answer` meets its contract, by the width. Assumes nothing.
use mathlib.Core.Path.{◌≡◌, ap, ◌∙◌}
use Prim.Native.Nat.{ℕ, ◌%◌, ◌^◌}
use mir.Syntax.{w64}
use mir.Val.{of_z, to_z}
use borrow.Author.Rules.{rules}
use Rattle.float_format.specs.Format.{binary64}
use Rattle.vectors.specs.Answer.{answer_at, single_at}
use Rattle.vectors.proofs.Answers.{at-64, at-32, at-16, at_none}
use Rattle.vectors.proofs.call.answer.Goals as goal

pub returns-in-64 : goal.returns-in-64
returns-in-64 c =
    let s = c.args.case in
    let z = c.signed-n.result in
    let i : to_z w64 (of_z w64 z) ≡ z = search rules in
    c.answer_at.ensures ∙ ap (answer_at binary64 s.function s.x s.y) (i ∙ c.signed-n.ensures) ∙ at-64 s c.in-64.is

pub returns-in-32 : goal.returns-in-32
returns-in-32 c =
    let s = c.args.case in
    let z = c.signed-n.result in
    let i : to_z w64 (of_z w64 z) ≡ z = search rules in
    c.single.ensures ∙ ap (single_at s.function (s.x % 2 ^ 32) (s.y % 2 ^ 32)) (i ∙ c.signed-n.ensures) ∙ at-32 s c.in-32.is

pub returns-in-16 : goal.returns-in-16
returns-in-16 c = c.half.ensures ∙ at-16 c.args.case c.in-16.is

pub returns-in_default : goal.returns-in_default
returns-in_default c = c.unknown.ensures ∙ at_none c.args.case c.in_default.in_default-own.rest.0.0.1 c.in_default.in_default-own.rest.0.1 c.in_default.in_default-own.rest.1
