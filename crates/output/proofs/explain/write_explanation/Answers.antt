-- `write_explanation` meets its contract, by the explain call's answer. Assumes nothing.
use mathlib.Core.Path.{◌∙◌}
use Rattle.programs.proofs.Explanations.{line_refused, line_named, line_passed}
use Rattle.output.proofs.explain.write_explanation.Goals as goal

pub returns-then-a-ne0 : goal.returns-then-a-ne0
returns-then-a-ne0 c = let o = c.refusal_line.ensures in let g = c.explain-a in (o.0, o.1 ∙ line_refused c.args.text.now g.result g.ensures c.if-a-ne0.true, o.2)

pub returns-then-a-ne0-2 : goal.returns-then-a-ne0-2
returns-then-a-ne0-2 c = let o = c.fields_line.ensures in let g = c.explain-a in (o.0, o.1 ∙ line_named c.args.text.now g.result g.ensures c.if-a-ne0.false c.if-a-ne0-2.true, o.2)

pub returns : goal.returns
returns c = let o = c.passed_line.ensures in let g = c.explain-a in (o.0, o.1 ∙ line_passed c.args.text.now g.result g.ensures c.if-a-ne0.false c.if-a-ne0-2.false, o.2)
