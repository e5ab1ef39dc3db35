-- `frame_line` meets its contract, by the line's length: words that hold a recipe's steps are run as these steps. Assumes nothing.
use mathlib.Core.Path.{◌∙◌, sym, ap}
use Rattle.programs.specs.Output.{answer_line}
use Rattle.programs.proofs.Answers.{frame-long, frame-short}
use Rattle.output.proofs.answer.frame_line.Goals as goal

pub returns-then-line-gt256 : goal.returns-then-line-gt256
returns-then-line-gt256 c =
    let a = c.args in
    (c.refusal_line.ensures.0, λ l g. c.refusal_line.ensures.1 ∙ sym (frame-long l a.line.now c.if-line-gt256.true), c.refusal_line.ensures.2)

pub returns : goal.returns
returns c =
    let a = c.args in (
      c.answer_line.ensures.0,
      λ l g. c.answer_line.ensures.1 ∙ ap answer_line (c.run_recipe-a.ensures.of_steps l g).0.0 ∙ sym (frame-short l a.line.now c.if-line-gt256.false),
      c.answer_line.ensures.2,
    )
