-- `kept_line` meets its contract: of a line that is too long nothing is kept. Assumes nothing.
use mathlib.Core.Path.{◌∙◌, sym}
use Rattle.programs.proofs.Answers.{frame-long}
use Rattle.stream.proofs.frames.kept_line.Goals as goal

pub returns-in-None : goal.returns-in-None
returns-in-None c = (c.refusal_line.ensures.0, λ l line g k. c.refusal_line.ensures.1 ∙ sym (frame-long l line (rw c.in-None.is at k)), c.refusal_line.ensures.2)
